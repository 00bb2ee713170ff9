-- The walk of a packet through a list of rules, in order (pf.conf(5), PACKET FILTERING).
use Rattle.std.specs.Prelude.{ℕ, List}
use Rattle.pf_rule.specs.Around.{Around}
use Rattle.pf_rule.specs.Effect.{effect_on}
use Rattle.pf_rule.specs.Hit.{hits_at}
use Rattle.pf_rule.specs.Walking.{Walking, reached_through, walked_past, walked_through}
use Rattle.pf_rule.specs.declared.rule.Rule.{Rule}
use Rattle.pf_rule.specs.declared.walk.Walk.{Walk}

-- the walk of a packet, where a rule that hits does this deed
abbrev pub walking_by : (Rule → Walk → Walk) → Around → Walking Walk Rule
walking_by deed around = record { stopped = λ walk. walk.stop; hits = hits_at around; deed = deed }

-- the rules in their order, with this deed for a rule that hits
abbrev pub walked_by : (Rule → Walk → Walk) → Around → List Rule → Walk → Walk
walked_by deed around = walked_through (walking_by deed around)

-- a rule's own effect, where an anchor has no rules
abbrev pub own_effect : Rule → Walk → Walk
own_effect rule walk = effect_on rule.effect walk

-- one rule: its effect where it hits, and nothing elsewhere
abbrev pub walked_one : Around → Rule → Walk → Walk
walked_one around = walked_past (walking_by own_effect around)

-- the rules in their order, up to the end or to a walk that has stopped
abbrev pub walked : Around → List Rule → Walk → Walk
walked = walked_by own_effect

-- how many rules of the list the walk reaches
abbrev pub reached : Around → List Rule → Walk → ℕ
reached around = reached_through (walking_by own_effect around)
