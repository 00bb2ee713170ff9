-- What a rule that hits does to a walk (pf.conf(5), "pass", "block", "match", "quick", "tag" and TRANSLATION).
-- It is a value of the rule's effect alone.
use Rattle.std.specs.Prelude.{Bool, true, false, ◌||◌}
use Rattle.std.specs.Option.{option_or}
use Rattle.pf_rule.specs.Laying.{laid_over}
use Rattle.pf_rule.specs.Translation.{translated}
use Rattle.pf_rule.specs.declared.effect.Action.{Action}
use Rattle.pf_rule.specs.declared.effect.Action.TheVariants.{Pass, Block, Match, Anchor}
use Rattle.pf_rule.specs.declared.effect.Effect.{Effect}
use Rattle.pf_rule.specs.declared.walk.Decision.{Decision}
use Rattle.pf_rule.specs.declared.walk.Walk.{Walk}

-- the rule calls the rules of an anchor
abbrev pub is_anchor : Action → Bool
is_anchor Pass = false
is_anchor (Block kind) = false
is_anchor Match = false
is_anchor (Anchor call) = true

-- the rule is a pass or block rule
abbrev pub is_deciding : Action → Bool
is_deciding Pass = true
is_deciding (Block kind) = true
is_deciding Match = false
is_deciding (Anchor call) = false

-- what a pass or block rule decides
abbrev pub decision_of : Effect → Decision
decision_of effect = record {
  action = effect.action;
  state = effect.state;
  options = effect.options;
  params = effect.params;
  label = effect.label;
}

-- a tag of the rule becomes the packet's, and `quick` ends the walk
abbrev pub tagged_on : Effect → Walk → Walk
tagged_on effect walk = record walk { tag = option_or effect.tag walk.tag; stop = walk.stop || effect.quick }

-- a match rule lays its parameters over the walk's, and translates the packet
abbrev pub matched_on : Effect → Walk → Walk
matched_on effect walk = record (tagged_on effect walk) {
  params = laid_over effect.params walk.params;
  packet = translated effect.params.nat effect.params.rdr walk.packet;
}

-- a pass or block rule decides, until a later one does
abbrev pub decided_on : Effect → Walk → Walk
decided_on effect walk = record (tagged_on effect walk) { last = decision_of effect; matched = true }

-- by its action
abbrev pub acted_on : Action → Effect → Walk → Walk
acted_on Pass effect walk = decided_on effect walk
acted_on (Block kind) effect walk = decided_on effect walk
acted_on Match effect walk = matched_on effect walk
acted_on (Anchor call) effect walk = walk

-- the walk after a rule that hits; here an anchor rule changes nothing, since its rules are walked elsewhere
unfoldable pub effect_on : Effect → Walk → Walk
effect_on effect walk = acted_on effect.action effect walk
