-- The rule that decides, in the words of pf.conf(5): the last pass or block rule that matches.
-- A rule is tested with the packet, as match rules have translated it, and the tag that it has when the rule is reached.
use Rattle.std.specs.Prelude.{◌≡◌, List, ◌∷◌, ◌++◌, false, IsTrue}
use Rattle.pf_rule.specs.Around.{Around}
use Rattle.pf_rule.specs.Effect.{is_deciding}
use Rattle.pf_rule.specs.Hit.{hits_at}
use Rattle.pf_rule.specs.Walk.{walked}
use Rattle.pf_rule.specs.declared.rule.Rule.{Rule}
use Rattle.pf_rule.specs.declared.walk.Walk.{Walk}

-- behind these rules the pass or block rule is reached, and it hits
pub record Decides (around : Around) (front : List Rule) (rule : Rule) (walk : Walk) : Type 0 where
  pub decides : IsTrue (is_deciding rule.effect.action)
  pub reached : (walked around front walk).stop ≡ false
  pub hit : IsTrue (hits_at around rule (walked around front walk))

-- wherever the list is parted before a rule, that rule doesn't decide
abbrev pub NoneDecides : Around → List Rule → Walk → Type 0
NoneDecides around rules walk =
    (front back : List Rule) (rule : Rule) → rules ≡ front ++ rule ∷ back → ¬ (Decides around front rule walk)
