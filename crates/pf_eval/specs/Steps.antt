-- The walk through one ruleset, as the code goes: through its optimised rules, of which each calls rulesets that are walked
-- as they are written.
use Rattle.std.specs.Prelude.{ℕ, Bool, not, List, Option}
use Rattle.std.specs.List.{filter}
use Rattle.pf_base.specs.Path.{is_reserved}
use Rattle.pf_eval.specs.Answers.{optimised_world, written_world}
use Rattle.pf_eval.specs.Chain.{tests_acted, tests_below, tests_called, tests_in, tests_within}
use Rattle.pf_eval.specs.Rulesets.{Rulesets, named_children}
use Rattle.pf_eval.specs.World.{acted, called, each_child, packet_walker, walk_within, walking_at}
use Rattle.pf_host.specs.Facts.{HostFacts}
use Rattle.pf_rule.specs.Hit.{tested_at}
use Rattle.pf_rule.specs.Walking.{Walking}
use Rattle.pf_rule.specs.declared.effect.Action.{Action}
use Rattle.pf_rule.specs.declared.effect.Effect.{Effect}
use Rattle.pf_rule.specs.declared.rule.Rule.{Rule}
use Rattle.pf_rule.specs.declared.testing.Tested.{Tested}
use Rattle.pf_rule.specs.declared.walk.Walk.{Walk}
use Rattle.pf_tree.specs.Paths.{child_names, is_after}

module _ (trees : Rulesets) (facts : HostFacts) (left : ℕ) where
  -- the walk from a path where so many rulesets more may be walked, one calling the next
  abbrev pub walk_left : List (List ℕ) → Walk → Walk
  walk_left = walk_within packet_walker (written_world trees facts) left

  -- its tests
  abbrev pub tests_left : List (List ℕ) → Walk → ℕ
  tests_left = tests_within packet_walker (optimised_world trees facts) (written_world trees facts) left

  -- the written rules of a path, and the optimised ones, each of which calls rulesets like this
  abbrev pub on_written : List (List ℕ) → Walking Walk Rule
  on_written at = walking_at packet_walker (written_world trees facts) walk_left at

  abbrev pub on_optimised : List (List ℕ) → Walking Walk Rule
  on_optimised at = walking_at packet_walker (optimised_world trees facts) walk_left at

  -- what the test of a rule there finds
  abbrev pub found_at : List (List ℕ) → Rule → Walk → Tested
  found_at at rule walk = tested_at ((optimised_world trees facts).around at) rule walk

  -- the tests of what a rule there calls
  abbrev pub rule_tests : List (List ℕ) → Rule → Walk → ℕ
  rule_tests at rule walk =
      tests_acted packet_walker (named_children trees) walk_left tests_left at rule.effect.action walk

  -- the tests of rules there
  abbrev pub list_tests : List (List ℕ) → List Rule → Walk → ℕ
  list_tests at rules walk = tests_in (on_optimised at) (found_at at) (rule_tests at) rules 0 walk

  -- what a rule there does that matches
  abbrev pub deed_at : List (List ℕ) → Action → Effect → Walk → Walk
  deed_at at action effect walk = acted packet_walker (named_children trees) walk_left at action effect walk

  -- what a call of a rule there does, between the marks of its anchor, and its tests
  abbrev pub call_at : Bool → Option (List (List ℕ)) → Walk → Walk
  call_at children target walk = called packet_walker (named_children trees) walk_left children target walk

  abbrev pub call_tests : Bool → Option (List (List ℕ)) → Walk → ℕ
  call_tests children target walk = tests_called packet_walker (named_children trees) walk_left tests_left children target walk

  -- the rulesets of these names right below a path, and their tests
  abbrev pub children_walk : List (List ℕ) → List (List ℕ) → Walk → Walk
  children_walk at names walk = each_child packet_walker walk_left at names walk

  abbrev pub children_tests : List (List ℕ) → List (List ℕ) → Walk → ℕ
  children_tests at names walk = tests_below packet_walker walk_left tests_left at names walk

-- of child names in byte order those that are behind one, or all
abbrev pub names_after : Option (List ℕ) → List (List ℕ) → List (List ℕ)
names_after last names = filter (is_after last) names

-- those of them that begin with no `_`
abbrev pub named_after : Rulesets → List (List ℕ) → Option (List ℕ) → List (List ℕ)
named_after trees at last = filter (λ name. not (is_reserved name)) (names_after last (child_names trees at))
