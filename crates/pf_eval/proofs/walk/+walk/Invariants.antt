use Rattle.std.proofs.Common.{◌≡◌, ◌+◌, ◌-◌, ◌*◌, drop, length}
use Rattle.pf_eval.specs.Rulesets.{named_children}
use Rattle.pf_eval.specs.Steps.{children_tests, children_walk, list_tests, named_after, names_after, on_optimised}
use Rattle.pf_optim.specs.Ruleset.{form_of}
use Rattle.pf_rule.specs.Walking.{walked_through}
use Rattle.pf_tree.specs.Paths.{child_names}
use Rattle.pf_eval.proofs.walk.+walk.Given as goal

abbrev pub decreases-walk_ruleset : goal.decreases-walk_ruleset
decreases-walk_ruleset g l = 10 * l.left

abbrev pub decreases-walk_rules : goal.decreases-walk_rules
decreases-walk_rules g l = 10 * l.left + 8

abbrev pub decreases-take_rule : goal.decreases-take_rule
decreases-take_rule g l = 10 * l.left + 7

abbrev pub decreases-act : goal.decreases-act
decreases-act g l = 10 * l.left + 6

abbrev pub decreases-walk_anchor : goal.decreases-walk_anchor
decreases-walk_anchor g l = 10 * l.left + 5

abbrev pub decreases-walk_called : goal.decreases-walk_called
decreases-walk_called g l = 10 * l.left + 4

abbrev pub decreases-walk_children : goal.decreases-walk_children
decreases-walk_children g l = 10 * l.left + 3

abbrev pub decreases-walk_child : goal.decreases-walk_child
decreases-walk_child g l = 10 * l.left + 2

-- what is left of the rules does what all do from the first on
abbrev pub invariant-walk_rules-loop-place : goal.invariant-walk_rules-loop-place
invariant-walk_rules-loop-place g l =
    let trees = l.site.tree.now.payloads in
    let facts = l.site.facts.now in
    let rules = (form_of l.tables.own.now.rules).rules in
    record {
      rest : walked_through (on_optimised trees facts l.left l.at) (drop l.place rules) (g.P.Probe.walk l.probe) ≡ walked_through (on_optimised trees facts l.left l.at) rules (g.P.Probe.walk l.initial.probe);
      counted : l.steps + list_tests trees facts l.left l.at (drop l.place rules) (g.P.Probe.walk l.probe) ≡ l.initial.steps + list_tests trees facts l.left l.at rules (g.P.Probe.walk l.initial.probe);
    }

abbrev pub decreases-walk_rules-loop-place : goal.decreases-walk_rules-loop-place
decreases-walk_rules-loop-place g l = length (form_of l.tables.own.now.rules).rules - l.place

-- what is left of the children does what all do
abbrev pub invariant-walk_children-loop-name : goal.invariant-walk_children-loop-name
invariant-walk_children-loop-name g l =
    let trees = l.site.tree.now.payloads in
    let facts = l.site.facts.now in
    record {
      rest : children_walk trees facts l.left l.at (named_after trees l.at l.last) (g.P.Probe.walk l.probe) ≡ children_walk trees facts l.left l.at (named_children trees l.at) (g.P.Probe.walk l.initial.probe);
      counted : l.steps + children_tests trees facts l.left l.at (named_after trees l.at l.last) (g.P.Probe.walk l.probe) ≡ l.initial.steps + children_tests trees facts l.left l.at (named_children trees l.at) (g.P.Probe.walk l.initial.probe);
    }

abbrev pub decreases-walk_children-loop-name : goal.decreases-walk_children-loop-name
decreases-walk_children-loop-name g l = length (names_after l.last (child_names l.site.tree.now.payloads l.at))
