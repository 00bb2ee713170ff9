use Rattle.std.proofs.Common.{◌≡◌, take, map, filter, ◌++◌}
use Rattle.pf_expand.specs.Rules as says
use Rattle.pf_expand.proofs.rules.rules_of.Given as goal

abbrev pub invariant-loop-criteria : goal.invariant-loop-criteria
invariant-loop-criteria l = l.rules ≡ map (says.rule_of l.form l.effect) (take l.criteria-index l.found)
