use Rattle.std.proofs.Common.{◌≡◌, drop}
use Rattle.pf_plan.specs.Ends.{overfull}
use Rattle.pf_plan.proofs.end.overfull.Given as goal

-- none of the rulesets so far has too many rules
abbrev pub invariant-loop-ruleset : goal.invariant-loop-ruleset
invariant-loop-ruleset l = overfull (drop l.ruleset-index l.rulesets) ≡ overfull l.rulesets
