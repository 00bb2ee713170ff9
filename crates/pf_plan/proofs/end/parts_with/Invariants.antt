use Rattle.std.proofs.Common.{◌≡◌, ◌++◌, map}
use Rattle.pf_plan.specs.Ends.{part_of}
use Rattle.pf_plan.proofs.end.parts_with.Given as goal

abbrev pub invariant-loop-ruleset : goal.invariant-loop-ruleset
invariant-loop-ruleset l = l.parts ≡ l.initial.parts ++ map part_of l.yielded
