use Rattle.std.proofs.Common.{◌≡◌, drop}
use Rattle.pf_plan.specs.Ends.{level_after}
use Rattle.pf_plan.proofs.end.level_of.Given as goal

abbrev pub invariant-loop-line : goal.invariant-loop-line
invariant-loop-line l = level_after l.level (drop l.line-index l.lines) ≡ level_after l.initial.level l.lines
