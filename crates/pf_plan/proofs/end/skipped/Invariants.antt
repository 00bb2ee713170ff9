use Rattle.std.proofs.Common.{◌≡◌, ◌++◌, drop}
use Rattle.pf_plan.specs.Ends.{skipped}
use Rattle.pf_plan.proofs.end.skipped.Given as goal

-- the names so far, and those of the lines that are left, are all
abbrev pub invariant-loop-line : goal.invariant-loop-line
invariant-loop-line l = l.names ++ skipped (drop l.line-index l.lines) ≡ skipped l.lines
