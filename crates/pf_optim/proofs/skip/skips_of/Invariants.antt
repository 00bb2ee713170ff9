use Rattle.std.proofs.Common.{◌≡◌, ◌≤◌, drop, length, reverse}
use Rattle.pf_optim.specs.SkipSteps.{first_row, rows_from}
use Rattle.pf_optim.proofs.skip.skips_of.Given as goal

abbrev pub invariant-loop-place : goal.invariant-loop-place
invariant-loop-place l = record {
  within : l.place ≤ length l.rules;
  next : l.next ≡ first_row l.place (drop l.place l.rules);
  found : reverse l.rows.items ≡ rows_from l.place (drop l.place l.rules);
}

abbrev pub decreases-loop-place : goal.decreases-loop-place
decreases-loop-place l = l.place
