use Rattle.std.proofs.Common.{ℕ, ◌+◌, ◌≤◌, length}
use Rattle.pfctl.specs.Generating.{Counted, says}
use Rattle.pfctl.proofs.generating.count.Given as goal

-- what is counted of the records that are left makes up the count
abbrev pub invariant-loop-first : goal.invariant-loop-first
invariant-loop-first l = record {
  counts : (n : ℕ) → Counted (says l.verdict) l.engine l.left n → Counted (says l.verdict) l.engine l.records (l.count + n);
  few : l.count + length l.left ≤ length l.records;
}

abbrev pub decreases-loop-first : goal.decreases-loop-first
decreases-loop-first l = length l.left
