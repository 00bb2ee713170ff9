use Rattle.std.proofs.Common.{ℕ, ◌≤◌}
use Rattle.pf_calls.specs.Numbered.{IsOver, IsRound}
use Rattle.pf_calls.proofs.ranks.depth.Given as goal

abbrev pub invariant-loop-rank : goal.invariant-loop-rank
invariant-loop-rank l = record {
  round : IsRound l.links l.rank l.within.items;
  over : (before : ℕ) → before ≤ l.rank → IsOver l.links before;
}
