use Rattle.std.proofs.Common.{◌≡◌, ◌-◌, length, drop}
use Rattle.pf_token.specs.Cells.{cells_from, CountsLines}
use Rattle.pf_token.proofs.cells.past_continuations.Given as goal

abbrev pub invariant-loop-at : goal.invariant-loop-at
invariant-loop-at l = record {
  counts : CountsLines l.text l.at l.place.line;
  same : cells_from l.place (drop l.at l.text) ≡ cells_from l.fn.place (drop l.fn.at l.text);
}

abbrev pub decreases-loop-at : goal.decreases-loop-at
decreases-loop-at l = length l.text - l.at
