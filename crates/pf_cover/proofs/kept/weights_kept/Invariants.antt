use Rattle.std.proofs.Common.{◌≡◌, ◌+◌, ◌≤◌, drop, length, sum}
use Rattle.std.specs.List.{fold, zip}
use Rattle.pf_cover.specs.Kept.{given_to_first, is_dropped, kept_weights, placed}
use Rattle.pf_cover.proofs.Keeping.{second_sum, weighed_of}
use Rattle.pf_cover.proofs.kept.weights_kept.Given as goal

abbrev pub invariant-loop-i : goal.invariant-loop-i
invariant-loop-i l = record {
  is : fold (given_to_first l.kept) l.given.items (weighed_of (is_dropped l.rules) (drop l.i (zip (placed l.rules) l.weights))) ≡ kept_weights l.rules l.weights;
  fits : sum l.given.items + second_sum (weighed_of (is_dropped l.rules) (drop l.i (zip (placed l.rules) l.weights))) ≤ sum l.weights;
  each : length l.kept ≡ length l.given.items;
}
