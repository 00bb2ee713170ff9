use Rattle.std.proofs.Common.{◌≡◌, ◌+◌, ◌≤◌, [], length, take, drop}
use Rattle.std.specs.List.{zip}
use Rattle.pf_auto.specs.Merged.{merged_at, merged_behind}
use Rattle.pf_auto.specs.Putting.{behind}
use Rattle.pf_auto.proofs.merging.merge_at.Given as goal

abbrev pub invariant-loop-i : goal.invariant-loop-i
invariant-loop-i l = record {
  is : behind l.merged (merged_behind l.end (zip l.rules l.weights) (l.first_number + length l.merged.tables) (take l.i (zip l.rules l.weights)) (drop l.i (zip l.rules l.weights)))
      ≡ behind (record { rules = []; weights = []; tables = l.fn.tables }) (merged_at l.end (l.first_number + length l.fn.tables) (zip l.rules l.weights));
  few : length l.merged.tables ≤ length l.fn.tables + l.i;
}
