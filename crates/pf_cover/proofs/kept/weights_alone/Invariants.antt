use Rattle.std.proofs.Common.{◌≡◌, ◌++◌, drop}
use Rattle.std.specs.List.{zip}
use Rattle.pf_cover.specs.Kept.{is_dropped, own_weights, placed}
use Rattle.pf_cover.proofs.Keeping.{own_of}
use Rattle.pf_cover.proofs.kept.weights_alone.Given as goal

abbrev pub invariant-loop-i : goal.invariant-loop-i
invariant-loop-i l =
    l.own.items ++ own_of (is_dropped l.rules) (drop l.i (zip (placed l.rules) l.weights)) ≡ own_weights l.rules l.weights
