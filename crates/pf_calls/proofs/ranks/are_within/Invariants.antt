use Rattle.std.proofs.Common.{◌≡◌, true, false, take}
use Rattle.std.specs.Prelude.{slice_index_or}
use Rattle.std.specs.List.{list_all}
use Rattle.pf_calls.proofs.ranks.are_within.Given as goal

abbrev pub invariant-loop-place : goal.invariant-loop-place
invariant-loop-place l = list_all (λ place. slice_index_or l.within place false) (take l.place-index l.places) ≡ true
