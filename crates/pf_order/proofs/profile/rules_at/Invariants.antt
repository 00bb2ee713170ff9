use Rattle.std.proofs.Common.{◌≡◌, ◌++◌, drop}
use Rattle.std.specs.List.{filter_map, slice_get}
use Rattle.pf_order.proofs.profile.rules_at.Given as goal

abbrev pub invariant-loop-place : goal.invariant-loop-place
invariant-loop-place g l =
    l.found ++ filter_map (λ place. slice_get l.rules place.0) (drop l.place-index l.places) ≡ filter_map (λ place. slice_get l.rules place.0) l.places
