use Rattle.std.proofs.Common.{◌≡◌, ◌++◌, drop, map}
use Rattle.std.specs.List.{enumerate_from}
use Rattle.pf_order.specs.RankSteps.{key_by, shown}
use Rattle.pf_order.proofs.rank.keyed_places.Given as goal

abbrev pub invariant-loop-place : goal.invariant-loop-place
invariant-loop-place l =
    map (λ place. (place.0, place.1.items)) l.places.items
    ++ enumerate_from l.place (map (key_by (map shown l.columns)) (drop l.place l.rules))
    ≡ enumerate_from 0 (map (key_by (map shown l.columns)) l.rules)
