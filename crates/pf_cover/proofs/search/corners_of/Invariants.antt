use Rattle.std.proofs.Common.{◌≡◌, ◌++◌, map, drop}
use Rattle.std.specs.List.{enumerate_from}
use Rattle.pf_cover.specs.Corner.{corner_at}
use Rattle.pf_cover.specs.Kept.{placed}
use Rattle.pf_cover.proofs.search.corners_of.Given as goal

abbrev pub invariant-loop-i : goal.invariant-loop-i
invariant-loop-i l = l.corners.items ++ map (corner_at l.axis) (enumerate_from l.i (drop l.i l.rules)) ≡ map (corner_at l.axis) (placed l.rules)
