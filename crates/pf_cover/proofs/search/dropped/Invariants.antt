use Rattle.std.proofs.Common.{◌≡◌, ◌++◌, map, drop}
use Rattle.std.specs.List.{enumerate_from}
use Rattle.pf_cover.specs.Kept.{is_dropped}
use Rattle.pf_cover.specs.Search.{dropped_of}
use Rattle.pf_cover.proofs.search.dropped.Given as goal

abbrev pub invariant-loop-i : goal.invariant-loop-i
invariant-loop-i l = l.flags.items ++ map (is_dropped l.rules) (enumerate_from l.i (drop l.i l.rules)) ≡ dropped_of l.rules
