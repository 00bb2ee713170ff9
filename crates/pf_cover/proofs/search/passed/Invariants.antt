use Rattle.std.proofs.Common.{◌≤◌}
use Rattle.pf_cover.specs.Search.{AreDeeper}
use Rattle.pf_cover.proofs.search.passed.Given as goal

abbrev pub invariant-loop-left : goal.invariant-loop-left
invariant-loop-left l = record { down : l.left ≤ l.end; over : AreDeeper l.corners l.depth l.left l.end }

abbrev pub decreases-loop-left : goal.decreases-loop-left
decreases-loop-left l = l.left
