use Rattle.std.proofs.Common.{◌≡◌, length}
use Rattle.pf_cover.specs.Search.{AreJumps}
use Rattle.pf_cover.proofs.search.jumps.Given as goal

abbrev pub invariant-loop-i : goal.invariant-loop-i
invariant-loop-i l = record { jumps : AreJumps l.corners l.jumps.items; each : length l.jumps.items ≡ l.i }
