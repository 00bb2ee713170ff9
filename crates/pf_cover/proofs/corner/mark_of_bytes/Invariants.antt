use Rattle.std.proofs.Common.{◌≡◌, ◌<◌, take}
use Rattle.pf_cover.specs.Corner.{mark_of}
use Rattle.pf_cover.proofs.corner.mark_of_bytes.Given as goal

abbrev pub invariant-loop-byte : goal.invariant-loop-byte
invariant-loop-byte l = record { value : l.mark ≡ mark_of (take l.byte-index l.bytes); few : l.mark < 16777216 }
