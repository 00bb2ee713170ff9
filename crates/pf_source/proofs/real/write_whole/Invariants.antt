use Rattle.std.proofs.Common.{length}
use Rattle.pf_source.specs.KnownLaws.{WrittenSoFar}
use Rattle.pf_source.proofs.real.write_whole.Given as goal

-- the front so far was written
abbrev pub invariant-loop-rest : goal.invariant-loop-rest
invariant-loop-rest g l = WrittenSoFar (g.W.Write.contents l.fn.output) (g.W.Write.contents l.output) l.piece l.rest

abbrev pub decreases-loop-rest : goal.decreases-loop-rest
decreases-loop-rest g l = length l.rest
