use Rattle.std.proofs.Common.{◌≡◌, ◌==◌, drop, find}
use Rattle.pf_source.proofs.memory.MemorySink.cut_of.Given as goal

-- no write so far is the one
abbrev pub invariant-loop-write : goal.invariant-loop-write
invariant-loop-write l = find (λ write. write.call == l.call) (drop l.write-index l.write-items) ≡ find (λ write. write.call == l.call) l.self.fail
