use Rattle.std.proofs.Common.{◌≡◌, take, map, ◌++◌}
use Rattle.pf_word.specs.Kinds.{protos}
use Rattle.pf_word.proofs.kind.read_protos.Given as goal

abbrev pub invariant-loop-name : goal.invariant-loop-name
invariant-loop-name l = l.words ≡ protos (take l.name-index l.names)
