use Rattle.std.proofs.Common.{◌≡◌, take, map, ◌++◌}
use Rattle.pf_word.specs.Kinds.{icmps}
use Rattle.pf_word.proofs.kind.read_icmp.Given as goal

abbrev pub invariant-loop-item : goal.invariant-loop-item
invariant-loop-item l = l.words ≡ icmps (take l.item-index l.items)
