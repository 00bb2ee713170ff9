use Rattle.std.proofs.Common.{◌≡◌, take, map, ◌++◌}
use Rattle.pf_word.specs.Numbers.{id_tests}
use Rattle.pf_word.proofs.number.read_ids.Given as goal

abbrev pub invariant-loop-item : goal.invariant-loop-item
invariant-loop-item l = l.words ≡ id_tests l.facts l.ids (take l.item-index l.items)
