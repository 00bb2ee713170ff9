use Rattle.std.proofs.Common.{◌≡◌, take, map, ◌++◌}
use Rattle.pf_word.specs.Numbers.{port_tests}
use Rattle.pf_word.proofs.number.read_ports.Given as goal

abbrev pub invariant-loop-item : goal.invariant-loop-item
invariant-loop-item l = l.words ≡ port_tests l.facts (take l.item-index l.items)
