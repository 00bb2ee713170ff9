use Rattle.std.proofs.Common.{◌≡◌, take, map, ◌++◌}
use Rattle.pf_word.specs.Hosts.{HostsMean}
use Rattle.pf_word.proofs.item.read_hosts.Given as goal

abbrev pub invariant-loop-item : goal.invariant-loop-item
invariant-loop-item l = HostsMean l.facts (take l.item-index l.items) l.words
