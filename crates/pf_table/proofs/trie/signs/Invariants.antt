use Rattle.std.proofs.Common.{◌≡◌, take}
use Rattle.pf_base.specs.OrderedMap.{map_of}
use Rattle.pf_addr.specs.PrefixOrder.{prefix_cmp}
use Rattle.pf_table.specs.Kept.{signs_in}
use Rattle.pf_table.proofs.trie.signs.Given as goal

abbrev pub invariant-loop-node : goal.invariant-loop-node
invariant-loop-node l = map_of prefix_cmp l.signs ≡ signs_in (take l.node-index l.nodes)
