use Rattle.std.proofs.Common.{◌<◌, ◌-◌, length}
use Rattle.pf_table.specs.Bits.{Covers}
use Rattle.pf_table.specs.Trie.{prefix_at, len_at}
use Rattle.pf_table.proofs.trie.deepest.Given as goal

abbrev pub invariant-loop-below : goal.invariant-loop-below
invariant-loop-below l = record { inside : l.at < length l.nodes; covers : Covers (prefix_at l.nodes l.at) l.key }

abbrev pub decreases-loop-below : goal.decreases-loop-below
decreases-loop-below l = l.key.len - len_at l.nodes l.at
