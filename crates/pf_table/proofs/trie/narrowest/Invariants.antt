use Rattle.std.proofs.Common.{◌<◌, ◌-◌, length}
use Rattle.pf_table.specs.Bits.{Covers}
use Rattle.pf_table.specs.Trie.{prefix_at, len_at, IsSignOf}
use Rattle.pf_table.proofs.trie.narrowest.Given as goal

abbrev pub invariant-loop-below : goal.invariant-loop-below
invariant-loop-below l = record { inside : l.at < length l.nodes; covers : Covers (prefix_at l.nodes l.at) l.key; sign : IsSignOf l.nodes l.key (len_at l.nodes l.at) l.found }

abbrev pub decreases-loop-below : goal.decreases-loop-below
decreases-loop-below l = l.key.len - len_at l.nodes l.at
