use Rattle.pf_table.proofs.Narrow.{roots-IsTrie}
use Rattle.pf_table.proofs.trie.planted.Goals as goal
use Rattle.pf_table.proofs.trie.planted.Goals.{then-is_empty+in_ok-nodes, else-is_empty}

pub place-requires-clause-trie : goal.place-requires-clause-trie
place-requires-clause-trie c =
    elim c.if-is_empty.branch [
      | then-is_empty+in_ok-nodes w ↦ rw (w.nodes-is, w.in_ok-nodes.ensures) roots-IsTrie
      | else-is_empty w ↦ rw w.nodes-is c.requires
    ]
