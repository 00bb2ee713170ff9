use Rattle.std.proofs.Common.{refl}
use Rattle.pf_table.proofs.Ways.{roots_are}
use Rattle.pf_table.proofs.trie.roots.Goals as goal

pub returns : goal.returns
returns c = rw (c.in_ok-nodes.ensures.items, c.bare.ensures, c.bare-2.ensures) (roots_are _ _ refl refl refl refl)
