use Rattle.std.proofs.Common.{◌<◌, length, sym, subst, ℕ}
use Rattle.pf_table.specs.Bits.{Covers}
use Rattle.pf_table.specs.Trie.{prefix_at}
use Rattle.pf_table.proofs.Ways.{root_covers, root_inside}
use Rattle.pf_table.proofs.trie.deepest.Goals as goal

pub loop-below-init : goal.loop-below-init
loop-below-init c = record {
  inside = subst (λ (t : ℕ). t < length c.args.nodes.now) (sym c.root-at.ensures.value) (root_inside c.args.nodes.now c.args.key.now.addr c.requires.roots);
  covers = subst (λ (t : ℕ). Covers (prefix_at c.args.nodes.now t) c.args.key.now) (sym c.root-at.ensures.value) (root_covers c.args.nodes.now c.args.key.now c.requires.roots c.root-at.ensures.range);
}
