use Rattle.std.proofs.Common.{◌≡◌, List, length, sym, ap, ◌∙◌, subst, ℕ, rules}
use Rattle.std.specs.Prelude.{slice_set}
use Rattle.pf_table.specs.declared.node.Node.{Node}
use Rattle.pf_table.specs.Trie.{IsTrie, IsHeldAt, listed, grown}
use Rattle.pf_table.proofs.Ways.{held_grown, grow_below, at_is}
use Rattle.pf_table.proofs.Grown.{listed-grown, grown-IsTrie}
use Rattle.pf_table.proofs.trie.grow.Goals as goal

pub between-added-requires-clause-inside : goal.between-added-requires-clause-inside
between-added-requires-clause-inside c =
    grow_below c.args.nodes.now.items c.deref-2.result.now c.args.at c.args.key.now c.node.result.now c.requires (at_is _ _ _ _ c.node.ensures c.deref.ensures.value) c.deref-2.ensures.value

pub returns-clause-same : goal.returns-clause-same
returns-clause-same c =
    let e : slice_set c.push.new.self.items c.args.at c.with_child.result ≡ grown c.args.nodes.now.items c.args.at c.args.key.now = search rules in
    ap listed e ∙ listed-grown c.args.nodes.now.items c.args.at c.args.key.now c.requires.inside

pub returns-clause-trie : goal.returns-clause-trie
returns-clause-trie c =
    let e : slice_set c.push.new.self.items c.args.at c.with_child.result ≡ grown c.args.nodes.now.items c.args.at c.args.key.now = search rules in
    subst IsTrie (sym e) (grown-IsTrie c.args.nodes.now.items c.args.at c.args.key.now c.requires)

pub returns-clause-held : goal.returns-clause-held
returns-clause-held c =
    let e : slice_set c.push.new.self.items c.args.at c.with_child.result ≡ grown c.args.nodes.now.items c.args.at c.args.key.now = search rules in
    let n : c.len-number.result ≡ length c.args.nodes.now.items = search rules in
    subst (λ (t : List Node). IsHeldAt t c.args.key.now c.len-number.result) (sym e)
    (subst (λ (t : ℕ). IsHeldAt (grown c.args.nodes.now.items c.args.at c.args.key.now) c.args.key.now t) (sym n) (held_grown c.args.nodes.now.items c.args.at c.args.key.now c.requires))
