use Rattle.std.proofs.Common.{◌<◌, List, length, sym, ap, subst, ℕ}
use Rattle.pf_table.specs.declared.node.Node.{Node}
use Rattle.pf_table.specs.Trie.{CanGrow, grown}
use Rattle.pf_table.proofs.Ways.{fork_below, fork_first, fork_second, at_is, shared_as}
use Rattle.pf_table.proofs.trie.fork.Goals as goal

pub node-requires : goal.node-requires
node-requires c = subst (λ (t : List Node). c.args.below < length t) (sym c.deref.ensures.value) (fork_below _ _ _ _ c.requires.trie c.requires.deepest c.requires.shorter c.requires.link)

pub grow-requires : goal.grow-requires
grow-requires c =
    fork_first _ _ _ _ c.requires.trie c.requires.deepest c.requires.shorter c.requires.link c.shared-len.result c.front.result
    (shared_as _ _ _ _ _ _
    (ap (λ (t : Node). t.prefix) (at_is _ _ _ _ c.node.ensures c.deref.ensures.value))
    (ap (λ (t : Node). t.prefix.len) (at_is _ _ _ _ c.node-2.ensures c.deref-2.ensures.value))
    c.shared-len.ensures)
    c.front.ensures

pub grow-requires-2 : goal.grow-requires-2
grow-requires-2 c =
    let can = fork_second c.args.nodes.now.items c.args.key.now c.args.at c.args.below c.requires.trie c.requires.deepest c.requires.shorter c.requires.link c.shared-len.result c.front.result
    (shared_as _ _ _ _ _ _
    (ap (λ (t : Node). t.prefix) (at_is _ _ _ _ c.node.ensures c.deref.ensures.value))
    (ap (λ (t : Node). t.prefix.len) (at_is _ _ _ _ c.node-2.ensures c.deref-2.ensures.value))
    c.shared-len.ensures)
    c.front.ensures c.if-len-key.false in
    subst (λ (t : List Node). CanGrow t c.in_ok-parting.parting c.args.key.now) (sym c.in_ok-parting.ensures.ok)
    (subst (λ (t : ℕ). CanGrow (grown c.args.nodes.now.items c.args.at c.front.result) t c.args.key.now) (sym c.in_ok-parting.ensures.value) can)
