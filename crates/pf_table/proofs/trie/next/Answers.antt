use Rattle.std.proofs.Common.{◌≡◌, Bool, sym, ap, ◌∙◌, true, false}
use Rattle.pf_addr.specs.Prefix.{covers}
use Rattle.pf_table.specs.declared.node.Node.{Node}
use Rattle.pf_table.proofs.Covers.{true-covers, covers-true}
use Rattle.pf_table.proofs.Ways.{last_at_end, last_alone, last_apart, step_to, below_inside, link_is}
use Rattle.pf_table.proofs.trie.next.Goals as goal

apart : (b : Bool) → b ≡ true → b ≡ false → ⊥
apart b p q = cc

pub returns-then-from-key : goal.returns-then-from-key
returns-then-from-key c = last_at_end _ _ _ c.requires.trie c.requires.inside c.requires.covers (sym (ap (λ (t : Node). t.prefix.len) c.node-from.ensures) ∙ c.if-from-key.true)

pub returns-in-None : goal.returns-in-None
returns-in-None c = last_alone _ _ _ c.requires.trie c.requires.inside c.requires.covers (link_is c.args.nodes.now c.args.at c.args.key.now _ _ _ _ c.node-from.ensures c.side.ensures c.child.ensures c.in-None.is)

pub node-requires : goal.node-requires
node-requires c = below_inside _ _ _ c.requires.trie c.requires.inside c.requires.covers _ (link_is c.args.nodes.now c.args.at c.args.key.now _ _ _ _ c.node-from.ensures c.side.ensures c.child.ensures c.in-Some.is)

pub returns-then-covers : goal.returns-then-covers
returns-then-covers c =
    step_to _ _ _ c.requires.trie c.requires.inside c.requires.covers _ (link_is c.args.nodes.now c.args.at c.args.key.now _ _ _ _ c.node-from.ensures c.side.ensures c.child.ensures c.in-Some.is)
    (true-covers _ _ (ap (λ (t : Node). covers t.prefix c.args.key.now) (sym c.node.ensures) ∙ sym c.covers.ensures.value ∙ c.if-covers.true))

pub returns-else-covers : goal.returns-else-covers
returns-else-covers c =
    last_apart _ _ _ c.requires.trie c.requires.inside c.requires.covers _ (link_is c.args.nodes.now c.args.at c.args.key.now _ _ _ _ c.node-from.ensures c.side.ensures c.child.ensures c.in-Some.is)
    (λ h. apart c.covers.result (c.covers.ensures.value ∙ ap (λ (t : Node). covers t.prefix c.args.key.now) c.node.ensures ∙ covers-true _ _ h) c.if-covers.false)
