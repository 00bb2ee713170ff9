use Rattle.std.proofs.Common.{◌≡◌, ◌+◌, ℕ, List, sym, ap, ◌∙◌, subst, Some, rules}
use Rattle.std.specs.Prelude.{is_some}
use Rattle.std.specs.FinMap as finite
use Rattle.pf_table.specs.declared.node.Node.{Node}
use Rattle.pf_table.specs.Trie.{resigned}
use Rattle.pf_table.specs.Table.{Signs, table_of}
use Rattle.pf_table.specs.Kept.{IsKept, signs_in}
use Rattle.pf_table.proofs.Ways.{at_is}
use Rattle.pf_table.proofs.Changes.{present_answer, present_left, fresh_answer, fresh_left, fresh_kept}
use Rattle.pf_table.proofs.table.Table.add.Goals as goal

pub returns-then-is_some-clause-added : goal.returns-then-is_some-clause-added
returns-then-is_some-clause-added c =
    present_answer c.args.self.now c.planted.new.nodes.items c.in_ok-at.at c.args.entry (ap table_of c.in_ok-at.ensures.same ∙ c.self.view_is) c.in_ok-at.ensures.trie c.in_ok-at.ensures.held
    (ap (λ (t : Node). is_some t.negated) (sym (at_is _ _ _ _ c.node.ensures c.deref.ensures.value)) ∙ sym c.is_some.ensures ∙ c.if-is_some.true)

pub returns-then-is_some-clause-ok : goal.returns-then-is_some-clause-ok
returns-then-is_some-clause-ok c =
    present_left c.args.self.now c.planted.new.nodes.items c.in_ok-at.at c.args.entry (ap table_of c.in_ok-at.ensures.same ∙ c.self.view_is) c.in_ok-at.ensures.trie c.in_ok-at.ensures.held
    (ap (λ (t : Node). is_some t.negated) (sym (at_is _ _ _ _ c.node.ensures c.deref.ensures.value)) ∙ sym c.is_some.ensures ∙ c.if-is_some.true)

pub invariant_of-self-2 : goal.invariant_of-self-2
invariant_of-self-2 c =
    let more : c.in-Some.len ≡ c.self.inside.len + 1 = search rules in
    subst (λ (t : List Node). IsKept t c.in-Some.len) (sym c.set_sign.ensures)
    (subst (λ (t : ℕ). IsKept (resigned c.planted.new.nodes.items c.in_ok-at.at (Some c.args.entry.negated)) t) (sym more)
    (fresh_kept c.args.self.now c.planted.new.nodes.items c.in_ok-at.at c.args.entry (ap table_of c.in_ok-at.ensures.same ∙ c.self.view_is) c.in_ok-at.ensures.trie c.in_ok-at.ensures.held
    (ap (λ (t : Node). is_some t.negated) (sym (at_is _ _ _ _ c.node.ensures c.deref.ensures.value)) ∙ sym c.is_some.ensures ∙ c.if-is_some.false)
    c.self.inside.len (c.self.invariant.counted ∙ ap (λ (t : Signs). finite.len t) c.self.view_is)))

pub returns-clause-added : goal.returns-clause-added
returns-clause-added c =
    fresh_answer c.args.self.now c.planted.new.nodes.items c.in_ok-at.at c.args.entry (ap table_of c.in_ok-at.ensures.same ∙ c.self.view_is) c.in_ok-at.ensures.trie c.in_ok-at.ensures.held
    (ap (λ (t : Node). is_some t.negated) (sym (at_is _ _ _ _ c.node.ensures c.deref.ensures.value)) ∙ sym c.is_some.ensures ∙ c.if-is_some.false)

pub returns-clause-ok : goal.returns-clause-ok
returns-clause-ok c =
    ap signs_in c.set_sign.ensures ∙ fresh_left c.args.self.now c.planted.new.nodes.items c.in_ok-at.at c.args.entry (ap table_of c.in_ok-at.ensures.same ∙ c.self.view_is) c.in_ok-at.ensures.trie c.in_ok-at.ensures.held
    (ap (λ (t : Node). is_some t.negated) (sym (at_is _ _ _ _ c.node.ensures c.deref.ensures.value)) ∙ sym c.is_some.ensures ∙ c.if-is_some.false)
