use Rattle.std.proofs.Common.{◌-◌, List, sym, ap, ◌∙◌, subst, arith}
use Rattle.std.specs.FinMap as finite
use Rattle.pf_table.specs.declared.node.Node.{Node}
use Rattle.pf_table.specs.Trie.{IsHeldAt, IsAbsent}
use Rattle.pf_table.specs.Table.{Signs, is_sign}
use Rattle.pf_table.specs.Kept.{IsKept, signs_in}
use Rattle.pf_table.proofs.Ways.{at_is}
use Rattle.pf_table.proofs.Changes.{absent_answer, absent_left, other_answer, other_left, removed_answer, removed_left, removed_kept, removed_some}
use Rattle.pf_table.proofs.table.Table.remove.Goals as goal

pub returns-in_default-clause-removed : goal.returns-in_default-clause-removed
returns-in_default-clause-removed c = absent_answer c.args.self.now c.self.inside.nodes.items c.args.entry.now c.self.view_is (subst (λ (t : List Node). IsAbsent t c.args.entry.now.prefix) c.deref.ensures.value c.in_default.ensures)

pub returns-in_default-clause-left : goal.returns-in_default-clause-left
returns-in_default-clause-left c = absent_left c.args.self.now c.self.inside.nodes.items c.args.entry.now c.self.view_is (subst (λ (t : List Node). IsAbsent t c.args.entry.now.prefix) c.deref.ensures.value c.in_default.ensures)

pub returns-then-not-has_sign-clause-removed : goal.returns-then-not-has_sign-clause-removed
returns-then-not-has_sign-clause-removed c = other_answer c.args.self.now c.self.inside.nodes.items c.in-Some.at c.args.entry.now c.self.view_is c.self.invariant.trie (subst (λ (t : List Node). IsHeldAt t c.args.entry.now.prefix c.in-Some.at) c.deref.ensures.value c.in-Some.ensures)
    (ap (λ (t : Node). is_sign t.negated c.args.entry.now.negated) (sym (at_is _ _ _ _ c.node.ensures c.deref-2.ensures.value)) ∙ sym c.has_sign.ensures ∙ c.if-not-has_sign.true)

pub returns-then-not-has_sign-clause-left : goal.returns-then-not-has_sign-clause-left
returns-then-not-has_sign-clause-left c = other_left c.args.self.now c.self.inside.nodes.items c.in-Some.at c.args.entry.now c.self.view_is c.self.invariant.trie (subst (λ (t : List Node). IsHeldAt t c.args.entry.now.prefix c.in-Some.at) c.deref.ensures.value c.in-Some.ensures)
    (ap (λ (t : Node). is_sign t.negated c.args.entry.now.negated) (sym (at_is _ _ _ _ c.node.ensures c.deref-2.ensures.value)) ∙ sym c.has_sign.ensures ∙ c.if-not-has_sign.true)

pub overflow_sub-self : goal.overflow_sub-self
overflow_sub-self c =
    let some = removed_some c.args.self.now c.self.inside.nodes.items c.in-Some.at c.args.entry.now c.self.view_is c.self.invariant.trie (subst (λ (t : List Node). IsHeldAt t c.args.entry.now.prefix c.in-Some.at) c.deref.ensures.value c.in-Some.ensures)
    (ap (λ (t : Node). is_sign t.negated c.args.entry.now.negated) (sym (at_is _ _ _ _ c.node.ensures c.deref-2.ensures.value)) ∙ sym c.has_sign.ensures ∙ c.if-not-has_sign.false) in
    let counted = c.self.invariant.counted ∙ ap (λ (t : Signs). finite.len t) c.self.view_is in
    omega arith

pub invariant_of-self : goal.invariant_of-self
invariant_of-self c =
    subst (λ (t : List Node). IsKept t (c.self.inside.len - 1)) (sym c.set_sign.ensures)
    (removed_kept c.args.self.now c.self.inside.nodes.items c.in-Some.at c.args.entry.now c.self.view_is c.self.invariant.trie (subst (λ (t : List Node). IsHeldAt t c.args.entry.now.prefix c.in-Some.at) c.deref.ensures.value c.in-Some.ensures)
    (ap (λ (t : Node). is_sign t.negated c.args.entry.now.negated) (sym (at_is _ _ _ _ c.node.ensures c.deref-2.ensures.value)) ∙ sym c.has_sign.ensures ∙ c.if-not-has_sign.false)
    c.self.inside.len (c.self.invariant.counted ∙ ap (λ (t : Signs). finite.len t) c.self.view_is))

pub returns-clause-removed : goal.returns-clause-removed
returns-clause-removed c = removed_answer c.args.self.now c.self.inside.nodes.items c.in-Some.at c.args.entry.now c.self.view_is c.self.invariant.trie (subst (λ (t : List Node). IsHeldAt t c.args.entry.now.prefix c.in-Some.at) c.deref.ensures.value c.in-Some.ensures)
    (ap (λ (t : Node). is_sign t.negated c.args.entry.now.negated) (sym (at_is _ _ _ _ c.node.ensures c.deref-2.ensures.value)) ∙ sym c.has_sign.ensures ∙ c.if-not-has_sign.false)

pub returns-clause-left : goal.returns-clause-left
returns-clause-left c = ap signs_in c.set_sign.ensures ∙ removed_left c.args.self.now c.self.inside.nodes.items c.in-Some.at c.args.entry.now c.self.view_is c.self.invariant.trie (subst (λ (t : List Node). IsHeldAt t c.args.entry.now.prefix c.in-Some.at) c.deref.ensures.value c.in-Some.ensures)
    (ap (λ (t : Node). is_sign t.negated c.args.entry.now.negated) (sym (at_is _ _ _ _ c.node.ensures c.deref-2.ensures.value)) ∙ sym c.has_sign.ensures ∙ c.if-not-has_sign.false)
