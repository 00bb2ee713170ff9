use Rattle.std.proofs.Common.{List, sym, ap, ◌∙◌, subst}
use Rattle.std.specs.FinMap as finite
use Rattle.pf_table.specs.declared.node.Node.{Node}
use Rattle.pf_table.specs.Trie.{IsHeldAt, IsAbsent}
use Rattle.pf_table.specs.Table.{Signs}
use Rattle.pf_table.proofs.Ways.{at_is}
use Rattle.pf_table.proofs.Signs.{absent_sign, key_sign}
use Rattle.pf_table.proofs.table.Table.sign_of.Goals as goal

pub returns-in-None : goal.returns-in-None
returns-in-None c =
    sym (ap (λ (t : Signs). finite.get t c.args.prefix.now) (sym c.self.view_is)
    ∙ absent_sign c.self.inside.nodes.items c.args.prefix.now (subst (λ (t : List Node). IsAbsent t c.args.prefix.now) c.deref.ensures.value c.in-None.ensures))

pub returns-in-Some : goal.returns-in-Some
returns-in-Some c =
    ap (λ (t : Node). t.negated) (at_is _ _ _ _ c.node.ensures c.deref-in-Some.ensures.value)
    ∙ sym (ap (λ (t : Signs). finite.get t c.args.prefix.now) (sym c.self.view_is)
    ∙ key_sign c.self.inside.nodes.items c.args.prefix.now c.in-Some.at c.self.invariant.trie (subst (λ (t : List Node). IsHeldAt t c.args.prefix.now c.in-Some.at) c.deref.ensures.value c.in-Some.ensures))
