use Rattle.std.proofs.Common.{codes, [], ◌∷◌}
use Rattle.pf_syntax.specs.Lists.{at_sign, more_items, more_step}
use Rattle.pf_syntax.proofs.Repeating.{Kept}
use Rattle.pf_syntax.proofs.list.take_more.Given as goal

-- what is left is read as the whole
abbrev pub invariant-loop : goal.invariant-loop
invariant-loop g l = Kept (at_sign (codes "}")) (λ items. (more_step (g.I.Take.grammar l.items) items).reads) l.most l.counter l.list l.cursor
    ((more_items (g.I.Take.grammar l.items) (l.fn.first ∷ [])).reads l.initial.cursor)
