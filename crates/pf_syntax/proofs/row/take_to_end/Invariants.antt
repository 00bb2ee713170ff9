use Rattle.pf_syntax.specs.Grammar.{until}
use Rattle.pf_syntax.specs.Symbols.{is_end}
use Rattle.pf_syntax.proofs.Repeating.{Kept}
use Rattle.pf_syntax.proofs.row.take_to_end.Given as goal

-- what is left is read as the whole
abbrev pub invariant-loop : goal.invariant-loop
invariant-loop g l = Kept is_end (λ before. (g.L.Lay.part l.parts before).reads) l.most l.counter l.value l.cursor
    ((until is_end (g.L.Lay.part l.parts) l.fn.first).reads l.initial.cursor)
