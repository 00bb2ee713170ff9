use Rattle.std.proofs.Common.{codes}
use Rattle.pf_syntax.specs.Grammar.{until}
use Rattle.pf_syntax.specs.Lists.{at_sign, behind_comma}
use Rattle.pf_syntax.proofs.Repeating.{Kept}
use Rattle.pf_syntax.proofs.list.take_parts.Given as goal

-- what is left is read as the whole
abbrev pub invariant-loop : goal.invariant-loop
invariant-loop g l = Kept (at_sign (codes ")")) (λ before. (behind_comma (g.L.Lay.part l.parts) before).reads) l.most l.counter l.value l.cursor
    ((until (at_sign (codes ")")) (behind_comma (g.L.Lay.part l.parts)) l.fn.first).reads l.initial.cursor)
