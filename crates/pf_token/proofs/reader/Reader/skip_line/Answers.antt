-- One more byte of the line is passed, or none is left.
use Rattle.std.proofs.Common.{sym, ap, ◌∙◌}
use Rattle.std.proofs.lemmas.Bool.{ne_eqb, eq-eqb, not_from_true, not_from_false}
use Rattle.pf_token.specs.Pieces.{is_in_line}
use Rattle.pf_token.specs.Reading.{beyond}
use Rattle.pf_token.proofs.Runs.{beyond_more, beyond_stops, beyond_none}
use Rattle.pf_token.proofs.reader.Reader.skip_line.Goals as goal

pub loop-cell-preserved : goal.loop-cell-preserved
loop-cell-preserved c =
    ap (beyond is_in_line) c.advance.ensures
    ∙ beyond_more is_in_line c.loop-cell.self c.in-Some.cell (sym c.in-Some.is ∙ c.peek.ensures) (not_from_false _ (ne_eqb _ 10 c.if-cell-eq10.false))
    ∙ c.loop-cell.invariant

pub returns-then-cell-eq10 : goal.returns-then-cell-eq10
returns-then-cell-eq10 c =
    sym (beyond_stops is_in_line c.loop-cell.self c.in-Some.cell (sym c.in-Some.is ∙ c.peek.ensures) (not_from_true _ (eq-eqb _ 10 c.if-cell-eq10.true)))
    ∙ c.loop-cell.invariant

pub returns-in_default : goal.returns-in_default
returns-in_default c = sym (beyond_none is_in_line c.loop-cell.self (sym c.in_default.is ∙ c.peek.ensures)) ∙ c.loop-cell.invariant
