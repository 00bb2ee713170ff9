-- One more byte of the word is passed, or none is left.
use Rattle.std.proofs.Common.{sym, ap, ◌∙◌}
use Rattle.pf_token.specs.Bytes.{is_word_byte}
use Rattle.pf_token.specs.Reading.{beyond}
use Rattle.pf_token.proofs.Runs.{beyond_more, beyond_stops, beyond_none}
use Rattle.pf_token.proofs.cells.FileCells.skip_word.Goals as goal

pub loop-cell-preserved : goal.loop-cell-preserved
loop-cell-preserved c =
    ap (beyond is_word_byte) c.advance.ensures
    ∙ beyond_more is_word_byte c.loop-cell.self c.in-Some.cell (sym c.in-Some.is ∙ c.peek.ensures) (sym c.is_word_byte.ensures ∙ c.if-not-is_word_byte.false)
    ∙ c.loop-cell.invariant

pub returns-then-not-is_word_byte : goal.returns-then-not-is_word_byte
returns-then-not-is_word_byte c =
    sym (beyond_stops is_word_byte c.loop-cell.self c.in-Some.cell (sym c.in-Some.is ∙ c.peek.ensures) (sym c.is_word_byte.ensures ∙ c.if-not-is_word_byte.true))
    ∙ c.loop-cell.invariant

pub returns-in_default : goal.returns-in_default
returns-in_default c = sym (beyond_none is_word_byte c.loop-cell.self (sym c.in_default.is ∙ c.peek.ensures)) ∙ c.loop-cell.invariant
