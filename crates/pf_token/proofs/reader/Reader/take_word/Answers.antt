-- One more byte of the word is taken, or none is left.
use Rattle.std.proofs.Common.{sym, ap, ◌∙◌, ◌++◌}
use Rattle.pf_token.specs.Bytes.{is_word_byte}
use Rattle.pf_token.specs.Cells.{bytes_of}
use Rattle.pf_token.specs.Reading.{front, beyond}
use Rattle.pf_token.proofs.Runs.{taken_more, taken_all, taken_none, beyond_more, beyond_stops, beyond_none}
use Rattle.pf_token.proofs.reader.Reader.take_word.Goals as goal

pub loop-cell-preserved : goal.loop-cell-preserved
loop-cell-preserved c =
    let some = sym c.in-Some.is ∙ c.peek.ensures in
    let passes = sym c.is_word_byte.ensures ∙ c.if-not-is_word_byte.false in
    record {
      text =
          (λ i. c.in_ok-push.ensures.items i ++ bytes_of (front is_word_byte (c.advance.ensures i)))
          ∙ taken_more is_word_byte c.loop-cell.text.items _ c.loop-cell.self c.loop-cell.invariant.text c.in-Some.cell some passes;
      rest =
          ap (beyond is_word_byte) c.advance.ensures
          ∙ beyond_more is_word_byte c.loop-cell.self c.in-Some.cell some passes
          ∙ c.loop-cell.invariant.rest;
    }

pub returns-then-not-is_word_byte : goal.returns-then-not-is_word_byte
returns-then-not-is_word_byte c =
    let some = sym c.in-Some.is ∙ c.peek.ensures in
    let fails = sym c.is_word_byte.ensures ∙ c.if-not-is_word_byte.true in
    record {
      text = taken_all is_word_byte c.loop-cell.text.items _ c.loop-cell.self c.loop-cell.invariant.text c.in-Some.cell some fails;
      rest = sym (beyond_stops is_word_byte c.loop-cell.self c.in-Some.cell some fails) ∙ c.loop-cell.invariant.rest;
    }

pub returns-in_default : goal.returns-in_default
returns-in_default c =
    let none = sym c.in_default.is ∙ c.peek.ensures in
    record {
      text = taken_none is_word_byte c.loop-cell.text.items _ c.loop-cell.self c.loop-cell.invariant.text none;
      rest = sym (beyond_none is_word_byte c.loop-cell.self none) ∙ c.loop-cell.invariant.rest;
    }
