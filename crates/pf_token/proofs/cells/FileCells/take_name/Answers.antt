-- One more byte of the name is taken, or none is left.
use Rattle.std.proofs.Common.{sym, ap, ◌∙◌, ◌++◌}
use Rattle.pf_token.specs.Bytes.{is_name_byte}
use Rattle.pf_token.specs.Cells.{bytes_of}
use Rattle.pf_token.specs.Reading.{front, beyond}
use Rattle.pf_token.proofs.Runs.{taken_more, taken_all, taken_none, beyond_more, beyond_stops, beyond_none}
use Rattle.pf_token.proofs.cells.FileCells.take_name.Goals as goal
use Rattle.pf_token.proofs.cells.FileCells.take_name.Goals.{in-Some+then-not-is_name_byte, in_default}

pub loop-cell-preserved : goal.loop-cell-preserved
loop-cell-preserved c =
    let some = sym c.in-Some.is ∙ c.peek.ensures in
    let passes = sym c.is_name_byte.ensures ∙ c.if-not-is_name_byte.false in
    record {
      name =
          (λ i. c.in_ok-push.ensures.items i ++ bytes_of (front is_name_byte (c.advance.ensures i)))
          ∙ taken_more is_name_byte c.loop-cell.name.items _ c.loop-cell.self c.loop-cell.invariant.name c.in-Some.cell some passes;
      rest =
          ap (beyond is_name_byte) c.advance.ensures
          ∙ beyond_more is_name_byte c.loop-cell.self c.in-Some.cell some passes
          ∙ c.loop-cell.invariant.rest;
    }

pub returns-clause-name : goal.returns-clause-name
returns-clause-name c = elim c.match-peek.branch [
  | in-Some+then-not-is_name_byte w ↦
      taken_all is_name_byte c.loop-cell.name.items _ c.loop-cell.self c.loop-cell.invariant.name w.in-Some.cell (sym w.in-Some.is ∙ c.peek.ensures) (sym w.is_name_byte.ensures ∙ w.if-not-is_name_byte.true)
  | in_default w ↦ taken_none is_name_byte c.loop-cell.name.items _ c.loop-cell.self c.loop-cell.invariant.name (sym w.in_default.is ∙ c.peek.ensures)
]

pub returns-clause-rest : goal.returns-clause-rest
returns-clause-rest c = elim c.match-peek.branch [
  | in-Some+then-not-is_name_byte w ↦
      sym (beyond_stops is_name_byte c.loop-cell.self w.in-Some.cell (sym w.in-Some.is ∙ c.peek.ensures) (sym w.is_name_byte.ensures ∙ w.if-not-is_name_byte.true)) ∙ c.loop-cell.invariant.rest
  | in_default w ↦ sym (beyond_none is_name_byte c.loop-cell.self (sym w.in_default.is ∙ c.peek.ensures)) ∙ c.loop-cell.invariant.rest
]
