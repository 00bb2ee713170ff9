use Rattle.std.proofs.Common.{◌≡◌, ◌++◌, length}
use Rattle.pf_token.specs.Bytes.{is_name_byte}
use Rattle.pf_token.specs.Cells.{bytes_of}
use Rattle.pf_token.specs.Reading.{front, beyond}
use Rattle.pf_token.proofs.cells.FileCells.take_name.Given as goal

abbrev pub invariant-loop-cell : goal.invariant-loop-cell
invariant-loop-cell l = record {
  name : l.name.items ++ bytes_of (front is_name_byte l.self) ≡ bytes_of (front is_name_byte l.fn.self);
  rest : beyond is_name_byte l.self ≡ beyond is_name_byte l.fn.self;
}

abbrev pub decreases-loop-cell : goal.decreases-loop-cell
decreases-loop-cell l = length l.self
