use Rattle.std.proofs.Common.{◌≡◌, length}
use Rattle.pf_token.specs.Bytes.{is_word_byte}
use Rattle.pf_token.specs.Reading.{beyond}
use Rattle.pf_token.proofs.cells.FileCells.skip_word.Given as goal

abbrev pub invariant-loop-cell : goal.invariant-loop-cell
invariant-loop-cell l = beyond is_word_byte l.self ≡ beyond is_word_byte l.fn.self

abbrev pub decreases-loop-cell : goal.decreases-loop-cell
decreases-loop-cell l = length l.self
