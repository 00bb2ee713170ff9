use Rattle.std.proofs.Common.{◌≡◌, length}
use Rattle.pf_token.specs.Pieces.{is_in_line}
use Rattle.pf_token.specs.Reading.{beyond}
use Rattle.pf_token.proofs.reader.Reader.skip_line.Given as goal

abbrev pub invariant-loop-cell : goal.invariant-loop-cell
invariant-loop-cell l = beyond is_in_line l.self ≡ beyond is_in_line l.fn.self

abbrev pub decreases-loop-cell : goal.decreases-loop-cell
decreases-loop-cell l = length l.self
