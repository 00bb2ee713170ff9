use Rattle.std.proofs.Common.{◌≡◌, length}
use Rattle.pf_token.specs.Reading.{quoted_from, prepended}
use Rattle.pf_token.proofs.strings.take_string.Given as goal

abbrev pub invariant-loop-cell : goal.invariant-loop-cell
invariant-loop-cell l = prepended l.text.items l.known (quoted_from l.quote l.reader) ≡ quoted_from l.quote l.fn.reader

abbrev pub decreases-loop-cell : goal.decreases-loop-cell
decreases-loop-cell l = length l.reader
