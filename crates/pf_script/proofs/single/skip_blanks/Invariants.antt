use Rattle.std.proofs.Common.{◌≡◌, length}
use Rattle.pf_script.specs.Word.{behind_blanks}
use Rattle.pf_script.proofs.single.skip_blanks.Given as goal

-- only blanks were passed over
abbrev pub invariant-loop-byte : goal.invariant-loop-byte
invariant-loop-byte l = behind_blanks l.rest ≡ behind_blanks l.text

abbrev pub decreases-loop-byte : goal.decreases-loop-byte
decreases-loop-byte l = length l.rest
