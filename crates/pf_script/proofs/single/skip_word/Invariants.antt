use Rattle.std.proofs.Common.{◌≡◌, length}
use Rattle.pf_script.specs.Word.{behind_word}
use Rattle.pf_script.proofs.single.skip_word.Given as goal

-- no blank was passed over
abbrev pub invariant-loop-byte : goal.invariant-loop-byte
invariant-loop-byte l = behind_word l.rest ≡ behind_word l.text

abbrev pub decreases-loop-byte : goal.decreases-loop-byte
decreases-loop-byte l = length l.rest
