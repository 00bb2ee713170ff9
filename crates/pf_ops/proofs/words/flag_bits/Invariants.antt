use Rattle.std.proofs.Common.{◌≡◌, take}
use Rattle.pf_ops.specs.Words.{bits_of}
use Rattle.pf_ops.proofs.words.flag_bits.Given as goal

-- the bits of the letters so far
abbrev pub invariant-loop-letter : goal.invariant-loop-letter
invariant-loop-letter l = l.bits ≡ bits_of (take l.letter-index l.letters)
