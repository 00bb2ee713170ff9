use Rattle.std.proofs.Common.{◌≡◌, ◌++◌, take}
use Rattle.pf_ops.specs.Words.{letters_in}
use Rattle.pf_ops.specs.WordTable.{entries_of}
use Rattle.pf_ops.proofs.words.put_letters.Given as goal

-- the letters of the flags so far
abbrev pub invariant-loop-letter : goal.invariant-loop-letter
invariant-loop-letter l = l.out.items ≡ l.initial.out.items ++ letters_in (entries_of (take l.letter-index l.flags)) l.bits
