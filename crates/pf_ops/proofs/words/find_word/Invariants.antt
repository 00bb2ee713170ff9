use Rattle.std.proofs.Common.{◌≡◌, drop}
use Rattle.pf_ops.specs.Words.{word_of}
use Rattle.pf_ops.specs.WordTable.{entries_of}
use Rattle.pf_ops.proofs.words.find_word.Given as goal

-- the rows that are left have the answer of all rows
abbrev pub invariant-loop-word : goal.invariant-loop-word
invariant-loop-word l =
    word_of (entries_of (drop l.word-index l.rows)) l.number ≡ word_of (entries_of l.rows) l.number
