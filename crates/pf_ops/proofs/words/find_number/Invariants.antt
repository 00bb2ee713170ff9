use Rattle.std.proofs.Common.{◌≡◌, drop}
use Rattle.pf_ops.specs.Words.{number_of}
use Rattle.pf_ops.specs.WordTable.{entries_of}
use Rattle.pf_ops.proofs.words.find_number.Given as goal

-- the rows that are left have the answer of all rows
abbrev pub invariant-loop-known : goal.invariant-loop-known
invariant-loop-known l =
    number_of (entries_of (drop l.known-index l.rows)) l.word ≡ number_of (entries_of l.rows) l.word
