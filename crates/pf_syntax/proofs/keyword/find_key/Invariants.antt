use Rattle.std.proofs.Common.{◌≡◌, drop}
use Rattle.pf_syntax.specs.KeyTable.{keys_of}
use Rattle.pf_syntax.specs.Words.{meaning_in}
use Rattle.pf_syntax.proofs.keyword.find_key.Given as goal

-- the rows that are left have the answer of all rows
abbrev pub invariant-loop-known : goal.invariant-loop-known
invariant-loop-known g l = meaning_in (keys_of (drop l.known-index l.rows)) l.word ≡ meaning_in (keys_of l.rows) l.word
