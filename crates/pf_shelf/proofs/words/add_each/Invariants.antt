use Rattle.std.proofs.Common.{◌≡◌, ◌++◌, take}
use Rattle.pf_table.specs.Table.{table_of, entries_of}
use Rattle.pf_shelf.proofs.words.add_each.Given as goal

abbrev pub invariant-loop-word : goal.invariant-loop-word
invariant-loop-word l = l.table ≡ table_of (entries_of l.initial.table ++ take l.word-index l.words)
