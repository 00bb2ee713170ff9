use Rattle.std.proofs.Common.{◌≡◌, take}
use Rattle.std.specs.List.{filter}
use Rattle.pf_table.specs.Table.{table_of}
use Rattle.pf_shelf.specs.Change.{has_entry}
use Rattle.pf_shelf.proofs.words.held.Given as goal

abbrev pub invariant-loop-word : goal.invariant-loop-word
invariant-loop-word l = l.held ≡ table_of (filter (has_entry l.table) (take l.word-index l.words))
