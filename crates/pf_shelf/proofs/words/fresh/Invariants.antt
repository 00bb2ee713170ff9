use Rattle.std.proofs.Common.{◌≡◌, take}
use Rattle.std.specs.List.{filter}
use Rattle.pf_table.specs.Table.{table_of}
use Rattle.pf_shelf.specs.Change.{is_fresh}
use Rattle.pf_shelf.proofs.words.fresh.Given as goal

abbrev pub invariant-loop-word : goal.invariant-loop-word
invariant-loop-word l = l.fresh ≡ table_of (filter (is_fresh l.table) (take l.word-index l.words))
