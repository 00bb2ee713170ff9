use Rattle.std.proofs.Common.{◌≡◌, take}
use Rattle.pf_table.specs.Table.{table_of}
use Rattle.pf_table.proofs.table.Table.of.Given as goal

abbrev pub invariant-loop-entry : goal.invariant-loop-entry
invariant-loop-entry l = l.table ≡ table_of (take l.entry-index l.entries)
