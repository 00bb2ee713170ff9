use Rattle.std.proofs.Common.{take}
use Rattle.pf_entries.specs.Tables.{Gathers, items_at}
use Rattle.pf_entries.proofs.table.add_items.Given as goal

abbrev pub invariant-loop-item : goal.invariant-loop-item
invariant-loop-item l = Gathers l.facts (items_at l.place (take l.item-index l.items)) l.initial.gathered l.gathered
