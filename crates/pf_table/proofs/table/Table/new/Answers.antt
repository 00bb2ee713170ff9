use Rattle.pf_table.proofs.Changes.{new_kept}
use Rattle.pf_table.proofs.table.Table.new.Goals as goal

pub invariant_of-result : goal.invariant_of-result
invariant_of-result c = rw c.new.ensures.items new_kept
