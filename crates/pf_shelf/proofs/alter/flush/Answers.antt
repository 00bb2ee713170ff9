use Rattle.std.proofs.Common.{ℕ, sym, ap, ◌∙◌}
use Rattle.pf_shelf.specs.declared.change.Counts.{Counts}
use Rattle.pf_shelf.proofs.Told.{flushed}
use Rattle.pf_shelf.proofs.alter.flush.Goals as goal

counted : ℕ → Counts
counted n = record { added = 0; deleted = n }

pub returns-clause-counts : goal.returns-clause-counts
unfolding counted
returns-clause-counts c = ap counted c.len-deleted.ensures ∙ sym (flushed c.args.table.now)
