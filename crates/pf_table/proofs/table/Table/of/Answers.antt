use Rattle.std.proofs.Common.{sym, ap, ◌∙◌, take}
use Rattle.pf_table.specs.Table.{Signs, table_of, with_entry}
use Rattle.pf_table.specs.Pushed.{more_items}
use Rattle.pf_table.specs.TableLaws.{table_more}
use Rattle.pf_table.proofs.table.Table.of.Goals as goal

pub loop-entry-preserved : goal.loop-entry-preserved
loop-entry-preserved c =
    c.in_ok-add.ensures.ok
    ∙ ap (λ (t : Signs). with_entry t c.entry-item.result) c.loop-entry.invariant
    ∙ sym (ap table_of (more_items c.args.entries.now c.loop-entry.entry-index c.entry-item.result c.loop-entry-test.true c.entry-item.is) ∙ table_more (take c.loop-entry.entry-index c.args.entries.now) c.entry-item.result)
