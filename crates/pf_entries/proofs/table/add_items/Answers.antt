use Rattle.pf_entries.proofs.Gathering.{items_step}
use Rattle.pf_entries.proofs.table.add_items.Goals as goal

pub loop-item-preserved : goal.loop-item-preserved
loop-item-preserved c =
    items_step c.args.facts.now c.args.place c.args.items.now c.loop-item.item-index c.item-item.result c.args.gathered.now c.loop-item.gathered c.add_item.new.gathered c.loop-item-test.true c.item-item.is
    c.loop-item.invariant c.in_ok-add_item.ensures
