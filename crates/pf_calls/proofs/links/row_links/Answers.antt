use Rattle.std.proofs.Common.{[]}
use Rattle.pf_calls.specs.Calls.{called, paths_of}
use Rattle.pf_calls.proofs.Reached.{reaches_next}
use Rattle.pf_calls.proofs.links.row_links.Goals as goal

pub loop-call-preserved : goal.loop-call-preserved
loop-call-preserved c =
    reaches_next c.args.rows.now (called (paths_of c.args.rows.now) c.args.row.now.path) c.items-call-items.result.now c.loop-call.call-index c.call-item.result [] c.loop-call.links c.add_called.new.links c.loop-call-test.true c.call-item.is c.loop-call.invariant c.in_ok-add_called.ensures
