use Rattle.std.proofs.Common.{subst, sym}
use Rattle.pf_calls.specs.Calls.{called, paths_of}
use Rattle.pf_calls.specs.Links.{Reaches}
use Rattle.pf_calls.proofs.Placed.{one_place}
use Rattle.pf_calls.proofs.Reached.{as_called, reaches_place}
use Rattle.pf_calls.proofs.links.add_called.Goals as goal

pub returns-in_ok-push : goal.returns-in_ok-push
returns-in_ok-push c =
    let rows = c.args.rows.now in
    let place = reaches_place rows c.args.links.now c.in-Some.target c.in-Some-place_of.place (one_place rows c.requires) c.in-Some-place_of.ensures in
    subst (Reaches rows c.args.links.now (called (paths_of rows) c.args.at.now c.args.call.now)) (sym c.in_ok-push.ensures.ok)
    (as_called rows c.args.at.now c.args.call.now c.in-Some.target c.args.links.now _ c.in-Some.ensures c.if-call.false place)
