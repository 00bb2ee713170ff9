use Rattle.std.proofs.Common.{◌∙◌}
use Rattle.pf_calls.proofs.Rounds.{round_next}
use Rattle.pf_calls.proofs.ranks.round.Goals as goal

pub loop-places-preserved : goal.loop-places-preserved
loop-places-preserved c =
    c.in_ok-push.ensures.items
    ∙ round_next c.args.links.now c.args.within.now c.loop-places.places-index c.places-item.result c.items.result.now c.are_within.result c.loop-places.next.items c.loop-places-test.true c.places-item.is c.items.ensures c.are_within.ensures c.loop-places.invariant
