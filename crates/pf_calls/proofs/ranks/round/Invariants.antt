use Rattle.std.proofs.Common.{◌≡◌, take}
use Rattle.pf_calls.specs.Numbered.{next_round}
use Rattle.pf_calls.proofs.ranks.round.Given as goal

abbrev pub invariant-loop-places : goal.invariant-loop-places
invariant-loop-places l = l.next.items ≡ next_round (take l.places-index l.links) l.within
