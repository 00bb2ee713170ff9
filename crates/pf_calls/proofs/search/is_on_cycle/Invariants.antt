use Rattle.std.proofs.Common.{◌+◌, length}
use Rattle.pf_calls.specs.Search.{IsSearch, unseen}
use Rattle.pf_calls.proofs.search.is_on_cycle.Given as goal

abbrev pub invariant-loop-place : goal.invariant-loop-place
invariant-loop-place l = IsSearch l.links l.start l.seen.items l.todo.items

abbrev pub decreases-loop-place : goal.decreases-loop-place
decreases-loop-place l = unseen l.seen.items + length l.todo.items
