use Rattle.std.proofs.Common.{take}
use Rattle.pf_calls.specs.Search.{IsMarked}
use Rattle.pf_calls.proofs.search.mark.Given as goal

abbrev pub invariant-loop-place : goal.invariant-loop-place
invariant-loop-place l = IsMarked l.initial.seen.items l.initial.todo.items (take l.place-index l.places) l.seen.items l.todo.items
