use Rattle.std.proofs.Common.{◌≡◌, drop}
use Rattle.pf_state.specs.Commits.{paths_of}
use Rattle.pf_state.specs.Tickets.{stale}
use Rattle.pf_state.proofs.commit.stale.Given as goal

abbrev pub invariant-loop-part : goal.invariant-loop-part
invariant-loop-part l = stale l.tickets l.held (paths_of (drop l.part-index l.parts)) ≡ stale l.tickets l.held (paths_of l.parts)
