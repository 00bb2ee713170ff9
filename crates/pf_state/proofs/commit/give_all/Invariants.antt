use Rattle.std.proofs.Common.{◌≡◌, drop}
use Rattle.pf_state.specs.Tickets.{given}
use Rattle.pf_state.proofs.commit.give_all.Given as goal

abbrev pub invariant-loop-path : goal.invariant-loop-path
invariant-loop-path l = record {
  payloads : given l.number (drop l.path-index l.paths) l.tickets.payloads ≡ given l.number l.paths l.initial.tickets.payloads;
  prepared : l.tickets.prepared ≡ l.initial.tickets.prepared;
}
