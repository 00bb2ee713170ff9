-- Tickets are numbers from 1: 0 stands for none.
use Rattle.std.specs.Prelude.{◌≡◌, ℕ, ◌<◌, List, Some}
use Rattle.std.specs.FinMap as finite
use Rattle.pf_state.specs.Tickets.{Tickets}
use Rattle.pf_state.specs.declared.machine.Machine.{Machine}
use Rattle.pf_state.specs.declared.ready.Opened.{Opened}

-- each path that was given a ticket was given a number
abbrev pub AreNumbers : Tickets → Type 0
AreNumbers tickets = (path : List (List ℕ)) (ticket : ℕ) → finite.get tickets path ≡ Some ticket → 0 < ticket

-- the tickets of paths and of open sessions, and the next one
pub record TicketsAreNumbers (machine : Machine) : Type 0 where
  pub next : 0 < machine.next
  pub paths : AreNumbers machine.tickets
  pub sessions : (name : List ℕ) (session : Opened) → finite.get machine.sessions name ≡ Some session → 0 < session.ticket
