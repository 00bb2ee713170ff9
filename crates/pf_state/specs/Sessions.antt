-- Sessions: a load of which nothing stands in the tree before its commit.
use Rattle.std.specs.Prelude.{ℕ, List, [], ◌∷◌, is_some, map, nat_le, Option, Some, None, if◌then◌else◌}
use Rattle.std.specs.FinMap as finite
use Rattle.pf_reply.specs.declared.refusal.Refusal.{Refusal}
use Rattle.pf_reply.specs.declared.refusal.Refusal.TheVariants as refusals
use Rattle.pf_state.specs.Commits.{paths_of, placed, shelf_of}
use Rattle.pf_shelf.specs.Shelf.{Tables}
use Rattle.pf_state.specs.Limits.{first_of, plan_limits}
use Rattle.pf_state.specs.Tickets.{drawn}
use Rattle.pf_state.specs.declared.machine.Machine.{Machine}
use Rattle.pf_state.specs.declared.ready.Opened.{Opened}
use Rattle.pf_state.specs.declared.ready.Ready.{Ready}

-- so many sessions may be open
abbrev pub most_sessions : ℕ
most_sessions = 64

-- before any file is read: a session of that name is open, or as many are open as may be
abbrev pub entry_refusals : Machine → List ℕ → List (Option Refusal)
entry_refusals machine name =
    (if is_some (finite.get machine.sessions name) then Some (refusals.SessionOpen name) else None)
    ∷ ((if nat_le most_sessions (finite.len machine.sessions) then Some refusals.SessionsFull else None) ∷ [])

abbrev pub entry_refusal : Machine → List ℕ → Option Refusal
entry_refusal machine name = first_of (entry_refusals machine name)

-- behind the load: the limits on all open plans
abbrev pub open_refusal : Machine → Ready → Option Refusal
open_refusal machine ready = first_of (plan_limits machine.sessions ready)

-- a session is opened: it draws a ticket for its rulesets
abbrev pub opened : List ℕ → Ready → Machine → Machine
opened name ready machine =
    record (drawn (paths_of ready.parts) machine) { sessions = finite.insert machine.sessions name (record { ready = ready; ticket = machine.next }) }

-- a session is closed; tickets stay
abbrev pub closed : List ℕ → Machine → Machine
closed name machine = record machine { sessions = finite.remove machine.sessions name }

-- a session's plan is put in place, and the session is closed
abbrev pub finished : List ℕ → Opened → Machine → Machine
finished name session machine = closed name (placed session.ready machine)

-- the same where such a session is open
abbrev pub finished_as : List ℕ → Option Opened → Machine → Machine
finished_as name None machine = machine
finished_as name (Some session) machine = finished name session machine

-- the tables of its rulesets, renewed from those that stand
abbrev pub shelves_for : Machine → Option Opened → List Tables
shelves_for machine None = []
shelves_for machine (Some session) = map (shelf_of machine.rulesets) session.ready.parts
