-- Tickets: each load, session or flush begins its rulesets with a number of its own, the next one. A session whose rulesets
-- were begun anew since is stale (pf(4), DIOCXBEGIN and DIOCXCOMMIT).
use Rattle.std.specs.Prelude.{ℕ, ◌+◌, ◌==◌, List, [], ◌∷◌, map, Option, Some, None, if◌then◌else◌}
use Rattle.std.specs.FinMap as finite
use Rattle.std.specs.Option.{option_map_or}
use Rattle.pf_tree.specs.Order.{path_cmp}
use Rattle.pf_reply.specs.declared.refusal.Refusal.{Refusal}
use Rattle.pf_reply.specs.declared.refusal.Refusal.TheVariants as refusals
use Rattle.pf_state.specs.declared.machine.Machine.{Machine}

-- the tickets that paths were given
abbrev pub Tickets : Type 0
Tickets = finite.FinMap path_cmp ℕ

-- a path that was given none has the ticket 0
abbrev pub ticket_at : Tickets → List (List ℕ) → ℕ
ticket_at tickets path = option_map_or (λ ticket. ticket) (finite.get tickets path) 0

-- the ticket is given to each of these paths
abbrev pub given : ℕ → List (List (List ℕ)) → Tickets → Tickets
given ticket [] tickets = tickets
given ticket (path ∷ paths) tickets = given ticket paths (finite.insert tickets path ticket)

-- the next ticket is drawn, and each of these paths has it then
abbrev pub drawn : List (List (List ℕ)) → Machine → Machine
drawn paths machine = record machine { tickets = given machine.next paths machine.tickets; next = machine.next + 1 }

-- the first of the paths that hasn't this ticket
abbrev pub stale : Tickets → ℕ → List (List (List ℕ)) → Option Refusal
stale tickets held [] = None
stale tickets held (path ∷ paths) =
    if held == ticket_at tickets path then stale tickets held paths else Some (refusals.Stale path held (ticket_at tickets path))
