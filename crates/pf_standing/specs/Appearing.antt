-- A plan that is accepted appears whole (pf(4), DIOCXCOMMIT): what changes with it, and that nothing else does.
use Rattle.std.specs.Prelude.{◌≡◌, ℕ, ◌+◌, List, Contains, Some, None, Ok}
use Rattle.std.specs.FinMap as finite
use Rattle.pf_script.specs.declared.command.LoadLine.{LoadLine}
use Rattle.pf_source.specs.Disk.{Disk}
use Rattle.pf_state.specs.Commits.{paths_of, settings_behind, stands_at}
use Rattle.pf_state.specs.Tickets.{ticket_at}
use Rattle.pf_state.specs.declared.machine.Machine.{Machine}
use Rattle.pf_state.specs.declared.ready.Opened.{Opened}
use Rattle.pf_state.specs.declared.ready.Ready.{Ready}
use Rattle.pf_engine.specs.LoadLines.{LineComes}

-- the plan stands: at each path what a load of it puts there, and, where the load is into the main ruleset, its settings in place
-- of the old ones; the facts are as they were
pub record Appears (ready : Ready) (before after : Machine) : Type 0 where
  pub rulesets : (path : List (List ℕ)) → finite.get after.rulesets path ≡ stands_at ready.parts before.rulesets path
  pub whole : after.whole ≡ settings_behind before.whole ready.whole
  pub facts : after.facts ≡ before.facts

-- The plan of an open session stands, of which no ruleset was begun anew since; the session is closed, all others are as they
-- were, and no ticket is drawn.
pub record AppearsByCommit (name : List ℕ) (before after : Machine) : Type 0 where
  pub session : Opened
  pub was_open : finite.get before.sessions name ≡ Some session
  pub fresh : (path : List (List ℕ)) → Contains (paths_of session.ready.parts) path → ticket_at before.tickets path ≡ session.ticket
  pub appears : Appears session.ready before after
  pub closed : finite.get after.sessions name ≡ None
  pub others : (other : List ℕ) → (other ≡ name → ⊥) → finite.get after.sessions other ≡ finite.get before.sessions other
  pub tickets : after.tickets ≡ before.tickets
  pub next : after.next ≡ before.next

-- The plan that the files of the line come to stands; its rulesets have the ticket that was next, all others theirs, and the
-- sessions are as they were.
pub record AppearsByLoad (disk : Disk) (line : LoadLine) (before after : Machine) : Type 0 where
  pub ready : Ready
  pub comes : LineComes disk before.facts line (Ok ready)
  pub appears : Appears ready before after
  pub sessions : after.sessions ≡ before.sessions
  pub drawn : (path : List (List ℕ)) → Contains (paths_of ready.parts) path → ticket_at after.tickets path ≡ before.next
  pub others : (path : List (List ℕ)) → (Contains (paths_of ready.parts) path → ⊥) → ticket_at after.tickets path ≡ ticket_at before.tickets path
  pub next : after.next ≡ before.next + 1
