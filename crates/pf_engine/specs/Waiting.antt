-- Plans that wait for their commit: which lines change rulesets, and which sessions are stale (pf(4), DIOCXBEGIN and DIOCXCOMMIT).
use Rattle.std.specs.Prelude.{◌≡◌, ℕ, Bool, true, false, List, Contains, Option, Some, None}
use Rattle.pf_runs.specs.Runs.{Stepped}
use Rattle.pf_script.specs.declared.command.Command.{Command}
use Rattle.pf_script.specs.declared.command.Command.TheVariants as commands
use Rattle.pf_script.specs.declared.command.TableAction.{TableAction}
use Rattle.pf_script.specs.declared.command.TableAction.TheVariants as actions
use Rattle.pf_state.specs.Commits.{paths_of}
use Rattle.pf_state.specs.Sessions.{closed}
use Rattle.pf_state.specs.Tickets.{ticket_at}
use Rattle.pf_state.specs.declared.machine.Machine.{Machine}
use Rattle.pf_state.specs.declared.ready.Opened.{Opened}

-- entries are changed by all that is done with a table but showing it and testing addresses
abbrev pub changes_entries : TableAction → Bool
changes_entries actions.Show = false
changes_entries (actions.Test words) = false
changes_entries action = true

-- a load and a commit put a plan in place, a flush takes rules away, and entries of tables are changed; no other line changes rulesets
abbrev pub changes_rulesets : Option Command → Bool
changes_rulesets (Some (commands.Load line)) = true
changes_rulesets (Some (commands.Commit name)) = true
changes_rulesets (Some (commands.Flush path)) = true
changes_rulesets (Some (commands.Table path name action)) = changes_entries action
changes_rulesets command = false

-- the same rulesets with the same tables stand, and the same settings
pub record StandsAsBefore (before after : Machine) : Type 0 where
  pub rulesets : after.rulesets ≡ before.rulesets
  pub whole : after.whole ≡ before.whole

-- a ruleset of the session's plan has another ticket than the session
pub record IsStale (machine : Machine) (session : Opened) : Type 0 where
  pub path : List (List ℕ)
  pub part : Contains (paths_of session.ready.parts) path
  pub other : session.ticket ≡ ticket_at machine.tickets path → ⊥

-- the line is refused, and all that it does is to close the session
pub record OnlyCloses (name : List ℕ) (before : Machine) (does : Stepped Machine) : Type 0 where
  pub refused : does.refused ≡ true
  pub machine : does.machine ≡ closed name before
