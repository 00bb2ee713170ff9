-- How much stands and how much waits between two script lines: how many sessions are open, and the rules, rulesets and entries of
-- the tree and of all open plans together are no more than their limits.
use Rattle.std.specs.Prelude.{ℕ, ◌≤◌, length}
use Rattle.std.specs.FinMap as finite
use Rattle.std.specs.List.{sum_by}
use Rattle.pf_shelf.specs.Shelf.{name_cmp}
use Rattle.pf_state.specs.Limits.{most_entries, most_rules, most_rulesets, planned_entries, planned_rules, plans_of}
use Rattle.pf_state.specs.Rulesets.{count_entries, count_rules}
use Rattle.pf_state.specs.Sessions.{most_sessions}
use Rattle.pf_state.specs.declared.machine.Machine.{Machine}
use Rattle.pf_state.specs.declared.ready.Opened.{Opened}

-- the rules, the rulesets and the entries of declared tables of all open plans together
abbrev pub all_planned_rules : finite.FinMap name_cmp Opened → ℕ
all_planned_rules sessions = sum_by (λ (session : Opened). planned_rules session.ready) (plans_of sessions)

abbrev pub all_planned_rulesets : finite.FinMap name_cmp Opened → ℕ
all_planned_rulesets sessions = sum_by (λ (session : Opened). length session.ready.parts) (plans_of sessions)

abbrev pub all_planned_entries : finite.FinMap name_cmp Opened → ℕ
all_planned_entries sessions = sum_by (λ (session : Opened). planned_entries session.ready) (plans_of sessions)

pub record IsWithin (machine : Machine) : Type 0 where
  pub sessions : finite.len machine.sessions ≤ most_sessions
  pub rules : count_rules machine.rulesets ≤ most_rules
  pub rulesets : finite.len machine.rulesets ≤ most_rulesets
  pub entries : count_entries machine.rulesets ≤ most_entries
  pub planned_rules : all_planned_rules machine.sessions ≤ most_rules
  pub planned_rulesets : all_planned_rulesets machine.sessions ≤ most_rulesets
  pub planned_entries : all_planned_entries machine.sessions ≤ most_entries
