-- The end of a unit, and the plan of a load (pf.conf(5), OPTIONS, QUEUEING; pfctl(8), -f, -o).
use Rattle.std.specs.Prelude.{◌≡◌, ℕ, Bool, true, false, nat_lt, List, [], ◌∷◌, ◌++◌, length, map, Option, Some, None, Result, Ok, Err, if◌then◌else◌}
use Rattle.std.specs.List.{flat_map}
use Rattle.pf_base.specs.declared.fault.FaultKind.TheVariants as kinds
use Rattle.pf_base.specs.declared.kind.Level.{Level}
use Rattle.pf_base.specs.declared.kind.Level.TheVariants as levels
use Rattle.pf_decl.specs.Checks.{Judged}
use Rattle.pf_decl.specs.declared.check.QueueFault.{QueueFault}
use Rattle.pf_decl.specs.declared.form.OptionLine.{OptionLine}
use Rattle.pf_decl.specs.declared.form.Setting.{Setting}
use Rattle.pf_decl.specs.declared.form.Setting.TheVariants as settings
use Rattle.pf_plan.specs.Drafts.{is_empty, most_rules}
use Rattle.pf_fault.specs.Order.{fault_at}
use Rattle.pf_plan.specs.declared.draft.Draft.{Draft}
use Rattle.pf_plan.specs.declared.draft.Filling.{Filling}
use Rattle.pf_plan.specs.declared.draft.Ruleset.{Ruleset}
use Rattle.pf_fault.specs.declared.fault.Fault.{Fault}
use Rattle.pf_plan.specs.declared.plan.Part.{Part}
use Rattle.pf_plan.specs.declared.plan.Plan.{Plan}
use Rattle.pf_plan.specs.declared.plan.Whole.{Whole}

-- the level of a setting, over the one before
abbrev pub level_behind : Level → Setting → Level
level_behind level (settings.Level set) = set
level_behind level (settings.Skip name) = level
level_behind level (settings.Block kind) = level
level_behind level (settings.Bound bound) = level
level_behind level settings.Other = level

abbrev pub level_after : Level → List OptionLine → Level
level_after level [] = level
level_after level (line ∷ lines) = level_after (level_behind level line.setting) lines

-- the level that is given, else that of the last `set ruleset-optimization`, else `basic`
abbrev pub level_of : Option Level → List OptionLine → Level
level_of (Some level) lines = level
level_of None lines = level_after levels.Basic lines

-- the name of `set skip on`; the names of all lines add up
abbrev pub skipped_by : Setting → List (List ℕ)
skipped_by (settings.Skip name) = name ∷ []
skipped_by (settings.Level level) = []
skipped_by (settings.Block kind) = []
skipped_by (settings.Bound bound) = []
skipped_by settings.Other = []

abbrev pub skipped : List OptionLine → List (List ℕ)
skipped lines = flat_map (λ (line : OptionLine). skipped_by line.setting) lines

-- the rulesets of a unit, in the order in which they were begun
abbrev pub rulesets_of : Filling → List Ruleset
rulesets_of filling = filling.own ∷ filling.inside

abbrev pub part_of : Ruleset → Part
part_of filled = record { path = filled.path; rules = filled.rules; tables = filled.tables }

-- options, interfaces that are passed over and queues stand in a plan of the main ruleset alone
abbrev pub whole_of : Draft → Bool → Option Whole
whole_of draft true = Some (record { options = draft.options; skip = skipped draft.options; queues = draft.queues })
whole_of draft false = None

-- the plan of a load whose units were read to their ends
abbrev pub plan_of : Option Level → Draft → Plan
plan_of given draft = record {
  parts = draft.parts ++ map part_of (rulesets_of draft.here);
  whole = whole_of draft draft.is_main;
  level = level_of given draft.options;
}

-- a body that isn't closed: the innermost, at its statement
abbrev pub unclosed : List Filling → Ruleset → Option Fault
unclosed outer filled = if is_empty outer then None else Some (fault_at kinds.UnclosedBody filled.place)

abbrev pub or_else : Option Fault → Option Fault → Option Fault
or_else None other = other
or_else (Some fault) other = Some fault

-- a ruleset of too many rules
abbrev pub too_many : Ruleset → Option Fault
too_many filled = if nat_lt most_rules (length filled.rules) then Some (fault_at (kinds.TooManyRules 16385) filled.place) else None

-- the first of them
abbrev pub overfull : List Ruleset → Option Fault
overfull [] = None
overfull (filled ∷ rulesets) = or_else (too_many filled) (overfull rulesets)

abbrev pub queue_fault : Result (Unit {0}) QueueFault → Option Fault
queue_fault (Ok fine) = None
queue_fault (Err fault) = Some (fault_at fault.kind fault.place)

-- the fault of the end of a unit, whose queues are judged so
abbrev pub end_fault : Draft → Result (Unit {0}) QueueFault → Option Fault
end_fault draft queues = or_else (unclosed draft.outer draft.here.own) (or_else (queue_fault queues) (overfull (rulesets_of draft.here)))

-- What comes at the end of a unit: a body that isn't closed, then a fault of the queues, then a ruleset of too many rules.
pub record HasEndFault (draft : Draft) (fault : Option Fault) : Type 0 where
  pub queues : Result (Unit {0}) QueueFault
  pub judged : Judged draft.queues draft.used queues
  pub is : fault ≡ end_fault draft queues
