-- A plan while it is made: what the statements so far have put into it.
use Rattle.std.specs.Prelude.{ℕ, ◌-◌, Bool, true, false, ◌&&◌, ◌==◌, not, List, [], ◌∷◌, ◌++◌, length, Option, Some, None}
use Rattle.std.specs.FinMap as finite
use Rattle.pf_base.specs.declared.fault.Place.{Place}
use Rattle.pf_base.specs.declared.kind.Level.{Level}
use Rattle.pf_base.specs.declared.kind.Level.TheVariants as levels
use Rattle.pf_parts.specs.declared.block.BlockKind.TheVariants as blocks
use Rattle.pf_parts.specs.declared.params.Queues.{Queues}
use Rattle.pf_rule.specs.declared.rule.Rule.{Rule}
use Rattle.pf_decl.specs.declared.check.UsedQueue.{UsedQueue}
use Rattle.pf_decl.specs.declared.form.OptionLine.{OptionLine}
use Rattle.pf_decl.specs.declared.form.Queue.{Queue}
use Rattle.pf_decl.specs.declared.form.Setting.{Setting}
use Rattle.pf_decl.specs.declared.form.Setting.TheVariants as settings
use Rattle.pf_shelf.specs.declared.decl.TableDecl.{TableDecl}
use Rattle.pf_plan.specs.declared.draft.Draft.{Draft}
use Rattle.pf_plan.specs.declared.draft.Filling.{Filling}
use Rattle.pf_plan.specs.declared.draft.Policies.{Policies}
use Rattle.pf_plan.specs.declared.draft.Ruleset.{Ruleset}

abbrev pub is_empty : {A : Type 0} → List A → Bool
is_empty items = length items == 0

-- at the start of a unit a plain block drops, and states aren't bound to an interface (pf.conf(5), OPTIONS)
abbrev pub first_policies : Policies
first_policies = record { block = blocks.Drop; bound = false }

-- a ruleset without rules, begun at this place
abbrev pub begun_ruleset : List (List ℕ) → Place → Ruleset
begun_ruleset path place = record { path = path; place = place; rules = []; tables = [] }

abbrev pub begun_filling : List (List ℕ) → Place → Filling
begun_filling path place = record { own = begun_ruleset path place; inside = []; nameless = 0 }

-- a load into the ruleset at this path, whose first unit is the file at this place
abbrev pub begun_draft : List (List ℕ) → Place → Draft
begun_draft path place = record {
  is_main = is_empty path;
  parts = [];
  loads = [];
  begun = 0;
  filled = finite.empty;
  options = [];
  queues = [];
  used = [];
  policies = first_policies;
  here = begun_filling path place;
  outer = [];
}

-- a body is open
abbrev pub is_in_body : Draft → Bool
is_in_body draft = not (is_empty draft.outer)

-- in the main ruleset, in no body
abbrev pub is_in_main : Draft → Bool
is_in_main draft = is_empty draft.outer && is_empty draft.here.own.path

-- how many rules more its ruleset is given, of which the last is one too many
abbrev pub most_rules : ℕ
most_rules = 16384

abbrev pub room_of : Draft → ℕ
room_of draft = 16385 - length draft.here.own.rules

abbrev pub second_use : Option (List ℕ) → Place → List UsedQueue
second_use None place = []
second_use (Some name) place = record { name = name; place = place } ∷ []

-- the queues that a rule names, at its statement's place
abbrev pub uses_at : Option Queues → Place → List UsedQueue
uses_at None place = []
uses_at (Some queues) place = record { name = queues.first; place = place } ∷ second_use queues.second place

-- only in a load into the main ruleset are the names of queues looked at
abbrev pub uses_in : Bool → Option Queues → Place → List UsedQueue
uses_in true queues place = uses_at queues place
uses_in false queues place = []

abbrev pub more_rules : Ruleset → List Rule → Ruleset
more_rules filled rules = record filled { rules = filled.rules ++ rules }

-- rules more, and the queues that they name
abbrev pub with_rules : Draft → List Rule → Option Queues → Place → Draft
with_rules draft rules queues place = record draft {
  here = record draft.here { own = more_rules draft.here.own rules };
  used = draft.used ++ uses_in draft.is_main queues place;
}

abbrev pub more_tables : Ruleset → TableDecl → Ruleset
more_tables filled table = record filled { tables = filled.tables ++ table ∷ [] }

-- one table more
abbrev pub with_table : Draft → TableDecl → Draft
with_table draft table = record draft { here = record draft.here { own = more_tables draft.here.own table } }

-- a policy acts from its line on
abbrev pub policy_behind : Policies → Setting → Policies
policy_behind policies (settings.Block kind) = record policies { block = kind }
policy_behind policies (settings.Bound bound) = record policies { bound = bound }
policy_behind policies (settings.Skip name) = policies
policy_behind policies (settings.Level level) = policies
policy_behind policies settings.Other = policies

abbrev pub policies_behind : Policies → List OptionLine → Policies
policies_behind policies [] = policies
policies_behind policies (line ∷ lines) = policies_behind (policy_behind policies line.setting) lines

-- lines of settings more
abbrev pub with_lines : Draft → List OptionLine → Draft
with_lines draft lines = record draft { options = draft.options ++ lines; policies = policies_behind draft.policies lines }

-- one queue more
abbrev pub with_queue : Draft → Queue → Draft
with_queue draft queue = record draft { queues = draft.queues ++ queue ∷ [] }
