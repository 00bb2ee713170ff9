-- How much may stand: in the tree, and in all open sessions together.
use Rattle.std.specs.Prelude.{ℕ, ◌+◌, List, [], ◌∷◌, length, nat_lt, Option, Some, None, if◌then◌else◌}
use Rattle.std.specs.FinMap as finite
use Rattle.std.specs.List.{sum_by}
use Rattle.std.specs.Option.{option_or}
use Rattle.pf_reply.specs.declared.refusal.Overfull.TheVariants.{Rules, Rulesets as Nodes}
use Rattle.pf_reply.specs.declared.refusal.Refusal.{Refusal}
use Rattle.pf_reply.specs.declared.refusal.Refusal.TheVariants as refusals
use Rattle.pf_shelf.specs.Shelf.{name_cmp}
use Rattle.pf_shelf.specs.declared.decl.TableDecl.{TableDecl}
use Rattle.pf_state.specs.Rulesets.{Rulesets, count_entries, count_rules}
use Rattle.pf_state.specs.declared.ready.Opened.{Opened}
use Rattle.pf_state.specs.declared.ready.Ready.{Ready}
use Rattle.pf_state.specs.declared.ready.Staged.{Staged}

-- the most rules as they are written, the most rulesets with a rule or a table, and the most entries of declared tables
abbrev pub most_rules : ℕ
most_rules = 131072

abbrev pub most_rulesets : ℕ
most_rulesets = 4096

abbrev pub most_entries : ℕ
most_entries = 262144

-- the first of several refusals
abbrev pub first_of : List (Option Refusal) → Option Refusal
first_of [] = None
first_of (refusal ∷ refusals) = option_or refusal (first_of refusals)

-- more than so many
abbrev pub over : ℕ → ℕ → Refusal → Option Refusal
over most count refusal = if nat_lt most count then Some refusal else None

-- the limits, in the order in which they are tried
abbrev pub limits : ℕ → ℕ → ℕ → List (Option Refusal)
limits rules rulesets entries =
    over most_rules rules (refusals.TreeFull Rules rules)
    ∷ (over most_rulesets rulesets (refusals.TreeFull Nodes rulesets)
    ∷ (over most_entries entries (refusals.TablesFull entries) ∷ []))

-- those of a tree
abbrev pub tree_limits : Rulesets → List (Option Refusal)
tree_limits rulesets = limits (count_rules rulesets) (finite.len rulesets) (count_entries rulesets)

-- the number of rules of a plan, and of the entries that its tables declare
abbrev pub planned_rules : Ready → ℕ
planned_rules ready = sum_by (λ part. length part.rules.rules) ready.parts

abbrev pub declared_entries : Staged → ℕ
declared_entries part = sum_by (λ (decl : TableDecl). length decl.entries) part.tables

abbrev pub planned_entries : Ready → ℕ
planned_entries ready = sum_by declared_entries ready.parts

-- the plans of the open sessions
abbrev pub plans_of : finite.FinMap name_cmp Opened → List Opened
plans_of sessions = finite.values sessions

-- the limits on all open plans together with a new one
abbrev pub plan_limits : finite.FinMap name_cmp Opened → Ready → List (Option Refusal)
plan_limits sessions ready = limits
    (sum_by (λ (opened : Opened). planned_rules opened.ready) (plans_of sessions) + planned_rules ready)
    (sum_by (λ (opened : Opened). length opened.ready.parts) (plans_of sessions) + length ready.parts)
    (sum_by (λ (opened : Opened). planned_entries opened.ready) (plans_of sessions) + planned_entries ready)
