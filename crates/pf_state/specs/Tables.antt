-- The `table` lines (pfctl(8), Tables): what they change of the tables of one ruleset, and what they are told.
use Rattle.std.specs.Prelude.{◌≡◌, ℕ, List, [], ◌∷◌, is_none, Option, Some, None, if◌then◌else◌, count_by}
use Rattle.std.specs.FinMap as finite
use Rattle.pf_addr.specs.declared.addr.Addr.{Addr}
use Rattle.pf_optim.specs.declared.node.Node.{Node}
use Rattle.pf_shelf.specs.Change.{changed, changed_at, counts, is_const}
use Rattle.pf_shelf.specs.Renewed.{standing}
use Rattle.pf_shelf.specs.declared.change.ChangeKind.{ChangeKind}
use Rattle.pf_shelf.specs.declared.change.Counts.{Counts}
use Rattle.pf_shelf.specs.declared.decl.Shelved.{Shelved}
use Rattle.pf_table.specs.Table.{entries_of, member}
use Rattle.pf_table.specs.declared.entry.Entry.{Entry}
use Rattle.pf_reply.specs.declared.refusal.Refusal.{Refusal}
use Rattle.pf_reply.specs.declared.refusal.Refusal.TheVariants as refusals
use Rattle.pf_state.specs.Limits.{first_of, most_entries, over}
use Rattle.pf_state.specs.Rulesets.{Rulesets, count_entries, tables_in}
use Rattle.pf_state.specs.declared.machine.Machine.{Machine}
use Rattle.pf_state.specs.declared.tables.Changed.{Changed}
use Rattle.pf_state.specs.declared.tables.Changed.TheVariants.{Done, Refused}

-- the table of this name of the ruleset itself
abbrev pub table_at : Rulesets → List (List ℕ) → List ℕ → Option Shelved
table_at rulesets path name = finite.get (tables_in (finite.get rulesets path)) name

-- the rulesets with that table changed
abbrev pub with_change : Rulesets → List (List ℕ) → List ℕ → ChangeKind → List Entry → Option Node → Rulesets
with_change rulesets path name kind words None = rulesets
with_change rulesets path name kind words (Some node) = finite.insert rulesets path (record node { shelf = changed_at node.shelf name kind words })

abbrev pub changed_rulesets : Rulesets → List (List ℕ) → List ℕ → ChangeKind → List Entry → Rulesets
changed_rulesets rulesets path name kind words = with_change rulesets path name kind words (finite.get rulesets path)

-- why the table isn't changed: there is none, it is constant, or the tables of the tree would have too many entries
abbrev pub change_refusals : Rulesets → List (List ℕ) → List ℕ → ChangeKind → List Entry → List (Option Refusal)
change_refusals rulesets path name kind words =
    let after = count_entries (changed_rulesets rulesets path name kind words) in
    (if is_none (table_at rulesets path name) then Some (refusals.TableMissing name) else None)
    ∷ ((if is_const (table_at rulesets path name) then Some (refusals.TableConst name) else None)
    ∷ (over most_entries after (refusals.TablesFull after) ∷ []))

abbrev pub change_refusal : Rulesets → List (List ℕ) → List ℕ → ChangeKind → List Entry → Option Refusal
change_refusal rulesets path name kind words = first_of (change_refusals rulesets path name kind words)

-- the entries that are new, and those that are gone
abbrev pub change_counts : Rulesets → List (List ℕ) → List ℕ → ChangeKind → List Entry → Counts
change_counts rulesets path name kind words =
    let table = standing (table_at rulesets path name) in counts table (changed kind words table)

-- the machine with the table changed
abbrev pub with_table : List (List ℕ) → List ℕ → ChangeKind → List Entry → Machine → Machine
with_table path name kind words machine = record machine { rulesets = changed_rulesets machine.rulesets path name kind words }

-- the entries of a table
abbrev pub entries_at : Rulesets → List (List ℕ) → List ℕ → List Entry
entries_at rulesets path name = entries_of (standing (table_at rulesets path name))

-- how many of these addresses are in it
abbrev pub matches_at : Rulesets → List (List ℕ) → List ℕ → List Addr → ℕ
matches_at rulesets path name addrs = count_by (λ addr. member (entries_at rulesets path name) addr) addrs

-- the table was changed, and so much was told
pub record IsDone (machine : Machine) (path : List (List ℕ)) (name : List ℕ) (kind : ChangeKind) (words : List Entry) (after : Machine) (told : Counts) : Type 0 where
  pub allowed : change_refusal machine.rulesets path name kind words ≡ None
  pub told_is : told ≡ change_counts machine.rulesets path name kind words
  pub changed_is : after ≡ with_table path name kind words machine

-- it wasn't, and the machine is as it was
pub record IsRefused (machine : Machine) (path : List (List ℕ)) (name : List ℕ) (kind : ChangeKind) (words : List Entry) (after : Machine) (refusal : Refusal) : Type 0 where
  pub why : change_refusal machine.rulesets path name kind words ≡ Some refusal
  pub same : after ≡ machine

abbrev pub IsChanged : Machine → List (List ℕ) → List ℕ → ChangeKind → List Entry → Machine → Changed → Type 0
IsChanged machine path name kind words after (Done told) = IsDone machine path name kind words after told
IsChanged machine path name kind words after (Refused refusal) = IsRefused machine path name kind words after refusal
