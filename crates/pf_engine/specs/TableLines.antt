-- The `table` lines (pfctl(8), -T). The words are read first, then the table is looked for.
use Rattle.std.specs.Prelude.{◌≡◌, ℕ, List, [], ◌∷◌, length, map, is_some, Option, Some, None, Result, Ok, Err, if◌then◌else◌}
use Rattle.pf_addr.specs.Grammar.{IsAddrText}
use Rattle.pf_addr.specs.declared.addr.Addr.{Addr}
use Rattle.pf_print.specs.TableText.{entry_text}
use Rattle.pf_reply.specs.declared.refusal.Refusal.{Refusal}
use Rattle.pf_reply.specs.declared.refusal.Refusal.TheVariants.{BadAddress, TableMissing}
use Rattle.pf_reply.specs.declared.reply.Listing.TheVariants.{Table as entries_of_a_table}
use Rattle.pf_reply.specs.declared.reply.Reply.{Reply}
use Rattle.pf_reply.specs.declared.reply.Reply.TheVariants.{Added, Deleted, Replaced, Emptied, Matched}
use Rattle.pf_runs.specs.Runs.{Stepped}
use Rattle.pf_script.specs.declared.command.TableAction.{TableAction}
use Rattle.pf_script.specs.declared.command.TableAction.TheVariants as actions
use Rattle.pf_shelf.specs.declared.change.ChangeKind.{ChangeKind}
use Rattle.pf_shelf.specs.declared.change.ChangeKind.TheVariants as kinds
use Rattle.pf_shelf.specs.declared.change.Counts.{Counts}
use Rattle.pf_state.specs.Tables.{change_counts, change_refusal, entries_at, matches_at, table_at, with_table}
use Rattle.pf_state.specs.Words.{IsEntryWord, ReadsAll}
use Rattle.pf_state.specs.declared.machine.Machine.{Machine}
use Rattle.pf_table.specs.declared.entry.Entry.{Entry}
use Rattle.pf_engine.specs.Steps.{done, done_unless, refused, shown}

-- what is told of a change, of so many words
abbrev pub told : ChangeKind → Counts → ℕ → Reply
told kinds.Add counts words = Added counts.added words
told kinds.Delete counts words = Deleted counts.deleted words
told kinds.Replace counts words = Replaced counts.added counts.deleted
told kinds.Flush counts words = Emptied counts.deleted

-- a change by these entries
abbrev pub changed_by : Machine → List (List ℕ) → List ℕ → ChangeKind → List Entry → Stepped Machine
changed_by machine path name kind entries =
    done_unless (change_refusal machine.rulesets path name kind entries) machine (with_table path name kind entries machine)
    (told kind (change_counts machine.rulesets path name kind entries) (length entries))

-- a change by words: the first that is no entry is told
abbrev pub changed_as : Machine → List (List ℕ) → List ℕ → ChangeKind → Result (List Entry) (List ℕ) → Stepped Machine
changed_as machine path name kind (Ok entries) = changed_by machine path name kind entries
changed_as machine path name kind (Err word) = refused machine (BadAddress word)

pub record ChangeDoes (machine : Machine) (path : List (List ℕ)) (name : List ℕ) (kind : ChangeKind) (words : List (List ℕ)) (does : Stepped Machine) : Type 0 where
  pub read : Result (List Entry) (List ℕ)
  pub reads : ReadsAll IsEntryWord words read
  pub is : does ≡ changed_as machine path name kind read

-- something is told of a table that is there
abbrev pub if_there : Machine → List (List ℕ) → List ℕ → Stepped Machine → Stepped Machine
if_there machine path name does = if is_some (table_at machine.rulesets path name) then does else refused machine (TableMissing name)

abbrev pub shown_table : Machine → List (List ℕ) → List ℕ → Stepped Machine
shown_table machine path name = shown machine entries_of_a_table (map entry_text (entries_at machine.rulesets path name))

-- how many of these addresses are in a table
abbrev pub matched : Machine → List (List ℕ) → List ℕ → List Addr → Stepped Machine
matched machine path name addrs = done machine (Matched (matches_at machine.rulesets path name addrs) (length addrs))

abbrev pub tested_as : Machine → List (List ℕ) → List ℕ → Result (List Addr) (List ℕ) → Stepped Machine
tested_as machine path name (Ok addrs) = if_there machine path name (matched machine path name addrs)
tested_as machine path name (Err word) = refused machine (BadAddress word)

pub record TableTestDoes (machine : Machine) (path : List (List ℕ)) (name : List ℕ) (words : List (List ℕ)) (does : Stepped Machine) : Type 0 where
  pub read : Result (List Addr) (List ℕ)
  pub reads : ReadsAll IsAddrText words read
  pub is : does ≡ tested_as machine path name read

abbrev pub TableDoes : Machine → List (List ℕ) → List ℕ → TableAction → Stepped Machine → Type 0
TableDoes machine path name (actions.Add words) does = ChangeDoes machine path name kinds.Add words does
TableDoes machine path name (actions.Delete words) does = ChangeDoes machine path name kinds.Delete words does
TableDoes machine path name (actions.Replace words) does = ChangeDoes machine path name kinds.Replace words does
TableDoes machine path name actions.Flush does = does ≡ changed_by machine path name kinds.Flush []
TableDoes machine path name actions.Show does = does ≡ if_there machine path name (shown_table machine path name)
TableDoes machine path name (actions.Test words) does = TableTestDoes machine path name words does
