-- What `table` lines are told, by what came of them.
use Rattle.std.proofs.Common.{◌≡◌, ℕ, Bool, true, false, List, [], ◌∷◌, ◌++◌, map, length, Option, Some, None, Result, Ok, Err, refl, sym, ap, subst, ◌∙◌}
use Rattle.std.specs.Prelude.{IfOk, OnOk, count_by, is_some, if◌then◌else◌}
use Rattle.std.specs.FinMap as finite
use Rattle.std.specs.Option.{option_map}
use Rattle.pf_addr.specs.Grammar.{IsAddrText}
use Rattle.pf_addr.specs.declared.addr.Addr.{Addr}
use Rattle.pf_base.specs.declared.memory.NoMemory.{NoMemory}
use Rattle.pf_optim.specs.declared.node.Node.{Node}
use Rattle.pf_print.specs.TableText.{entry_text}
use Rattle.pf_reply.specs.Refusals.{refusal_text}
use Rattle.pf_reply.specs.Replies as replies
use Rattle.pf_reply.specs.declared.refusal.Refusal.{Refusal}
use Rattle.pf_reply.specs.declared.refusal.Refusal.TheVariants.{BadAddress, TableMissing}
use Rattle.pf_reply.specs.declared.reply.Listing.TheVariants.{Table as entries_of_a_table}
use Rattle.pf_reply.specs.declared.reply.Reply.TheVariants.{Matched}
use Rattle.pf_runs.specs.Runs.{Stepped, reply_text}
use Rattle.pf_script.specs.declared.command.TableAction.{TableAction}
use Rattle.pf_shelf.specs.Renewed.{standing}
use Rattle.pf_shelf.specs.declared.change.ChangeKind.{ChangeKind}
use Rattle.pf_shelf.specs.declared.change.Counts.{Counts}
use Rattle.pf_shelf.specs.declared.decl.Shelved.{Shelved}
use Rattle.pf_shelf.specs.Shelf.{name_cmp}
use Rattle.pf_state.specs.Rulesets.{Rulesets, tables_in}
use Rattle.pf_state.specs.Tables.{IsDone, IsRefused, change_counts, table_at, with_table}
use Rattle.pf_state.specs.Words.{IsEntryWord, ReadsAll}
use Rattle.pf_state.specs.declared.machine.Machine.{Machine}
use Rattle.pf_table.specs.Table.{Signs, entries_of, member}
use Rattle.pf_table.specs.declared.entry.Entry.{Entry}
use Rattle.pf_engine.specs.Answering.{Adds, DoesSo, is_refused}
use Rattle.pf_engine.specs.Kept.{IsKept}
use Rattle.pf_engine.specs.Steps.{done, done_unless, refused, shown}
use Rattle.pf_engine.specs.TableLines.{ChangeDoes, TableDoes, TableTestDoes, changed_by, if_there, matched, shown_table, told}
use Rattle.pf_engine.specs.WordsRead.{read_of}
use Rattle.pf_engine.specs.declared.tables.Items.{Items}
use Rattle.pf_engine.specs.declared.tables.Items.TheVariants.{All, Not}
use Rattle.pf_engine.specs.declared.outcome.Outcome.{Outcome}
use Rattle.pf_engine.specs.declared.outcome.Outcome.TheVariants.{Done, Refused}
use Rattle.pf_engine.proofs.Doing.{refused_so, so_too, told_so}
use Rattle.pf_engine.proofs.Keeping.{change_keeps}
use Rattle.pf_engine.proofs.Shallow.{FewerStays}

module _ (machine after : Machine) (path : List (List ℕ)) (name : List ℕ) (kind : ChangeKind) (words : List Entry) where
  abbrev Changes : Stepped Machine → Type 0
  Changes does = does ≡ changed_by machine path name kind words

  -- the table was changed
  pub change_told : (counts : Counts) (old new : List ℕ) → IsDone machine path name kind words after counts → new ≡ old ++ reply_text (replies.reply_text (told kind counts (length words)) ∷ [])
      → Adds old new (λ bytes. DoesSo Changes after bytes (is_refused Done))
  change_told counts old new is a =
      told_so Changes (done (with_table path name kind words machine) (told kind (change_counts machine.rulesets path name kind words) (length words))) after Done old new
      (reply_text (replies.reply_text (told kind counts (length words)) ∷ []))
      (sym (ap (λ (r : Option Refusal). done_unless r machine (with_table path name kind words machine) (told kind (change_counts machine.rulesets path name kind words) (length words))) is.allowed))
      is.changed_is refl (ap (λ (cs : Counts). reply_text (replies.reply_text (told kind cs (length words)) ∷ [])) is.told_is) a

  -- it wasn't
  pub change_refused : (refusal : Refusal) (result : Result Outcome NoMemory) (old new : List ℕ) → IsRefused machine path name kind words after refusal
      → IfOk result (λ outcome. outcome ≡ Refused) → OnOk result (new ≡ old ++ reply_text (refusal_text refusal ∷ []))
      → IfOk result (λ outcome. Adds old new (λ bytes. DoesSo Changes after bytes (is_refused outcome)))
  change_refused refusal result old new is r a =
      subst (λ (m : Machine). IfOk result (λ outcome. Adds old new (λ bytes. DoesSo Changes m bytes (is_refused outcome)))) (sym is.same)
      (refused_so Changes machine refusal result old new
      (sym (ap (λ (r : Option Refusal). done_unless r machine (with_table path name kind words machine) (told kind (change_counts machine.rulesets path name kind words) (length words))) is.why)) r a)

  pub done_keeps : (stays : FewerStays) (counts : Counts) → IsKept machine → IsDone machine path name kind words after counts → IsKept after
  done_keeps stays counts kept is = subst IsKept (sym is.changed_is) (change_keeps stays machine path name kind words kept is.allowed)

  pub refused_keeps : (refusal : Refusal) → IsKept machine → IsRefused machine path name kind words after refusal → IsKept after
  refused_keeps refusal kept is = subst IsKept (sym is.same) kept

-- ---- the table that is there, or isn't

abbrev table_of : Option Shelved → Option Signs
table_of found = option_map (λ (one : Shelved). one.table) found

there : (found : Option Shelved) (table : Signs) → Some table ≡ table_of found → is_some found ≡ true
there None table e = absurd cc
there (Some one) table e = refl

stands : (found : Option Shelved) (table : Signs) → Some table ≡ table_of found → standing found ≡ table
stands None table e = absurd cc
stands (Some one) table e = cc

missing : (found : Option Shelved) → None ≡ table_of found → is_some found ≡ false
missing None e = refl
missing (Some one) e = absurd cc

abbrev pub matches_in : Signs → List Addr → ℕ
matches_in table addrs = count_by (λ (addr : Addr). member (entries_of table) addr) addrs

-- no ruleset stands there
pub none_at : (rulesets : Rulesets) (path : List (List ℕ)) (name : List ℕ) → None ≡ finite.get rulesets path → None ≡ table_of (table_at rulesets path name)
none_at rulesets path name e =
    sym (ap table_of (ap (λ (node : Option Node). finite.get (tables_in node) name) (sym e) ∙ finite.get-empty name_cmp name))

module _ (machine : Machine) (path : List (List ℕ)) (name : List ℕ) where
  pub none_there : (does : Stepped Machine) → None ≡ table_of (table_at machine.rulesets path name) → refused machine (TableMissing name) ≡ if_there machine path name does
  none_there does e = sym (ap (λ (b : Bool). if b then does else refused machine (TableMissing name)) (missing (table_at machine.rulesets path name) e))

  one_there : (does : Stepped Machine) (table : Signs) → Some table ≡ table_of (table_at machine.rulesets path name) → if_there machine path name does ≡ does
  one_there does table e = ap (λ (b : Bool). if b then does else refused machine (TableMissing name)) (there (table_at machine.rulesets path name) table e)

  pub shown_there : (table : Signs) → Some table ≡ table_of (table_at machine.rulesets path name) → shown machine entries_of_a_table (map entry_text (entries_of table)) ≡ if_there machine path name (shown_table machine path name)
  shown_there table e =
      sym (one_there (shown_table machine path name) table e
      ∙ ap (λ (t : Signs). shown machine entries_of_a_table (map entry_text (entries_of t))) (stands (table_at machine.rulesets path name) table e))

  pub matched_there : (addrs : List Addr) (table : Signs) (count : ℕ) → Some table ≡ table_of (table_at machine.rulesets path name) → count ≡ matches_in table addrs → done machine (Matched count (length addrs)) ≡ if_there machine path name (matched machine path name addrs)
  matched_there addrs table count e n =
      ap (λ (k : ℕ). done machine (Matched k (length addrs))) (n ∙ ap (λ (t : Signs). matches_in t addrs) (sym (stands (table_at machine.rulesets path name) table e)))
      ∙ sym (one_there (matched machine path name addrs) table e)

-- ---- words that are read first

module _ (machine after : Machine) (path : List (List ℕ)) (name : List ℕ) (kind : ChangeKind) (words : List (List ℕ)) where
  pub by_words : (items : Items Entry) (entries now : List Entry) (result : Result Outcome NoMemory) (old new : List ℕ)
      → ReadsAll IsEntryWord words (read_of items) → items ≡ All entries → now ≡ entries
      → IfOk result (λ outcome. Adds old new (λ bytes. DoesSo (λ does. does ≡ changed_by machine path name kind now) after bytes (is_refused outcome)))
      → IfOk result (λ outcome. Adds old new (λ bytes. DoesSo (ChangeDoes machine path name kind words) after bytes (is_refused outcome)))
  by_words items entries now result old new reads is same h =
      so_too (λ (does : Stepped Machine). does ≡ changed_by machine path name kind now) (ChangeDoes machine path name kind words) after result old new
      (λ does e. record {
        read = Ok now;
        reads = subst (λ (es : List Entry). ReadsAll IsEntryWord words (Ok es)) (sym same) (subst (λ (its : Items Entry). ReadsAll IsEntryWord words (read_of its)) is reads);
        is = e;
      }) h

module _ (machine : Machine) (path : List (List ℕ)) (name : List ℕ) where
  pub not_words : (kind : ChangeKind) (words : List (List ℕ)) (items : Items Entry) (word : List ℕ) (result : Result Outcome NoMemory) (old new : List ℕ)
      → ReadsAll IsEntryWord words (read_of items) → items ≡ Not word
      → IfOk result (λ outcome. outcome ≡ Refused) → OnOk result (new ≡ old ++ reply_text (refusal_text (BadAddress word) ∷ []))
      → IfOk result (λ outcome. Adds old new (λ bytes. DoesSo (ChangeDoes machine path name kind words) machine bytes (is_refused outcome)))
  not_words kind words items word result old new reads is r a =
      refused_so (ChangeDoes machine path name kind words) machine (BadAddress word) result old new
      (record { read = Err word; reads = subst (λ (its : Items Entry). ReadsAll IsEntryWord words (read_of its)) is reads; is = refl }) r a

  pub test_words : (words : List (List ℕ)) (items : Items Addr) (addrs now : List Addr) (result : Result Outcome NoMemory) (old new : List ℕ)
      → ReadsAll IsAddrText words (read_of items) → items ≡ All addrs → now ≡ addrs
      → IfOk result (λ outcome. Adds old new (λ bytes. DoesSo (λ does. does ≡ if_there machine path name (matched machine path name now)) machine bytes (is_refused outcome)))
      → IfOk result (λ outcome. Adds old new (λ bytes. DoesSo (TableTestDoes machine path name words) machine bytes (is_refused outcome)))
  test_words words items addrs now result old new reads is same h =
      so_too (λ (does : Stepped Machine). does ≡ if_there machine path name (matched machine path name now)) (TableTestDoes machine path name words) machine result old new
      (λ does e. record {
        read = Ok now;
        reads = subst (λ (all : List Addr). ReadsAll IsAddrText words (Ok all)) (sym same) (subst (λ (its : Items Addr). ReadsAll IsAddrText words (read_of its)) is reads);
        is = e;
      }) h

  pub not_addrs : (words : List (List ℕ)) (items : Items Addr) (word : List ℕ) (result : Result Outcome NoMemory) (old new : List ℕ)
      → ReadsAll IsAddrText words (read_of items) → items ≡ Not word
      → IfOk result (λ outcome. outcome ≡ Refused) → OnOk result (new ≡ old ++ reply_text (refusal_text (BadAddress word) ∷ []))
      → IfOk result (λ outcome. Adds old new (λ bytes. DoesSo (TableTestDoes machine path name words) machine bytes (is_refused outcome)))
  not_addrs words items word result old new reads is r a =
      refused_so (TableTestDoes machine path name words) machine (BadAddress word) result old new
      (record { read = Err word; reads = subst (λ (its : Items Addr). ReadsAll IsAddrText words (read_of its)) is reads; is = refl }) r a

-- the same action
pub by_action : (machine after : Machine) (path : List (List ℕ)) (name : List ℕ) (action other : TableAction) (result : Result Outcome NoMemory) (old new : List ℕ) → action ≡ other
    → IfOk result (λ outcome. Adds old new (λ bytes. DoesSo (TableDoes machine path name other) after bytes (is_refused outcome)))
    → IfOk result (λ outcome. Adds old new (λ bytes. DoesSo (TableDoes machine path name action) after bytes (is_refused outcome)))
by_action machine after path name action other result old new e h =
    subst (λ (one : TableAction). IfOk result (λ outcome. Adds old new (λ bytes. DoesSo (TableDoes machine path name one) after bytes (is_refused outcome)))) (sym e) h
