-- Each line does something.
use Rattle.std.proofs.Common.{◌≡◌, ℕ, Bool, true, false, List, [], ◌∷◌, length, Option, Some, None, Result, Ok, Err, refl, sym, inl, inr}
use Rattle.std.specs.Prelude.{nat_lt}
use Rattle.std.specs.FinMap as finite
use Rattle.std.specs.Option.{option_map}
use Rattle.std.proofs.lemmas.Bool.{false≢true}
use Rattle.std.proofs.lemmas.Map.Made.{is_member-Decides}
use Rattle.pf_addr.specs.Grammar.{IsAddrText}
use Rattle.pf_calls.specs.CallLaws.{paths_decide}
use Rattle.pf_calls.specs.Graph.{IsListed}
use Rattle.pf_calls.specs.declared.row.CallFault.{CallFault}
use Rattle.pf_host.specs.Facts.{HostFacts}
use Rattle.pf_load.specs.Load.{ComesToSomething, Loads, Outcome}
use Rattle.pf_load.specs.declared.loading.LoadFault.TheVariants.{File, CannotRead, NoMemory}
use Rattle.pf_load.specs.declared.loading.LoadOptions.{LoadOptions}
use Rattle.pf_optim.specs.declared.rows.Row.{Row}
use Rattle.pf_reply.specs.declared.refusal.Refusal.{Refusal}
use Rattle.pf_reply.specs.declared.refusal.Refusal.TheVariants as refusals
use Rattle.pf_reply.specs.declared.reply.Reply.TheVariants as replies
use Rattle.pf_runs.specs.Runs.{DoesSome, Stepped}
use Rattle.pf_script.specs.Command.{command_of}
use Rattle.pf_script.specs.declared.command.Command.{Command}
use Rattle.pf_script.specs.declared.command.Command.TheVariants as commands
use Rattle.pf_script.specs.declared.command.LoadLine.{LoadLine}
use Rattle.pf_script.specs.declared.command.TableAction.{TableAction}
use Rattle.pf_script.specs.declared.command.TableAction.TheVariants as actions
use Rattle.pf_shelf.specs.declared.change.ChangeKind.{ChangeKind}
use Rattle.pf_shelf.specs.declared.change.ChangeKind.TheVariants as kinds
use Rattle.pf_source.specs.Disk.{Disk}
use Rattle.pf_state.specs.Commits.{committed, loaded, paths_of, ready_of}
use Rattle.pf_state.specs.Judging.{CallsAre, Judged, call_refusal}
use Rattle.pf_state.specs.Limits.{first_of, tree_limits}
use Rattle.pf_state.specs.Rulesets.{Rulesets, graph_in}
use Rattle.pf_state.specs.Sessions.{closed, entry_refusal, finished, open_refusal, opened}
use Rattle.pf_state.specs.Tickets.{stale}
use Rattle.pf_state.specs.Words.{IsEntryWord, ReadsAll, behind, is_negated, none, nothing, one, unsigned}
use Rattle.pf_state.specs.declared.machine.Machine.{Machine}
use Rattle.pf_state.specs.declared.ready.Opened.{Opened}
use Rattle.pf_state.specs.declared.ready.Ready.{Ready}
use Rattle.pf_engine.specs.Answering.{loads}
use Rattle.pf_engine.specs.HostLines.{FactsIn, FactsSized, HostsDoes, with_facts}
use Rattle.pf_engine.specs.LoadLines.{Checking, ComesBehind, LineComes, Loading, OpenBehind, Opening, ProfileIn, ProfileReads, ProfileSized, filled_of, most_bytes, options_of}
use Rattle.pf_engine.specs.SessionLines.{CommitOf, step_flush, step_rollback}
use Rattle.pf_engine.specs.ShowLines.{show}
use Rattle.pf_engine.specs.Step.{LineDoes, step}
use Rattle.pf_engine.specs.Steps.{done_unless, refused}
use Rattle.pf_engine.specs.TableLines.{ChangeDoes, TableDoes, changed_as, changed_by, if_there, shown_table, tested_as}
use Rattle.pf_engine.specs.TestLines.{TestDoes, tested}
use Rattle.pf_engine.proofs.FactsFound.{facts_or_fault}
use Rattle.pf_engine.proofs.Faulted.{some_fault, told_cycle, told_deep, told_none}
use Rattle.pf_engine.proofs.PacketsFound.{some_reading}
use Rattle.pf_engine.proofs.ProfilesFound.{Surely, rows_or_fault, surely, surely_then}
use Rattle.pf_engine.proofs.Written.{Decided, addr_or_not, decided_by, prefix_or_not}

-- ---- judging

-- all rulesets that call others have a path
listed : (rulesets : Rulesets) → IsListed (graph_in rulesets) (finite.keys rulesets)
listed rulesets = record { all = λ path here. (is_member-Decides paths_decide (finite.keys rulesets) path).0 here }

-- the calls of rulesets have a fault or none
pub some_calls : (rulesets : Rulesets) → (fault : Option CallFault) × CallsAre (graph_in rulesets) fault
some_calls rulesets =
    let found = some_fault (graph_in rulesets) (finite.keys rulesets) (listed rulesets) in (
      found.0,
      record {
        cycle = told_cycle (graph_in rulesets) found.0 found.1;
        deep = told_deep (graph_in rulesets) found.0 found.1;
        none = told_none (graph_in rulesets) found.0 found.1;
      },
    )

-- rulesets are judged
record SomeJudged (first : List (Option Refusal)) (rulesets : Rulesets) : Type 0 where
  refusal : Option Refusal
  judged : Judged first rulesets refusal

some_judged : (first : List (Option Refusal)) (rulesets : Rulesets) → SomeJudged first rulesets
some_judged first rulesets =
    let calls = some_calls rulesets in
    record { refusal = first_of (first_of first ∷ option_map call_refusal calls.0 ∷ tree_limits rulesets); judged = record { calls = calls.0; are = calls.1; is = refl } }

-- ---- words

entry_or_not : (word : List ℕ) → Decided (IsEntryWord word)
entry_or_not word =
    decided_by (λ prefix is. (record { prefix = prefix; negated = is_negated word }, record { text = is; sign = refl })) (λ entry is. (entry.prefix, is.text)) (prefix_or_not (unsigned word))

record SomeWords {A : Type 0} (IsText : List ℕ → A → Type 0) (words : List (List ℕ)) : Type 0 where
  read : Result (List A) (List ℕ)
  reads : ReadsAll IsText words read

module _ {A : Type 0} (IsText : List ℕ → A → Type 0) (each : (word : List ℕ) → Decided (IsText word)) where
  more_words : (word : List ℕ) (words : List (List ℕ)) (item : A) → IsText word item → (read : Result (List A) (List ℕ)) → ReadsAll IsText words read → SomeWords IsText (word ∷ words)
  more_words word words item is (Ok items) reads = record { read = Ok (item ∷ items); reads = one is reads }
  more_words word words item is (Err other) reads = record { read = Err other; reads = behind is reads }

  some_words : (words : List (List ℕ)) → SomeWords IsText words
  some_words [] = record { read = Ok []; reads = nothing }
  some_words (word ∷ words) =
      elim (each word) [
        | inl some ↦ (let rest = some_words words in more_words word words some.0 some.1 rest.read rest.reads)
        | inr nor ↦ record { read = Err word; reads = none nor }
      ]

-- ---- lines that load no file

record SomeStep (Does : Stepped Machine → Type 0) : Type 0 where
  pub does : Stepped Machine
  pub is : Does does

some_commit : (session : Option Opened) (machine : Machine) (name : List ℕ) → SomeStep (CommitOf session machine name)
some_commit None machine name = record { does = refused machine (refusals.NoSession name); is = refl }
some_commit (Some session) machine name =
    let found = some_judged (stale machine.tickets session.ticket (paths_of session.ready.parts) ∷ []) (committed session.ready.parts machine.rulesets) in
    record {
      does = done_unless found.refusal (closed name machine) (finished name session machine) (replies.Committed name);
      is = record { refusal = found.refusal; judged = found.judged; is = refl };
    }

some_change : (machine : Machine) (path : List (List ℕ)) (name : List ℕ) (kind : ChangeKind) (words : List (List ℕ)) → SomeStep (ChangeDoes machine path name kind words)
some_change machine path name kind words =
    let found = some_words IsEntryWord entry_or_not words in
    record { does = changed_as machine path name kind found.read; is = record { read = found.read; reads = found.reads; is = refl } }

some_table : (machine : Machine) (path : List (List ℕ)) (name : List ℕ) (action : TableAction) → SomeStep (TableDoes machine path name action)
some_table machine path name (actions.Add words) = let found = some_change machine path name kinds.Add words in record { does = found.does; is = found.is }
some_table machine path name (actions.Delete words) = let found = some_change machine path name kinds.Delete words in record { does = found.does; is = found.is }
some_table machine path name (actions.Replace words) = let found = some_change machine path name kinds.Replace words in record { does = found.does; is = found.is }
some_table machine path name actions.Flush = record { does = changed_by machine path name kinds.Flush []; is = refl }
some_table machine path name actions.Show = record { does = if_there machine path name (shown_table machine path name); is = refl }
some_table machine path name (actions.Test words) =
    let found = some_words IsAddrText addr_or_not words in
    record { does = tested_as machine path name found.read; is = record { read = found.read; reads = found.reads; is = refl } }

record SomeAnswer {A : Type 0} (Reads : Result A Refusal → Type 0) : Type 0 where
  answer : Result A Refusal
  reads : Reads answer

facts_by : (text : List ℕ) (large : Bool) → SomeAnswer (FactsSized large text)
facts_by text true = record { answer = Err (refusals.FactsFault 0); reads = refl }
facts_by text false =
    elim (facts_or_fault text) [
      | inl some ↦ record { answer = Ok some.0; reads = some.1 }
      | inr at ↦ record { answer = Err (refusals.FactsFault at.line); reads = record { cause = at.cause; fault = at.is } }
    ]

some_facts : (name : List ℕ) (held : Option (List ℕ)) → SomeAnswer (FactsIn name held)
some_facts name None = record { answer = Err (refusals.CannotRead name); reads = refl }
some_facts name (Some text) = let found = facts_by text (nat_lt most_bytes (length text)) in record { answer = found.answer; reads = found.reads }

some_hosts : (disk : Disk) (machine : Machine) (file : List ℕ) → SomeStep (HostsDoes disk machine file)
some_hosts disk machine file =
    let found = some_facts file (disk file) in
    record { does = with_facts machine found.answer; is = record { answer = found.answer; reads = found.reads; is = refl } }

some_test : (machine : Machine) (text : List ℕ) → SomeStep (TestDoes machine text)
some_test machine text =
    let found = some_reading text in
    record { does = tested machine found.0; is = record { read = found.0; reads = found.1; is = refl } }

by_command : (disk : Disk) (machine : Machine) (command : Option Command) → loads command ≡ false → SomeStep (LineDoes disk machine command)
by_command disk machine None h = record { does = refused machine refusals.BadCommand; is = refl }
by_command disk machine (Some (commands.Load line)) h = absurd (false≢true (sym h))
by_command disk machine (Some (commands.Check line)) h = absurd (false≢true (sym h))
by_command disk machine (Some (commands.Open name line)) h = absurd (false≢true (sym h))
by_command disk machine (Some (commands.Commit name)) h = let found = some_commit (finite.get machine.sessions name) machine name in record { does = found.does; is = found.is }
by_command disk machine (Some (commands.Rollback name)) h = record { does = step_rollback machine name; is = refl }
by_command disk machine (Some (commands.Flush path)) h = record { does = step_flush machine path; is = refl }
by_command disk machine (Some (commands.Table path name action)) h = let found = some_table machine path name action in record { does = found.does; is = found.is }
by_command disk machine (Some (commands.Show what)) h = record { does = show machine what; is = refl }
by_command disk machine (Some (commands.Hosts file)) h = let found = some_hosts disk machine file in record { does = found.does; is = found.is }
by_command disk machine (Some (commands.Test text)) h = let found = some_test machine text in record { does = found.does; is = found.is }

pub line_does_some : (disk : Disk) (machine : Machine) (line : List ℕ) → loads (command_of line) ≡ false → DoesSome step disk machine line
unfolding step
line_does_some disk machine line h = let found = by_command disk machine (command_of line) h in record { does = found.does; steps = found.is }

-- ---- lines that load a file

profile_by : (text : List ℕ) (large : Bool) → Surely (SomeAnswer (ProfileSized large text))
profile_by text true = surely (record { answer = Err (refusals.ProfileFault 0); reads = refl })
profile_by text false =
    surely_then (rows_or_fault text) (λ found. elim found [
      | inl some ↦ surely (record { answer = Ok some.0; reads = some.1 })
      | inr at ↦ surely (record { answer = Err (refusals.ProfileFault at.0); reads = at.1 })
    ])

profile_in : (name : List ℕ) (held : Option (List ℕ)) → Surely (SomeAnswer (ProfileIn name held))
profile_in name None = surely (record { answer = Err (refusals.CannotRead name); reads = refl })
profile_in name (Some text) = surely_then (profile_by text (nat_lt most_bytes (length text))) (λ found. surely (record { answer = found.answer; reads = found.reads }))

some_profile : (disk : Disk) (name : Option (List ℕ)) → Surely (SomeAnswer (ProfileReads disk name))
some_profile disk None = surely (record { answer = Ok []; reads = refl })
some_profile disk (Some name) = surely_then (profile_in name (disk name)) (λ found. surely (record { answer = found.answer; reads = found.reads }))

-- what the crate of loads says
pub record LoadsSome : Type 0 where
  pub comes : (disk : Disk) (facts : HostFacts) (options : LoadOptions) (file : List ℕ) → ComesToSomething disk facts options file
  pub no_want : (disk : Disk) (facts : HostFacts) (options : LoadOptions) (file : List ℕ) → Loads disk facts options file (Err NoMemory) → ⊥

record SomeComes (disk : Disk) (facts : HostFacts) (line : LoadLine) : Type 0 where
  answer : Result Ready Refusal
  comes : LineComes disk facts line answer

record SomeBehind (disk : Disk) (facts : HostFacts) (line : LoadLine) (profile : Result (List Row) Refusal) : Type 0 where
  answer : Result Ready Refusal
  comes : ComesBehind disk facts line profile answer

module _ (law : LoadsSome) where
  by_outcome : (disk : Disk) (facts : HostFacts) (line : LoadLine) (rows : List Row) (outcome : Outcome) → Loads disk facts (options_of line) line.file outcome → SomeBehind disk facts line (Ok rows)
  by_outcome disk facts line rows (Ok plan) comes = record { answer = Ok (ready_of rows plan); comes = record { outcome = Ok plan; loads = comes; is = refl } }
  by_outcome disk facts line rows (Err (File kind place name)) comes = record { answer = Err (refusals.LoadFault kind name place.line); comes = record { outcome = Err (File kind place name); loads = comes; is = refl } }
  by_outcome disk facts line rows (Err (CannotRead name)) comes = record { answer = Err (refusals.CannotRead name); comes = record { outcome = Err (CannotRead name); loads = comes; is = refl } }
  by_outcome disk facts line rows (Err NoMemory) comes = absurd (law.no_want disk facts (options_of line) line.file comes)

  some_behind : (disk : Disk) (facts : HostFacts) (line : LoadLine) (profile : Result (List Row) Refusal) → Surely (SomeBehind disk facts line profile)
  some_behind disk facts line (Err refusal) = surely (record { answer = Err refusal; comes = refl })
  some_behind disk facts line (Ok rows) = λ none. law.comes disk facts (options_of line) line.file (λ outcome comes. none (by_outcome disk facts line rows outcome comes))

  some_comes : (disk : Disk) (facts : HostFacts) (line : LoadLine) → Surely (SomeComes disk facts line)
  some_comes disk facts line =
      surely_then (some_profile disk line.profile) (λ read.
      surely_then (some_behind disk facts line read.answer) (λ found. surely (record { answer = found.answer; comes = record { profile = read.answer; reads = read.reads; comes = found.comes } })))

  some_loading : (machine : Machine) (answer : Result Ready Refusal) → SomeStep (Loading machine answer)
  some_loading machine (Err refusal) = record { does = refused machine refusal; is = refl }
  some_loading machine (Ok ready) =
      let found = some_judged [] (committed ready.parts machine.rulesets) in
      record { does = done_unless found.refusal machine (loaded ready machine) (replies.Loaded (filled_of ready)); is = record { refusal = found.refusal; judged = found.judged; is = refl } }

  some_checking : (machine : Machine) (answer : Result Ready Refusal) → SomeStep (Checking machine answer)
  some_checking machine (Err refusal) = record { does = refused machine refusal; is = refl }
  some_checking machine (Ok ready) =
      let found = some_judged [] (committed ready.parts machine.rulesets) in
      record { does = done_unless found.refusal machine machine (replies.Checked (filled_of ready)); is = record { refusal = found.refusal; judged = found.judged; is = refl } }

  some_opening : (machine : Machine) (name : List ℕ) (answer : Result Ready Refusal) → SomeStep (Opening machine name answer)
  some_opening machine name (Err refusal) = record { does = refused machine refusal; is = refl }
  some_opening machine name (Ok ready) = record { does = done_unless (open_refusal machine ready) machine (opened name ready machine) (replies.Opened name machine.next); is = refl }

  some_open : (refusal : Option Refusal) (disk : Disk) (machine : Machine) (name : List ℕ) (line : LoadLine) → Surely (SomeStep (OpenBehind refusal disk machine name line))
  some_open (Some refusal) disk machine name line = surely (record { does = refused machine refusal; is = refl })
  some_open None disk machine name line =
      surely_then (some_comes disk machine.facts line) (λ found.
      let opening = some_opening machine name found.answer in surely (record { does = opening.does; is = record { answer = found.answer; comes = found.comes; opening = opening.is } }))

  by_any : (disk : Disk) (machine : Machine) (command : Option Command) → Surely (SomeStep (LineDoes disk machine command))
  by_any disk machine (Some (commands.Load line)) =
      surely_then (some_comes disk machine.facts line) (λ found.
      let loading = some_loading machine found.answer in surely (record { does = loading.does; is = record { answer = found.answer; comes = found.comes; loading = loading.is } }))
  by_any disk machine (Some (commands.Check line)) =
      surely_then (some_comes disk machine.facts line) (λ found.
      let checking = some_checking machine found.answer in surely (record { does = checking.does; is = record { answer = found.answer; comes = found.comes; checking = checking.is } }))
  by_any disk machine (Some (commands.Open name line)) = some_open (entry_refusal machine name) disk machine name line
  by_any disk machine None = surely (by_command disk machine None refl)
  by_any disk machine (Some (commands.Commit name)) = surely (by_command disk machine (Some (commands.Commit name)) refl)
  by_any disk machine (Some (commands.Rollback name)) = surely (by_command disk machine (Some (commands.Rollback name)) refl)
  by_any disk machine (Some (commands.Flush path)) = surely (by_command disk machine (Some (commands.Flush path)) refl)
  by_any disk machine (Some (commands.Table path name action)) = surely (by_command disk machine (Some (commands.Table path name action)) refl)
  by_any disk machine (Some (commands.Show what)) = surely (by_command disk machine (Some (commands.Show what)) refl)
  by_any disk machine (Some (commands.Hosts file)) = surely (by_command disk machine (Some (commands.Hosts file)) refl)
  by_any disk machine (Some (commands.Test text)) = surely (by_command disk machine (Some (commands.Test text)) refl)

  pub line_does_no_less : (disk : Disk) (machine : Machine) (line : List ℕ) → (DoesSome step disk machine line → ⊥) → ⊥
  unfolding step
  line_does_no_less disk machine line nor = by_any disk machine (command_of line) (λ found. nor (record { does = found.does; steps = found.is }))
