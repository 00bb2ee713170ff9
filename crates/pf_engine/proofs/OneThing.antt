-- Over the same files a line does one thing, where a load, a record, a profile and a facts file are read in one way.
use Rattle.std.proofs.Common.{◌≡◌, ℕ, ◌⊎◌, Bool, true, false, List, [], ◌∷◌, length, Option, Some, None, Result, Ok, Err, refl, sym, ap, subst, ◌∙◌, inl, inr}
use Rattle.std.specs.Prelude.{nat_lt}
use Rattle.std.specs.FinMap as finite
use Rattle.std.specs.Option.{option_map}
use Rattle.pf_addr.specs.Grammar.{IsAddrText}
use Rattle.pf_addr.specs.PrefixText.{IsPrefixText}
use Rattle.pf_addr.specs.declared.addr.Addr.{Addr}
use Rattle.pf_addr.specs.declared.prefix.Prefix.{Prefix}
use Rattle.pf_calls.specs.Graph.{Graph}
use Rattle.pf_calls.specs.declared.row.CallFault.{CallFault}
use Rattle.pf_calls.specs.declared.row.CallFault.TheVariants.{Cycle, Deep}
use Rattle.pf_host.specs.Facts.{HostFacts}
use Rattle.pf_host.specs.Meaning as host
use Rattle.pf_host.specs.declared.fault.FactsCause.{FactsCause}
use Rattle.pf_load.specs.Load.{Loads, Outcome}
use Rattle.pf_load.specs.declared.loading.LoadOptions.{LoadOptions}
use Rattle.pf_optim.specs.Profile as profile
use Rattle.pf_optim.specs.declared.rows.Row.{Row}
use Rattle.pf_record.specs.Record.{IsReadAs}
use Rattle.pf_record.specs.declared.field.PacketFault.{PacketFault}
use Rattle.pf_reply.specs.declared.refusal.Refusal.{Refusal}
use Rattle.pf_reply.specs.declared.refusal.Refusal.TheVariants as refusals
use Rattle.pf_reply.specs.declared.reply.Reply.TheVariants as replies
use Rattle.pf_rule.specs.declared.packet.Packet.{Packet}
use Rattle.pf_runs.specs.Runs.{DoesOneThing, Stepped}
use Rattle.pf_script.specs.Command.{command_of}
use Rattle.pf_script.specs.declared.command.Command.{Command}
use Rattle.pf_script.specs.declared.command.Command.TheVariants as commands
use Rattle.pf_script.specs.declared.command.LoadLine.{LoadLine}
use Rattle.pf_script.specs.declared.command.TableAction.{TableAction}
use Rattle.pf_script.specs.declared.command.TableAction.TheVariants as actions
use Rattle.pf_shelf.specs.declared.change.ChangeKind.{ChangeKind}
use Rattle.pf_shelf.specs.declared.change.ChangeKind.TheVariants as kinds
use Rattle.pf_source.specs.Disk.{Disk}
use Rattle.pf_state.specs.Commits.{loaded}
use Rattle.pf_state.specs.Judging.{CallsAre, Judged, call_refusal}
use Rattle.pf_state.specs.Limits.{first_of, tree_limits}
use Rattle.pf_state.specs.Rulesets.{Rulesets}
use Rattle.pf_state.specs.Sessions.{closed, entry_refusal, finished}
use Rattle.pf_state.specs.Words.{IsEntryWord, ReadsAll, behind, none, nothing, one, unsigned}
use Rattle.pf_state.specs.declared.machine.Machine.{Machine}
use Rattle.pf_state.specs.declared.ready.Opened.{Opened}
use Rattle.pf_state.specs.declared.ready.Ready.{Ready}
use Rattle.pf_table.specs.declared.entry.Entry.{Entry}
use Rattle.pf_engine.specs.HostLines.{FactsIn, FactsSay, FactsSized, HasFault, HostsDoes, with_facts}
use Rattle.pf_engine.specs.LoadLines.{CheckDoes, Checking, ComesBehind, FileComes, LineComes, LoadDoes, Loading, OpenBehind, Opening, ProfileIn, ProfileReads, ProfileSays, ProfileSized, filled_of, most_bytes, options_of, ready_by}
use Rattle.pf_engine.specs.SessionLines.{CommitOf}
use Rattle.pf_engine.specs.Step.{LineDoes, step}
use Rattle.pf_engine.specs.Steps.{done_unless}
use Rattle.pf_engine.specs.TableLines.{ChangeDoes, TableDoes, TableTestDoes, changed_as, tested_as}
use Rattle.pf_engine.specs.TestLines.{TestDoes, tested}

-- what the crates below say of what they read
pub record ReadOneWay : Type 0 where
  pub loads : (disk : Disk) (facts : HostFacts) (options : LoadOptions) (file : List ℕ) (a b : Outcome) → Loads disk facts options file a → Loads disk facts options file b → a ≡ b
  pub record_text : (text : List ℕ) (a b : Result Packet PacketFault) → IsReadAs text a → IsReadAs text b → a ≡ b
  pub rows : (text : List ℕ) (rows others : List Row) → profile.IsProfileText text rows → profile.IsProfileText text others → rows ≡ others
  pub row_line : (text : List ℕ) (line other : ℕ) → profile.IsFaultAt text line → profile.IsFaultAt text other → line ≡ other
  pub rows_apart : (text : List ℕ) (rows : List Row) (line : ℕ) → profile.IsProfileText text rows → profile.IsFaultAt text line → ⊥
  pub facts : (text : List ℕ) (facts other : HostFacts) → host.IsFactsText text facts → host.IsFactsText text other → facts ≡ other
  pub fact_line : (text : List ℕ) (line : ℕ) (cause : FactsCause) (other_line : ℕ) (other_cause : FactsCause) → host.IsFaultAt text line cause → host.IsFaultAt text other_line other_cause → (line ≡ other_line) × (cause ≡ other_cause)
  pub facts_apart : (text : List ℕ) (facts : HostFacts) (line : ℕ) (cause : FactsCause) → host.IsFactsText text facts → host.IsFaultAt text line cause → ⊥
  pub addr : (text : List ℕ) (a b : Addr) → IsAddrText text a → IsAddrText text b → a ≡ b
  pub prefix : (text : List ℕ) (p q : Prefix) → IsPrefixText text p → IsPrefixText text q → p ≡ q

-- ---- words

same_items : {A : Type 0} (x y : A) (xs ys : List A) → x ≡ y → ◌≡◌ {A = Result (List A) (List ℕ)} (Ok xs) (Ok ys) → ◌≡◌ {A = Result (List A) (List ℕ)} (Ok (x ∷ xs)) (Ok (y ∷ ys))
same_items x y xs ys e f = cc

never : {A : Type 0} {Goal : Type 0} (xs : List A) (word : List ℕ) → ◌≡◌ {A = Result (List A) (List ℕ)} (Ok xs) (Err word) → Goal
never xs word e = cc

-- a list of words is read in one way where each word is
words_one : {A : Type 0} {IsText : List ℕ → A → Type 0} → ((word : List ℕ) (x y : A) → IsText word x → IsText word y → x ≡ y) → {words : List (List ℕ)} {a b : Result (List A) (List ℕ)} → ReadsAll IsText words a → ReadsAll IsText words b → a ≡ b
words_one each nothing nothing = refl
words_one each (one is rest) (one other more) = same_items _ _ _ _ (each _ _ _ is other) (words_one each rest more)
words_one each (one is rest) (behind other more) = never _ _ (words_one each rest more)
words_one each (one is rest) (none not) = absurd (not _ is)
words_one each (behind is rest) (one other more) = never _ _ (sym (words_one each rest more))
words_one each (behind is rest) (behind other more) = words_one each rest more
words_one each (behind is rest) (none not) = absurd (not _ is)
words_one each (none not) (one other more) = absurd (not _ other)
words_one each (none not) (behind other more) = absurd (not _ other)
words_one each (none not) (none nor) = refl

-- ---- calls and judging

calls_one : (graph : Graph (List (List ℕ))) (a b : Option CallFault) → CallsAre graph a → CallsAre graph b → a ≡ b
calls_one graph None b h k = sym (k.none.1 (h.none.0 refl))
calls_one graph (Some (Cycle path)) b h k = sym ((k.cycle path).1 ((h.cycle path).0 refl))
calls_one graph (Some (Deep depth)) b h k = sym ((k.deep depth).1 ((h.deep depth).0 refl))

-- a plan is judged in one way
pub judged_one : (first : List (Option Refusal)) (rulesets : Rulesets) (a b : Option Refusal) → Judged first rulesets a → Judged first rulesets b → a ≡ b
judged_one first rulesets a b h k =
    h.is
    ∙ ap (λ (calls : Option CallFault). first_of (first_of first ∷ option_map call_refusal calls ∷ tree_limits rulesets)) (calls_one _ h.calls k.calls h.are k.are)
    ∙ sym k.is

inside : {X : Type 0} (x y : X) → Some x ≡ Some y → x ≡ y
inside x y e = cc

module _ (ones : ReadOneWay) where
  entry_one : (word : List ℕ) (x y : Entry) → IsEntryWord word x → IsEntryWord word y → x ≡ y
  entry_one word x y h k =
      let prefix = ones.prefix (unsigned word) x.prefix y.prefix h.text k.text in
      let sign = h.sign ∙ sym k.sign in
      λ i. record { prefix = prefix i; negated = sign i }

  -- ---- profiles

  profile_said : (text : List ℕ) (answer : Result (List Row) Refusal) → ProfileSays text answer
      → ((rows : List Row) × (answer ≡ Ok rows) × profile.IsProfileText text rows) ⊎ ((line : ℕ) × (answer ≡ Err (refusals.ProfileFault line)) × profile.IsFaultAt text line)
  profile_said text (Ok rows) h = inl (rows, refl, h)
  profile_said text (Err (refusals.ProfileFault line)) h = inr (line, refl, h)
  profile_said text (Err refusal) h = absurd h

  profile_one : (text : List ℕ) (a b : Result (List Row) Refusal) → ProfileSays text a → ProfileSays text b → a ≡ b
  profile_one text a b h k =
      elim (profile_said text a h) [
        | inl x ↦ elim (profile_said text b k) [
          | inl y ↦ x.1 ∙ ap (λ (rows : List Row). Ok rows) (ones.rows text x.0 y.0 x.2 y.2) ∙ sym y.1
          | inr y ↦ absurd (ones.rows_apart text x.0 y.0 x.2 y.2)
        ]
        | inr x ↦ elim (profile_said text b k) [
          | inl y ↦ absurd (ones.rows_apart text y.0 x.0 y.2 x.2)
          | inr y ↦ x.1 ∙ ap (λ (line : ℕ). Err (refusals.ProfileFault line)) (ones.row_line text x.0 y.0 x.2 y.2) ∙ sym y.1
        ]
      ]

  profile_sized_one : (large : Bool) (text : List ℕ) (a b : Result (List Row) Refusal) → ProfileSized large text a → ProfileSized large text b → a ≡ b
  profile_sized_one true text a b h k = h ∙ sym k
  profile_sized_one false text a b h k = profile_one text a b h k

  profile_in_one : (name : List ℕ) (held : Option (List ℕ)) (a b : Result (List Row) Refusal) → ProfileIn name held a → ProfileIn name held b → a ≡ b
  profile_in_one name None a b h k = h ∙ sym k
  profile_in_one name (Some text) a b h k = profile_sized_one (nat_lt most_bytes (length text)) text a b h k

  profile_read_one : (disk : Disk) (name : Option (List ℕ)) (a b : Result (List Row) Refusal) → ProfileReads disk name a → ProfileReads disk name b → a ≡ b
  profile_read_one disk None a b h k = h ∙ sym k
  profile_read_one disk (Some name) a b h k = profile_in_one name (disk name) a b h k

  -- ---- loads

  file_one : (disk : Disk) (facts : HostFacts) (options : LoadOptions) (file : List ℕ) (rows : List Row) (a b : Result Ready Refusal) → FileComes disk facts options file rows a → FileComes disk facts options file rows b → a ≡ b
  file_one disk facts options file rows a b h k =
      inside a b (sym h.is ∙ ap (ready_by rows) (ones.loads disk facts options file h.outcome k.outcome h.loads k.loads) ∙ k.is)

  behind_one : (disk : Disk) (facts : HostFacts) (line : LoadLine) (profile : Result (List Row) Refusal) (a b : Result Ready Refusal) → ComesBehind disk facts line profile a → ComesBehind disk facts line profile b → a ≡ b
  behind_one disk facts line (Ok rows) a b h k = file_one disk facts (options_of line) line.file rows a b h k
  behind_one disk facts line (Err refusal) a b h k = h ∙ sym k

  pub line_one : (disk : Disk) (facts : HostFacts) (line : LoadLine) (a b : Result Ready Refusal) → LineComes disk facts line a → LineComes disk facts line b → a ≡ b
  line_one disk facts line a b h k =
      let same = profile_read_one disk line.profile h.profile k.profile h.reads k.reads in
      behind_one disk facts line k.profile a b (subst (λ (read : Result (List Row) Refusal). ComesBehind disk facts line read a) same h.comes) k.comes

  loading_one : (machine : Machine) (answer : Result Ready Refusal) (a b : Stepped Machine) → Loading machine answer a → Loading machine answer b → a ≡ b
  loading_one machine (Err refusal) a b h k = h ∙ sym k
  loading_one machine (Ok ready) a b h k =
      h.is
      ∙ ap (λ (refusal : Option Refusal). done_unless refusal machine (loaded ready machine) (replies.Loaded (filled_of ready))) (judged_one [] _ h.refusal k.refusal h.judged k.judged)
      ∙ sym k.is

  load_one : (disk : Disk) (machine : Machine) (line : LoadLine) (a b : Stepped Machine) → LoadDoes disk machine line a → LoadDoes disk machine line b → a ≡ b
  load_one disk machine line a b h k =
      let same = line_one disk machine.facts line h.answer k.answer h.comes k.comes in
      loading_one machine k.answer a b (subst (λ (answer : Result Ready Refusal). Loading machine answer a) same h.loading) k.loading

  checking_one : (machine : Machine) (answer : Result Ready Refusal) (a b : Stepped Machine) → Checking machine answer a → Checking machine answer b → a ≡ b
  checking_one machine (Err refusal) a b h k = h ∙ sym k
  checking_one machine (Ok ready) a b h k =
      h.is
      ∙ ap (λ (refusal : Option Refusal). done_unless refusal machine machine (replies.Checked (filled_of ready))) (judged_one [] _ h.refusal k.refusal h.judged k.judged)
      ∙ sym k.is

  check_one : (disk : Disk) (machine : Machine) (line : LoadLine) (a b : Stepped Machine) → CheckDoes disk machine line a → CheckDoes disk machine line b → a ≡ b
  check_one disk machine line a b h k =
      let same = line_one disk machine.facts line h.answer k.answer h.comes k.comes in
      checking_one machine k.answer a b (subst (λ (answer : Result Ready Refusal). Checking machine answer a) same h.checking) k.checking

  opening_one : (machine : Machine) (name : List ℕ) (answer : Result Ready Refusal) (a b : Stepped Machine) → Opening machine name answer a → Opening machine name answer b → a ≡ b
  opening_one machine name (Err refusal) a b h k = h ∙ sym k
  opening_one machine name (Ok ready) a b h k = h ∙ sym k

  open_one : (refusal : Option Refusal) (disk : Disk) (machine : Machine) (name : List ℕ) (line : LoadLine) (a b : Stepped Machine) → OpenBehind refusal disk machine name line a → OpenBehind refusal disk machine name line b → a ≡ b
  open_one (Some refusal) disk machine name line a b h k = h ∙ sym k
  open_one None disk machine name line a b h k =
      let same = line_one disk machine.facts line h.answer k.answer h.comes k.comes in
      opening_one machine name k.answer a b (subst (λ (answer : Result Ready Refusal). Opening machine name answer a) same h.opening) k.opening

  -- ---- commits

  commit_one : (session : Option Opened) (machine : Machine) (name : List ℕ) (a b : Stepped Machine) → CommitOf session machine name a → CommitOf session machine name b → a ≡ b
  commit_one None machine name a b h k = h ∙ sym k
  commit_one (Some session) machine name a b h k =
      h.is
      ∙ ap (λ (refusal : Option Refusal). done_unless refusal (closed name machine) (finished name session machine) (replies.Committed name)) (judged_one _ _ h.refusal k.refusal h.judged k.judged)
      ∙ sym k.is

  -- ---- tables

  change_one : (machine : Machine) (path : List (List ℕ)) (name : List ℕ) (kind : ChangeKind) (words : List (List ℕ)) (a b : Stepped Machine) → ChangeDoes machine path name kind words a → ChangeDoes machine path name kind words b → a ≡ b
  change_one machine path name kind words a b h k = h.is ∙ ap (changed_as machine path name kind) (words_one entry_one h.reads k.reads) ∙ sym k.is

  test_one : (machine : Machine) (path : List (List ℕ)) (name : List ℕ) (words : List (List ℕ)) (a b : Stepped Machine) → TableTestDoes machine path name words a → TableTestDoes machine path name words b → a ≡ b
  test_one machine path name words a b h k = h.is ∙ ap (tested_as machine path name) (words_one ones.addr h.reads k.reads) ∙ sym k.is

  table_one : (machine : Machine) (path : List (List ℕ)) (name : List ℕ) (action : TableAction) (a b : Stepped Machine) → TableDoes machine path name action a → TableDoes machine path name action b → a ≡ b
  table_one machine path name (actions.Add words) a b h k = change_one machine path name kinds.Add words a b h k
  table_one machine path name (actions.Delete words) a b h k = change_one machine path name kinds.Delete words a b h k
  table_one machine path name (actions.Replace words) a b h k = change_one machine path name kinds.Replace words a b h k
  table_one machine path name actions.Flush a b h k = h ∙ sym k
  table_one machine path name actions.Show a b h k = h ∙ sym k
  table_one machine path name (actions.Test words) a b h k = test_one machine path name words a b h k

  -- ---- facts

  facts_said : (text : List ℕ) (answer : Result HostFacts Refusal) → FactsSay text answer
      → ((facts : HostFacts) × (answer ≡ Ok facts) × host.IsFactsText text facts) ⊎ ((line : ℕ) × (answer ≡ Err (refusals.FactsFault line)) × HasFault text line)
  facts_said text (Ok facts) h = inl (facts, refl, h)
  facts_said text (Err (refusals.FactsFault line)) h = inr (line, refl, h)
  facts_said text (Err refusal) h = absurd h

  facts_one : (text : List ℕ) (a b : Result HostFacts Refusal) → FactsSay text a → FactsSay text b → a ≡ b
  facts_one text a b h k =
      elim (facts_said text a h) [
        | inl x ↦ elim (facts_said text b k) [
          | inl y ↦ x.1 ∙ ap (λ (facts : HostFacts). Ok facts) (ones.facts text x.0 y.0 x.2 y.2) ∙ sym y.1
          | inr y ↦ absurd (ones.facts_apart text x.0 y.0 y.2.cause x.2 y.2.fault)
        ]
        | inr x ↦ elim (facts_said text b k) [
          | inl y ↦ absurd (ones.facts_apart text y.0 x.0 x.2.cause y.2 x.2.fault)
          | inr y ↦ x.1 ∙ ap (λ (line : ℕ). Err (refusals.FactsFault line)) (ones.fact_line text x.0 x.2.cause y.0 y.2.cause x.2.fault y.2.fault).0 ∙ sym y.1
        ]
      ]

  facts_sized_one : (large : Bool) (text : List ℕ) (a b : Result HostFacts Refusal) → FactsSized large text a → FactsSized large text b → a ≡ b
  facts_sized_one true text a b h k = h ∙ sym k
  facts_sized_one false text a b h k = facts_one text a b h k

  facts_in_one : (name : List ℕ) (held : Option (List ℕ)) (a b : Result HostFacts Refusal) → FactsIn name held a → FactsIn name held b → a ≡ b
  facts_in_one name None a b h k = h ∙ sym k
  facts_in_one name (Some text) a b h k = facts_sized_one (nat_lt most_bytes (length text)) text a b h k

  hosts_one : (disk : Disk) (machine : Machine) (file : List ℕ) (a b : Stepped Machine) → HostsDoes disk machine file a → HostsDoes disk machine file b → a ≡ b
  hosts_one disk machine file a b h k = h.is ∙ ap (with_facts machine) (facts_in_one file (disk file) h.answer k.answer h.reads k.reads) ∙ sym k.is

  -- ---- packets

  packet_one : (machine : Machine) (text : List ℕ) (a b : Stepped Machine) → TestDoes machine text a → TestDoes machine text b → a ≡ b
  packet_one machine text a b h k = h.is ∙ ap (tested machine) (ones.record_text text h.read k.read h.reads k.reads) ∙ sym k.is

  -- ---- lines

  command_one : (disk : Disk) (machine : Machine) (command : Option Command) (a b : Stepped Machine) → LineDoes disk machine command a → LineDoes disk machine command b → a ≡ b
  command_one disk machine None a b h k = h ∙ sym k
  command_one disk machine (Some (commands.Load line)) a b h k = load_one disk machine line a b h k
  command_one disk machine (Some (commands.Check line)) a b h k = check_one disk machine line a b h k
  command_one disk machine (Some (commands.Open name line)) a b h k = open_one (entry_refusal machine name) disk machine name line a b h k
  command_one disk machine (Some (commands.Commit name)) a b h k = commit_one (finite.get machine.sessions name) machine name a b h k
  command_one disk machine (Some (commands.Rollback name)) a b h k = h ∙ sym k
  command_one disk machine (Some (commands.Flush path)) a b h k = h ∙ sym k
  command_one disk machine (Some (commands.Table path name action)) a b h k = table_one machine path name action a b h k
  command_one disk machine (Some (commands.Show what)) a b h k = h ∙ sym k
  command_one disk machine (Some (commands.Hosts file)) a b h k = hosts_one disk machine file a b h k
  command_one disk machine (Some (commands.Test text)) a b h k = packet_one machine text a b h k

  pub line_does_one : (disk : Disk) → DoesOneThing step disk
  unfolding step
  line_does_one disk machine line a b h k = command_one disk machine (command_of line) a b h k
