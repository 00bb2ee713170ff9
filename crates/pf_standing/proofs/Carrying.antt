-- What each line keeps, and so what is true of each machine that a script reaches: whatever loads, sessions, flushes, changes of
-- tables and facts keep.
use Rattle.std.proofs.Common.{◌≡◌, ℕ, Bool, true, false, List, [], ◌∷◌, map, length, Option, Some, None, Result, Ok, Err, refl, sym, ap, subst, ◌∙◌, inl, inr, if◌then◌else◌}
use Rattle.std.specs.Prelude.{Contains, is_some}
use Rattle.std.specs.FinMap as finite
use Rattle.std.specs.Option.{option_map, option_or}
use Rattle.pf_addr.specs.declared.addr.Addr.{Addr}
use Rattle.pf_base.specs.declared.kind.Level.{Level}
use Rattle.pf_calls.specs.GraphLaws.{in_cons, none_in}
use Rattle.pf_host.specs.Facts.{HostFacts}
use Rattle.pf_load.specs.Load.{Outcome}
use Rattle.pf_load.specs.declared.loading.LoadFault.TheVariants.{File, CannotRead, NoMemory}
use Rattle.pf_optim.specs.Profile.{weights_of}
use Rattle.pf_optim.specs.Ruleset.{written_of}
use Rattle.pf_optim.specs.declared.rows.Row.{Row}
use Rattle.pf_plan.specs.declared.plan.Part.{Part}
use Rattle.pf_record.specs.declared.field.PacketFault.{PacketFault}
use Rattle.pf_reply.specs.declared.refusal.Refusal.{Refusal}
use Rattle.pf_reply.specs.declared.refusal.Refusal.TheVariants as refusals
use Rattle.pf_reply.specs.declared.reply.Reply.{Reply}
use Rattle.pf_reply.specs.declared.reply.Reply.TheVariants as replies
use Rattle.pf_rule.specs.declared.packet.Packet.{Packet}
use Rattle.pf_rule.specs.declared.rule.Rule.{Rule}
use Rattle.pf_runs.specs.Runs.{Event, Follow, Stepped, machine_after}
use Rattle.pf_script.specs.Command.{command_of}
use Rattle.pf_script.specs.declared.command.Command.{Command}
use Rattle.pf_script.specs.declared.command.Command.TheVariants as commands
use Rattle.pf_script.specs.declared.command.LoadLine.{LoadLine}
use Rattle.pf_script.specs.declared.command.Show.{Show}
use Rattle.pf_script.specs.declared.command.Show.TheVariants as shows
use Rattle.pf_script.specs.declared.command.TableAction.{TableAction}
use Rattle.pf_script.specs.declared.command.TableAction.TheVariants as actions
use Rattle.pf_shelf.specs.declared.change.ChangeKind.{ChangeKind}
use Rattle.pf_shelf.specs.declared.change.ChangeKind.TheVariants as kinds
use Rattle.pf_source.specs.Disk.{Disk, without}
use Rattle.pf_state.specs.Commits.{committed, loaded, staged_of}
use Rattle.pf_state.specs.Flushes.{flushed}
use Rattle.pf_state.specs.Judging.{Judged, call_refusal}
use Rattle.pf_state.specs.Limits.{first_of, tree_limits}
use Rattle.pf_state.specs.Machine.{empty_machine}
use Rattle.pf_state.specs.Rulesets.{Rulesets}
use Rattle.pf_state.specs.Sessions.{closed, entry_refusal, finished, open_refusal, opened}
use Rattle.pf_state.specs.Tables.{change_counts, change_refusal, table_at, with_table}
use Rattle.pf_state.specs.declared.machine.Machine.{Machine}
use Rattle.pf_state.specs.declared.ready.Opened.{Opened}
use Rattle.pf_state.specs.declared.ready.Ready.{Ready}
use Rattle.pf_state.specs.declared.ready.Staged.{Staged}
use Rattle.pf_table.specs.declared.entry.Entry.{Entry}
use Rattle.pf_engine.specs.HostLines.{with_facts}
use Rattle.pf_engine.specs.LoadLines.{Checking, ComesBehind, LineComes, Loading, OpenBehind, Opening, filled_of, ready_by}
use Rattle.pf_engine.specs.Reached.{IsReached}
use Rattle.pf_engine.specs.SessionLines.{CommitOf, rolled_back, step_flush, step_rollback}
use Rattle.pf_engine.specs.ShowLines.{show}
use Rattle.pf_engine.specs.Step.{LineDoes, step}
use Rattle.pf_engine.specs.Steps.{done, done_unless, refused}
use Rattle.pf_engine.specs.TableLines.{TableDoes, changed_as, changed_by, if_there, matched, shown_table, tested_as, told}
use Rattle.pf_engine.specs.TestLines.{tested}
use Rattle.pf_standing.specs.Standing.{IsPlain, IsPlanPlain}

-- ---- plans of loads

cons_nil : (rule : Rule) (rules : List Rule) → (rule ∷ rules) ≡ [] → ⊥
cons_nil rule rules e = cc

pub written_plain : (rules : List Rule) (level : Level) (weights : List ℕ) → IsPlain (written_of rules level weights)
written_plain [] level weights = record { level = λ none. refl; weights = λ none. refl }
written_plain (rule ∷ rules) level weights = record { level = λ none. absurd (cons_nil rule rules none); weights = λ none. absurd (cons_nil rule rules none) }

staged_plain : (level : Level) (rows : List Row) (parts : List Part) (part : Staged) → Contains (map (staged_of level rows) parts) part → IsPlain part.rules
staged_plain level rows [] part within = absurd (none_in part within)
staged_plain level rows (first ∷ parts) part within =
    elim (in_cons (staged_of level rows first) (map (staged_of level rows) parts) part within) [
      | inl same ↦ subst (λ (one : Staged). IsPlain one.rules) same (written_plain first.rules level (weights_of rows first.path (length first.rules)))
      | inr later ↦ staged_plain level rows parts part later
    ]

abbrev accepted : Ready → Option (Result Ready Refusal)
accepted ready = Some (Ok ready)

abbrev rejected : Refusal → Option (Result Ready Refusal)
rejected refusal = Some (Err refusal)

same_accepted : (a b : Ready) → accepted a ≡ accepted b → a ≡ b
same_accepted a b e = cc

not_both : (ready : Ready) (refusal : Refusal) → rejected refusal ≡ accepted ready → ⊥
not_both ready refusal e = cc

none_accepted : (ready : Ready) → None ≡ accepted ready → ⊥
none_accepted ready e = cc

outcome_plain : (rows : List Row) (outcome : Outcome) (ready : Ready) → ready_by rows outcome ≡ Some (Ok ready) → IsPlanPlain ready
outcome_plain rows (Ok plan) ready e = subst IsPlanPlain (same_accepted _ ready e) (staged_plain plan.level rows plan.parts)
outcome_plain rows (Err (File kind place name)) ready e = absurd (not_both ready _ e)
outcome_plain rows (Err (CannotRead name)) ready e = absurd (not_both ready _ e)
outcome_plain rows (Err NoMemory) ready e = absurd (none_accepted ready e)

comes_plain : (disk : Disk) (facts : HostFacts) (line : LoadLine) (profile : Result (List Row) Refusal) (ready : Ready) → ComesBehind disk facts line profile (Ok ready) → IsPlanPlain ready
comes_plain disk facts line (Err refusal) ready e = absurd (not_both ready refusal (ap Some (sym e)))
comes_plain disk facts line (Ok rows) ready file = outcome_plain rows file.outcome ready file.is

-- ---- rulesets that fit

-- no limit of the tree is passed
abbrev pub Fits : Rulesets → Type 0
Fits rulesets = first_of (tree_limits rulesets) ≡ None

pub no_first : {A : Type 0} (a b : Option A) → option_or a b ≡ None → (a ≡ None) × (b ≡ None)
no_first None b h = (refl, h)
no_first (Some x) b h = absurd cc

judged_fits : (first : List (Option Refusal)) (rulesets : Rulesets) (refusal : Option Refusal) → Judged first rulesets refusal → refusal ≡ None → Fits rulesets
judged_fits first rulesets refusal judged none =
    let rest = no_first (first_of first) (first_of (option_map call_refusal judged.calls ∷ tree_limits rulesets)) (sym judged.is ∙ none) in
    (no_first (option_map call_refusal judged.calls) (first_of (tree_limits rulesets)) rest.1).1

-- ---- what lines keep

-- what may become of a machine keeps it
pub record Keeps (Holds : Machine → Type 0) : Type 0 where
  pub loads : (machine : Machine) (ready : Ready) → IsPlanPlain ready → Fits (committed ready.parts machine.rulesets) → Holds machine → Holds (loaded ready machine)
  pub opens : (machine : Machine) (name : List ℕ) (ready : Ready) → IsPlanPlain ready → entry_refusal machine name ≡ None → open_refusal machine ready ≡ None → Holds machine → Holds (opened name ready machine)
  pub closes : (machine : Machine) (name : List ℕ) → Holds machine → Holds (closed name machine)
  pub commits : (machine : Machine) (name : List ℕ) (session : Opened) → finite.get machine.sessions name ≡ Some session → Fits (committed session.ready.parts machine.rulesets) → Holds machine → Holds (finished name session machine)
  pub flushes : (machine : Machine) (path : List (List ℕ)) → Holds machine → Holds (flushed path machine)
  pub changes : (machine : Machine) (path : List (List ℕ)) (name : List ℕ) (kind : ChangeKind) (entries : List Entry) → change_refusal machine.rulesets path name kind entries ≡ None → Holds machine → Holds (with_table path name kind entries machine)
  pub facts : (machine : Machine) (facts : HostFacts) → Holds machine → Holds (record machine { facts = facts })

there_or_not : (b : Bool) (machine : Machine) (does other : Stepped Machine) → does.machine ≡ machine → other.machine ≡ machine → (if b then does else other).machine ≡ machine
there_or_not true machine does other e f = e
there_or_not false machine does other e f = f

module _ (Holds : Machine → Type 0) (keeps : Keeps Holds) where
  -- the machine is another one, of which it is known
  moved : (machine : Machine) (does other : Stepped Machine) → does ≡ other → other.machine ≡ machine → Holds machine → Holds does.machine
  moved machine does other e same holds = subst Holds (sym (ap (λ (d : Stepped Machine). d.machine) e ∙ same)) holds

  moved_unless : (refusal : Option Refusal) (before after : Machine) (reply : Reply) (does : Stepped Machine) → does ≡ done_unless refusal before after reply → Holds before → (refusal ≡ None → Holds after) → Holds does.machine
  moved_unless None before after reply does e holds on = moved after does (done after reply) e refl (on refl)
  moved_unless (Some refusal) before after reply does e holds on = moved before does (refused before refusal) e refl holds

  by_load : (disk : Disk) (machine : Machine) (line : LoadLine) (answer : Result Ready Refusal) (does : Stepped Machine) → Holds machine → LineComes disk machine.facts line answer → Loading machine answer does → Holds does.machine
  by_load disk machine line (Err refusal) does holds comes e = moved machine does (refused machine refusal) e refl holds
  by_load disk machine line (Ok ready) does holds comes puts =
      moved_unless puts.refusal machine (loaded ready machine) (replies.Loaded (filled_of ready)) does puts.is holds
      (λ none. keeps.loads machine ready (comes_plain disk machine.facts line comes.profile ready comes.comes) (judged_fits [] (committed ready.parts machine.rulesets) puts.refusal puts.judged none) holds)

  by_check : (machine : Machine) (answer : Result Ready Refusal) (does : Stepped Machine) → Holds machine → Checking machine answer does → Holds does.machine
  by_check machine (Err refusal) does holds e = moved machine does (refused machine refusal) e refl holds
  by_check machine (Ok ready) does holds puts = moved_unless puts.refusal machine machine (replies.Checked (filled_of ready)) does puts.is holds (λ none. holds)

  by_open : (disk : Disk) (machine : Machine) (name : List ℕ) (line : LoadLine) (answer : Result Ready Refusal) (does : Stepped Machine) → entry_refusal machine name ≡ None → Holds machine → LineComes disk machine.facts line answer → Opening machine name answer does → Holds does.machine
  by_open disk machine name line (Err refusal) does enters holds comes e = moved machine does (refused machine refusal) e refl holds
  by_open disk machine name line (Ok ready) does enters holds comes e =
      moved_unless (open_refusal machine ready) machine (opened name ready machine) (replies.Opened name machine.next) does e holds
      (λ none. keeps.opens machine name ready (comes_plain disk machine.facts line comes.profile ready comes.comes) enters none holds)

  by_entry : (refusal : Option Refusal) (disk : Disk) (machine : Machine) (name : List ℕ) (line : LoadLine) (does : Stepped Machine) → entry_refusal machine name ≡ refusal → Holds machine → OpenBehind refusal disk machine name line does → Holds does.machine
  by_entry (Some refusal) disk machine name line does enters holds e = moved machine does (refused machine refusal) e refl holds
  by_entry None disk machine name line does enters holds opens = by_open disk machine name line opens.answer does enters holds opens.comes opens.opening

  by_commit : (session : Option Opened) (machine : Machine) (name : List ℕ) (does : Stepped Machine) → finite.get machine.sessions name ≡ session → Holds machine → CommitOf session machine name does → Holds does.machine
  by_commit None machine name does there holds e = moved machine does _ e refl holds
  by_commit (Some session) machine name does there holds commits =
      moved_unless commits.refusal (closed name machine) (finished name session machine) (replies.Committed name) does commits.is (keeps.closes machine name holds)
      (λ none. keeps.commits machine name session there (judged_fits _ (committed session.ready.parts machine.rulesets) commits.refusal commits.judged none) holds)

  by_rollback : (session : Option Opened) (machine : Machine) (name : List ℕ) (does : Stepped Machine) → Holds machine → does ≡ rolled_back session machine name → Holds does.machine
  by_rollback None machine name does holds e = moved machine does _ e refl holds
  by_rollback (Some session) machine name does holds e = moved (closed name machine) does _ e refl (keeps.closes machine name holds)

  by_there : (machine : Machine) (path : List (List ℕ)) (name : List ℕ) (there does : Stepped Machine) → there.machine ≡ machine → Holds machine → does ≡ if_there machine path name there → Holds does.machine
  by_there machine path name there does same holds e =
      moved machine does (if_there machine path name there) e (there_or_not (is_some (table_at machine.rulesets path name)) machine there (refused machine (refusals.TableMissing name)) same refl) holds

  by_test : (machine : Machine) (path : List (List ℕ)) (name : List ℕ) (read : Result (List Addr) (List ℕ)) (does : Stepped Machine) → Holds machine → does ≡ tested_as machine path name read → Holds does.machine
  by_test machine path name (Ok addrs) does holds e = by_there machine path name (matched machine path name addrs) does refl holds e
  by_test machine path name (Err word) does holds e = moved machine does _ e refl holds

  by_show : (machine : Machine) (what : Show) (does : Stepped Machine) → Holds machine → does ≡ show machine what → Holds does.machine
  by_show machine (shows.Rules path) does holds e = moved machine does _ e refl holds
  by_show machine (shows.Written path) does holds e = moved machine does _ e refl holds
  by_show machine (shows.Tables path) does holds e = moved machine does _ e refl holds
  by_show machine (shows.Anchors path) does holds e = moved machine does _ e refl holds
  by_show machine (shows.Skips path) does holds e = moved machine does _ e refl holds
  by_show machine shows.Queues does holds e = moved machine does _ e refl holds
  by_show machine shows.Options does holds e = moved machine does _ e refl holds

  by_facts : (machine : Machine) (answer : Result HostFacts Refusal) (does : Stepped Machine) → Holds machine → does ≡ with_facts machine answer → Holds does.machine
  by_facts machine (Ok facts) does holds e = moved (record machine { facts = facts }) does _ e refl (keeps.facts machine facts holds)
  by_facts machine (Err refusal) does holds e = moved machine does (refused machine refusal) e refl holds

  by_packet : (machine : Machine) (read : Result Packet PacketFault) (does : Stepped Machine) → Holds machine → does ≡ tested machine read → Holds does.machine
  by_packet machine (Ok packet) does holds e = moved machine does _ e refl holds
  by_packet machine (Err fault) does holds e = moved machine does _ e refl holds

  by_change : (machine : Machine) (path : List (List ℕ)) (name : List ℕ) (kind : ChangeKind) (entries : List Entry) (does : Stepped Machine) → Holds machine → does ≡ changed_by machine path name kind entries → Holds does.machine
  by_change machine path name kind entries does holds e =
      moved_unless (change_refusal machine.rulesets path name kind entries) machine (with_table path name kind entries machine)
      (told kind (change_counts machine.rulesets path name kind entries) (length entries)) does e holds (λ none. keeps.changes machine path name kind entries none holds)

  by_words : (machine : Machine) (path : List (List ℕ)) (name : List ℕ) (kind : ChangeKind) (read : Result (List Entry) (List ℕ)) (does : Stepped Machine) → Holds machine → does ≡ changed_as machine path name kind read → Holds does.machine
  by_words machine path name kind (Ok entries) does holds e = by_change machine path name kind entries does holds e
  by_words machine path name kind (Err word) does holds e = moved machine does _ e refl holds

  by_action : (machine : Machine) (path : List (List ℕ)) (name : List ℕ) (action : TableAction) (does : Stepped Machine) → Holds machine → TableDoes machine path name action does → Holds does.machine
  by_action machine path name (actions.Add words) does holds change = by_words machine path name kinds.Add change.read does holds change.is
  by_action machine path name (actions.Delete words) does holds change = by_words machine path name kinds.Delete change.read does holds change.is
  by_action machine path name (actions.Replace words) does holds change = by_words machine path name kinds.Replace change.read does holds change.is
  by_action machine path name actions.Flush does holds e = by_change machine path name kinds.Flush [] does holds e
  by_action machine path name actions.Show does holds e = by_there machine path name (shown_table machine path name) does refl holds e
  by_action machine path name (actions.Test words) does holds test = by_test machine path name test.read does holds test.is

  by_line : (disk : Disk) (machine : Machine) (command : Option Command) (does : Stepped Machine) → Holds machine → LineDoes disk machine command does → Holds does.machine
  unfolding step_rollback step_flush
  by_line disk machine None does holds e = moved machine does _ e refl holds
  by_line disk machine (Some (commands.Load options)) does holds load = by_load disk machine options load.answer does holds load.comes load.loading
  by_line disk machine (Some (commands.Check options)) does holds check = by_check machine check.answer does holds check.checking
  by_line disk machine (Some (commands.Open name options)) does holds open_line = by_entry (entry_refusal machine name) disk machine name options does refl holds open_line
  by_line disk machine (Some (commands.Commit name)) does holds commit = by_commit (finite.get machine.sessions name) machine name does refl holds commit
  by_line disk machine (Some (commands.Rollback name)) does holds e = by_rollback (finite.get machine.sessions name) machine name does holds e
  by_line disk machine (Some (commands.Flush path)) does holds e = moved (flushed path machine) does _ e refl (keeps.flushes machine path holds)
  by_line disk machine (Some (commands.Table path name action)) does holds table = by_action machine path name action does holds table
  by_line disk machine (Some (commands.Show what)) does holds e = by_show machine what does holds e
  by_line disk machine (Some (commands.Hosts file)) does holds hosts = by_facts machine hosts.answer does holds hosts.is
  by_line disk machine (Some (commands.Test text)) does holds test = by_packet machine test.read does holds test.is

  pub by_step : (disk : Disk) (machine : Machine) (line : List ℕ) (does : Stepped Machine) → Holds machine → step disk machine line does → Holds does.machine
  unfolding step
  by_step disk machine line does holds steps = by_line disk machine (command_of line) does holds steps

  followed : (disk : Disk) (machine : Machine) (events : List (Event Machine)) → Holds machine → Follow step disk machine events → Holds (machine_after machine events)
  followed disk machine [] holds follow = holds
  followed disk machine (event ∷ events) holds follow =
      followed disk event.does.machine events (by_step (without event.outage disk) machine event.line event.does holds follow.0) follow.2

  pub by_run : Holds empty_machine → (machine : Machine) → IsReached machine → Holds machine
  by_run first machine reached = subst Holds (sym reached.is) (followed reached.disk empty_machine reached.events first reached.follow)
