-- No line makes rulesets call one another in a circle or too deep.
use Rattle.std.proofs.Common.{◌≡◌, ℕ, Bool, true, false, List, [], length, Option, Some, None, Result, Ok, Err, refl, sym, ap, subst, ◌∙◌, if◌then◌else◌}
use Rattle.std.specs.Prelude.{is_some}
use Rattle.std.specs.FinMap as finite
use Rattle.pf_addr.specs.declared.addr.Addr.{Addr}
use Rattle.pf_calls.specs.Graph.{IsShallow}
use Rattle.pf_host.specs.Facts.{HostFacts}
use Rattle.pf_record.specs.declared.field.PacketFault.{PacketFault}
use Rattle.pf_reply.specs.declared.refusal.Refusal.{Refusal}
use Rattle.pf_reply.specs.declared.refusal.Refusal.TheVariants as refusals
use Rattle.pf_reply.specs.declared.reply.Reply.{Reply}
use Rattle.pf_reply.specs.declared.reply.Reply.TheVariants as replies
use Rattle.pf_rule.specs.declared.packet.Packet.{Packet}
use Rattle.pf_runs.specs.Runs.{Stepped}
use Rattle.pf_script.specs.Command.{command_of}
use Rattle.pf_script.specs.declared.command.Command.{Command}
use Rattle.pf_script.specs.declared.command.Command.TheVariants as commands
use Rattle.pf_script.specs.declared.command.LoadLine.{LoadLine}
use Rattle.pf_script.specs.declared.command.Show.{Show}
use Rattle.pf_script.specs.declared.command.Show.TheVariants as shows
use Rattle.pf_script.specs.declared.command.TableAction.{TableAction}
use Rattle.pf_script.specs.declared.command.TableAction.TheVariants as actions
use Rattle.pf_shelf.specs.declared.change.ChangeKind.{ChangeKind}
use Rattle.pf_shelf.specs.declared.change.ChangeKind.TheVariants as kinds
use Rattle.pf_source.specs.Disk.{Disk}
use Rattle.pf_state.specs.Commits.{committed, loaded}
use Rattle.pf_state.specs.Flushes.{flushed}
use Rattle.pf_state.specs.Rulesets.{graph_in}
use Rattle.pf_state.specs.Sessions.{closed, entry_refusal, finished, open_refusal, opened}
use Rattle.pf_state.specs.Tables.{change_counts, change_refusal, table_at, with_table}
use Rattle.pf_state.specs.declared.machine.Machine.{Machine}
use Rattle.pf_state.specs.declared.ready.Opened.{Opened}
use Rattle.pf_state.specs.declared.ready.Ready.{Ready}
use Rattle.pf_table.specs.declared.entry.Entry.{Entry}
use Rattle.pf_engine.specs.HostLines.{with_facts}
use Rattle.pf_engine.specs.LoadLines.{Checking, Loading, OpenBehind, Opening, filled_of}
use Rattle.pf_engine.specs.SessionLines.{CommitOf, rolled_back, step_flush, step_rollback}
use Rattle.pf_engine.specs.ShowLines.{show}
use Rattle.pf_engine.specs.Step.{LineDoes, step}
use Rattle.pf_engine.specs.Steps.{done, done_unless, refused}
use Rattle.pf_engine.specs.TableLines.{TableDoes, changed_as, changed_by, if_there, matched, shown_table, tested_as, told}
use Rattle.pf_engine.specs.TestLines.{tested}
use Rattle.pf_engine.proofs.Shallow.{FewerStays, change_shallow, flush_shallow, judged_shallow}

abbrev IsCalm : Machine → Type 0
IsCalm machine = IsShallow (graph_in machine.rulesets) 64

-- the machine is another one, of which it is known
moved : (machine : Machine) (does other : Stepped Machine) → does ≡ other → other.machine ≡ machine → IsCalm machine → IsCalm does.machine
moved machine does other e same calm = subst IsCalm (sym (ap (λ (d : Stepped Machine). d.machine) e ∙ same)) calm

moved_unless : (refusal : Option Refusal) (before after : Machine) (reply : Reply) (does : Stepped Machine) → does ≡ done_unless refusal before after reply → IsCalm before → (refusal ≡ None → IsCalm after) → IsCalm does.machine
moved_unless None before after reply does e calm on = moved after does (done after reply) e refl (on refl)
moved_unless (Some refusal) before after reply does e calm on = moved before does (refused before refusal) e refl calm

by_load : (machine : Machine) (answer : Result Ready Refusal) (does : Stepped Machine) → IsCalm machine → Loading machine answer does → IsCalm does.machine
by_load machine (Err refusal) does calm e = moved machine does (refused machine refusal) e refl calm
by_load machine (Ok ready) does calm puts =
    moved_unless puts.refusal machine (loaded ready machine) (replies.Loaded (filled_of ready)) does puts.is calm
    (judged_shallow [] (committed ready.parts machine.rulesets) puts.refusal puts.judged)

by_check : (machine : Machine) (answer : Result Ready Refusal) (does : Stepped Machine) → IsCalm machine → Checking machine answer does → IsCalm does.machine
by_check machine (Err refusal) does calm e = moved machine does (refused machine refusal) e refl calm
by_check machine (Ok ready) does calm puts = moved_unless puts.refusal machine machine (replies.Checked (filled_of ready)) does puts.is calm (λ none. calm)

by_open : (machine : Machine) (name : List ℕ) (answer : Result Ready Refusal) (does : Stepped Machine) → IsCalm machine → Opening machine name answer does → IsCalm does.machine
by_open machine name (Err refusal) does calm e = moved machine does (refused machine refusal) e refl calm
by_open machine name (Ok ready) does calm e = moved_unless (open_refusal machine ready) machine (opened name ready machine) (replies.Opened name machine.next) does e calm (λ none. calm)

by_entry : (refusal : Option Refusal) (disk : Disk) (machine : Machine) (name : List ℕ) (line : LoadLine) (does : Stepped Machine) → IsCalm machine → OpenBehind refusal disk machine name line does → IsCalm does.machine
by_entry (Some refusal) disk machine name line does calm e = moved machine does (refused machine refusal) e refl calm
by_entry None disk machine name line does calm opens = by_open machine name opens.answer does calm opens.opening

by_commit : (session : Option Opened) (machine : Machine) (name : List ℕ) (does : Stepped Machine) → IsCalm machine → CommitOf session machine name does → IsCalm does.machine
by_commit None machine name does calm e = moved machine does _ e refl calm
by_commit (Some session) machine name does calm commits =
    moved_unless commits.refusal (closed name machine) (finished name session machine) (replies.Committed name) does commits.is calm
    (judged_shallow _ (committed session.ready.parts machine.rulesets) commits.refusal commits.judged)

by_rollback : (session : Option Opened) (machine : Machine) (name : List ℕ) (does : Stepped Machine) → IsCalm machine → does ≡ rolled_back session machine name → IsCalm does.machine
by_rollback None machine name does calm e = moved machine does _ e refl calm
by_rollback (Some session) machine name does calm e = moved (closed name machine) does _ e refl calm

there_or_not : (b : Bool) (machine : Machine) (does other : Stepped Machine) → does.machine ≡ machine → other.machine ≡ machine → (if b then does else other).machine ≡ machine
there_or_not true machine does other e f = e
there_or_not false machine does other e f = f

by_there : (machine : Machine) (path : List (List ℕ)) (name : List ℕ) (there does : Stepped Machine) → there.machine ≡ machine → IsCalm machine → does ≡ if_there machine path name there → IsCalm does.machine
by_there machine path name there does same calm e =
    moved machine does (if_there machine path name there) e (there_or_not (is_some (table_at machine.rulesets path name)) machine there (refused machine (refusals.TableMissing name)) same refl) calm

by_test : (machine : Machine) (path : List (List ℕ)) (name : List ℕ) (read : Result (List Addr) (List ℕ)) (does : Stepped Machine) → IsCalm machine → does ≡ tested_as machine path name read → IsCalm does.machine
by_test machine path name (Ok addrs) does calm e = by_there machine path name (matched machine path name addrs) does refl calm e
by_test machine path name (Err word) does calm e = moved machine does _ e refl calm

by_show : (machine : Machine) (what : Show) (does : Stepped Machine) → IsCalm machine → does ≡ show machine what → IsCalm does.machine
by_show machine (shows.Rules path) does calm e = moved machine does _ e refl calm
by_show machine (shows.Written path) does calm e = moved machine does _ e refl calm
by_show machine (shows.Tables path) does calm e = moved machine does _ e refl calm
by_show machine (shows.Anchors path) does calm e = moved machine does _ e refl calm
by_show machine (shows.Skips path) does calm e = moved machine does _ e refl calm
by_show machine shows.Queues does calm e = moved machine does _ e refl calm
by_show machine shows.Options does calm e = moved machine does _ e refl calm

by_facts : (machine : Machine) (answer : Result HostFacts Refusal) (does : Stepped Machine) → IsCalm machine → does ≡ with_facts machine answer → IsCalm does.machine
by_facts machine (Ok facts) does calm e = moved (record machine { facts = facts }) does _ e refl calm
by_facts machine (Err refusal) does calm e = moved machine does (refused machine refusal) e refl calm

by_packet : (machine : Machine) (read : Result Packet PacketFault) (does : Stepped Machine) → IsCalm machine → does ≡ tested machine read → IsCalm does.machine
by_packet machine (Ok packet) does calm e = moved machine does _ e refl calm
by_packet machine (Err fault) does calm e = moved machine does _ e refl calm

module _ (stays : FewerStays) where
  by_change : (machine : Machine) (path : List (List ℕ)) (name : List ℕ) (kind : ChangeKind) (entries : List Entry) (does : Stepped Machine) → IsCalm machine → does ≡ changed_by machine path name kind entries → IsCalm does.machine
  by_change machine path name kind entries does calm e =
      moved_unless (change_refusal machine.rulesets path name kind entries) machine (with_table path name kind entries machine)
      (told kind (change_counts machine.rulesets path name kind entries) (length entries)) does e calm (λ none. change_shallow stays machine.rulesets path name kind entries calm)

  by_words : (machine : Machine) (path : List (List ℕ)) (name : List ℕ) (kind : ChangeKind) (read : Result (List Entry) (List ℕ)) (does : Stepped Machine) → IsCalm machine → does ≡ changed_as machine path name kind read → IsCalm does.machine
  by_words machine path name kind (Ok entries) does calm e = by_change machine path name kind entries does calm e
  by_words machine path name kind (Err word) does calm e = moved machine does _ e refl calm

  by_action : (machine : Machine) (path : List (List ℕ)) (name : List ℕ) (action : TableAction) (does : Stepped Machine) → IsCalm machine → TableDoes machine path name action does → IsCalm does.machine
  by_action machine path name (actions.Add words) does calm change = by_words machine path name kinds.Add change.read does calm change.is
  by_action machine path name (actions.Delete words) does calm change = by_words machine path name kinds.Delete change.read does calm change.is
  by_action machine path name (actions.Replace words) does calm change = by_words machine path name kinds.Replace change.read does calm change.is
  by_action machine path name actions.Flush does calm e = by_change machine path name kinds.Flush [] does calm e
  by_action machine path name actions.Show does calm e = by_there machine path name (shown_table machine path name) does refl calm e
  by_action machine path name (actions.Test words) does calm test = by_test machine path name test.read does calm test.is

  by_line : (disk : Disk) (machine : Machine) (command : Option Command) (does : Stepped Machine) → IsCalm machine → LineDoes disk machine command does → IsCalm does.machine
  unfolding step_rollback step_flush
  by_line disk machine None does calm e = moved machine does _ e refl calm
  by_line disk machine (Some (commands.Load options)) does calm load = by_load machine load.answer does calm load.loading
  by_line disk machine (Some (commands.Check options)) does calm check = by_check machine check.answer does calm check.checking
  by_line disk machine (Some (commands.Open name options)) does calm open_line = by_entry (entry_refusal machine name) disk machine name options does calm open_line
  by_line disk machine (Some (commands.Commit name)) does calm commit = by_commit (finite.get machine.sessions name) machine name does calm commit
  by_line disk machine (Some (commands.Rollback name)) does calm e = by_rollback (finite.get machine.sessions name) machine name does calm e
  by_line disk machine (Some (commands.Flush path)) does calm e = moved (flushed path machine) does _ e refl (flush_shallow stays machine.rulesets path calm)
  by_line disk machine (Some (commands.Table path name action)) does calm table = by_action machine path name action does calm table
  by_line disk machine (Some (commands.Show what)) does calm e = by_show machine what does calm e
  by_line disk machine (Some (commands.Hosts file)) does calm hosts = by_facts machine hosts.answer does calm hosts.is
  by_line disk machine (Some (commands.Test text)) does calm test = by_packet machine test.read does calm test.is

  pub step_shallow : (disk : Disk) (machine : Machine) (line : List ℕ) (does : Stepped Machine) → IsCalm machine → step disk machine line does → IsCalm does.machine
  unfolding step
  step_shallow disk machine line does calm steps = by_line disk machine (command_of line) does calm steps
