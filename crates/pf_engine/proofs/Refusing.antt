-- A line that is refused leaves the machine as it was, or, where it was the commit of an open session, without that session.
use Rattle.std.proofs.Common.{◌≡◌, ℕ, Bool, true, false, List, [], length, if◌then◌else◌, Option, Some, None, Result, Ok, Err, refl, sym, ap, ◌∙◌, inl, inr}
use Rattle.std.specs.Prelude.{is_some}
use Rattle.std.specs.FinMap as finite
use Rattle.std.proofs.lemmas.Bool.{false≢true}
use Rattle.pf_addr.specs.declared.addr.Addr.{Addr}
use Rattle.pf_host.specs.Facts.{HostFacts}
use Rattle.pf_record.specs.declared.field.PacketFault.{PacketFault}
use Rattle.pf_reply.specs.declared.refusal.Refusal.{Refusal}
use Rattle.pf_reply.specs.declared.refusal.Refusal.TheVariants as refusals
use Rattle.pf_reply.specs.declared.reply.Reply.{Reply}
use Rattle.pf_reply.specs.declared.reply.Reply.TheVariants as replies
use Rattle.pf_rule.specs.declared.packet.Packet.{Packet}
use Rattle.pf_runs.specs.Runs.{Stepped}
use Rattle.pf_script.specs.Command.{command_of}
use Rattle.pf_script.specs.declared.command.Command.{Command}
use Rattle.pf_script.specs.declared.command.Command.TheVariants as commands
use Rattle.pf_script.specs.declared.command.LoadLine.{LoadLine}
use Rattle.pf_script.specs.declared.command.Show.{Show}
use Rattle.pf_script.specs.declared.command.Show.TheVariants as shows
use Rattle.pf_script.specs.declared.command.TableAction.{TableAction}
use Rattle.pf_script.specs.declared.command.TableAction.TheVariants as actions
use Rattle.pf_shelf.specs.declared.change.ChangeKind.{ChangeKind}
use Rattle.pf_shelf.specs.declared.change.ChangeKind.TheVariants as kinds
use Rattle.pf_source.specs.Disk.{Disk}
use Rattle.pf_state.specs.Commits.{loaded}
use Rattle.pf_state.specs.Flushes.{flushed}
use Rattle.pf_state.specs.Sessions.{closed, entry_refusal, finished, open_refusal, opened}
use Rattle.pf_state.specs.Tables.{change_counts, change_refusal, table_at, with_table}
use Rattle.pf_state.specs.declared.machine.Machine.{Machine}
use Rattle.pf_state.specs.declared.ready.Opened.{Opened}
use Rattle.pf_state.specs.declared.ready.Ready.{Ready}
use Rattle.pf_table.specs.declared.entry.Entry.{Entry}
use Rattle.pf_engine.specs.HostLines.{with_facts}
use Rattle.pf_engine.specs.Laws.{ChangesNothing}
use Rattle.pf_engine.specs.LoadLines.{Checking, Loading, OpenBehind, Opening, filled_of}
use Rattle.pf_engine.specs.SessionLines.{CommitOf, rolled_back, step_flush, step_rollback}
use Rattle.pf_engine.specs.ShowLines.{show}
use Rattle.pf_engine.specs.Step.{LineDoes, step}
use Rattle.pf_engine.specs.Steps.{done, done_unless, refused}
use Rattle.pf_engine.specs.TableLines.{TableDoes, changed_as, changed_by, if_there, matched, shown_table, tested_as, told}
use Rattle.pf_engine.specs.TestLines.{tested}

-- where the line is refused, the machine is this
abbrev Leaves : Machine → Stepped Machine → Type 0
Leaves machine does = does.refused ≡ true → does.machine ≡ machine

by_refusal : (machine : Machine) (refusal : Refusal) (does : Stepped Machine) → does ≡ refused machine refusal → Leaves machine does
by_refusal machine refusal does e h = ap (λ (d : Stepped Machine). d.machine) e

-- what was done isn't refused
by_none : (machine : Machine) (does : Stepped Machine) → does.refused ≡ false → Leaves machine does
by_none machine does done h = absurd (false≢true (sym done ∙ h))

by_done : (machine after : Machine) (reply : Reply) (does : Stepped Machine) → does ≡ done after reply → Leaves machine does
by_done machine after reply does e = by_none machine does (ap (λ (d : Stepped Machine). d.refused) e)

by_either : (refusal : Option Refusal) (before after : Machine) (reply : Reply) (does : Stepped Machine) → does ≡ done_unless refusal before after reply → Leaves before does
by_either None before after reply does e = by_done before after reply does e
by_either (Some refusal) before after reply does e = by_refusal before refusal does e

by_load : (machine : Machine) (answer : Result Ready Refusal) (does : Stepped Machine) → Loading machine answer does → Leaves machine does
by_load machine (Err refusal) does e = by_refusal machine refusal does e
by_load machine (Ok ready) does puts = by_either puts.refusal machine (loaded ready machine) (replies.Loaded (filled_of ready)) does puts.is

by_check : (machine : Machine) (answer : Result Ready Refusal) (does : Stepped Machine) → Checking machine answer does → Leaves machine does
by_check machine (Err refusal) does e = by_refusal machine refusal does e
by_check machine (Ok ready) does puts = by_either puts.refusal machine machine (replies.Checked (filled_of ready)) does puts.is

by_open : (machine : Machine) (name : List ℕ) (answer : Result Ready Refusal) (does : Stepped Machine) → Opening machine name answer does → Leaves machine does
by_open machine name (Err refusal) does e = by_refusal machine refusal does e
by_open machine name (Ok ready) does e = by_either (open_refusal machine ready) machine (opened name ready machine) (replies.Opened name machine.next) does e

by_entry : (refusal : Option Refusal) (disk : Disk) (machine : Machine) (name : List ℕ) (line : LoadLine) (does : Stepped Machine) → OpenBehind refusal disk machine name line does → Leaves machine does
by_entry (Some refusal) disk machine name line does e = by_refusal machine refusal does e
by_entry None disk machine name line does opens = by_open machine name opens.answer does opens.opening

by_rollback : (session : Option Opened) (machine : Machine) (name : List ℕ) (does : Stepped Machine) → does ≡ rolled_back session machine name → Leaves machine does
by_rollback None machine name does e = by_refusal machine (refusals.NoSession name) does e
by_rollback (Some session) machine name does e = by_done machine (closed name machine) (replies.RolledBack name) does e

by_change : (machine : Machine) (path : List (List ℕ)) (name : List ℕ) (kind : ChangeKind) (entries : List Entry) (does : Stepped Machine) → does ≡ changed_by machine path name kind entries → Leaves machine does
by_change machine path name kind entries does e =
    by_either (change_refusal machine.rulesets path name kind entries) machine (with_table path name kind entries machine)
    (told kind (change_counts machine.rulesets path name kind entries) (length entries)) does e

by_words : (machine : Machine) (path : List (List ℕ)) (name : List ℕ) (kind : ChangeKind) (read : Result (List Entry) (List ℕ)) (does : Stepped Machine) → does ≡ changed_as machine path name kind read → Leaves machine does
by_words machine path name kind (Ok entries) does e = by_change machine path name kind entries does e
by_words machine path name kind (Err word) does e = by_refusal machine (refusals.BadAddress word) does e

there_or_not : (b : Bool) (machine : Machine) (does other : Stepped Machine) → does.machine ≡ machine → other.machine ≡ machine → (if b then does else other).machine ≡ machine
there_or_not true machine does other e f = e
there_or_not false machine does other e f = f

by_table : (machine : Machine) (path : List (List ℕ)) (name : List ℕ) (there does : Stepped Machine) → there.machine ≡ machine → does ≡ if_there machine path name there → Leaves machine does
by_table machine path name there does same e h =
    ap (λ (d : Stepped Machine). d.machine) e ∙ there_or_not (is_some (table_at machine.rulesets path name)) machine there (refused machine (refusals.TableMissing name)) same refl

by_test : (machine : Machine) (path : List (List ℕ)) (name : List ℕ) (read : Result (List Addr) (List ℕ)) (does : Stepped Machine) → does ≡ tested_as machine path name read → Leaves machine does
by_test machine path name (Ok addrs) does e = by_table machine path name (matched machine path name addrs) does refl e
by_test machine path name (Err word) does e = by_refusal machine (refusals.BadAddress word) does e

by_action : (machine : Machine) (path : List (List ℕ)) (name : List ℕ) (action : TableAction) (does : Stepped Machine) → TableDoes machine path name action does → Leaves machine does
by_action machine path name (actions.Add words) does change = by_words machine path name kinds.Add change.read does change.is
by_action machine path name (actions.Delete words) does change = by_words machine path name kinds.Delete change.read does change.is
by_action machine path name (actions.Replace words) does change = by_words machine path name kinds.Replace change.read does change.is
by_action machine path name actions.Flush does e = by_change machine path name kinds.Flush [] does e
by_action machine path name actions.Show does e = by_table machine path name (shown_table machine path name) does refl e
by_action machine path name (actions.Test words) does test = by_test machine path name test.read does test.is

by_show : (machine : Machine) (what : Show) (does : Stepped Machine) → does ≡ show machine what → Leaves machine does
by_show machine (shows.Rules path) does e h = ap (λ (d : Stepped Machine). d.machine) e
by_show machine (shows.Written path) does e h = ap (λ (d : Stepped Machine). d.machine) e
by_show machine (shows.Tables path) does e h = ap (λ (d : Stepped Machine). d.machine) e
by_show machine (shows.Anchors path) does e h = ap (λ (d : Stepped Machine). d.machine) e
by_show machine (shows.Skips path) does e h = ap (λ (d : Stepped Machine). d.machine) e
by_show machine shows.Queues does e h = ap (λ (d : Stepped Machine). d.machine) e
by_show machine shows.Options does e h = ap (λ (d : Stepped Machine). d.machine) e

by_facts : (machine : Machine) (answer : Result HostFacts Refusal) (does : Stepped Machine) → does ≡ with_facts machine answer → Leaves machine does
by_facts machine (Ok facts) does e = by_none machine does (ap (λ (d : Stepped Machine). d.refused) e)
by_facts machine (Err refusal) does e = by_refusal machine refusal does e

by_packet : (machine : Machine) (read : Result Packet PacketFault) (does : Stepped Machine) → does ≡ tested machine read → Leaves machine does
by_packet machine (Ok packet) does e = by_none machine does (ap (λ (d : Stepped Machine). d.refused) e)
by_packet machine (Err fault) does e = by_refusal machine (refusals.BadPacket fault.0) does e

-- a refused commit of an open session closes it
by_commit : (machine : Machine) (line name : List ℕ) → command_of line ≡ Some (commands.Commit name) → (session : Option Opened) (does : Stepped Machine) → CommitOf session machine name does → does.refused ≡ true → ChangesNothing machine line does.machine
by_commit machine line name is None does e h = inl (ap (λ (d : Stepped Machine). d.machine) e)
by_commit machine line name is (Some session) does commits h =
    inr (record { name = name; commits = is; closed_is = by_either commits.refusal (closed name machine) (finished name session machine) (replies.Committed name) does commits.is h })

by_line : (disk : Disk) (machine : Machine) (line : List ℕ) (command : Option Command) → command_of line ≡ command → (does : Stepped Machine) → LineDoes disk machine command does → does.refused ≡ true → ChangesNothing machine line does.machine
unfolding step_rollback step_flush
by_line disk machine line None is does e h = inl (ap (λ (d : Stepped Machine). d.machine) e)
by_line disk machine line (Some (commands.Load options)) is does load h = inl (by_load machine load.answer does load.loading h)
by_line disk machine line (Some (commands.Check options)) is does check h = inl (by_check machine check.answer does check.checking h)
by_line disk machine line (Some (commands.Open name options)) is does open_line h = inl (by_entry (entry_refusal machine name) disk machine name options does open_line h)
by_line disk machine line (Some (commands.Commit name)) is does commit h = by_commit machine line name is (finite.get machine.sessions name) does commit h
by_line disk machine line (Some (commands.Rollback name)) is does e h = inl (by_rollback (finite.get machine.sessions name) machine name does e h)
by_line disk machine line (Some (commands.Flush path)) is does e h = inl (by_done machine (flushed path machine) (replies.Flushed path) does e h)
by_line disk machine line (Some (commands.Table path name action)) is does table h = inl (by_action machine path name action does table h)
by_line disk machine line (Some (commands.Show what)) is does e h = inl (by_show machine what does e h)
by_line disk machine line (Some (commands.Hosts file)) is does hosts h = inl (by_facts machine hosts.answer does hosts.is h)
by_line disk machine line (Some (commands.Test text)) is does test h = inl (by_packet machine test.read does test.is h)

pub leaves : (disk : Disk) (machine : Machine) (line : List ℕ) (does : Stepped Machine) → step disk machine line does → does.refused ≡ true → ChangesNothing machine line does.machine
unfolding step
leaves disk machine line does steps h = by_line disk machine line (command_of line) refl does steps h
