-- Commands that read no file: what they do tells of no file, and draws one ticket at most.
use Rattle.std.proofs.Common.{◌≡◌, ℕ, ◌+◌, ◌≤◌, Bool, true, false, List, [], ◌∷◌, length, map, Option, Some, None, Result, Ok, Err, refl, sym, ap, ◌∙◌, subst, arith}
use Rattle.std.specs.Prelude.{is_none, is_some, if◌then◌else◌}
use Rattle.std.specs.FinMap as finite
use Rattle.std.proofs.lemmas.Bool.{false≢true}
use Rattle.pf_addr.specs.declared.addr.Addr.{Addr}
use Rattle.pf_record.specs.AnswerText.{answer_text}
use Rattle.pf_record.specs.declared.field.PacketFault.{PacketFault}
use Rattle.pf_rule.specs.declared.packet.Packet.{Packet}
use Rattle.pf_reply.specs.Refusals.{unread_of}
use Rattle.pf_reply.specs.Replies as replies
use Rattle.pf_reply.specs.declared.refusal.Refusal.{Refusal}
use Rattle.pf_reply.specs.declared.refusal.Refusal.TheVariants as refusals
use Rattle.pf_reply.specs.declared.reply.Listing.{Listing}
use Rattle.pf_reply.specs.declared.reply.Listing.TheVariants as listings
use Rattle.pf_reply.specs.declared.reply.Reply.{Reply}
use Rattle.pf_reply.specs.declared.reply.Reply.TheVariants.{Committed, Flushed, Listed, Matched, RolledBack}
use Rattle.pf_runs.specs.Runs.{Stepped}
use Rattle.pf_script.specs.declared.command.Command.{Command}
use Rattle.pf_script.specs.declared.command.Command.TheVariants as commands
use Rattle.pf_script.specs.declared.command.Show.{Show}
use Rattle.pf_script.specs.declared.command.Show.TheVariants as shows
use Rattle.pf_script.specs.declared.command.TableAction.{TableAction}
use Rattle.pf_script.specs.declared.command.TableAction.TheVariants as actions
use Rattle.pf_shelf.specs.Change.{is_const}
use Rattle.pf_shelf.specs.declared.change.ChangeKind.{ChangeKind}
use Rattle.pf_shelf.specs.declared.change.ChangeKind.TheVariants as kinds
use Rattle.pf_source.specs.Disk.{Disk}
use Rattle.pf_state.specs.Limits.{most_entries}
use Rattle.pf_state.specs.Sessions.{closed, finished}
use Rattle.pf_state.specs.Tables.{change_counts, change_refusal, entries_at, matches_at, table_at, with_table}
use Rattle.pf_state.specs.declared.machine.Machine.{Machine}
use Rattle.pf_state.specs.declared.ready.Opened.{Opened}
use Rattle.pf_table.specs.declared.entry.Entry.{Entry}
use Rattle.pf_engine.specs.Answering.{reads_files}
use Rattle.pf_engine.specs.SessionLines.{CommitOf, rolled_back, step_flush, step_rollback}
use Rattle.pf_eval.specs.Rulesets.{named_children, optimised_in}
use Rattle.pf_print.specs.QueueText.{queue_line}
use Rattle.pf_print.specs.RuleText.{rule_text}
use Rattle.pf_print.specs.TableText.{entry_text}
use Rattle.pf_show.specs.Lines.{option_line}
use Rattle.pf_show.specs.Skipping.{skip_lines}
use Rattle.pf_state.specs.Flushes.{flushed}
use Rattle.pf_state.specs.Rulesets.{written_in}
use Rattle.pf_engine.specs.ShowLines.{lines_of_tables, show}
use Rattle.pf_engine.specs.Step.{CommandDoes}
use Rattle.pf_engine.specs.Steps.{done, done_unless, refused, shown}
use Rattle.pf_engine.specs.TableLines.{ChangeDoes, TableDoes, TableTestDoes, changed_as, changed_by, if_there, matched, shown_table, tested_as, told}
use Rattle.pf_engine.specs.TestLines.{asked, tested}
use Rattle.pf_engine.proofs.Apart.{answer_other, lines_other, reply_other}
use Rattle.pf_engine.proofs.Asking.{AsksWell, ReadsNothing, done_asks, quiet_asks, refused_asks, refused_quietly, unless_asks, unless_unread}
use Rattle.pf_engine.proofs.Judged.{commit_nothing, or_nothing, over_nothing}

pub record Quiet (machine : Machine) (does : Stepped Machine) : Type 0 where
  pub unread : does.unread ≡ []
  pub asks : AsksWell machine does
  pub draws : does.machine.next ≤ machine.next + 1

pub quiet_by : (machine : Machine) (does other : Stepped Machine) → does ≡ other → Quiet machine other → Quiet machine does
quiet_by machine does other is quiet = subst (λ (d : Stepped Machine). Quiet machine d) (sym is) quiet

quiet_refused : (machine : Machine) (refusal : Refusal) → unread_of refusal ≡ [] → Quiet machine (refused machine refusal)
quiet_refused machine refusal none = record { unread = none; asks = refused_asks machine refusal; draws = omega arith }

quiet_done : (machine after : Machine) (reply : Reply) → after.next ≤ machine.next + 1 → Quiet machine (done after reply)
quiet_done machine after reply draws = record { unread = refl; asks = done_asks machine after reply; draws = draws }

quiet_unless : (refusal : Option Refusal) (machine before after : Machine) (reply : Reply) → ReadsNothing refusal → before.next ≤ machine.next + 1 → after.next ≤ machine.next + 1 → Quiet machine (done_unless refusal before after reply)
quiet_unless None machine before after reply none low high = quiet_done machine after reply high
quiet_unless (Some refusal) machine before after reply none low high = record { unread = none; asks = refused_quietly machine before refusal none; draws = low }

quiet_shown : (machine : Machine) (listing : Listing) (lines : List (List ℕ)) → Quiet machine (shown machine listing lines)
quiet_shown machine listing lines = record {
  unread = refl;
  asks = quiet_asks machine (shown machine listing lines) refl (lines_other (replies.reply_text (Listed listing (length lines))) lines (reply_other (Listed listing (length lines))));
  draws = omega arith;
}

quiet_commit : (session : Option Opened) (machine : Machine) (name : List ℕ) (does : Stepped Machine) → CommitOf session machine name does → Quiet machine does
quiet_commit None machine name does is = quiet_by machine does _ is (quiet_refused machine (refusals.NoSession name) refl)
quiet_commit (Some session) machine name does commits =
    quiet_by machine does _ commits.is
    (quiet_unless commits.refusal machine (closed name machine) (finished name session machine) (Committed name) (commit_nothing machine session commits.refusal commits.judged) (omega arith) (omega arith))

quiet_rollback : (session : Option Opened) (machine : Machine) (name : List ℕ) → Quiet machine (rolled_back session machine name)
quiet_rollback None machine name = quiet_refused machine (refusals.NoSession name) refl
quiet_rollback (Some session) machine name = quiet_done machine (closed name machine) (RolledBack name) (omega arith)

change_nothing : (machine : Machine) (path : List (List ℕ)) (name : List ℕ) (kind : ChangeKind) (entries : List Entry) → ReadsNothing (change_refusal machine.rulesets path name kind entries)
change_nothing machine path name kind entries =
    or_nothing _ _
    (elim (is_none (table_at machine.rulesets path name)) as (λ b. ReadsNothing (if b then Some (refusals.TableMissing name) else None)) [ true ↦ refl | false ↦ tt ])
    (or_nothing _ _
    (elim (is_const (table_at machine.rulesets path name)) as (λ b. ReadsNothing (if b then Some (refusals.TableConst name) else None)) [ true ↦ refl | false ↦ tt ])
    (or_nothing _ None (over_nothing most_entries _ _ refl) tt))

quiet_change : (machine : Machine) (path : List (List ℕ)) (name : List ℕ) (kind : ChangeKind) (entries : List Entry) → Quiet machine (changed_by machine path name kind entries)
quiet_change machine path name kind entries =
    quiet_unless (change_refusal machine.rulesets path name kind entries) machine machine (with_table path name kind entries machine) (told kind (change_counts machine.rulesets path name kind entries) (length entries))
    (change_nothing machine path name kind entries) (omega arith) (omega arith)

quiet_changed : (machine : Machine) (path : List (List ℕ)) (name : List ℕ) (kind : ChangeKind) (read : Result (List Entry) (List ℕ)) → Quiet machine (changed_as machine path name kind read)
quiet_changed machine path name kind (Ok entries) = quiet_change machine path name kind entries
quiet_changed machine path name kind (Err word) = quiet_refused machine (refusals.BadAddress word) refl

quiet_changes : (machine : Machine) (path : List (List ℕ)) (name : List ℕ) (kind : ChangeKind) (words : List (List ℕ)) (does : Stepped Machine) → ChangeDoes machine path name kind words does → Quiet machine does
quiet_changes machine path name kind words does is = quiet_by machine does _ is.is (quiet_changed machine path name kind is.read)

quiet_there : (machine : Machine) (path : List (List ℕ)) (name : List ℕ) (does : Stepped Machine) → Quiet machine does → Quiet machine (if_there machine path name does)
quiet_there machine path name does quiet =
    elim (is_some (table_at machine.rulesets path name)) as (λ b. Quiet machine (if b then does else refused machine (refusals.TableMissing name))) [
      | true ↦ quiet
      | false ↦ quiet_refused machine (refusals.TableMissing name) refl
    ]

quiet_tested : (machine : Machine) (path : List (List ℕ)) (name : List ℕ) (read : Result (List Addr) (List ℕ)) → Quiet machine (tested_as machine path name read)
quiet_tested machine path name (Ok addrs) =
    quiet_there machine path name (matched machine path name addrs) (quiet_done machine machine (Matched (matches_at machine.rulesets path name addrs) (length addrs)) (omega arith))
quiet_tested machine path name (Err word) = quiet_refused machine (refusals.BadAddress word) refl

quiet_table : (machine : Machine) (path : List (List ℕ)) (name : List ℕ) (action : TableAction) (does : Stepped Machine) → TableDoes machine path name action does → Quiet machine does
quiet_table machine path name (actions.Add words) does is = quiet_changes machine path name kinds.Add words does is
quiet_table machine path name (actions.Delete words) does is = quiet_changes machine path name kinds.Delete words does is
quiet_table machine path name (actions.Replace words) does is = quiet_changes machine path name kinds.Replace words does is
quiet_table machine path name actions.Flush does is = quiet_by machine does _ is (quiet_change machine path name kinds.Flush [])
quiet_table machine path name actions.Show does is = quiet_by machine does _ is (quiet_there machine path name (shown_table machine path name) (quiet_shown machine listings.Table (map entry_text (entries_at machine.rulesets path name))))
quiet_table machine path name (actions.Test words) does is = quiet_by machine does _ is.is (quiet_tested machine path name is.read)

quiet_show : (machine : Machine) (what : Show) → Quiet machine (show machine what)
quiet_show machine (shows.Rules path) = quiet_shown machine listings.Rules (map rule_text (optimised_in (finite.get machine.rulesets path)))
quiet_show machine (shows.Written path) = quiet_shown machine listings.Written (map rule_text (written_in (finite.get machine.rulesets path)))
quiet_show machine (shows.Tables path) = quiet_shown machine listings.Tables (lines_of_tables (finite.get machine.rulesets path))
quiet_show machine (shows.Anchors path) = quiet_shown machine listings.Anchors (named_children machine.rulesets path)
quiet_show machine (shows.Skips path) = quiet_shown machine listings.Skips (skip_lines (optimised_in (finite.get machine.rulesets path)))
quiet_show machine shows.Queues = quiet_shown machine listings.Queues (map queue_line machine.whole.queues)
quiet_show machine shows.Options = quiet_shown machine listings.Options (map option_line machine.whole.options)

quiet_test : (machine : Machine) (read : Result Packet PacketFault) → Quiet machine (tested machine read)
quiet_test machine (Ok packet) = record {
  unread = refl;
  asks = quiet_asks machine (tested machine (Ok packet)) refl (answer_other (asked machine packet));
  draws = omega arith;
}
quiet_test machine (Err fault) = quiet_refused machine (refusals.BadPacket fault.0) refl

-- a line that is no command
pub quiet_bad : (machine : Machine) → Quiet machine (refused machine refusals.BadCommand)
quiet_bad machine = quiet_refused machine refusals.BadCommand refl

pub quiet : (disk : Disk) (machine : Machine) (command : Command) (does : Stepped Machine) → reads_files (Some command) ≡ false → CommandDoes disk machine command does → Quiet machine does
unfolding step_flush step_rollback
quiet disk machine (commands.Load line) does reads is = absurd (false≢true (sym reads))
quiet disk machine (commands.Check line) does reads is = absurd (false≢true (sym reads))
quiet disk machine (commands.Open name line) does reads is = absurd (false≢true (sym reads))
quiet disk machine (commands.Commit name) does reads is = quiet_commit (finite.get machine.sessions name) machine name does is
quiet disk machine (commands.Rollback name) does reads is = quiet_by machine does _ is (quiet_rollback (finite.get machine.sessions name) machine name)
quiet disk machine (commands.Flush path) does reads is = quiet_by machine does _ is (quiet_done machine (flushed path machine) (Flushed path) (omega arith))
quiet disk machine (commands.Table path name action) does reads is = quiet_table machine path name action does is
quiet disk machine (commands.Show what) does reads is = quiet_by machine does _ is (quiet_show machine what)
quiet disk machine (commands.Hosts file) does reads is = absurd (false≢true (sym reads))
quiet disk machine (commands.Test text) does reads is = quiet_by machine does _ is.is (quiet_test machine is.read)
