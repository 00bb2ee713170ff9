-- Which lines begin rulesets: a line draws the next ticket for exactly those that it begins, or it begins none and draws none.
use Rattle.std.proofs.Common.{◌≡◌, ℕ, ◌+◌, ◌≤◌, ◌⊎◌, ◌↔◌, Bool, true, false, List, [], ◌∷◌, length, Option, Some, None, Result, Ok, Err, refl, sym, ap, subst, ◌∙◌, inl, inr, arith, if◌then◌else◌}
use Rattle.std.specs.Prelude.{Contains, is_some}
use Rattle.std.specs.FinMap as finite
use Rattle.std.proofs.lemmas.Bool.{false≢true}
use Rattle.pf_addr.specs.declared.addr.Addr.{Addr}
use Rattle.pf_calls.specs.GraphLaws.{in_cons, none_in, now_in}
use Rattle.pf_host.specs.Facts.{HostFacts}
use Rattle.pf_record.specs.declared.field.PacketFault.{PacketFault}
use Rattle.pf_reply.specs.declared.refusal.Refusal.{Refusal}
use Rattle.pf_reply.specs.declared.refusal.Refusal.TheVariants as refusals
use Rattle.pf_reply.specs.declared.reply.Reply.{Reply}
use Rattle.pf_reply.specs.declared.reply.Reply.TheVariants as replies
use Rattle.pf_rule.specs.declared.packet.Packet.{Packet}
use Rattle.pf_runs.specs.Runs.{Stepped}
use Rattle.pf_script.specs.Command.{command_of}
use Rattle.pf_script.specs.declared.command.Command.{Command}
use Rattle.pf_script.specs.declared.command.Command.TheVariants as commands
use Rattle.pf_script.specs.declared.command.LoadLine.{LoadLine}
use Rattle.pf_script.specs.declared.command.Show.{Show}
use Rattle.pf_script.specs.declared.command.Show.TheVariants as shows
use Rattle.pf_script.specs.declared.command.TableAction.{TableAction}
use Rattle.pf_script.specs.declared.command.TableAction.TheVariants as actions
use Rattle.pf_shelf.specs.declared.change.ChangeKind.{ChangeKind}
use Rattle.pf_shelf.specs.declared.change.ChangeKind.TheVariants as kinds
use Rattle.pf_source.specs.Disk.{Disk}
use Rattle.pf_state.specs.Commits.{loaded, paths_of}
use Rattle.pf_state.specs.Flushes.{flushed}
use Rattle.pf_state.specs.Sessions.{closed, entry_refusal, finished, open_refusal, opened}
use Rattle.pf_state.specs.Tables.{change_counts, change_refusal, table_at, with_table}
use Rattle.pf_state.specs.Tickets.{ticket_at}
use Rattle.pf_state.specs.declared.machine.Machine.{Machine}
use Rattle.pf_state.specs.declared.ready.Opened.{Opened}
use Rattle.pf_state.specs.declared.ready.Ready.{Ready}
use Rattle.pf_table.specs.declared.entry.Entry.{Entry}
use Rattle.pf_engine.specs.Anew.{Begins, BeginsItsPlan, CommandBegins, IsFilled, OpensAnew, TicketsAreDrawn}
use Rattle.pf_engine.specs.HostLines.{with_facts}
use Rattle.pf_engine.specs.LoadLines.{Checking, LineComes, Loading, OpenBehind, Opening, filled_of}
use Rattle.pf_engine.specs.SessionLines.{CommitOf, rolled_back, step_flush, step_rollback}
use Rattle.pf_engine.specs.ShowLines.{show}
use Rattle.pf_engine.specs.Step.{LineDoes, step}
use Rattle.pf_engine.specs.Steps.{done, done_unless, refused}
use Rattle.pf_engine.specs.TableLines.{TableDoes, changed_as, changed_by, if_there, matched, shown_table, tested_as, told}
use Rattle.pf_engine.specs.TestLines.{tested}
use Rattle.pf_engine.proofs.Drawing.{Draws, IsFor, Keeps, Path, draws_drawn, drawn_ticket, given_within, keeps_drawn, kept_ticket, new_session, opened_or_older, other_ticket, still_open, there_now, within_or_not}
use Rattle.pf_engine.proofs.OneThing.{ReadOneWay, line_one}

-- ---- lines that draw no ticket

keeps_by : (machine after : Machine) (does other : Stepped Machine) → does ≡ other → other.machine ≡ after → Keeps machine after → Keeps machine does.machine
keeps_by machine after does other e same keeps = subst (Keeps machine) (sym (ap (λ (d : Stepped Machine). d.machine) e ∙ same)) keeps

itself : (machine : Machine) → Keeps machine machine
itself machine = record { tickets = refl; next = refl; sessions = λ name session there. there }

unmoved : (machine : Machine) (does other : Stepped Machine) → does ≡ other → other.machine ≡ machine → Keeps machine does.machine
unmoved machine does other e same = keeps_by machine machine does other e same (itself machine)

unless : (refusal : Option Refusal) (machine before after : Machine) (reply : Reply) (does : Stepped Machine) → does ≡ done_unless refusal before after reply → Keeps machine before → Keeps machine after → Keeps machine does.machine
unless None machine before after reply does e left right = keeps_by machine after does (done after reply) e refl right
unless (Some refusal) machine before after reply does e left right = keeps_by machine before does (refused before refusal) e refl left

closed_keeps : (machine : Machine) (name : List ℕ) → Keeps machine (closed name machine)
closed_keeps machine name = record { tickets = refl; next = refl; sessions = still_open machine name }

finished_keeps : (machine : Machine) (name : List ℕ) (session : Opened) → Keeps machine (finished name session machine)
finished_keeps machine name session = record { tickets = refl; next = refl; sessions = still_open machine name }

by_check : (machine : Machine) (answer : Result Ready Refusal) (does : Stepped Machine) → Checking machine answer does → Keeps machine does.machine
by_check machine (Err refusal) does e = unmoved machine does (refused machine refusal) e refl
by_check machine (Ok ready) does puts = unless puts.refusal machine machine machine (replies.Checked (filled_of ready)) does puts.is (itself machine) (itself machine)

by_commit : (session : Option Opened) (machine : Machine) (name : List ℕ) (does : Stepped Machine) → CommitOf session machine name does → Keeps machine does.machine
by_commit None machine name does e = unmoved machine does (refused machine (refusals.NoSession name)) e refl
by_commit (Some session) machine name does commits =
    unless commits.refusal machine (closed name machine) (finished name session machine) (replies.Committed name) does commits.is (closed_keeps machine name) (finished_keeps machine name session)

by_rollback : (session : Option Opened) (machine : Machine) (name : List ℕ) (does : Stepped Machine) → does ≡ rolled_back session machine name → Keeps machine does.machine
by_rollback None machine name does e = unmoved machine does (refused machine (refusals.NoSession name)) e refl
by_rollback (Some session) machine name does e = keeps_by machine (closed name machine) does (done (closed name machine) (replies.RolledBack name)) e refl (closed_keeps machine name)

by_change : (machine : Machine) (path : Path) (name : List ℕ) (kind : ChangeKind) (entries : List Entry) (does : Stepped Machine) → does ≡ changed_by machine path name kind entries → Keeps machine does.machine
by_change machine path name kind entries does e =
    unless (change_refusal machine.rulesets path name kind entries) machine machine (with_table path name kind entries machine)
    (told kind (change_counts machine.rulesets path name kind entries) (length entries)) does e (itself machine) (record { tickets = refl; next = refl; sessions = λ name session there. there })

by_words : (machine : Machine) (path : Path) (name : List ℕ) (kind : ChangeKind) (read : Result (List Entry) (List ℕ)) (does : Stepped Machine) → does ≡ changed_as machine path name kind read → Keeps machine does.machine
by_words machine path name kind (Ok entries) does e = by_change machine path name kind entries does e
by_words machine path name kind (Err word) does e = unmoved machine does (refused machine (refusals.BadAddress word)) e refl

there_or_not : (b : Bool) (machine : Machine) (does other : Stepped Machine) → does.machine ≡ machine → other.machine ≡ machine → (if b then does else other).machine ≡ machine
there_or_not true machine does other e f = e
there_or_not false machine does other e f = f

by_there : (machine : Machine) (path : Path) (name : List ℕ) (there does : Stepped Machine) → there.machine ≡ machine → does ≡ if_there machine path name there → Keeps machine does.machine
by_there machine path name there does same e =
    unmoved machine does (if_there machine path name there) e (there_or_not (is_some (table_at machine.rulesets path name)) machine there (refused machine (refusals.TableMissing name)) same refl)

by_addrs : (machine : Machine) (path : Path) (name : List ℕ) (read : Result (List Addr) (List ℕ)) (does : Stepped Machine) → does ≡ tested_as machine path name read → Keeps machine does.machine
by_addrs machine path name (Ok addrs) does e = by_there machine path name (matched machine path name addrs) does refl e
by_addrs machine path name (Err word) does e = unmoved machine does (refused machine (refusals.BadAddress word)) e refl

by_table : (machine : Machine) (path : Path) (name : List ℕ) (action : TableAction) (does : Stepped Machine) → TableDoes machine path name action does → Keeps machine does.machine
by_table machine path name (actions.Add words) does change = by_words machine path name kinds.Add change.read does change.is
by_table machine path name (actions.Delete words) does change = by_words machine path name kinds.Delete change.read does change.is
by_table machine path name (actions.Replace words) does change = by_words machine path name kinds.Replace change.read does change.is
by_table machine path name actions.Flush does e = by_change machine path name kinds.Flush [] does e
by_table machine path name actions.Show does e = by_there machine path name (shown_table machine path name) does refl e
by_table machine path name (actions.Test words) does test = by_addrs machine path name test.read does test.is

by_show : (machine : Machine) (what : Show) (does : Stepped Machine) → does ≡ show machine what → Keeps machine does.machine
by_show machine (shows.Rules path) does e = unmoved machine does _ e refl
by_show machine (shows.Written path) does e = unmoved machine does _ e refl
by_show machine (shows.Tables path) does e = unmoved machine does _ e refl
by_show machine (shows.Anchors path) does e = unmoved machine does _ e refl
by_show machine (shows.Skips path) does e = unmoved machine does _ e refl
by_show machine shows.Queues does e = unmoved machine does _ e refl
by_show machine shows.Options does e = unmoved machine does _ e refl

by_facts : (machine : Machine) (answer : Result HostFacts Refusal) (does : Stepped Machine) → does ≡ with_facts machine answer → Keeps machine does.machine
by_facts machine (Ok facts) does e = keeps_by machine (record machine { facts = facts }) does _ e refl (record { tickets = refl; next = refl; sessions = λ name session there. there })
by_facts machine (Err refusal) does e = unmoved machine does (refused machine refusal) e refl

by_packet : (machine : Machine) (read : Result Packet PacketFault) (does : Stepped Machine) → does ≡ tested machine read → Keeps machine does.machine
by_packet machine (Ok packet) does e = unmoved machine does _ e refl
by_packet machine (Err fault) does e = unmoved machine does (refused machine (refusals.BadPacket fault.0)) e refl

-- ---- all lines

-- none is drawn, and the command begins no ruleset, or it isn't done
pub record DrawsNone (disk : Disk) (machine : Machine) (command : Option Command) (does : Stepped Machine) : Type 0 where
  pub keeps : Keeps machine does.machine
  pub none : (path : Path) → does.refused ≡ false → CommandBegins disk machine command path → ⊥

-- a session that the command opens, or one that was open before
pub record IsOpenedBy (command : Option Command) (name : List ℕ) : Type 0 where
  pub options : LoadLine
  pub is : command ≡ Some (commands.Open name options)

-- one is drawn, for the rulesets that the command begins
pub record DrawsOne (disk : Disk) (machine : Machine) (command : Option Command) (does : Stepped Machine) : Type 0 where
  pub paths : List Path
  pub draws : Draws paths machine does.machine
  pub is_done : does.refused ≡ false
  pub begins : (path : Path) → Contains paths path → CommandBegins disk machine command path
  pub only : ReadOneWay → (path : Path) → CommandBegins disk machine command path → Contains paths path
  pub older : (name : List ℕ) (session : Opened) → finite.get does.machine.sessions name ≡ Some session → (finite.get machine.sessions name ≡ Some session) ⊎ IsOpenedBy command name

abbrev pub DrawsSome : Disk → Machine → Option Command → Stepped Machine → Type 0
DrawsSome disk machine command does = DrawsNone disk machine command does ⊎ DrawsOne disk machine command does

is_refused : (machine : Machine) (refusal : Refusal) (does : Stepped Machine) → does ≡ refused machine refusal → does.refused ≡ false → ⊥
is_refused machine refusal does e h = false≢true (sym h ∙ ap (λ (d : Stepped Machine). d.refused) e)

draws_none : (disk : Disk) (machine : Machine) (command : Option Command) (refusal : Refusal) (does : Stepped Machine) → does ≡ refused machine refusal → DrawsNone disk machine command does
draws_none disk machine command refusal does e = record {
  keeps = unmoved machine does (refused machine refusal) e refl;
  none = λ path h begins. is_refused machine refusal does e h;
}

-- the machine with a ticket drawn, if there is no refusal
module _ (disk : Disk) (machine : Machine) (command : Option Command) (paths : List Path) (after : Machine) (draws : Draws paths machine after)
    (begins : (path : Path) → Contains paths path → CommandBegins disk machine command path)
    (only : ReadOneWay → (path : Path) → CommandBegins disk machine command path → Contains paths path)
    (opened_by : (name : List ℕ) (session : Opened) → finite.get after.sessions name ≡ Some session → (finite.get machine.sessions name ≡ Some session) ⊎ IsOpenedBy command name) where
  draws_one : (reply : Reply) (does : Stepped Machine) → does ≡ done after reply → DrawsOne disk machine command does
  draws_one reply does e = record {
    paths = paths;
    draws = subst (Draws paths machine) (sym (ap (λ (d : Stepped Machine). d.machine) e)) draws;
    is_done = ap (λ (d : Stepped Machine). d.refused) e;
    begins = begins;
    only = only;
    older = λ name session there. opened_by name session (subst (λ (d : Stepped Machine). finite.get d.machine.sessions name ≡ Some session) e there);
  }

  draws_or_not : (refusal : Option Refusal) (reply : Reply) (does : Stepped Machine) → does ≡ done_unless refusal machine after reply → DrawsSome disk machine command does
  draws_or_not None reply does e = inr (draws_one reply does e)
  draws_or_not (Some refusal) reply does e = inl (draws_none disk machine command refusal does e)

loaded_draws : (machine : Machine) (ready : Ready) → Draws (paths_of ready.parts) machine (loaded ready machine)
loaded_draws machine ready = record { tickets = refl; next = refl; sessions = λ name session there. inl there }

flushed_draws : (machine : Machine) (path : Path) → Draws (path ∷ []) machine (flushed path machine)
flushed_draws machine path = record { tickets = refl; next = refl; sessions = λ name session there. inl there }

is_for : (machine : Machine) (ready : Ready) (session : Opened) → new_session machine ready ≡ session → IsFor (paths_of ready.parts) machine session
is_for machine ready session e = record { ticket = ap (λ (s : Opened). s.ticket) (sym e); plan = ap (λ (s : Opened). paths_of s.ready.parts) (sym e) }

opened_draws : (machine : Machine) (name : List ℕ) (ready : Ready) → Draws (paths_of ready.parts) machine (opened name ready machine)
opened_draws machine name ready = record {
  tickets = refl;
  next = refl;
  sessions = λ other session there. elim (opened_or_older machine name ready other session there) [ inl was ↦ inl was | inr newest ↦ inr (is_for machine ready session newest.is) ];
}

-- ---- loads and sessions

same_plan : (a b : Ready) → ◌≡◌ {A = Result Ready Refusal} (Ok a) (Ok b) → a ≡ b
same_plan a b e = Prim.cc

-- the files of a line come to one plan
filled_only : ReadOneWay → (disk : Disk) (machine : Machine) (options : LoadLine) (ready : Ready) → LineComes disk machine.facts options (Ok ready) → (path : Path) → IsFilled disk machine options path → Contains (paths_of ready.parts) path
filled_only ones disk machine options ready comes path filled =
    let same = same_plan filled.ready ready (line_one ones disk machine.facts options (Ok filled.ready) (Ok ready) filled.comes comes) in
    subst (λ (plan : Ready). Contains (paths_of plan.parts) path) same filled.part

filled : (disk : Disk) (machine : Machine) (options : LoadLine) (ready : Ready) → LineComes disk machine.facts options (Ok ready) → (path : Path) → Contains (paths_of ready.parts) path → IsFilled disk machine options path
filled disk machine options ready comes path within = record { ready = ready; comes = comes; part = within }

of_load : (disk : Disk) (machine : Machine) (options : LoadLine) (answer : Result Ready Refusal) (does : Stepped Machine) → LineComes disk machine.facts options answer → Loading machine answer does → DrawsSome disk machine (Some (commands.Load options)) does
of_load disk machine options (Err refusal) does comes e = inl (draws_none disk machine (Some (commands.Load options)) refusal does e)
of_load disk machine options (Ok ready) does comes puts =
    draws_or_not disk machine (Some (commands.Load options)) (paths_of ready.parts) (loaded ready machine) (loaded_draws machine ready)
    (filled disk machine options ready comes) (λ ones. filled_only ones disk machine options ready comes) (λ name session there. inl there)
    puts.refusal (replies.Loaded (filled_of ready)) does puts.is

opened_here : (name : List ℕ) (options : LoadLine) (other : List ℕ) → other ≡ name → IsOpenedBy (Some (commands.Open name options)) other
opened_here name options other e = record { options = options; is = ap (λ (n : List ℕ). Some (commands.Open n options)) (sym e) }

of_open : (disk : Disk) (machine : Machine) (name : List ℕ) (options : LoadLine) (answer : Result Ready Refusal) (does : Stepped Machine) → LineComes disk machine.facts options answer → Opening machine name answer does → DrawsSome disk machine (Some (commands.Open name options)) does
of_open disk machine name options (Err refusal) does comes e = inl (draws_none disk machine (Some (commands.Open name options)) refusal does e)
of_open disk machine name options (Ok ready) does comes e =
    draws_or_not disk machine (Some (commands.Open name options)) (paths_of ready.parts) (opened name ready machine) (opened_draws machine name ready)
    (filled disk machine options ready comes) (λ ones. filled_only ones disk machine options ready comes)
    (λ other session there. elim (opened_or_older machine name ready other session there) [ inl was ↦ inl was | inr newest ↦ inr (opened_here name options other newest.named) ])
    (open_refusal machine ready) (replies.Opened name machine.next) does e

of_entry : (refusal : Option Refusal) (disk : Disk) (machine : Machine) (name : List ℕ) (options : LoadLine) (does : Stepped Machine) → OpenBehind refusal disk machine name options does → DrawsSome disk machine (Some (commands.Open name options)) does
of_entry (Some refusal) disk machine name options does e = inl (draws_none disk machine (Some (commands.Open name options)) refusal does e)
of_entry None disk machine name options does opens = of_open disk machine name options opens.answer does opens.comes opens.opening

of_flush : (disk : Disk) (machine : Machine) (path : Path) (does : Stepped Machine) → does ≡ done (flushed path machine) (replies.Flushed path) → DrawsSome disk machine (Some (commands.Flush path)) does
of_flush disk machine path does e =
    inr (draws_one disk machine (Some (commands.Flush path)) (path ∷ []) (flushed path machine) (flushed_draws machine path)
    (λ other within. elim (in_cons path [] other within) [ inl same ↦ sym same | inr later ↦ absurd (none_in other later) ])
    (λ ones other same. subst (λ (q : Path). Contains (path ∷ []) q) (sym same) (now_in path []))
    (λ name session there. inl there)
    (replies.Flushed path) does e)

by_line : (disk : Disk) (machine : Machine) (command : Option Command) (does : Stepped Machine) → LineDoes disk machine command does → DrawsSome disk machine command does
unfolding step_rollback step_flush
by_line disk machine None does e = inl (draws_none disk machine None refusals.BadCommand does e)
by_line disk machine (Some (commands.Load options)) does load = of_load disk machine options load.answer does load.comes load.loading
by_line disk machine (Some (commands.Check options)) does check = inl (record { keeps = by_check machine check.answer does check.checking; none = λ path h begins. begins })
by_line disk machine (Some (commands.Open name options)) does open_line = of_entry (entry_refusal machine name) disk machine name options does open_line
by_line disk machine (Some (commands.Commit name)) does commit = inl (record { keeps = by_commit (finite.get machine.sessions name) machine name does commit; none = λ path h begins. begins })
by_line disk machine (Some (commands.Rollback name)) does e = inl (record { keeps = by_rollback (finite.get machine.sessions name) machine name does e; none = λ path h begins. begins })
by_line disk machine (Some (commands.Flush path)) does e = of_flush disk machine path does e
by_line disk machine (Some (commands.Table path name action)) does table = inl (record { keeps = by_table machine path name action does table; none = λ path h begins. begins })
by_line disk machine (Some (commands.Show what)) does e = inl (record { keeps = by_show machine what does e; none = λ path h begins. begins })
by_line disk machine (Some (commands.Hosts file)) does hosts = inl (record { keeps = by_facts machine hosts.answer does hosts.is; none = λ path h begins. begins })
by_line disk machine (Some (commands.Test text)) does test = inl (record { keeps = by_packet machine test.read does test.is; none = λ path h begins. begins })

pub line_draws : (disk : Disk) (machine : Machine) (line : List ℕ) (does : Stepped Machine) → step disk machine line does → DrawsSome disk machine (command_of line) does
unfolding step
line_draws disk machine line does steps = by_line disk machine (command_of line) does steps

-- ---- what follows for each line

pub stays_drawn : (disk : Disk) (machine : Machine) (line : List ℕ) (does : Stepped Machine) → TicketsAreDrawn machine → step disk machine line does → TicketsAreDrawn does.machine
stays_drawn disk machine line does drawn steps =
    elim (line_draws disk machine line does steps) [
      | inl none ↦ keeps_drawn machine does.machine none.keeps drawn
      | inr one ↦ draws_drawn one.paths machine does.machine one.draws drawn
    ]

-- a ruleset that is begun has the next ticket
pub begun_has_next : ReadOneWay → (disk : Disk) (machine : Machine) (line : List ℕ) (does : Stepped Machine) (path : Path) → step disk machine line does → Begins disk machine line does path → ticket_at does.machine.tickets path ≡ machine.next
begun_has_next ones disk machine line does path steps begun =
    elim (line_draws disk machine line does steps) [
      | inl none ↦ absurd (none.none path begun.done begun.begins)
      | inr one ↦ drawn_ticket one.paths machine does.machine one.draws path (one.only ones path begun.begins)
    ]

-- each is begun, or has the ticket that it had
pub begun_or_kept : (disk : Disk) (machine : Machine) (line : List ℕ) (does : Stepped Machine) (path : Path) → step disk machine line does → Begins disk machine line does path ⊎ (ticket_at does.machine.tickets path ≡ ticket_at machine.tickets path)
begun_or_kept disk machine line does path steps =
    elim (line_draws disk machine line does steps) [
      | inl none ↦ inr (kept_ticket machine does.machine none.keeps path)
      | inr one ↦ elim (within_or_not one.paths path) [
        | inl within ↦ inl (record { done = one.is_done; begins = one.begins path within })
        | inr outside ↦ inr (other_ticket one.paths machine does.machine one.draws path outside)
      ]
    ]

pub others_keep : (disk : Disk) (machine : Machine) (line : List ℕ) (does : Stepped Machine) (path : Path) → step disk machine line does → (Begins disk machine line does path → ⊥) → ticket_at does.machine.tickets path ≡ ticket_at machine.tickets path
others_keep disk machine line does path steps unbegun =
    elim (begun_or_kept disk machine line does path steps) [ inl begun ↦ absurd (unbegun begun) | inr same ↦ same ]

no_less : (n m : ℕ) → m ≡ n → n ≤ m
no_less n m e = omega arith

one_more : (n m : ℕ) → m ≡ n + 1 → n ≤ m
one_more n m e = omega arith

pub next_rises : (disk : Disk) (machine : Machine) (line : List ℕ) (does : Stepped Machine) → step disk machine line does → machine.next ≤ does.machine.next
next_rises disk machine line does steps =
    elim (line_draws disk machine line does steps) [
      | inl none ↦ no_less machine.next does.machine.next none.keeps.next
      | inr one ↦ one_more machine.next does.machine.next one.draws.next
    ]

-- ---- which rulesets a line begins

-- what the files of a line that is done come to
record HasPlan (disk : Disk) (machine : Machine) (options : LoadLine) : Type 0 where
  ready : Ready
  comes : LineComes disk machine.facts options (Ok ready)

plan_loaded : (disk : Disk) (machine : Machine) (options : LoadLine) (answer : Result Ready Refusal) (does : Stepped Machine) → LineComes disk machine.facts options answer → Loading machine answer does → does.refused ≡ false → HasPlan disk machine options
plan_loaded disk machine options (Err refusal) does comes e h = absurd (is_refused machine refusal does e h)
plan_loaded disk machine options (Ok ready) does comes puts h = record { ready = ready; comes = comes }

plan_opened : (refusal : Option Refusal) (disk : Disk) (machine : Machine) (name : List ℕ) (options : LoadLine) (does : Stepped Machine) → OpenBehind refusal disk machine name options does → does.refused ≡ false → HasPlan disk machine options
plan_opened (Some refusal) disk machine name options does e h = absurd (is_refused machine refusal does e h)
plan_opened None disk machine name options does opens h = by_answer opens.answer opens.comes opens.opening
  where
    by_answer : (answer : Result Ready Refusal) → LineComes disk machine.facts options answer → Opening machine name answer does → HasPlan disk machine options
    by_answer (Err refusal) comes e = absurd (is_refused machine refusal does e h)
    by_answer (Ok ready) comes e = record { ready = ready; comes = comes }

pub load_begins : ReadOneWay → (disk : Disk) (machine : Machine) (line : List ℕ) (options : LoadLine) (does : Stepped Machine) → command_of line ≡ Some (commands.Load options) → step disk machine line does → does.refused ≡ false → BeginsItsPlan disk machine options line does
unfolding step
load_begins ones disk machine line options does is steps h =
    let load = subst (λ (command : Option Command). LineDoes disk machine command does) is steps in
    let plan = plan_loaded disk machine options load.answer does load.comes load.loading h in
    record {
      ready = plan.ready;
      comes = plan.comes;
      rulesets = λ path. (
        λ begun. filled_only ones disk machine options plan.ready plan.comes path (subst (λ (command : Option Command). CommandBegins disk machine command path) is begun.begins),
        λ within. record { done = h; begins = subst (λ (command : Option Command). CommandBegins disk machine command path) (sym is) (filled disk machine options plan.ready plan.comes path within) },
      );
    }

pub open_begins : ReadOneWay → (disk : Disk) (machine : Machine) (line name : List ℕ) (options : LoadLine) (does : Stepped Machine) → command_of line ≡ Some (commands.Open name options) → step disk machine line does → does.refused ≡ false → BeginsItsPlan disk machine options line does
unfolding step
open_begins ones disk machine line name options does is steps h =
    let opens = subst (λ (command : Option Command). LineDoes disk machine command does) is steps in
    let plan = plan_opened (entry_refusal machine name) disk machine name options does opens h in
    record {
      ready = plan.ready;
      comes = plan.comes;
      rulesets = λ path. (
        λ begun. filled_only ones disk machine options plan.ready plan.comes path (subst (λ (command : Option Command). CommandBegins disk machine command path) is begun.begins),
        λ within. record { done = h; begins = subst (λ (command : Option Command). CommandBegins disk machine command path) (sym is) (filled disk machine options plan.ready plan.comes path within) },
      );
    }

pub flush_begins : (disk : Disk) (machine : Machine) (line : List ℕ) (path : Path) (does : Stepped Machine) → command_of line ≡ Some (commands.Flush path) → step disk machine line does → (other : Path) → Begins disk machine line does other ↔ (other ≡ path)
unfolding step step_flush
flush_begins disk machine line path does is steps other =
    let e = subst (λ (command : Option Command). LineDoes disk machine command does) is steps in (
      λ begun. subst (λ (command : Option Command). CommandBegins disk machine command other) is begun.begins,
      λ same. record {
        done = ap (λ (d : Stepped Machine). d.refused) e;
        begins = subst (λ (command : Option Command). CommandBegins disk machine command other) (sym is) same;
      },
    )

-- ---- a session that is opened

opens_anew : (machine : Machine) (name : List ℕ) (ready : Ready) → OpensAnew machine name (opened name ready machine)
opens_anew machine name ready = record {
  session = new_session machine ready;
  there = there_now machine name ready;
  ticket = refl;
  anew = λ stale. stale.other (sym (given_within machine.next (paths_of ready.parts) machine.tickets stale.path stale.part));
}

anew_by : (refusal : Option Refusal) (machine : Machine) (name : List ℕ) (ready : Ready) (reply : Reply) (does : Stepped Machine) → does ≡ done_unless refusal machine (opened name ready machine) reply → does.refused ≡ false → OpensAnew machine name does.machine
anew_by (Some refusal) machine name ready reply does e h = absurd (is_refused machine refusal does e h)
anew_by None machine name ready reply does e h = subst (OpensAnew machine name) (sym (ap (λ (d : Stepped Machine). d.machine) e)) (opens_anew machine name ready)

anew_of : (machine : Machine) (name : List ℕ) (answer : Result Ready Refusal) (does : Stepped Machine) → Opening machine name answer does → does.refused ≡ false → OpensAnew machine name does.machine
anew_of machine name (Err refusal) does e h = absurd (is_refused machine refusal does e h)
anew_of machine name (Ok ready) does e h = anew_by (open_refusal machine ready) machine name ready (replies.Opened name machine.next) does e h

anew_behind : (refusal : Option Refusal) (disk : Disk) (machine : Machine) (name : List ℕ) (options : LoadLine) (does : Stepped Machine) → OpenBehind refusal disk machine name options does → does.refused ≡ false → OpensAnew machine name does.machine
anew_behind (Some refusal) disk machine name options does e h = absurd (is_refused machine refusal does e h)
anew_behind None disk machine name options does opens h = anew_of machine name opens.answer does opens.opening h

pub opened_anew : (disk : Disk) (machine : Machine) (line name : List ℕ) (options : LoadLine) (does : Stepped Machine) → command_of line ≡ Some (commands.Open name options) → step disk machine line does → does.refused ≡ false → OpensAnew machine name does.machine
unfolding step
opened_anew disk machine line name options does is steps h =
    anew_behind (entry_refusal machine name) disk machine name options does (subst (λ (command : Option Command). LineDoes disk machine command does) is steps) h

-- each open session was open before, or the line opened it
pub record IsOpenedNow (line name : List ℕ) (does : Stepped Machine) : Type 0 where
  pub options : LoadLine
  pub is : command_of line ≡ Some (commands.Open name options)
  pub done : does.refused ≡ false

pub open_or_opened : (disk : Disk) (machine : Machine) (line name : List ℕ) (session : Opened) (does : Stepped Machine) → step disk machine line does → finite.get does.machine.sessions name ≡ Some session → (finite.get machine.sessions name ≡ Some session) ⊎ IsOpenedNow line name does
open_or_opened disk machine line name session does steps there =
    elim (line_draws disk machine line does steps) [
      | inl none ↦ inl (none.keeps.sessions name session there)
      | inr one ↦ elim (one.older name session there) [
        | inl was ↦ inl was
        | inr here ↦ inr (record { options = here.options; is = here.is; done = one.is_done })
      ]
    ]
