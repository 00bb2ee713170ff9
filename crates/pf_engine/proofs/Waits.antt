-- A plan changes no ruleset before its commit, and a stale one none at all.
use Rattle.std.proofs.Common.{◌≡◌, ℕ, Bool, true, false, List, [], ◌∷◌, Option, Some, None, Result, Ok, Err, refl, sym, ap, subst, ◌∙◌, inl, inr, if◌then◌else◌}
use Rattle.std.specs.Prelude.{◌==◌, Contains, is_some}
use Rattle.std.specs.FinMap as finite
use Rattle.std.specs.Option.{option_map}
use Rattle.std.proofs.lemmas.Bool.{eqb-true, false≢true}
use Rattle.pf_addr.specs.declared.addr.Addr.{Addr}
use Rattle.pf_calls.specs.GraphLaws.{in_cons, none_in}
use Rattle.pf_host.specs.Facts.{HostFacts}
use Rattle.pf_optim.specs.declared.node.Node.{Node}
use Rattle.pf_record.specs.declared.field.PacketFault.{PacketFault}
use Rattle.pf_reply.specs.declared.refusal.Refusal.{Refusal}
use Rattle.pf_reply.specs.declared.refusal.Refusal.TheVariants as refusals
use Rattle.pf_reply.specs.declared.reply.Reply.{Reply}
use Rattle.pf_reply.specs.declared.reply.Reply.TheVariants as replies
use Rattle.pf_rule.specs.declared.packet.Packet.{Packet}
use Rattle.pf_runs.specs.Runs.{Stepped}
use Rattle.pf_script.specs.Command.{command_of}
use Rattle.pf_script.specs.declared.command.Command.{Command}
use Rattle.pf_script.specs.declared.command.Command.TheVariants as commands
use Rattle.pf_script.specs.declared.command.LoadLine.{LoadLine}
use Rattle.pf_script.specs.declared.command.Show.{Show}
use Rattle.pf_script.specs.declared.command.Show.TheVariants as shows
use Rattle.pf_script.specs.declared.command.TableAction.{TableAction}
use Rattle.pf_script.specs.declared.command.TableAction.TheVariants as actions
use Rattle.pf_source.specs.Disk.{Disk}
use Rattle.pf_state.specs.Commits.{committed, paths_of, stands_at}
use Rattle.pf_state.specs.Judging.{CommitJudged, call_refusal}
use Rattle.pf_state.specs.Limits.{first_of, tree_limits}
use Rattle.pf_state.specs.Rulesets.{Rulesets}
use Rattle.pf_state.specs.Sessions.{closed, entry_refusal, finished, open_refusal, opened}
use Rattle.pf_state.specs.Tables.{table_at}
use Rattle.pf_state.specs.Tickets.{Tickets, stale, ticket_at}
use Rattle.pf_state.specs.declared.machine.Machine.{Machine}
use Rattle.pf_state.specs.declared.ready.Opened.{Opened}
use Rattle.pf_state.specs.declared.ready.Ready.{Ready}
use Rattle.pf_state.specs.declared.ready.Staged.{Staged}
use Rattle.pf_engine.specs.HostLines.{with_facts}
use Rattle.pf_engine.specs.LoadLines.{Checking, OpenBehind, Opening, filled_of}
use Rattle.pf_engine.specs.SessionLines.{CommitOf, Commits, rolled_back, step_rollback}
use Rattle.pf_engine.specs.ShowLines.{show}
use Rattle.pf_engine.specs.Step.{LineDoes, step}
use Rattle.pf_engine.specs.Steps.{done, done_unless, refused}
use Rattle.pf_engine.specs.TableLines.{TableDoes, if_there, matched, shown_table, tested_as}
use Rattle.pf_engine.specs.TestLines.{tested}
use Rattle.pf_engine.specs.Waiting.{IsStale, OnlyCloses, StandsAsBefore, changes_rulesets}

-- ---- lines that change no ruleset

stands_by : (machine after : Machine) (does other : Stepped Machine) → does ≡ other → other.machine ≡ after → StandsAsBefore machine after → StandsAsBefore machine does.machine
stands_by machine after does other e same stands = subst (StandsAsBefore machine) (sym (ap (λ (d : Stepped Machine). d.machine) e ∙ same)) stands

itself : (machine : Machine) → StandsAsBefore machine machine
itself machine = record { rulesets = refl; whole = refl }

unmoved : (machine : Machine) (does other : Stepped Machine) → does ≡ other → other.machine ≡ machine → StandsAsBefore machine does.machine
unmoved machine does other e same = stands_by machine machine does other e same (itself machine)

unless : (refusal : Option Refusal) (machine after : Machine) (reply : Reply) (does : Stepped Machine) → does ≡ done_unless refusal machine after reply → StandsAsBefore machine after → StandsAsBefore machine does.machine
unless None machine after reply does e stands = stands_by machine after does (done after reply) e refl stands
unless (Some refusal) machine after reply does e stands = unmoved machine does (refused machine refusal) e refl

by_check : (machine : Machine) (answer : Result Ready Refusal) (does : Stepped Machine) → Checking machine answer does → StandsAsBefore machine does.machine
by_check machine (Err refusal) does e = unmoved machine does (refused machine refusal) e refl
by_check machine (Ok ready) does puts = unless puts.refusal machine machine (replies.Checked (filled_of ready)) does puts.is (itself machine)

by_open : (machine : Machine) (name : List ℕ) (answer : Result Ready Refusal) (does : Stepped Machine) → Opening machine name answer does → StandsAsBefore machine does.machine
by_open machine name (Err refusal) does e = unmoved machine does (refused machine refusal) e refl
by_open machine name (Ok ready) does e =
    unless (open_refusal machine ready) machine (opened name ready machine) (replies.Opened name machine.next) does e (record { rulesets = refl; whole = refl })

by_entry : (refusal : Option Refusal) (disk : Disk) (machine : Machine) (name : List ℕ) (line : LoadLine) (does : Stepped Machine) → OpenBehind refusal disk machine name line does → StandsAsBefore machine does.machine
by_entry (Some refusal) disk machine name line does e = unmoved machine does (refused machine refusal) e refl
by_entry None disk machine name line does opens = by_open machine name opens.answer does opens.opening

by_rollback : (session : Option Opened) (machine : Machine) (name : List ℕ) (does : Stepped Machine) → does ≡ rolled_back session machine name → StandsAsBefore machine does.machine
by_rollback None machine name does e = unmoved machine does (refused machine (refusals.NoSession name)) e refl
by_rollback (Some session) machine name does e = stands_by machine (closed name machine) does (done (closed name machine) (replies.RolledBack name)) e refl (record { rulesets = refl; whole = refl })

there_or_not : (b : Bool) (machine : Machine) (does other : Stepped Machine) → does.machine ≡ machine → other.machine ≡ machine → (if b then does else other).machine ≡ machine
there_or_not true machine does other e f = e
there_or_not false machine does other e f = f

by_there : (machine : Machine) (path : List (List ℕ)) (name : List ℕ) (there does : Stepped Machine) → there.machine ≡ machine → does ≡ if_there machine path name there → StandsAsBefore machine does.machine
by_there machine path name there does same e =
    unmoved machine does (if_there machine path name there) e (there_or_not (is_some (table_at machine.rulesets path name)) machine there (refused machine (refusals.TableMissing name)) same refl)

by_addrs : (machine : Machine) (path : List (List ℕ)) (name : List ℕ) (read : Result (List Addr) (List ℕ)) (does : Stepped Machine) → does ≡ tested_as machine path name read → StandsAsBefore machine does.machine
by_addrs machine path name (Ok addrs) does e = by_there machine path name (matched machine path name addrs) does refl e
by_addrs machine path name (Err word) does e = unmoved machine does (refused machine (refusals.BadAddress word)) e refl

by_table : (machine : Machine) (path : List (List ℕ)) (name : List ℕ) (action : TableAction) (does : Stepped Machine) → changes_rulesets (Some (commands.Table path name action)) ≡ false → TableDoes machine path name action does → StandsAsBefore machine does.machine
by_table machine path name (actions.Add words) does h table = absurd (false≢true (sym h))
by_table machine path name (actions.Delete words) does h table = absurd (false≢true (sym h))
by_table machine path name (actions.Replace words) does h table = absurd (false≢true (sym h))
by_table machine path name actions.Flush does h table = absurd (false≢true (sym h))
by_table machine path name actions.Show does h e = by_there machine path name (shown_table machine path name) does refl e
by_table machine path name (actions.Test words) does h test = by_addrs machine path name test.read does test.is

by_show : (machine : Machine) (what : Show) (does : Stepped Machine) → does ≡ show machine what → StandsAsBefore machine does.machine
by_show machine (shows.Rules path) does e = unmoved machine does _ e refl
by_show machine (shows.Written path) does e = unmoved machine does _ e refl
by_show machine (shows.Tables path) does e = unmoved machine does _ e refl
by_show machine (shows.Anchors path) does e = unmoved machine does _ e refl
by_show machine (shows.Skips path) does e = unmoved machine does _ e refl
by_show machine shows.Queues does e = unmoved machine does _ e refl
by_show machine shows.Options does e = unmoved machine does _ e refl

by_facts : (machine : Machine) (answer : Result HostFacts Refusal) (does : Stepped Machine) → does ≡ with_facts machine answer → StandsAsBefore machine does.machine
by_facts machine (Ok facts) does e = stands_by machine (record machine { facts = facts }) does _ e refl (record { rulesets = refl; whole = refl })
by_facts machine (Err refusal) does e = unmoved machine does (refused machine refusal) e refl

by_packet : (machine : Machine) (read : Result Packet PacketFault) (does : Stepped Machine) → does ≡ tested machine read → StandsAsBefore machine does.machine
by_packet machine (Ok packet) does e = unmoved machine does _ e refl
by_packet machine (Err fault) does e = unmoved machine does (refused machine (refusals.BadPacket fault.0)) e refl

by_line : (disk : Disk) (machine : Machine) (command : Option Command) (does : Stepped Machine) → changes_rulesets command ≡ false → LineDoes disk machine command does → StandsAsBefore machine does.machine
unfolding step_rollback
by_line disk machine None does h e = unmoved machine does (refused machine refusals.BadCommand) e refl
by_line disk machine (Some (commands.Load line)) does h load = absurd (false≢true (sym h))
by_line disk machine (Some (commands.Check line)) does h check = by_check machine check.answer does check.checking
by_line disk machine (Some (commands.Open name line)) does h open_line = by_entry (entry_refusal machine name) disk machine name line does open_line
by_line disk machine (Some (commands.Commit name)) does h commit = absurd (false≢true (sym h))
by_line disk machine (Some (commands.Rollback name)) does h e = by_rollback (finite.get machine.sessions name) machine name does e
by_line disk machine (Some (commands.Flush path)) does h e = absurd (false≢true (sym h))
by_line disk machine (Some (commands.Table path name action)) does h table = by_table machine path name action does h table
by_line disk machine (Some (commands.Show what)) does h e = by_show machine what does e
by_line disk machine (Some (commands.Hosts file)) does h hosts = by_facts machine hosts.answer does hosts.is
by_line disk machine (Some (commands.Test text)) does h test = by_packet machine test.read does test.is

pub waits : (disk : Disk) (machine : Machine) (line : List ℕ) (does : Stepped Machine) → changes_rulesets (command_of line) ≡ false → step disk machine line does → StandsAsBefore machine does.machine
unfolding step
waits disk machine line does h steps = by_line disk machine (command_of line) does h steps

-- ---- commits of an open session

-- the step of a commit whose session is open
pub commits : (disk : Disk) (machine : Machine) (line name : List ℕ) (session : Opened) (does : Stepped Machine) → command_of line ≡ Some (commands.Commit name) → finite.get machine.sessions name ≡ Some session → step disk machine line does → Commits machine name session does
unfolding step
commits disk machine line name session does is there steps =
    subst (λ (found : Option Opened). CommitOf found machine name does) there (subst (λ (command : Option Command). LineDoes disk machine command does) is steps)

-- a list of paths of which one has another ticket
record SomeRefusal (told : Option Refusal) : Type 0 where
  refusal : Refusal
  is : told ≡ Some refusal

stale_or : (held now : ℕ) (path : List (List ℕ)) (rest : Option Refusal) → ((held ≡ now) → SomeRefusal rest) → SomeRefusal (if held == now then rest else Some (refusals.Stale path held now))
stale_or held now path rest same =
    elim (held == now) as (λ b. (b ≡ true → held ≡ now) → SomeRefusal (if b then rest else Some (refusals.Stale path held now))) [
      | true ↦ λ is. same (is refl)
      | false ↦ λ is. record { refusal = refusals.Stale path held now; is = refl }
    ] (eqb-true held now)

some_stale : (tickets : Tickets) (held : ℕ) (paths : List (List (List ℕ))) (path : List (List ℕ)) → Contains paths path → (held ≡ ticket_at tickets path → ⊥) → SomeRefusal (stale tickets held paths)
some_stale tickets held [] path within other = absurd (none_in path within)
some_stale tickets held (first ∷ paths) path within other =
    stale_or held (ticket_at tickets first) first (stale tickets held paths) (λ same. elim (in_cons first paths path within) [
      | inl is ↦ absurd (other (same ∙ ap (ticket_at tickets) is))
      | inr later ↦ some_stale tickets held paths path later other
    ])

-- a refusal in front is told
in_front : (told : Option Refusal) (refusal : Refusal) (rest : List (Option Refusal)) → told ≡ Some refusal → first_of (first_of (told ∷ []) ∷ rest) ≡ Some refusal
in_front told refusal rest is = ap (λ (o : Option Refusal). first_of (first_of (o ∷ []) ∷ rest)) is

closes_by : (name : List ℕ) (machine after : Machine) (reply : Reply) (refusal : Option Refusal) (some : SomeRefusal refusal) (does : Stepped Machine) → does ≡ done_unless refusal (closed name machine) after reply → OnlyCloses name machine does
closes_by name machine after reply refusal some does e =
    let is : does ≡ refused (closed name machine) some.refusal = e ∙ ap (λ (o : Option Refusal). done_unless o (closed name machine) after reply) some.is in
    record { refused = ap (λ (d : Stepped Machine). d.refused) is; machine = ap (λ (d : Stepped Machine). d.machine) is }

pub only_closes : (machine : Machine) (name : List ℕ) (session : Opened) (does : Stepped Machine) → IsStale machine session → Commits machine name session does → OnlyCloses name machine does
only_closes machine name session does is commit =
    let found = some_stale machine.tickets session.ticket (paths_of session.ready.parts) is.path is.part is.other in
    closes_by name machine (finished name session machine) (replies.Committed name) commit.refusal
    (record {
      refusal = found.refusal;
      is = commit.judged.is ∙ in_front (stale machine.tickets session.ticket (paths_of session.ready.parts)) found.refusal (option_map call_refusal commit.judged.calls ∷ tree_limits (committed session.ready.parts machine.rulesets)) found.is;
    }) does commit.is

-- ---- a commit that is accepted

finished_by : (refusal : Option Refusal) (before after : Machine) (reply : Reply) (does : Stepped Machine) → does ≡ done_unless refusal before after reply → does.refused ≡ false → does.machine ≡ after
finished_by None before after reply does e h = ap (λ (d : Stepped Machine). d.machine) e
finished_by (Some refusal) before after reply does e h = absurd (false≢true (sym h ∙ ap (λ (d : Stepped Machine). d.refused) e))

-- what pf_state says of a load, path by path
abbrev pub IsOneReplacement : Type 0
IsOneReplacement = (parts : List Staged) (rulesets : Rulesets) (path : List (List ℕ)) → finite.get (committed parts rulesets) path ≡ stands_at parts rulesets path

pub at_once : IsOneReplacement → (machine : Machine) (name : List ℕ) (session : Opened) (does : Stepped Machine) → Commits machine name session does → does.refused ≡ false → (path : List (List ℕ)) → finite.get does.machine.rulesets path ≡ stands_at session.ready.parts machine.rulesets path
at_once law machine name session does commit accepted path =
    ap (λ (after : Machine). finite.get after.rulesets path) (finished_by commit.refusal (closed name machine) (finished name session machine) (replies.Committed name) does commit.is accepted)
    ∙ law session.ready.parts machine.rulesets path
