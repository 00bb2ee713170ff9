-- Which lines begin rulesets anew, by what ticket, and what that makes of the sessions that wait for their commit (pf(4), DIOCXBEGIN
-- and DIOCXCOMMIT).
use Rattle.std.specs.Prelude.{◌≡◌, ◌⊎◌, ◌↔◌, ℕ, ◌<◌, ◌≤◌, false, List, [], ◌∷◌, ◌++◌, Contains, Option, Some, Ok}
use Rattle.std.specs.FinMap as finite
use Rattle.pf_reply.specs.Refusals.{refusal_text}
use Rattle.pf_reply.specs.declared.refusal.Refusal.TheVariants.{Stale}
use Rattle.pf_runs.specs.Runs.{Event, Stepped}
use Rattle.pf_script.specs.Command.{command_of}
use Rattle.pf_script.specs.declared.command.Command.{Command}
use Rattle.pf_script.specs.declared.command.Command.TheVariants as commands
use Rattle.pf_script.specs.declared.command.LoadLine.{LoadLine}
use Rattle.pf_source.specs.Disk.{Disk, without}
use Rattle.pf_state.specs.Commits.{paths_of}
use Rattle.pf_state.specs.Sessions.{closed}
use Rattle.pf_state.specs.Tickets.{ticket_at}
use Rattle.pf_state.specs.declared.machine.Machine.{Machine}
use Rattle.pf_state.specs.declared.ready.Opened.{Opened}
use Rattle.pf_state.specs.declared.ready.Ready.{Ready}
use Rattle.pf_engine.specs.LoadLines.{LineComes}
use Rattle.pf_engine.specs.Steps.{refused}
use Rattle.pf_engine.specs.Waiting.{IsStale}

-- ---- tickets that were drawn

-- a session has a ticket that was drawn, and each ruleset of its plan has that one or a later one
pub record IsDrawn (machine : Machine) (session : Opened) : Type 0 where
  pub drawn : session.ticket < machine.next
  pub rulesets : (path : List (List ℕ)) → Contains (paths_of session.ready.parts) path → session.ticket ≤ ticket_at machine.tickets path

-- the tickets of all paths and of all open sessions were drawn: each is below the next one
pub record TicketsAreDrawn (machine : Machine) : Type 0 where
  pub paths : (path : List (List ℕ)) → ticket_at machine.tickets path < machine.next
  pub sessions : (name : List ℕ) (session : Opened) → finite.get machine.sessions name ≡ Some session → IsDrawn machine session

-- no path and no open session has this ticket
pub record IsNew (machine : Machine) (ticket : ℕ) : Type 0 where
  pub paths : (path : List (List ℕ)) → ticket_at machine.tickets path ≡ ticket → ⊥
  pub sessions : (name : List ℕ) (session : Opened) → finite.get machine.sessions name ≡ Some session → session.ticket ≡ ticket → ⊥

-- ---- lines that begin rulesets

-- the files of a line come to a plan, of which this is a ruleset
pub record IsFilled (disk : Disk) (machine : Machine) (options : LoadLine) (path : List (List ℕ)) : Type 0 where
  pub ready : Ready
  pub comes : LineComes disk machine.facts options (Ok ready)
  pub part : Contains (paths_of ready.parts) path

-- A command begins each ruleset of the plan that it loads or opens a session with, or the one that it flushes. No other command
-- begins any, not even a commit, whose rulesets were begun by its `open`.
abbrev pub CommandBegins : Disk → Machine → Option Command → List (List ℕ) → Type 0
CommandBegins disk machine (Some (commands.Load options)) path = IsFilled disk machine options path
CommandBegins disk machine (Some (commands.Open name options)) path = IsFilled disk machine options path
CommandBegins disk machine (Some (commands.Flush flushed)) path = path ≡ flushed
CommandBegins disk machine command path = ⊥

-- the line is done, and begins this ruleset
pub record Begins (disk : Disk) (machine : Machine) (line : List ℕ) (does : Stepped Machine) (path : List (List ℕ)) : Type 0 where
  pub done : does.refused ≡ false
  pub begins : CommandBegins disk machine (command_of line) path

-- the files of the line come to a plan, and the rulesets that the line begins are those of the plan
pub record BeginsItsPlan (disk : Disk) (machine : Machine) (options : LoadLine) (line : List ℕ) (does : Stepped Machine) : Type 0 where
  pub ready : Ready
  pub comes : LineComes disk machine.facts options (Ok ready)
  pub rulesets : (path : List (List ℕ)) → Begins disk machine line does path ↔ Contains (paths_of ready.parts) path

-- behind an `open` its session is there with the ticket that was next, and isn't stale
pub record OpensAnew (machine : Machine) (name : List ℕ) (after : Machine) : Type 0 where
  pub session : Opened
  pub there : finite.get after.sessions name ≡ Some session
  pub ticket : session.ticket ≡ machine.next
  pub anew : IsStale after session → ⊥

-- ---- runs

-- one of these events begins this ruleset, each from the machine that the one before left and over the files without its outage
abbrev pub BeginsAmong : Disk → Machine → List (Event Machine) → List (List ℕ) → Type 0
BeginsAmong disk machine [] path = ⊥
BeginsAmong disk machine (event ∷ events) path =
    Begins (without event.outage disk) machine event.line event.does path ⊎ BeginsAmong disk event.does.machine events path

-- one of these events begins a ruleset of the session's plan
pub record IsBegunAnew (disk : Disk) (machine : Machine) (events : List (Event Machine)) (session : Opened) : Type 0 where
  pub path : List (List ℕ)
  pub part : Contains (paths_of session.ready.parts) path
  pub begins : BeginsAmong disk machine events path

-- ---- commits

-- the first ruleset of the session's plan, in the order in which they were begun, that has another ticket than the session
pub record IsFirstStale (machine : Machine) (session : Opened) (path : List (List ℕ)) : Type 0 where
  pub before : List (List (List ℕ))
  pub behind : List (List (List ℕ))
  pub are : paths_of session.ready.parts ≡ before ++ path ∷ behind
  pub kept : (earlier : List (List ℕ)) → Contains before earlier → session.ticket ≡ ticket_at machine.tickets earlier
  pub other : session.ticket ≡ ticket_at machine.tickets path → ⊥

-- the commit is refused for the first such ruleset, with the session's ticket and the ruleset's, and closes the session
pub record RefusesStale (machine : Machine) (name : List ℕ) (session : Opened) (does : Stepped Machine) : Type 0 where
  pub path : List (List ℕ)
  pub first : IsFirstStale machine session path
  pub is : does ≡ refused (closed name machine) (Stale path session.ticket (ticket_at machine.tickets path))

-- the reply tells that a session is stale, for whatever ruleset and tickets
pub record TellsStale (does : Stepped Machine) : Type 0 where
  pub path : List (List ℕ)
  pub held : ℕ
  pub now : ℕ
  pub is : does.reply ≡ refusal_text (Stale path held now) ∷ []

-- an event opens this session: its `open` is done, and the session is there behind it
pub record OpensSession (event : Event Machine) (name : List ℕ) (session : Opened) : Type 0 where
  pub options : LoadLine
  pub opens : command_of event.line ≡ Some (commands.Open name options)
  pub done : event.does.refused ≡ false
  pub there : finite.get event.does.machine.sessions name ≡ Some session

-- One of the events opened the session, and what the commit does tells that it is stale exactly where one of the events since then
-- began a ruleset of its plan.
pub record IsStaleSince (disk : Disk) (events : List (Event Machine)) (name : List ℕ) (session : Opened) (does : Stepped Machine) : Type 0 where
  pub before : List (Event Machine)
  pub opening : Event Machine
  pub since : List (Event Machine)
  pub are : events ≡ before ++ opening ∷ since
  pub opens : OpensSession opening name session
  pub exactly : TellsStale does ↔ IsBegunAnew disk opening.does.machine since session
