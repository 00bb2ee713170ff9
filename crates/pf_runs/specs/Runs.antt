-- What a run over lines is, for any machine and any step of it.
use Rattle.std.specs.Prelude.{◌≡◌, ℕ, ◌+◌, ◌≤◌, Bool, true, false, ◌||◌, List, [], ◌∷◌, ◌++◌, length, take, map, Option, Some, None}
use Rattle.std.specs.List.{flat_map}
use Rattle.std.specs.Io.KnownBytes.{Appends, Keeps}
use Rattle.pf_source.specs.Asks.{Asks, StaysHeld}
use Rattle.pf_source.specs.Causes.{CountsOn}
use Rattle.pf_source.specs.Disk.{Disk, without}
use Rattle.pf_source.specs.Told.{FilesTold, SinkTold}

-- What one line does: the machine after it, the lines of the reply, whether it was refused, and the files it was
-- refused for because they can't be read
pub record Stepped (M : Type 0) : Type 0 where
  pub machine : M
  pub reply : List (List ℕ)
  pub refused : Bool
  pub unread : List (List ℕ)

-- a step says, of some files, a machine and a line, what the line may do
abbrev pub Step : Type 0 → Type 1
Step M = Disk → M → List ℕ → Stepped M → Type 0

-- an outage is of the one file for which the line was refused
abbrev pub IsOutage : Option (List ℕ) → List (List ℕ) → Type 0
IsOutage None unread = Unit {0}
IsOutage (Some name) unread = unread ≡ name ∷ []

-- A line is executed, with an outage or none, and does this
pub record Event (M : Type 0) : Type 0 where
  pub line : List ℕ
  pub outage : Option (List ℕ)
  pub does : Stepped M

abbrev pub lines_in : {M : Type 0} → List (Event M) → List (List ℕ)
lines_in events = map (λ event. event.line) events

abbrev pub HaveNoOutage : {M : Type 0} → List (Event M) → Type 0
HaveNoOutage [] = Unit {0}
HaveNoOutage (event ∷ events) = (event.outage ≡ None) × HaveNoOutage events

-- Each event does what the step relates, from the machine that the one before left, over the files without its outage
abbrev pub Follow : {M : Type 0} → Step M → Disk → M → List (Event M) → Type 0
Follow step disk machine [] = Unit {0}
Follow step disk machine (event ∷ events) = step (without event.outage disk) machine event.line event.does × IsOutage event.outage event.does.unread × Follow step disk event.does.machine events

-- the bytes of a reply: each line with a newline
abbrev pub reply_text : List (List ℕ) → List ℕ
reply_text reply = flat_map (λ line. line ++ 10 ∷ []) reply

-- a reply goes out in one write, and a line without one makes none
abbrev pub pieces_of : List (List ℕ) → ℕ
pieces_of [] = 0
pieces_of (line ∷ reply) = 1

-- the machine after events
abbrev pub machine_after : {M : Type 0} → M → List (Event M) → M
machine_after machine [] = machine
machine_after machine (event ∷ events) = machine_after event.does.machine events

-- what is written: the replies to the events, one after another
abbrev pub output : {M : Type 0} → List (Event M) → List ℕ
output [] = []
output (event ∷ events) = reply_text event.does.reply ++ output events

-- how many writes that makes
abbrev pub count_writes : {M : Type 0} → List (Event M) → ℕ
count_writes [] = 0
count_writes (event ∷ events) = pieces_of event.does.reply + count_writes events

-- was some line refused?
abbrev pub any_refused : {M : Type 0} → List (Event M) → Bool
any_refused [] = false
any_refused (event ∷ events) = event.does.refused || any_refused events

-- the names of the files for which lines were refused because they can't be read, in the order of the lines
abbrev pub unread : {M : Type 0} → List (Event M) → List (List ℕ)
unread [] = []
unread (event ∷ events) = event.does.unread ++ unread events

-- What stands at one moment: the machine, whether some line was refused so far, and what the files and the sink tell
pub record World (M : Type 0) : Type 0 where
  pub machine : M
  pub refused : Bool
  pub files : FilesTold
  pub sink : SinkTold

-- From before to after, these events were executed, each to its end, and nothing else was written.
pub record Goes {M : Type 0} (step : Step M) (disk : Disk) (before : World M) (events : List (Event M)) (after : World M) : Type 0 where
  pub follow : Follow step disk before.machine events
  pub machine : after.machine ≡ machine_after before.machine events
  pub refused : after.refused ≡ (before.refused || any_refused events)
  pub written : Appends before.sink.written after.sink.written (output events)
  -- each reply in one write
  pub writes : CountsOn (count_writes events) before.sink.calls after.sink.calls
  -- each line that was refused for a file, and so each outage, is one of the reads that failed
  pub asks : Asks (unread events) before.files after.files
  -- steady files have no outage
  pub sure : before.files.steady ≡ true → HaveNoOutage events

-- These lines were executed, each to its end, with some outages.
pub record Executes {M : Type 0} (step : Step M) (disk : Disk) (lines : List (List ℕ)) (before after : World M) : Type 0 where
  pub events : List (Event M)
  pub are : lines_in events ≡ lines
  pub goes : Goes step disk before events after

-- One line was executed, with an outage or none: the machine after it, the files after it, the bytes of its reply,
-- which aren't written yet, and whether it was refused.
pub record Answers {M : Type 0} (step : Step M) (disk : Disk) (line : List ℕ) (before : M) (files : FilesTold) (after : M) (files' : FilesTold) (reply : List ℕ) (refused : Bool) : Type 0 where
  pub outage : Option (List ℕ)
  pub does : Stepped M
  pub steps : step (without outage disk) before line does
  pub machine : after ≡ does.machine
  pub replies : reply ≡ reply_text does.reply
  pub refuses : refused ≡ does.refused
  pub lost : IsOutage outage does.unread
  pub asks : Asks does.unread files files'
  pub sure : files.steady ≡ true → outage ≡ None

-- A line was executed, and of its reply a front was written: this write failed, and is the last one.
pub record CutsReply {M : Type 0} (step : Step M) (disk : Disk) (line : List ℕ) (before after : World M) : Type 0 where
  pub machine : M
  pub reply : List ℕ
  pub refused : Bool
  pub answers : Answers step disk line before.machine before.files machine after.files reply refused
  pub taken : ℕ
  pub written : Appends before.sink.written after.sink.written (take taken reply)
  pub writes : CountsOn 1 before.sink.calls after.sink.calls

-- Nothing was written, in one write at most; a read of a file may have failed.
pub record WritesNothing {M : Type 0} (before after : World M) : Type 0 where
  pub written : Keeps before.sink.written after.sink.written
  pub tries : ℕ
  pub once : tries ≤ 1
  pub writes : CountsOn tries before.sink.calls after.sink.calls
  pub more : List (List ℕ)
  pub asks : Asks more before.files after.files
  pub few : length more ≤ 1

-- why a run stops before its end
pub data Cause : Type 0 where
  Write_failed : Cause
  Out_of_memory : Cause

-- the line that was being executed when the run stopped, or none
abbrev pub StopsAt : {M : Type 0} → Step M → Disk → Cause → List (List ℕ) → World M → World M → Type 0
StopsAt step disk Write_failed [] before after = ⊥
StopsAt step disk Write_failed (line ∷ lines) before after = CutsReply step disk line before after
StopsAt step disk Out_of_memory lines before after = WritesNothing before after

-- A front of the lines was executed, and then the run stopped: a write of the next line's reply failed, or memory ran out.
pub record Stops {M : Type 0} (step : Step M) (disk : Disk) (cause : Cause) (lines : List (List ℕ)) (before after : World M) : Type 0 where
  pub front : List (List ℕ)
  pub rest : List (List ℕ)
  pub are : lines ≡ front ++ rest
  pub mid : World M
  pub executes : Executes step disk front before mid
  pub stops : StopsAt step disk cause rest mid after
  pub held : StaysHeld before.files after.files

-- A run without outages over these lines.
pub record Script {M : Type 0} (step : Step M) (disk : Disk) (machine : M) (lines : List (List ℕ)) : Type 0 where
  pub events : List (Event M)
  pub are : lines_in events ≡ lines
  pub follow : Follow step disk machine events
  pub whole : HaveNoOutage events

-- a line does this
pub record DoesSome {M : Type 0} (step : Step M) (disk : Disk) (machine : M) (line : List ℕ) : Type 0 where
  pub does : Stepped M
  pub steps : step disk machine line does

-- over this disk a line does one thing alone
abbrev pub DoesOneThing : {M : Type 0} → Step M → Disk → Type 0
DoesOneThing {M = M} step disk = (machine : M) (line : List ℕ) (a b : Stepped M) → step disk machine line a → step disk machine line b → a ≡ b
