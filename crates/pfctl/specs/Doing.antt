-- What the parts of the program do: a write of a reply, lines that are executed, the input that is read.
use Rattle.std.specs.Prelude.{◌≡◌, ℕ, ◌≤◌, Bool, true, false, List, [], ◌∷◌, ◌++◌, take, Result, Ok, Err}
use Rattle.std.specs.Io.KnownBytes.{Appends, Keeps}
use Rattle.pf_base.specs.Text.{lines_of, whole_lines}
use Rattle.pf_source.specs.Causes.{Rose}
use Rattle.pf_source.specs.Streams.{WritesFront}
use Rattle.pf_source.specs.Told.{FilesTold, SinkTold, SourceTold, Told, file_of}
use Rattle.pf_runs.specs.Runs.{World, Executes, Stops, Cause, Write_failed, Out_of_memory}
use Rattle.pf_engine.specs.Step.{step}
use Rattle.pf_state.specs.declared.machine.Machine.{Machine}
use Rattle.pfctl.specs.declared.program.Status.{Status}
use Rattle.pfctl.specs.declared.program.Status.TheVariants as status
use Rattle.pfctl.specs.declared.session.Ending.{Ending}
use Rattle.pfctl.specs.declared.session.Ending.TheVariants as ending
use Rattle.pfctl.specs.declared.session.Session.{Session}
use Rattle.pfctl.specs.declared.session.Stop.{Stop}
use Rattle.pfctl.specs.declared.session.Stop.TheVariants as stop
use Rattle.pfctl.specs.Input.{InputPastLimit, InputToFault, InputToPiece, WholeInput, last_line, lines_ending_in, most_input}
use Rattle.pfctl.specs.Lines.{said_lines}

abbrev pub cause_of : Stop → Cause
cause_of stop.WriteFault = Write_failed
cause_of stop.NoMemory = Out_of_memory

-- a reply is one piece, and no reply is none
abbrev pub count_pieces : List ℕ → ℕ
count_pieces [] = 0
count_pieces (byte ∷ bytes) = 1

-- a reply is written whole, or a front of it at a failed write, or nothing for want of memory
abbrev pub Sends : {X : Type 0} → SinkTold → SinkTold → List ℕ → Result X Stop → Type 0
Sends old new reply (Ok x) = Appends old.written new.written reply
Sends old new reply (Err stop.WriteFault) = WritesFront old.written new.written reply
Sends old new reply (Err stop.NoMemory) = Keeps old.written new.written

-- a run stops at a failed write only where the sink's count rose; the count never falls
abbrev pub FailsByCount : {X : Type 0} → SinkTold → SinkTold → Result X Stop → Type 0
FailsByCount old new (Ok x) = old.faults ≤ new.faults
FailsByCount old new (Err stop.WriteFault) = Rose old.faults new.faults
FailsByCount old new (Err stop.NoMemory) = old.faults ≤ new.faults

-- the world of a run at one moment
abbrev pub world : Session → FilesTold → SinkTold → World Machine
world session files sink = record { machine = session.engine; refused = session.refused; files = files; sink = sink }

-- Where the files tell what they hold: these lines were executed.
abbrev pub Runs : List (List ℕ) → World Machine → World Machine → Type 0
Runs lines before after = Told before.files.held (λ held. Executes step (file_of held) lines before after)

-- the same, where the run stopped at one of them
abbrev pub Halts : Stop → List (List ℕ) → World Machine → World Machine → Type 0
Halts why lines before after = Told before.files.held (λ held. Stops step (file_of held) (cause_of why) lines before after)

-- the lines were executed, or a front of them where the run stopped
abbrev pub Performs : {X : Type 0} → List (List ℕ) → World Machine → World Machine → Result X Stop → Type 0
Performs lines before after (Ok x) = Runs lines before after
Performs lines before after (Err why) = Halts why lines before after

-- These lines were executed, and then the run stopped at one of the next ones.
pub record HaltsBehind (why : Stop) (lines next : List (List ℕ)) (before after : World Machine) : Type 0 where
  pub mid : World Machine
  pub runs : Runs lines before mid
  pub halts : Halts why next mid after

-- The whole input was read, and every line of it was executed.
pub record ReadsAll (lead : List ℕ) (input input' : SourceTold) (before after : World Machine) : Type 0 where
  pub whole : WholeInput input input'
  pub runs : Runs (said_lines lead (lines_of whole.read.front)) before after

-- A read failed: the whole lines read before it were executed.
pub record ReadsUntilFault (lead : List ℕ) (input input' : SourceTold) (before after : World Machine) : Type 0 where
  pub part : InputToFault input input'
  pub runs : Runs (said_lines lead (whole_lines part.read.front)) before after

-- More was read than the limit: the lines that end within it were executed.
pub record ReadsPastLimit (lead : List ℕ) (input input' : SourceTold) (before after : World Machine) : Type 0 where
  pub part : InputPastLimit input input'
  pub runs : Runs (said_lines lead (whole_lines (take most_input (part.read.front ++ part.read.piece)))) before after

-- The run stopped at a line that ends in the piece read last; the lines before the piece were executed.
pub record StopsInPiece (why : Stop) (lead : List ℕ) (input input' : SourceTold) (before after : World Machine) : Type 0 where
  pub part : InputToPiece input input'
  pub halts : HaltsBehind why (said_lines lead (whole_lines part.front)) (said_lines lead (lines_ending_in part.front part.piece)) before after

-- The run stopped at the last line, which has no newline.
pub record StopsAtLastLine (why : Stop) (lead : List ℕ) (input input' : SourceTold) (before after : World Machine) : Type 0 where
  pub whole : WholeInput input input'
  pub halts : HaltsBehind why (said_lines lead (whole_lines whole.read.front)) (said_lines lead (last_line whole.read.front)) before after

-- the run stopped at some line of the input
pub data ReadsUntilStop (why : Stop) (lead : List ℕ) (input input' : SourceTold) (before after : World Machine) : Type 0 where
  in_piece : StopsInPiece why lead input input' before after → ReadsUntilStop why lead input input' before after
  at_last_line : StopsAtLastLine why lead input input' before after → ReadsUntilStop why lead input input' before after

-- how the reading of the input ends
abbrev pub EndsInput : List ℕ → SourceTold → SourceTold → World Machine → World Machine → Result Ending Stop → Type 0
EndsInput lead input input' before after (Ok ending.AtEnd) = ReadsAll lead input input' before after
EndsInput lead input input' before after (Ok ending.ReadFault) = ReadsUntilFault lead input input' before after
EndsInput lead input input' before after (Ok ending.TooMuch) = ReadsPastLimit lead input input' before after
EndsInput lead input input' before after (Err why) = ReadsUntilStop why lead input input' before after

-- the status where the input came to its end, at a read that failed, or past the limit
abbrev pub status_at : Ending → Bool → Status
status_at ending.AtEnd true = status.Refused
status_at ending.AtEnd false = status.Done
status_at ending.ReadFault refused = status.ReadFault
status_at ending.TooMuch refused = status.TooMuchInput

-- the status of a run, which may stop before its end
abbrev pub status_by : Result Status Stop → Status
status_by (Ok result) = result
status_by (Err stop.WriteFault) = status.WriteFault
status_by (Err stop.NoMemory) = status.NoMemory
