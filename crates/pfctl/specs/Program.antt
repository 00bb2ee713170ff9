-- The program: what its words say, the lines that it executes, and what each of its ends means.
use Rattle.std.specs.Prelude.{◌≡◌, ◌≤◌, ℕ, Bool, true, false, List, [], ◌++◌, take, Option, Some, None}
use Rattle.std.specs.Io.KnownBytes.{Appends, Keeps}
use Rattle.std.specs.declared.io.ErrorKind.{ErrorKind}
use Rattle.std.specs.declared.io.ErrorKind.TheVariants as error
use Rattle.pf_base.specs.Text.{whole_lines, lines_of}
use Rattle.pf_source.specs.Causes.{CountsOn, Rose}
use Rattle.pf_source.specs.Disk.{Disk}
use Rattle.pf_source.specs.Streams.{WritesFront}
use Rattle.pf_source.specs.Told.{FilesTold, SourceTold, SinkTold}
use Rattle.pf_runs.specs.Runs.{World, Executes, Stops, Cause, Write_failed, Out_of_memory, pieces_of, reply_text}
use Rattle.pf_engine.specs.Step.{step}
use Rattle.pf_state.specs.Machine.{empty_machine}
use Rattle.pf_state.specs.declared.machine.Machine.{Machine}
use Rattle.pf_words.specs.Said.{Task, loads, runs_script, generates}
use Rattle.pfctl.specs.declared.program.Status.{Status}
use Rattle.pfctl.specs.declared.program.Status.TheVariants as status
use Rattle.pfctl.specs.Generating.{Generates}
use Rattle.pfctl.specs.Input.{InputPastLimit, InputToFault, InputToPiece, StoppedInput, WholeInput, last_line, lines_ending_in, most_input}
use Rattle.pfctl.specs.Lines.{Reading, load_and_test, program_lines, said_lines, script}

-- What the objects of the outside tell at one moment
pub record Outside : Type 0 where
  pub files : FilesTold
  pub source : SourceTold
  pub sink : SinkTold

abbrev pub outside : FilesTold → SourceTold → SinkTold → Outside
outside files source sink = record { files = files; source = source; sink = sink }

-- the program begins with the empty machine
abbrev pub opening : Outside → World Machine
opening outside = record { machine = empty_machine; refused = false; files = outside.files; sink = outside.sink }

abbrev pub closing : Machine → Bool → Outside → World Machine
closing machine refused outside = record { machine = machine; refused = refused; files = outside.files; sink = outside.sink }

-- Exactly these lines were executed, each to its end: what was written is the plain machine's output.
pub record Ran (disk : Disk) (lines : List (List ℕ)) (any_refused : Bool) (before after : Outside) : Type 0 where
  pub machine : Machine
  pub executes : Executes step disk lines (opening before) (closing machine any_refused after)

-- These lines were executed, each to its end, and then the run stopped at one of the next ones.
pub record Stopped (disk : Disk) (cause : Cause) (lines next : List (List ℕ)) (before after : Outside) : Type 0 where
  pub mid : World Machine
  pub executes : Executes step disk lines (opening before) mid
  pub machine : Machine
  pub any_refused : Bool
  pub stops : Stops step disk cause next mid (closing machine any_refused after)

-- The input was read to its end, within its limit, and every line of it was executed.
pub record Finished (reading : Reading) (disk : Disk) (any_refused : Bool) (before after : Outside) : Type 0 where
  pub input : WholeInput before.source after.source
  pub ran : Ran disk (program_lines reading (lines_of input.read.front)) any_refused before after

-- A read failed, and is the last one: the whole lines read before it were executed.
pub record ReadFailed (reading : Reading) (disk : Disk) (before after : Outside) : Type 0 where
  pub input : InputToFault before.source after.source
  pub any_refused : Bool
  pub ran : Ran disk (program_lines reading (whole_lines input.read.front)) any_refused before after

-- More was read than the limit, in the last read: the lines that end within the limit were executed.
pub record ReadTooMuch (reading : Reading) (disk : Disk) (before after : Outside) : Type 0 where
  pub input : InputPastLimit before.source after.source
  pub any_refused : Bool
  pub ran : Ran disk (program_lines reading (whole_lines (take most_input (input.read.front ++ input.read.piece)))) any_refused before after

-- The run stopped at its first lines, before the input was read.
pub record BrokeAtFirst (reading : Reading) (disk : Disk) (cause : Cause) (before after : Outside) : Type 0 where
  pub unread : after.source ≡ before.source
  pub stopped : Stopped disk cause [] reading.first before after

-- The run stopped at a line that ends in the piece read last: all lines that were whole before that piece were executed.
pub record BrokeInPiece (reading : Reading) (disk : Disk) (cause : Cause) (before after : Outside) : Type 0 where
  pub input : InputToPiece before.source after.source
  pub stopped : Stopped disk cause (program_lines reading (whole_lines input.front)) (said_lines reading.lead (lines_ending_in input.front input.piece)) before after

-- The run stopped at the last line, which has no newline, when the whole input was read: all lines before it were executed.
pub record BrokeAtLastLine (reading : Reading) (disk : Disk) (cause : Cause) (before after : Outside) : Type 0 where
  pub input : WholeInput before.source after.source
  pub stopped : Stopped disk cause (program_lines reading (whole_lines input.read.front)) (said_lines reading.lead (last_line input.read.front)) before after

-- The run stopped before its end, at a failed write or for want of memory, and nothing more was read.
pub data Broke (reading : Reading) (disk : Disk) (cause : Cause) (before after : Outside) : Type 0 where
  at_first : BrokeAtFirst reading disk cause before after → Broke reading disk cause before after
  in_piece : BrokeInPiece reading disk cause before after → Broke reading disk cause before after
  at_last_line : BrokeAtLastLine reading disk cause before after → Broke reading disk cause before after

-- what each status means where the input is read
abbrev pub MeansRead : Reading → Disk → Outside → Outside → Status → Type 0
MeansRead reading disk before after status.Done = Finished reading disk false before after
MeansRead reading disk before after status.Refused = Finished reading disk true before after
MeansRead reading disk before after status.Words = ⊥
MeansRead reading disk before after status.ReadFault = ReadFailed reading disk before after
MeansRead reading disk before after status.WriteFault = Broke reading disk Write_failed before after
MeansRead reading disk before after status.NoMemory = Broke reading disk Out_of_memory before after
MeansRead reading disk before after status.TooMuchInput = ReadTooMuch reading disk before after

-- No file was read, and nothing of the input.
pub record ReadsNothing (before after : Outside) : Type 0 where
  pub files : after.files ≡ before.files
  pub source : after.source ≡ before.source

-- What the generated run comes to was written whole, in one write.
pub record Summarised (number : ℕ) (before after : Outside) : Type 0 where
  pub unread : ReadsNothing before after
  pub reply : List (List ℕ)
  pub generates : Generates number reply
  pub written : Appends before.sink.written after.sink.written (reply_text reply)
  pub writes : CountsOn (pieces_of reply) before.sink.calls after.sink.calls

-- A front of it was written: this write failed, and is the last one.
pub record CutsSummary (number : ℕ) (before after : Outside) : Type 0 where
  pub unread : ReadsNothing before after
  pub reply : List (List ℕ)
  pub generates : Generates number reply
  pub written : WritesFront before.sink.written after.sink.written (reply_text reply)
  pub writes : CountsOn 1 before.sink.calls after.sink.calls

-- Nothing of it was written, in one write at most.
pub record SummarisesNothing (before after : Outside) : Type 0 where
  pub unread : ReadsNothing before after
  pub written : Keeps before.sink.written after.sink.written
  pub tries : ℕ
  pub once : tries ≤ 1
  pub writes : CountsOn tries before.sink.calls after.sink.calls

-- -g: what each status means; its load is never refused
abbrev pub MeansGenerated : ℕ → Outside → Outside → Status → Type 0
MeansGenerated number before after status.Done = Summarised number before after
MeansGenerated number before after status.Refused = ⊥
MeansGenerated number before after status.Words = ⊥
MeansGenerated number before after status.ReadFault = ⊥
MeansGenerated number before after status.WriteFault = CutsSummary number before after
MeansGenerated number before after status.NoMemory = SummarisesNothing before after
MeansGenerated number before after status.TooMuchInput = ⊥

-- words that say nothing: nothing is read or written
abbrev pub MeansNothing : Outside → Outside → Status → Type 0
MeansNothing before after status.Words = after ≡ before
MeansNothing before after status.NoMemory = after ≡ before
MeansNothing before after status = ⊥

-- what each status means, by what the words say
abbrev pub Means : Option Task → Disk → Outside → Outside → Status → Type 0
Means (Some (loads words)) disk before after status = MeansRead (load_and_test words) disk before after status
Means (Some runs_script) disk before after status = MeansRead script disk before after status
Means (Some (generates number)) disk before after status = MeansGenerated number before after status
Means None disk before after status = MeansNothing before after status

-- why a status comes where the input is read, whatever the files tell
abbrev pub HasReadCause : Outside → Outside → Status → Type 0
HasReadCause before after status.Done = WholeInput before.source after.source
HasReadCause before after status.Refused = WholeInput before.source after.source
HasReadCause before after status.Words = ⊥
HasReadCause before after status.ReadFault = InputToFault before.source after.source
HasReadCause before after status.WriteFault = Rose before.sink.faults after.sink.faults × StoppedInput before.source after.source
HasReadCause before after status.NoMemory = StoppedInput before.source after.source
HasReadCause before after status.TooMuchInput = InputPastLimit before.source after.source

-- -g: a write failed only where the sink's count rose
abbrev pub HasWriteCause : Outside → Outside → Status → Type 0
HasWriteCause before after status.WriteFault = Rose before.sink.faults after.sink.faults
HasWriteCause before after status = Unit {0}

-- why a status comes, by what the words say
abbrev pub HasCause : Option Task → Outside → Outside → Status → Type 0
HasCause (Some (loads words)) before after status = HasReadCause before after status
HasCause (Some runs_script) before after status = HasReadCause before after status
HasCause (Some (generates number)) before after status = MeansGenerated number before after status × HasWriteCause before after status
HasCause None before after status = MeansNothing before after status

-- the status where the words can't be had from the runtime: without memory, or because one is no text
abbrev pub unread_words : ErrorKind → Status
unread_words error.OutOfMemory = status.NoMemory
unread_words kind = status.Words

-- the exit status of the process
abbrev pub exit_number : Status → ℕ
exit_number status.Done = 0
exit_number status.Refused = 1
exit_number status.Words = 2
exit_number status.ReadFault = 3
exit_number status.WriteFault = 4
exit_number status.NoMemory = 5
exit_number status.TooMuchInput = 6
