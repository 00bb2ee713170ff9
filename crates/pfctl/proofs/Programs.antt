-- A run of the program: its first lines, and then the input.
use Rattle.std.proofs.Common.{◌≡◌, ◌≤◌, ℕ, Bool, true, false, List, [], ◌++◌, take, Ok, Err, refl, ◌∙◌}
use Rattle.pf_base.specs.Text.{whole_lines, lines_of}
use Rattle.pf_source.specs.Told.{FilesTold, SinkTold, SourceTold, Told, file_of}
use Rattle.pf_runs.specs.Runs.{World}
use Rattle.pf_runs.specs.RunLaws.{executes_nothing}
use Rattle.pf_engine.specs.Step.{step}
use Rattle.pf_state.specs.Machine.{empty_machine}
use Rattle.pf_state.specs.declared.machine.Machine.{Machine}
use Rattle.pfctl.specs.declared.session.Session.{Session}
use Rattle.pfctl.specs.declared.session.Ending.{Ending}
use Rattle.pfctl.specs.declared.session.Ending.TheVariants as ending
use Rattle.pfctl.specs.declared.session.Stop.{Stop}
use Rattle.pfctl.specs.declared.session.Stop.TheVariants as stop
use Rattle.pfctl.specs.Doing.{EndsInput, FailsByCount, Halts, HaltsBehind, ReadsAll, ReadsUntilStop, Runs, at_last_line as at_last, cause_of, in_piece as within_piece, status_at, status_by, world}
use Rattle.pfctl.specs.Input.{StoppedInput, last_line, lines_ending_in, most_input, to_end, to_piece, untouched}
use Rattle.pfctl.specs.Lines.{Reading, program_lines, said_lines}
use Rattle.pfctl.specs.Program.{Broke, Finished, HasReadCause, MeansRead, Outside, Ran, Stopped, at_first, at_last_line, closing, in_piece, opening, outside}
use Rattle.pfctl.proofs.Sessions.{fails_later, halts_idle, runs_on}

-- a session begins with the empty machine
pub begins : (session : Session) (files : FilesTold) (source : SourceTold) (sink : SinkTold) → session.engine ≡ empty_machine → session.refused ≡ false → world session files sink ≡ opening (outside files source sink)
begins session files source sink machine refused = λ i. record { machine = machine i; refused = refused i; files = files; sink = sink }

-- The first lines and then lines of the input were executed.
ran : (reading : Reading) (before after : Outside) (mid : World Machine) (machine : Machine) (any : Bool) (lines : List (List ℕ)) → Runs reading.first (opening before) mid → Runs (said_lines reading.lead lines) mid (closing machine any after) → Told before.files.held (λ held. Ran (file_of held) (program_lines reading lines) any before after)
ran reading before after mid machine any lines h k = record {
  at = λ held is. record {
    machine = machine;
    executes = (runs_on reading.first (said_lines reading.lead lines) (opening before) mid (closing machine any after) h k).at held is;
  };
}

-- The same, and then a stop.
stopped : (why : Stop) (reading : Reading) (before after : Outside) (mid : World Machine) (machine : Machine) (any : Bool) (lines next : List (List ℕ)) → Runs reading.first (opening before) mid → HaltsBehind why (said_lines reading.lead lines) (said_lines reading.lead next) mid (closing machine any after) → Told before.files.held (λ held. Stopped (file_of held) (cause_of why) (program_lines reading lines) (said_lines reading.lead next) before after)
stopped why reading before after mid machine any lines next h k = record {
  at = λ held is.
      let whole = (runs_on reading.first (said_lines reading.lead lines) (opening before) mid k.mid h k.runs).at held is in
      record { mid = k.mid; executes = whole; machine = machine; any_refused = any; stops = k.halts.at held (whole.goes.asks.held.held ∙ is) };
}

finished : (reading : Reading) (before after : Outside) (mid : World Machine) (machine : Machine) (any : Bool) → Runs reading.first (opening before) mid → ReadsAll reading.lead before.source after.source mid (closing machine any after) → Told before.files.held (λ held. Finished reading (file_of held) any before after)
finished reading before after mid machine any h k = record {
  at = λ held is. record { input = k.whole; ran = (ran reading before after mid machine any (lines_of k.whole.read.front) h k.runs).at held is };
}

-- the run came to an end of the input
pub means_ended : (reading : Reading) (before after : Outside) (mid : World Machine) (machine : Machine) (end : Ending) (any : Bool) → Runs reading.first (opening before) mid → EndsInput reading.lead before.source after.source mid (closing machine any after) (Ok end) → Told before.files.held (λ held. MeansRead reading (file_of held) before after (status_at end any))
means_ended reading before after mid machine ending.AtEnd true h k = finished reading before after mid machine true h k
means_ended reading before after mid machine ending.AtEnd false h k = finished reading before after mid machine false h k
means_ended reading before after mid machine ending.ReadFault any h k = record {
  at = λ held is. record { input = k.part; any_refused = any; ran = (ran reading before after mid machine any (whole_lines k.part.read.front) h k.runs).at held is };
}
means_ended reading before after mid machine ending.TooMuch any h k = record {
  at = λ held is. record { input = k.part; any_refused = any; ran = (ran reading before after mid machine any (whole_lines (take most_input (k.part.read.front ++ k.part.read.piece))) h k.runs).at held is };
}

broke : (why : Stop) (reading : Reading) (before after : Outside) (mid : World Machine) (machine : Machine) (any : Bool) → Runs reading.first (opening before) mid → ReadsUntilStop why reading.lead before.source after.source mid (closing machine any after) → Told before.files.held (λ held. Broke reading (file_of held) (cause_of why) before after)
broke why reading before after mid machine any h (within_piece k) = record {
  at = λ held is. in_piece (record { input = k.part; stopped = (stopped why reading before after mid machine any (whole_lines k.part.front) (lines_ending_in k.part.front k.part.piece) h k.halts).at held is });
}
broke why reading before after mid machine any h (at_last k) = record {
  at = λ held is. at_last_line (record { input = k.whole; stopped = (stopped why reading before after mid machine any (whole_lines k.whole.read.front) (last_line k.whole.read.front) h k.halts).at held is });
}

-- the run stopped within the input
pub means_stopped : (why : Stop) (reading : Reading) (before after : Outside) (mid : World Machine) (machine : Machine) (any : Bool) → Runs reading.first (opening before) mid → EndsInput reading.lead before.source after.source mid (closing machine any after) (Err why) → Told before.files.held (λ held. MeansRead reading (file_of held) before after (status_by (Err why)))
means_stopped stop.WriteFault reading before after mid machine any h k = broke stop.WriteFault reading before after mid machine any h k
means_stopped stop.NoMemory reading before after mid machine any h k = broke stop.NoMemory reading before after mid machine any h k

-- the run stopped at its first lines, before the input was read
broke_first : (why : Stop) (reading : Reading) (before after : Outside) (machine : Machine) (any : Bool) → after.source ≡ before.source → Halts why reading.first (opening before) (closing machine any after) → Told before.files.held (λ held. Broke reading (file_of held) (cause_of why) before after)
broke_first why reading before after machine any unread h = record {
  at = λ held is. at_first (record {
    unread = unread;
    stopped = record {
      mid = opening before;
      executes = executes_nothing step (file_of held) (opening before);
      machine = machine;
      any_refused = any;
      stops = h.at held is;
    };
  });
}

pub means_unbegun : (why : Stop) (reading : Reading) (before after : Outside) (machine : Machine) (any : Bool) → after.source ≡ before.source → Halts why reading.first (opening before) (closing machine any after) → Told before.files.held (λ held. MeansRead reading (file_of held) before after (status_by (Err why)))
means_unbegun stop.WriteFault reading before after machine any unread h = broke_first stop.WriteFault reading before after machine any unread h
means_unbegun stop.NoMemory reading before after machine any unread h = broke_first stop.NoMemory reading before after machine any unread h

-- nothing was done for want of memory
pub means_idle : (reading : Reading) (before : Outside) → Told before.files.held (λ held. MeansRead reading (file_of held) before before (status_by (Err stop.NoMemory)))
means_idle reading before = broke_first stop.NoMemory reading before before empty_machine false refl (halts_idle reading.first (opening before) (opening before) refl refl)

-- Why a status comes.

read_to_stop : (why : Stop) (lead : List ℕ) (a b : World Machine) (ia ib : SourceTold) → ReadsUntilStop why lead ia ib a b → StoppedInput ia ib
read_to_stop why lead a b ia ib (within_piece h) = to_piece h.part
read_to_stop why lead a b ia ib (at_last h) = to_end h.whole

by_count : (why : Stop) (before after : Outside) → StoppedInput before.source after.source → FailsByCount {X = Unit {0}} before.sink after.sink (Err why) → HasReadCause before after (status_by (Err why))
by_count stop.WriteFault before after read rose = (rose, read)
by_count stop.NoMemory before after read rose = read

-- nothing was read
pub cause_unread : (why : Stop) (before after : Outside) → after.source ≡ before.source → FailsByCount {X = Unit {0}} before.sink after.sink (Err why) → HasReadCause before after (status_by (Err why))
cause_unread why before after unread rose = by_count why before after (untouched unread) rose

-- the run stopped within the input
pub cause_stopped : (why : Stop) (lead : List ℕ) (before after : Outside) (a b : World Machine) (mid : SinkTold) → before.sink.faults ≤ mid.faults → FailsByCount {X = Unit {0}} mid after.sink (Err why) → EndsInput lead before.source after.source a b (Err why) → HasReadCause before after (status_by (Err why))
cause_stopped why lead before after a b mid later rose ends =
    by_count why before after (read_to_stop why lead a b before.source after.source ends) (fails_later {X = Unit {0}} before.sink mid after.sink (Err why) later rose)

-- the run came to an end of the input
pub cause_ended : (end : Ending) (any : Bool) (lead : List ℕ) (before after : Outside) (a b : World Machine) → EndsInput lead before.source after.source a b (Ok end) → HasReadCause before after (status_at end any)
cause_ended ending.AtEnd true lead before after a b h = h.whole
cause_ended ending.AtEnd false lead before after a b h = h.whole
cause_ended ending.ReadFault any lead before after a b h = h.part
cause_ended ending.TooMuch any lead before after a b h = h.part
