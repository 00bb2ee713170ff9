-- What one read of the input and one write of the output do.
use Rattle.std.specs.Prelude.{ℕ, ◌+◌, ◌-◌, ◌^◌, ◌≤◌, ◌==◌, min, List, length, take, Option, Result, Ok, Err, if◌then◌else◌}
use Rattle.std.specs.Io.KnownBytes.{Appends, Keeps}
use Rattle.pf_source.specs.declared.fault.Failed.{Failed}
use Rattle.pf_source.specs.declared.fault.SinkFault.{SinkFault}
use Rattle.pf_source.specs.declared.fault.SinkFault.TheVariants as faults
use Rattle.pf_source.specs.declared.source.LastRead.{LastRead}

-- how many bytes a read gave
abbrev pub count_given : Result ℕ Failed → ℕ
count_given (Ok n) = n
count_given (Err e) = 0

-- how many reads failed in a call
abbrev pub read_failures : Result ℕ Failed → ℕ
read_failures (Ok n) = 0
read_failures (Err e) = 1

-- before any read
abbrev pub no_read : LastRead
no_read = record { size = 0; since = 0 }

-- one read more behind the last piece, which gave no bytes; the count stops at 2 ^ 64 - 1
abbrev pub gave_nothing : LastRead → LastRead
gave_nothing last = record { size = last.size; since = min (last.since + 1) (2 ^ 64 - 1) }

-- a read that gave a piece of this many bytes
abbrev pub gave_piece : ℕ → LastRead
gave_piece count = record { size = count; since = 0 }

-- after a read that gave this many bytes
abbrev pub after_read : LastRead → ℕ → LastRead
after_read last count = if count == 0 then gave_nothing last else gave_piece count

-- how many writes failed in a call
abbrev pub write_failures : {T : Type 0} → Result T SinkFault → ℕ
write_failures (Ok x) = 0
write_failures (Err faults.Failed) = 1
write_failures (Err faults.NoMemory) = 0

-- a front of the piece, of n bytes, was written
pub record WritesFront (old new : Option (List ℕ)) (piece : List ℕ) : Type 0 where
  pub taken : ℕ
  pub within : taken ≤ length piece
  pub written : Appends old new (take taken piece)

-- a failed write wrote a front of the piece
abbrev pub IfCutShort : {T : Type 0} → Result T SinkFault → Option (List ℕ) → Option (List ℕ) → List ℕ → Type 0
IfCutShort (Ok x) old new piece = Unit {0}
IfCutShort (Err faults.Failed) old new piece = WritesFront old new piece
IfCutShort (Err faults.NoMemory) old new piece = Unit {0}

-- a write without memory wrote nothing
abbrev pub IfNotWritten : {T : Type 0} → Result T SinkFault → Option (List ℕ) → Option (List ℕ) → Type 0
IfNotWritten (Ok x) old new = Unit {0}
IfNotWritten (Err faults.Failed) old new = Unit {0}
IfNotWritten (Err faults.NoMemory) old new = Keeps old new
