-- What the objects in memory tell, and which of their calls fail. Calls are numbered from 1.
use Rattle.std.specs.Prelude.{◌≡◌, ℕ, ◌+◌, ◌-◌, ◌^◌, ◌==◌, Bool, true, false, ◌||◌, List, Option, Some, None, Result, Ok, Err, drop, find, is_none, length, min, take}
use Rattle.std.specs.Io.KnownBytes.{Appends}
use Rattle.std.specs.List.{list_any}
use Rattle.pf_source.specs.declared.fault.Failed.{Failed}
use Rattle.pf_source.specs.declared.fault.FilesFault.{FilesFault}
use Rattle.pf_source.specs.declared.fault.FilesFault.TheVariants as files_faults
use Rattle.pf_source.specs.declared.fault.SinkFault.{SinkFault}
use Rattle.pf_source.specs.declared.fault.SinkFault.TheVariants as sink_faults
use Rattle.pf_source.specs.declared.memory.FailedWrite.{FailedWrite}
use Rattle.pf_source.specs.declared.memory.MemoryFiles.{MemoryFiles}
use Rattle.pf_source.specs.declared.memory.MemorySink.{MemorySink}
use Rattle.pf_source.specs.declared.memory.MemorySource.{MemorySource}
use Rattle.pf_source.specs.Told.{FilesTold, SinkTold, SourceTold, file_among, is_none_at_all}

-- what files in memory tell: they are steady where no call is to fail
abbrev pub files_told : MemoryFiles → FilesTold
files_told files = record { held = Some (record { files = files.content; sure = false }); steady = is_none_at_all files.fail; faults = files.faults; failed = Some files.failed.items }

-- what an input in memory tells
abbrev pub source_told : MemorySource → SourceTold
source_told source = record { left = Some (drop source.at source.content); given = source.at; faults = source.faults; last = source.last }

-- what an output in memory tells
abbrev pub sink_told : MemorySink → SinkTold
sink_told sink = record { written = Some sink.written.items; calls = sink.calls; faults = sink.faults }

-- how many calls were made, and which calls are to fail
pub record Calls (A : Type 0) : Type 0 where
  pub made : ℕ
  pub fail : List A

-- the calls of each object
abbrev pub files_calls : MemoryFiles → Calls ℕ
files_calls files = record { made = files.calls; fail = files.fail }

abbrev pub source_calls : MemorySource → Calls ℕ
source_calls source = record { made = source.calls; fail = source.fail }

abbrev pub sink_calls : MemorySink → Calls FailedWrite
sink_calls sink = record { made = sink.calls; fail = sink.fail }

-- the number of the call after so many; the count stops at 2 ^ 64 - 1
abbrev pub next_call : ℕ → ℕ
next_call made = min (made + 1) (2 ^ 64 - 1)

-- one call more was made
abbrev pub and_one : {A : Type 0} → Calls A → Calls A
and_one calls = record { made = next_call calls.made; fail = calls.fail }

-- the next call is to fail
abbrev pub is_next_to_fail : Calls ℕ → Bool
is_next_to_fail calls = list_any (λ number. number == next_call calls.made) calls.fail

-- the next read of this name fails: its call is to fail, or there is no such file
abbrev pub is_read_to_fail : MemoryFiles → List ℕ → Bool
is_read_to_fail files name = is_next_to_fail (files_calls files) || is_none (file_among files.content name)

-- a read of files fails exactly where it is to fail; memory may be short before that
abbrev pub FailsWhere : {T : Type 0} → Bool → Result T FilesFault → Type 0
FailsWhere fails (Ok text) = fails ≡ false
FailsWhere fails (Err files_faults.Failed) = fails ≡ true
FailsWhere fails (Err (files_faults.TooLarge seen)) = fails ≡ false
FailsWhere fails (Err files_faults.NoMemory) = Unit {0}

-- a read of the input failed
abbrev pub is_failed : Result ℕ Failed → Bool
is_failed (Ok n) = false
is_failed (Err e) = true

-- the first of the failing writes that has the number of the next write
abbrev pub next_failing : Calls FailedWrite → Option FailedWrite
next_failing calls = find (λ write. write.call == next_call calls.made) calls.fail

-- the write is one that is to fail, and as many bytes as it still takes were written, at most the piece
pub record IsFailingWrite (failing : Option FailedWrite) (piece : List ℕ) (old new : Option (List ℕ)) : Type 0 where
  pub write : FailedWrite
  pub is : failing ≡ Some write
  pub written : Appends old new (take (min write.taken (length piece)) piece)

-- a write fails exactly where it is to fail; memory may be short before that
abbrev pub WritesUnless : {T : Type 0} → Option FailedWrite → List ℕ → Option (List ℕ) → Option (List ℕ) → Result T SinkFault → Type 0
WritesUnless failing piece old new (Ok x) = failing ≡ None
WritesUnless failing piece old new (Err sink_faults.Failed) = IsFailingWrite failing piece old new
WritesUnless failing piece old new (Err sink_faults.NoMemory) = Unit {0}
