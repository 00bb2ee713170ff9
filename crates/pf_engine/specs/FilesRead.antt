-- What came of reading the files of a line, and the names of the reads that failed.
use Rattle.std.specs.Prelude.{ℕ, List, [], ◌∷◌, Option, Some, None, Result, Ok, Err}
use Rattle.pf_base.specs.declared.memory.NoMemory.{NoMemory}
use Rattle.pf_reply.specs.Refusals.{unread_of}
use Rattle.pf_reply.specs.declared.refusal.Refusal.{Refusal}
use Rattle.pf_reply.specs.declared.refusal.Refusal.TheVariants.{CannotRead}
use Rattle.pf_engine.specs.declared.loads.Read.{Read}
use Rattle.pf_engine.specs.declared.loads.Read.TheVariants.{Is, Refused}

-- what was read, or the refusal
abbrev pub read_as : {T : Type 0} → Read T → Result T Refusal
read_as (Is item) = Ok item
read_as (Refused refusal) = Err refusal

-- the file that couldn't be read
abbrev pub outage_of : Refusal → Option (List ℕ)
outage_of (CannotRead name) = Some name
outage_of refusal = None

abbrev pub outage_in : {T : Type 0} → Result T Refusal → Option (List ℕ)
outage_in (Ok item) = None
outage_in (Err refusal) = outage_of refusal

-- the reads that failed
abbrev pub unread_as : {T : Type 0} → Result T Refusal → List (List ℕ)
unread_as (Ok item) = []
unread_as (Err refusal) = unread_of refusal

abbrev pub unread_by : {T : Type 0} → Result (Read T) NoMemory → List (List ℕ)
unread_by (Ok read) = unread_as (read_as read)
unread_by (Err e) = []
