-- The files of a table's declaration, read one after the other (pf.conf(5), TABLES, file): the first that is absent or too large
-- ends the reading.
use Rattle.std.specs.Prelude.{◌≡◌, ℕ, ◌<◌, List, [], ◌∷◌, Option, Some, None, Result, Ok, Err}
use Rattle.pf_base.specs.declared.fault.FaultKind.TheVariants as kinds
use Rattle.pf_source.specs.Disk.{Disk, without}
use Rattle.pf_lexer.specs.ReadSoFar.{ReadSoFar}
use Rattle.pf_lexer.specs.Reads.{Look, absent, given, has_numbered, has_read, look_up, too_large}
use Rattle.pf_lexer.specs.declared.reads.ReadFile.{ReadFile}
use Rattle.pf_fault.specs.Order.{fault_at}
use Rattle.pf_fault.specs.declared.fault.Stop.{Stop}
use Rattle.pf_fault.specs.declared.fault.Stop.TheVariants.{Fault, Unread, NoMemory}

-- what comes of some readings: the files, in order, or why there are none; and what was read then
pub record Contents : Type 0 where
  pub files : Result (List ReadFile) Stop
  pub later : ReadSoFar

-- a file before the others
abbrev pub in_front : ReadFile → Result (List ReadFile) Stop → Result (List ReadFile) Stop
in_front file (Ok files) = Ok (file ∷ files)
in_front file (Err stop) = Err stop

-- a file that is too large is faulty as a whole
abbrev pub large_at : ℕ → Stop
large_at number = Fault (fault_at kinds.TooLarge (record { file = number; line = 0 }))

-- how the reading goes on where a disk answers this for a name
abbrev pub going_on : ReadSoFar → List ℕ → Look → (ReadSoFar → Contents) → Contents
going_on reads name absent rest = record { files = Err (Unread name); later = reads }
going_on reads name (too_large number) rest = record { files = Err (large_at number); later = has_numbered reads name }
going_on reads name (given number bytes) rest =
    let more = rest (has_read reads name bytes) in
    record { files = in_front (record { number = number; text = bytes }) more.files; later = more.later }

-- the files of these names over a disk
abbrev pub contents_of : Disk → List (List ℕ) → ReadSoFar → Contents
contents_of disk [] reads = record { files = Ok []; later = reads }
contents_of disk (name ∷ names) reads = going_on reads name (look_up disk reads name) (contents_of disk names)

-- What a call may answer. A file that can't be read is as if absent, and that for the whole call.
abbrev pub IsRead : Disk → List (List ℕ) → ReadSoFar → Result (List ReadFile) Stop → ReadSoFar → Type 0
IsRead disk names reads (Ok files) later = contents_of disk names reads ≡ record { files = Ok files; later = later }
IsRead disk names reads (Err (Fault fault)) later = contents_of disk names reads ≡ record { files = Err (Fault fault); later = later }
IsRead disk names reads (Err (Unread name)) later = (contents_of (without (Some name) disk) names reads).files ≡ Err (Unread name)
IsRead disk names reads (Err NoMemory) later = Unit {0}

-- a file that is too large, as it is told
pub record IsLarge (look : Look) (stop : Stop) : Type 0 where
  pub number : ℕ
  pub is : look ≡ too_large number
  pub told : stop ≡ large_at number

-- the answer to one reading is the disk's; a reading may always fail, and memory may be short
abbrev pub IsOneRead : Look → Result ReadFile Stop → Type 0
IsOneRead look (Ok file) = look ≡ given file.number file.text
IsOneRead look (Err (Fault fault)) = IsLarge look (Fault fault)
IsOneRead look (Err (Unread name)) = Unit {0}
IsOneRead look (Err NoMemory) = Unit {0}

-- what was read so far, after one reading
abbrev pub after_one : ReadSoFar → List ℕ → Result ReadFile Stop → ReadSoFar
after_one reads name (Ok file) = has_read reads name file.text
after_one reads name (Err (Fault fault)) = has_numbered reads name
after_one reads name (Err (Unread other)) = reads
after_one reads name (Err NoMemory) = reads

-- the file that can't be read is the one that was asked for
abbrev pub IfUnread : Result ReadFile Stop → List ℕ → Type 0
IfUnread (Ok file) name = Unit {0}
IfUnread (Err (Fault fault)) name = Unit {0}
IfUnread (Err (Unread other)) name = other ≡ name
IfUnread (Err NoMemory) name = Unit {0}

-- a number that is told is below this
abbrev pub IsNumberWithin : ℕ → Result ReadFile Stop → Type 0
IsNumberWithin count (Ok file) = file.number < count
IsNumberWithin count (Err (Fault fault)) = fault.place.file < count
IsNumberWithin count (Err (Unread name)) = Unit {0}
IsNumberWithin count (Err NoMemory) = Unit {0}
