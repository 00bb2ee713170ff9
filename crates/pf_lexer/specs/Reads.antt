-- What one load reads: its files, numbered in the order of their first readings, and the bytes that it may still read.
use Rattle.std.specs.Prelude.{◌≡◌, ℕ, ◌-◌, ◌≤◌, ◌++◌, List, [], ◌∷◌, length, min, nat_le, slice_get, Option, Some, None, Result, Ok, Err, if◌then◌else◌}
use Rattle.std.specs.List.{list_any, position_or_len}
use Rattle.std.specs.Str.{bytes_eq}
use Rattle.pf_source.specs.Disk.{Disk}
use Rattle.pf_lexer.specs.declared.reads.ReadFile.{ReadFile}
use Rattle.pf_lexer.specs.declared.reads.ReadsFault.{ReadsFault}
use Rattle.pf_lexer.specs.declared.reads.ReadsFault.TheVariants as faults
use Rattle.pf_lexer.specs.ReadSoFar.{ReadSoFar}

-- the number of a file: the place of its name in the list, from 0; for a name that isn't there, the list's length
abbrev pub number_of : List (List ℕ) → List ℕ → ℕ
number_of names name = position_or_len (bytes_eq name) names

-- the list with this name: it is added last, unless it is there
abbrev pub with_name : List (List ℕ) → List ℕ → List (List ℕ)
with_name names name = if list_any (bytes_eq name) names then names else names ++ name ∷ []

-- one file has at most 4 MiB, and at most the bytes that the load may still read
abbrev pub read_limit : ℕ → ℕ
read_limit left = min 4194304 left

-- after a reading of this file: its name has a number, and its bytes are taken from what is left
abbrev pub has_read : ReadSoFar → List ℕ → List ℕ → ReadSoFar
has_read reads name bytes = record { names = with_name reads.names name; left = reads.left - length bytes }

-- after a file that was too large: its name has a number, and nothing is taken
abbrev pub has_numbered : ReadSoFar → List ℕ → ReadSoFar
has_numbered reads name = record { names = with_name reads.names name; left = reads.left }

-- Some readings, one after the other, lead from these reads to the later ones: of a file that was no larger than it may be, or
-- of one that was too large. A failed reading changes nothing.
pub data Made : ReadSoFar → ReadSoFar → Type 0 where
  none : {reads : ReadSoFar} → Made reads reads
  read : {reads later : ReadSoFar} (name bytes : List ℕ)
      → length bytes ≤ read_limit reads.left
      → Made (has_read reads name bytes) later
      → Made reads later
  refused : {reads later : ReadSoFar} (name : List ℕ)
      → Made (has_numbered reads name) later
      → Made reads later

-- what a disk answers to a reading: no such file, a file that is too large, with its number, or its number and its bytes
pub data Look : Type 0 where
  absent : Look
  too_large : ℕ → Look
  given : ℕ → List ℕ → Look

abbrev pub look_of : ReadSoFar → List ℕ → Option (List ℕ) → Look
look_of reads name None = absent
look_of reads name (Some bytes) = if nat_le (length bytes) (read_limit reads.left) then given (number_of reads.names name) bytes else too_large (number_of reads.names name)

-- a reading of this name over a disk, which gives the bytes of a name or has no such file
abbrev pub look_up : Disk → ReadSoFar → List ℕ → Look
look_up disk reads name = look_of reads name (disk name)

-- the answer is the disk's; a reading may always fail, and memory may be short
abbrev pub IsLook : Look → Result ReadFile ReadsFault → Type 0
IsLook look (Ok file) = look ≡ given file.number file.text
IsLook look (Err faults.Failed) = Unit {0}
IsLook look (Err (faults.TooLarge number)) = look ≡ too_large number
IsLook look (Err faults.NoMemory) = Unit {0}

-- what was read so far, after this answer: a failed reading changes nothing, nor does one for which there is no memory
abbrev pub after_answer : ReadSoFar → List ℕ → Result ReadFile ReadsFault → ReadSoFar
after_answer reads name (Ok file) = has_read reads name file.text
after_answer reads name (Err faults.Failed) = reads
after_answer reads name (Err (faults.TooLarge number)) = has_numbered reads name
after_answer reads name (Err faults.NoMemory) = reads

-- the number that an answer tells is this one
abbrev pub IfNumbered : ℕ → Result ReadFile ReadsFault → Type 0
IfNumbered n (Ok file) = file.number ≡ n
IfNumbered n (Err faults.Failed) = Unit {0}
IfNumbered n (Err (faults.TooLarge number)) = number ≡ n
IfNumbered n (Err faults.NoMemory) = Unit {0}

-- the number that an answer tells names this file
abbrev pub IfNamed : List (List ℕ) → List ℕ → Result ReadFile ReadsFault → Type 0
IfNamed names name (Ok file) = slice_get names file.number ≡ Some name
IfNamed names name (Err faults.Failed) = Unit {0}
IfNamed names name (Err (faults.TooLarge number)) = slice_get names number ≡ Some name
IfNamed names name (Err faults.NoMemory) = Unit {0}

-- a list goes on with further names
pub record GoesOn (old new : List (List ℕ)) : Type 0 where
  pub more : List (List ℕ)
  pub is : new ≡ old ++ more

-- the name of the reading that failed in a call
abbrev pub failed_read : List ℕ → Result ReadFile ReadsFault → List (List ℕ)
failed_read name (Ok file) = []
failed_read name (Err faults.Failed) = name ∷ []
failed_read name (Err (faults.TooLarge number)) = []
failed_read name (Err faults.NoMemory) = []
