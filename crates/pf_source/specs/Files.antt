-- What one read of a file does.
use Rattle.std.specs.Prelude.{◌≡◌, ℕ, ◌<◌, List, [], ◌∷◌, length, Option, Some, Result, Ok, Err}
use Rattle.pf_source.specs.declared.fault.FilesFault.{FilesFault}
use Rattle.pf_source.specs.declared.fault.FilesFault.TheVariants as faults
use Rattle.pf_source.specs.Told.{FilesTold, Told, file_of}

-- the names of the reads that failed in a call
abbrev pub failed_names : {T : Type 0} → List ℕ → Result T FilesFault → List (List ℕ)
failed_names name (Ok text) = []
failed_names name (Err faults.Failed) = name ∷ []
failed_names name (Err (faults.TooLarge seen)) = []
failed_names name (Err faults.NoMemory) = []

-- the file has more bytes than the limit
pub record IsLonger (file : Option (List ℕ)) (limit : ℕ) : Type 0 where
  pub bytes : List ℕ
  pub is : file ≡ Some bytes
  pub longer : limit < length bytes

-- `TooLarge` comes only for a file that is longer than the limit
abbrev pub IfTooLarge : {T : Type 0} → FilesTold → List ℕ → ℕ → Result T FilesFault → Type 0
IfTooLarge old name limit (Ok text) = Unit {0}
IfTooLarge old name limit (Err faults.Failed) = Unit {0}
IfTooLarge old name limit (Err (faults.TooLarge seen)) = (limit < seen) × Told old.held (λ held. IsLonger (file_of held name) limit)
IfTooLarge old name limit (Err faults.NoMemory) = Unit {0}
