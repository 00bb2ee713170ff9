-- What the objects in memory do.
use Rattle.std.specs.Prelude.{◌≡◌, ℕ, ◌<◌, ◌≤◌, List, [], ◌∷◌, ◌++◌, length, Result, Ok, Err}
use Rattle.pf_source.specs.declared.fault.FilesFault.{FilesFault}
use Rattle.pf_source.specs.declared.fault.FilesFault.TheVariants as faults
use Rattle.pf_source.specs.Causes.{Rose}

-- a copy of the bytes, where they are no more than the limit; it doesn't fail otherwise but for memory
abbrev pub CopiesWithin : List ℕ → ℕ → Result (List ℕ) FilesFault → Type 0
CopiesWithin bytes limit (Ok text) = (text ≡ bytes) × (length bytes ≤ limit)
CopiesWithin bytes limit (Err faults.Failed) = ⊥
CopiesWithin bytes limit (Err (faults.TooLarge seen)) = (limit < seen) × (limit < length bytes)
CopiesWithin bytes limit (Err faults.NoMemory) = Unit {0}

-- a failed read is counted, and its name is kept; where there is no memory, neither
abbrev pub CountsFailure : List ℕ → Result (List ℕ) FilesFault → ℕ → ℕ → List (List ℕ) → List (List ℕ) → Type 0
CountsFailure name (Ok text) old new names names' = ⊥
CountsFailure name (Err faults.Failed) old new names names' = Rose old new × (names' ≡ names ++ name ∷ [])
CountsFailure name (Err (faults.TooLarge seen)) old new names names' = ⊥
CountsFailure name (Err faults.NoMemory) old new names names' = (new ≡ old) × (names' ≡ names)
