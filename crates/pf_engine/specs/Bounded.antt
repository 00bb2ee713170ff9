-- What came of reading a file that may have so many bytes.
use Rattle.std.specs.Prelude.{◌≡◌, ℕ, ◌<◌, ◌≤◌, List, [], ◌∷◌, length, Option, Some, None, Result, Ok, Err}
use Rattle.pf_base.specs.declared.memory.NoMemory.{NoMemory}
use Rattle.pf_engine.specs.LoadLines.{most_bytes}
use Rattle.pf_engine.specs.declared.bounded.Bounded.{Bounded}
use Rattle.pf_engine.specs.declared.bounded.Bounded.TheVariants.{Bytes, TooLarge, Failed}

-- a file with these bytes
pub record IsFile (held : Option (List ℕ)) (text : List ℕ) : Type 0 where
  pub is : held ≡ Some text
  pub fits : length text ≤ most_bytes

-- a file with more
pub record IsLarge (held : Option (List ℕ)) : Type 0 where
  pub text : List ℕ
  pub is : held ≡ Some text
  pub over : most_bytes < length text

-- a read that failed may be an outage
abbrev pub FileIs : Option (List ℕ) → Bounded → Type 0
FileIs held (Bytes text) = IsFile held text
FileIs held TooLarge = IsLarge held
FileIs held Failed = Unit {0}

abbrev pub unread_in : List ℕ → Result Bounded NoMemory → List (List ℕ)
unread_in name (Ok (Bytes text)) = []
unread_in name (Ok TooLarge) = []
unread_in name (Ok Failed) = name ∷ []
unread_in name (Err e) = []
