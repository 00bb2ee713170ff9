-- What words mean: values, and the faults of words that mean nothing.
use Rattle.std.specs.Prelude.{◌≡◌, ℕ, ◌<◌, ◌≤◌, Bool, ◌&&◌, nat_le, List, [], ◌∷◌, ◌++◌, length, take, Result, Ok, Err, Option, None}
use Rattle.std.specs.List.{AllZip, flat_map}
use Rattle.pf_base.specs.declared.fault.FaultKind.{FaultKind}
use Rattle.pf_word.specs.declared.words.Words.{Words}

-- no word
abbrev pub none : {X : Type 0} → Words X
none = record { values = []; faults = [] }

-- a word that stands for this
abbrev pub found : {X : Type 0} → X → Words X
found value = record { values = value ∷ []; faults = [] }

-- a word that means nothing
abbrev pub failed : {X : Type 0} → FaultKind → Words X
failed fault = record { values = []; faults = fault ∷ [] }

-- words and then others
abbrev pub joined : {X : Type 0} → Words X → Words X → Words X
joined front back = record { values = front.values ++ back.values; faults = front.faults ++ back.faults }

-- words one after the other, each with what it means
abbrev pub all_of : {X : Type 0} → List (Words X) → Words X
all_of readings = record { values = flat_map (λ reading. reading.values) readings; faults = flat_map (λ reading. reading.faults) readings }

-- a value, or a fault
abbrev pub of_one : {X : Type 0} → Result X FaultKind → Words X
of_one (Ok value) = found value
of_one (Err fault) = failed fault

-- each item means this
pub record EachMeans {I X : Type 0} (Means : I → Words X → Type 0) (items : List I) (words : Words X) : Type 0 where
  pub readings : List (Words X)
  pub each : AllZip Means items readings
  pub are : words ≡ all_of readings

-- a word as a fault bears it: its first 63 bytes
abbrev pub named : List ℕ → List ℕ
named word = take 63 word

-- the word may be the name of an interface, a host, a user, a group or a service
abbrev pub is_name : List ℕ → Bool
is_name word = nat_le 1 (length word) && nat_le (length word) 63

-- the word has at least one byte
abbrev pub has_bytes : List ℕ → Bool
has_bytes word = nat_le 1 (length word)

-- words to which those of one more item were added
pub record Adds {X : Type 0} (Means : Words X → Type 0) (old new : Words X) : Type 0 where
  pub one : Words X
  pub means : Means one
  pub are : new ≡ joined old one
