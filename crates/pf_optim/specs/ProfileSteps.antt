-- What the readers of a profile give.
use Rattle.std.specs.Prelude.{◌≡◌, ℕ, true, false, List, [], ◌∷◌, ◌++◌, map, Result, MatchResult}
use Rattle.pf_base.specs.Text.{fields_of}
use Rattle.pf_optim.specs.Profile.{HasFault, Says, SayRows, TellOf, is_told}
use Rattle.pf_optim.specs.declared.fault.LineFault.{LineFault}
use Rattle.pf_optim.specs.declared.fault.LineFault.TheVariants as line
use Rattle.pf_optim.specs.declared.fault.ProfileFault.{ProfileFault}
use Rattle.pf_optim.specs.declared.fault.ProfileFault.TheVariants as profile
use Rattle.pf_optim.specs.declared.key.Key.{Key}
use Rattle.pf_optim.specs.declared.rows.Row.{Row}

-- the rows that are kept by their places
abbrev pub row_of : Key × ℕ → Row
row_of entry = record { path = entry.0.path; place = entry.0.place; count = entry.1 }

abbrev pub rows_of : List (Key × ℕ) → List Row
rows_of entries = map row_of entries

-- the fault of a line as that of the text
abbrev pub fault_at : LineFault → ℕ → ProfileFault
fault_at line.Outside number = profile.Line number
fault_at line.NoMemory number = profile.NoMemory

-- where a text has a fault, a fact about the line
abbrev pub IfLine : ProfileFault → (ℕ → Type 0) → Type 0
IfLine (profile.Line number) P = P number
IfLine profile.NoMemory P = Unit {0}

-- where a line has a fault, a fact
abbrev pub IfOutside : LineFault → Type 0 → Type 0
IfOutside line.Outside P = P
IfOutside line.NoMemory P = Unit {0}

-- no three words stand in the line
abbrev pub NoWords : List ℕ → Type 0
NoWords text = (path place count : List ℕ) → fields_of text ≡ path ∷ (place ∷ (count ∷ [])) → ⊥

-- the words tell of no row
abbrev pub TellNothing : List ℕ → List ℕ → List ℕ → Type 0
TellNothing path place count = (row : Row) → TellOf path place count row → ⊥

-- the line says no row
abbrev pub SaysNothing : List ℕ → Type 0
SaysNothing text = (row : Row) → Says text row → ⊥

-- a row is added behind the others, which tell nothing of its place
pub record AddsRow (row : Row) (old new : List Row) : Type 0 where
  pub added : new ≡ old ++ row ∷ []
  pub apart : is_told old row ≡ false

-- it is, or they tell of its place
abbrev pub TakesRowOr : Result Unit LineFault → Row → List Row → List Row → Type 0
TakesRowOr result row old new = MatchResult result (λ _. AddsRow row old new) (λ fault. IfOutside fault (is_told old row ≡ true))

-- a line is taken, and with it the lines say the new rows, or it has a fault
abbrev pub TakesOr : Result Unit LineFault → List ℕ → List Row → List Row → Type 0
TakesOr result text old new = MatchResult result
    (λ _. (before : List (List ℕ)) → SayRows before old → SayRows (before ++ text ∷ []) new)
    (λ fault. IfOutside fault (HasFault old text))
