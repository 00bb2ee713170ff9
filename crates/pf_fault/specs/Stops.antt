-- What is said of the answers of calls that a load may be stopped by.
use Rattle.std.specs.Prelude.{ℕ, ◌<◌, List, [], ◌∷◌, Result, Ok, Err}
use Rattle.pf_fault.specs.declared.fault.Stop.{Stop}
use Rattle.pf_fault.specs.declared.fault.Stop.TheVariants.{Fault, Unread, NoMemory}

-- a fault stands in a file whose number is below this
abbrev pub IsStopWithin : ℕ → Stop → Type 0
IsStopWithin count (Fault fault) = fault.place.file < count
IsStopWithin count (Unread name) = Unit {0}
IsStopWithin count NoMemory = Unit {0}

abbrev pub StopWithin : {A : Type 0} → ℕ → Result A Stop → Type 0
StopWithin count (Ok x) = Unit {0}
StopWithin count (Err stop) = IsStopWithin count stop

-- the name of the file that can't be read
abbrev pub unread_in : {A : Type 0} → Result A Stop → List (List ℕ)
unread_in (Ok x) = []
unread_in (Err (Fault fault)) = []
unread_in (Err (Unread name)) = name ∷ []
unread_in (Err NoMemory) = []

-- an answer of this meaning, or want of memory
abbrev pub UnlessShort : {A : Type 0} → (Result A Stop → Type 0) → Result A Stop → Type 0
UnlessShort Means (Ok x) = Means (Ok x)
UnlessShort Means (Err (Fault fault)) = Means (Err (Fault fault))
UnlessShort Means (Err (Unread name)) = Means (Err (Unread name))
UnlessShort Means (Err NoMemory) = Unit {0}
