-- Where a list is cut: at its first element that passes a test.
use Rattle.std.specs.Prelude.{◌≡◌, ℕ, ◌+◌, ◌<◌, Bool, true, not, List, ◌∷◌, ◌++◌, length, take, drop}
use Rattle.std.specs.List.{list_all}

-- none of the elements passes
abbrev pub NonePasses : {X : Type 0} → (X → Bool) → List X → Type 0
NonePasses p xs = list_all (λ x. not (p x)) xs ≡ true

-- the element y at the place i is the first that passes
pub record IsFirst {X : Type 0} (p : X → Bool) (xs : List X) (i : ℕ) (y : X) : Type 0 where
  pub inside : i < length xs
  pub passes : p y ≡ true
  pub before : NonePasses p (take i xs)
  pub joined : xs ≡ take i xs ++ y ∷ drop (i + 1) xs
