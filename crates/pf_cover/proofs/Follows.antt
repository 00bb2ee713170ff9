-- Tests that hold together where each one follows from two others.
use Rattle.std.proofs.Common.{◌≡◌, Bool, true, false, ◌||◌, ◌⊎◌, List, [], ◌∷◌, refl, inl, inr}
use Rattle.std.proofs.lemmas.Bool.{and_parts, and_from}
use Rattle.pf_rule.specs.Hit.{all_hold}

-- each test of the third list holds where those of the first and the second in its place do
abbrev pub Follows : List Bool → List Bool → List Bool → Type 0
Follows [] [] [] = Unit {0}
Follows (x ∷ xs) (y ∷ ys) (z ∷ zs) = (x ≡ true → y ≡ true → z ≡ true) × Follows xs ys zs
Follows _ _ _ = ⊥

pub all_follow : (xs ys zs : List Bool) → Follows xs ys zs → all_hold xs ≡ true → all_hold ys ≡ true → all_hold zs ≡ true
all_follow [] [] [] f h k = refl
all_follow (x ∷ xs) (y ∷ ys) (z ∷ zs) f h k =
    let first = and_parts x (all_hold xs) h in
    let second = and_parts y (all_hold ys) k in
    and_from z (all_hold zs) (f.0 first.0 second.0) (all_follow xs ys zs f.1 first.1 second.1)
all_follow [] [] (z ∷ zs) f h k = absurd f
all_follow [] (y ∷ ys) [] f h k = absurd f
all_follow [] (y ∷ ys) (z ∷ zs) f h k = absurd f
all_follow (x ∷ xs) [] [] f h k = absurd f
all_follow (x ∷ xs) [] (z ∷ zs) f h k = absurd f
all_follow (x ∷ xs) (y ∷ ys) [] f h k = absurd f

-- each test of a list holds
abbrev pub Each : List Bool → Type 0
Each [] = Unit {0}
Each (x ∷ xs) = (x ≡ true) × Each xs

pub each_hold : (xs : List Bool) → Each xs → all_hold xs ≡ true
each_hold [] e = refl
each_hold (x ∷ xs) e = and_from x (all_hold xs) e.0 (each_hold xs e.1)

pub hold_each : (xs : List Bool) → all_hold xs ≡ true → Each xs
hold_each [] h = tt
hold_each (x ∷ xs) h =
    let parts = and_parts x (all_hold xs) h in
    (parts.0, hold_each xs parts.1)

pub or_cases : (x y : Bool) → (x || y) ≡ true → (x ≡ true) ⊎ (y ≡ true)
or_cases true y h = inl refl
or_cases false y h = inr h
