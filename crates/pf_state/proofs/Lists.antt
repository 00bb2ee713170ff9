-- A loop that goes over a list from its front: what is left to do.
use mathlib.Core.Bool.{true≢false}
use Rattle.std.specs.List.{list_all}
use Rattle.std.proofs.lemmas.List.Folds.{list_all_at}
use Rattle.std.proofs.Common.{◌≡◌, ℕ, zero, suc, ◌+◌, ◌<◌, ◌≤◌, Bool, true, false, List, [], ◌∷◌, ◌++◌, length, map, get_or, drop, drop-cons, add-one, append_assoc, append-nil, refl, sym, ap, ◌∙◌, arith}

module _ {X : Type 0} where
  -- the item at a place, and those behind it
  pub left : (xs : List X) (i : ℕ) (x : X) → i < length xs → x ≡ get_or xs i x → drop i xs ≡ x ∷ drop (i + 1) xs
  left xs i x lt is = drop-cons xs i x lt ∙ (λ k. sym is k ∷ drop (sym (add-one i) k) xs)

  -- behind the last place nothing is left
  pub none_left : (xs : List X) (i : ℕ) → length xs ≤ i → drop i xs ≡ []
  none_left [] i h = nothing i
    where
      nothing : (i : ℕ) → drop {A = X} i [] ≡ []
      nothing zero = refl
      nothing (suc i) = refl
  none_left (x ∷ xs) zero h = absurd (omega arith)
  none_left (x ∷ xs) (suc i) h = none_left xs i (omega arith)

module _ {X Y : Type 0} (f : X → Y) where
  -- a list that is filled with what a function gives of each item
  pub mapped_on : (xs : List X) (i : ℕ) (x : X) (done new : List Y) (y : Y) → i < length xs → x ≡ get_or xs i x → y ≡ f x → new ≡ done ++ y ∷ [] → done ++ map f (drop i xs) ≡ map f xs → new ++ map f (drop (i + 1) xs) ≡ map f xs
  mapped_on xs i x done new y lt is y_is new_is all =
      ap (λ (ys : List Y). ys ++ map f (drop (i + 1) xs)) new_is
      ∙ append_assoc done (y ∷ []) (map f (drop (i + 1) xs))
      ∙ ap (λ z. done ++ z ∷ map f (drop (i + 1) xs)) y_is
      ∙ ap (λ rest. done ++ map f rest) (sym (left xs i x lt is))
      ∙ all

  pub mapped_all : (xs : List X) (i : ℕ) (done : List Y) → length xs ≤ i → done ++ map f (drop i xs) ≡ map f xs → done ≡ map f xs
  mapped_all xs i done h all = sym (append-nil done) ∙ ap (λ rest. done ++ map f rest) (sym (none_left xs i h)) ∙ all

-- a test that all pass, at one place
pub each_of : {X : Type 0} (p : X → Bool) (xs : List X) (i : ℕ) (x : X) → list_all p xs ≡ true → i < length xs → x ≡ get_or xs i x → p x ≡ true
each_of p xs i x all lt is =
    elim (p x) as (λ b. p x ≡ b → p x ≡ true) [
      | true ↦ λ e. e
      | false ↦ λ e. absurd (true≢false (sym all ∙ list_all_at p xs i x lt (ap p (sym is) ∙ e)))
    ] refl
