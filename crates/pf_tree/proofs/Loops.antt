-- One more item of a list that a loop goes over.
use Rattle.std.proofs.Common.{◌≡◌, ℕ, ◌+◌, ◌<◌, Bool, true, false, ◌&&◌, ◌||◌, List, [], ◌∷◌, ◌++◌, length, take, drop, get_or, refl, sym, ap, ◌∙◌}
use Rattle.std.specs.List.{list_all, list_any}
use Rattle.std.proofs.lemmas.List.{take-append-drop, take_more}
use Rattle.std.proofs.lemmas.List.Folds.{list_all-append, list_any-append, list_any_more}

or_front : (a b c : Bool) → (a || b) ≡ true → (a || (b || c)) ≡ true
or_front true b c h = refl
or_front false true c h = refl
or_front false false c h = absurd cc

or_back : (a b c : Bool) → c ≡ true → (a || (b || c)) ≡ true
or_back true b c h = refl
or_back false true c h = refl
or_back false false c h = h

module _ {X : Type 0} where
  -- what the items so far or this one allow, the items so far with this one allow
  pub any_more : (p : X → Bool) (a b : Bool) (xs : List X) (i : ℕ) (x : X) → i < length xs → x ≡ get_or xs i x → (b || p x) ≡ true → (b ≡ true → (a || list_any p (take i xs)) ≡ true) → (a || list_any p (take (i + 1) xs)) ≡ true
  any_more p a b xs i x inside is one before =
      ap (λ l. a || l) (list_any_more p xs i x inside ∙ ap (λ y. list_any p (take i xs) || p y) (sym is))
      ∙ elim b as (λ b. (b || p x) ≡ true → (b ≡ true → (a || list_any p (take i xs)) ≡ true) → (a || (list_any p (take i xs) || p x)) ≡ true) [
        | true ↦ λ one before. or_front a (list_any p (take i xs)) (p x) (before refl)
        | false ↦ λ one before. or_back a (list_any p (take i xs)) (p x) one
      ] one before

  -- what some items allow, all of them allow
  pub any_all : (p : X → Bool) (a : Bool) (xs : List X) (n : ℕ) → (a || list_any p (take n xs)) ≡ true → (a || list_any p xs) ≡ true
  any_all p a xs n h =
      ap (λ l. a || list_any p l) (sym (take-append-drop n xs))
      ∙ ap (λ l. a || l) (list_any-append p (take n xs) (drop n xs))
      ∙ or_front a (list_any p (take n xs)) (list_any p (drop n xs)) h

  weaker : (p q : X → Bool) → ((x : X) → p x ≡ true → q x ≡ true) → (xs : List X) → list_all p xs ≡ true → list_all q xs ≡ true
  weaker p q implies [] h = refl
  weaker p q implies (x ∷ xs) h =
      elim (p x) as (λ b. p x ≡ b → (b && list_all p xs) ≡ true → (q x && list_all q xs) ≡ true) [
        | true ↦ λ one h. rw (implies x one, weaker p q implies xs h) refl
        | false ↦ λ one h. cc
      ] refl h

  pub all_more : (p q : X → Bool) → ((x : X) → p x ≡ true → q x ≡ true) → (xs : List X) (i : ℕ) (x : X) → i < length xs → x ≡ get_or xs i x → list_all p (take i xs) ≡ true → q x ≡ true → list_all q (take (i + 1) xs) ≡ true
  all_more p q implies xs i x inside is before one =
      ap (list_all q) (take_more xs i x inside ∙ ap (λ y. take i xs ++ y ∷ []) (sym is))
      ∙ list_all-append q (take i xs) (x ∷ [])
      ∙ rw (weaker p q implies (take i xs) before, one) refl
