-- What the plans of open sessions have together: summed session by session.
use Rattle.std.proofs.Common.{◌≡◌, ℕ, ◌+◌, List, [], ◌∷◌, ◌++◌, map, refl, sym, ap, ◌∙◌, arith}
use Rattle.std.specs.List.{sum_by}
use Rattle.std.specs.BTreeMap.{BTreeMap, values}
use Rattle.std.specs.FinMap as finite
use Rattle.std.specs.FinMap.{FinMap}
use Rattle.std.specs.Map.Iter.{deref}
use Rattle.std.proofs.lemmas.List.Sums.{sum_by-append, sum_by-cons}
use Rattle.pf_shelf.specs.Shelf.{name_cmp}
use denote.Ref.{Bor}

module _ {X : Type 0} (f : X → ℕ) where
  map_more : (xs : List (Bor X)) (x : Bor X) → map deref (xs ++ x ∷ []) ≡ map deref xs ++ x.now ∷ []
  map_more [] x = refl
  map_more (y ∷ xs) x = ap (λ (ys : List X). y.now ∷ ys) (map_more xs x)

  one : (x : X) → sum_by f (x ∷ []) ≡ f x
  one x = sum_by-cons f x [] ∙ zero_more (f x)
    where
      zero_more : (n : ℕ) → n + 0 ≡ n
      zero_more n = omega arith

  -- one session more
  pub sum_more : (xs : List (Bor X)) (x : Bor X) (before after : ℕ) → before ≡ sum_by f (map deref xs) → after ≡ before + f x.now → after ≡ sum_by f (map deref (xs ++ x ∷ []))
  sum_more xs x before after so_far is =
      is ∙ (λ i. so_far i + sym (one x.now) i) ∙ sym (ap (sum_by f) (map_more xs x) ∙ sum_by-append f (map deref xs) (x.now ∷ []))

  -- all of them
  pub sum_all : (m : BTreeMap (List ℕ) X) (sessions : FinMap name_cmp X) (yielded : List (Bor X)) (sum : ℕ) → map deref yielded ≡ values m → finite.entries sessions ≡ m.entries
      → sum ≡ sum_by f (map deref yielded) → sum ≡ sum_by f (finite.values sessions)
  sum_all m sessions yielded sum whole listed is =
      is ∙ ap (sum_by f) (whole ∙ ap (λ (es : List (List ℕ × X)). map (λ e. e.1) es) (sym listed))
