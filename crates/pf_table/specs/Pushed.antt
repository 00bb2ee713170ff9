-- Finite maps of lists of entries: the list of a map's own entries, and one more entry at the end.
use Rattle.std.specs.Prelude.{◌≡◌, ℕ, ◌+◌, ◌<◌, length, take, slice_index_or, Bool, true, false, cond, List, [], ◌∷◌, ◌++◌, Option, Some, None, is_some, refl}
use Rattle.std.proofs.Common.{sym, ap, ◌∙◌}
use Rattle.std.proofs.lemmas.List.{take_more}
use Rattle.std.specs.Option.{option_or}
use Rattle.std.specs.FinMap as finite
use Rattle.std.specs.FinMap.{FinMap, IsAntisymmetric, find, from_entries, get-entries, get-from_entries, get-insert, get_tied, same_map}
use Rattle.std.specs.declared.cmp.Ordering.{Ordering}
use Rattle.std.specs.declared.cmp.Ordering.TheVariants.{Less, Equal, Greater}
use Rattle.std.specs.Ordering.{eq_by_cmp, is_eq}
use Rattle.std.specs.Cmp.{IsTotalOrder}

tie_of : (r : Ordering) → is_eq r ≡ true → r ≡ Equal
tie_of Less e = absurd (cc)
tie_of Equal e = refl
tie_of Greater e = absurd (cc)

or_none : {X : Type 0} (x : Option X) → option_or x None ≡ x
or_none None = refl
or_none (Some t) = refl

both_ways : {X : Type 0} (b : Bool) (x : X) → x ≡ cond b x x
both_ways true x = refl
both_ways false x = refl

point : {X : Type 0} (v : X) (x y : Option X) (b : Bool) → (b ≡ true → x ≡ y) → option_or x (cond b (Some v) None) ≡ cond (is_some y) x (cond b (Some v) x)
point v x y false h = or_none x ∙ both_ways (is_some y) x
point v None None true h = refl
point v None (Some s) true h = absurd (let e = h refl in cc)
point v (Some t) None true h = absurd (let e = h refl in cc)
point v (Some t) (Some s) true h = refl

-- the first so many items and the next one
pub more_items : {A : Type 0} (xs : List A) (i : ℕ) (x : A) → i < length xs → x ≡ slice_index_or xs i x → take (i + 1) xs ≡ take i xs ++ x ∷ []
more_items xs i x lt is = take_more xs i x lt ∙ ap (λ y. take i xs ++ y ∷ []) (sym is)

module _ {K X : Type 0} (R : K → K → Ordering) where
  -- what a list finds is what its front finds, else what the rest finds
  pub found_or : (es fs : List (K × X)) (q : K) → find R q (es ++ fs) ≡ option_or (find R q es) (find R q fs)
  found_or [] fs q = refl
  found_or (e ∷ es) fs q =
      elim (eq_by_cmp R q e.0) as (λ b. cond b (Some e.1) (find R q (es ++ fs)) ≡ option_or (cond b (Some e.1) (find R q es)) (find R q fs)) [ true ↦ refl | false ↦ found_or es fs q ]

  -- a map with one more entry, where it has none of that key
  abbrev pub grown : FinMap R X → K → X → FinMap R X
  grown m k v = cond (is_some (finite.get m k)) m (finite.insert m k v)

  module _ (o : IsTotalOrder R) (same : IsAntisymmetric R) where
    -- the map of a map's entries is the map
    pub entries_back : (m : FinMap R X) → from_entries {R = R} (finite.entries m) ≡ m
    entries_back m = same_map o same _ _ (λ q. get-from_entries o (finite.entries m) q ∙ sym (get-entries m q))

    pushed_at : (es : List (K × X)) (k : K) (v : X) (q : K) → finite.get (from_entries {R = R} (es ++ (k, v) ∷ [])) q ≡ finite.get (grown (from_entries {R = R} es) k v) q
    pushed_at es k v q =
        let m : FinMap R X = from_entries es in
        get-from_entries o (es ++ (k, v) ∷ []) q ∙ found_or es ((k, v) ∷ []) q
        ∙ ap (λ x. option_or x (cond (eq_by_cmp R q k) (Some v) None)) (sym (get-from_entries o es q))
        ∙ point v (finite.get m q) (finite.get m k) (eq_by_cmp R q k) (λ t. sym (get_tied o m q k (tie_of (R q k) t)))
        ∙ ap (λ x. cond (is_some (finite.get m k)) (finite.get m q) x) (sym (get-insert o m k v q))
        ∙ through (is_some (finite.get m k)) m (finite.insert m k v) q
      where
        through : (b : Bool) (m n : FinMap R X) (q : K) → cond b (finite.get m q) (finite.get n q) ≡ finite.get {R = R} (cond b m n) q
        through true m n q = refl
        through false m n q = refl

    -- one more entry is put in where its key is new
    pub from_entries_more : (es : List (K × X)) (k : K) (v : X) → from_entries {R = R} (es ++ (k, v) ∷ []) ≡ grown (from_entries {R = R} es) k v
    from_entries_more es k v = same_map o same _ _ (pushed_at es k v)
