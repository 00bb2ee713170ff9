-- What lists contain.
use Rattle.std.proofs.Common.{◌≡◌, ℕ, zero, suc, ◌+◌, ◌<◌, cond, Bool, true, false, ◌||◌, List, [], ◌∷◌, ◌++◌, length, get_or, drop, Option, Some, None, refl, sym, ap, ◌∙◌, subst, inl, inr, arith}
use Rattle.std.specs.Prelude.{Contains}
use Rattle.std.proofs.lemmas.Bool.{false≢true}
use Rattle.std.proofs.lemmas.List.{drop_all}
use Rattle.std.specs.List.{cons_option, filter, filter_map, flat_map, list_any}
use Rattle.pf_calls.specs.GraphLaws.{in_cons, later_in, none_in, now_in}

module _ {A : Type 0} where
  pub drop_plus : (m n : ℕ) (xs : List A) → drop (m + n) xs ≡ drop n (drop m xs)
  drop_plus zero n xs = let same : zero + n ≡ n = omega arith in ap (λ (k : ℕ). drop k xs) same
  drop_plus (suc m) n [] = drop_all (suc m + n) [] (omega arith) ∙ sym (drop_all n [] (omega arith))
  drop_plus (suc m) n (x ∷ xs) = let more : suc m + n ≡ suc (m + n) = omega arith in ap (λ (k : ℕ). drop k (x ∷ xs)) more ∙ drop_plus m n xs

  -- an item of a list of those that pass a test
  pub passes : (test : A → Bool) (xs : List A) (x : A) → Contains (filter test xs) x → Contains xs x × (test x ≡ true)
  passes test [] x within = absurd (none_in x within)
  passes test (y ∷ xs) x within =
      elim (test y) as (λ b. test y ≡ b → Contains (cond b (y ∷ filter test xs) (filter test xs)) x → Contains (y ∷ xs) x × (test x ≡ true)) [
        | false ↦ λ e within. let rest = passes test xs x within in (later_in y xs x rest.0, rest.1)
        | true ↦ λ e within. elim (in_cons y (filter test xs) x within) [
          | inl same ↦ (subst (λ (z : A). Contains (y ∷ xs) z) same (now_in y xs), ap test (sym same) ∙ e)
          | inr later ↦ let rest = passes test xs x later in (later_in y xs x rest.0, rest.1)
        ]
      ] refl within

  -- an item that passes a test, where one does
  pub record Passing (test : A → Bool) (xs : List A) : Type 0 where
    pub item : A
    pub among : Contains xs item
    pub so : test item ≡ true

  pub some_passes : (test : A → Bool) (xs : List A) → list_any test xs ≡ true → Passing test xs
  some_passes test [] h = absurd (false≢true h)
  some_passes test (y ∷ xs) h =
      elim (test y) as (λ b. test y ≡ b → (b || list_any test xs) ≡ true → Passing test (y ∷ xs)) [
        | true ↦ λ e h. record { item = y; among = now_in y xs; so = e }
        | false ↦ λ e h. let rest = some_passes test xs h in record { item = rest.item; among = later_in y xs rest.item rest.among; so = rest.so }
      ] refl h

  -- one does where an item passes
  pub any_passes : (test : A → Bool) (xs : List A) (x : A) → Contains xs x → test x ≡ true → list_any test xs ≡ true
  any_passes test [] x within e = absurd (none_in x within)
  any_passes test (y ∷ xs) x within e =
      elim (in_cons y xs x within) [
        | inl same ↦ ap (λ (b : Bool). b || list_any test xs) (ap test same ∙ e)
        | inr later ↦ elim (test y) as (λ b. (b || list_any test xs) ≡ true) [ true ↦ refl | false ↦ any_passes test xs x later e ]
      ]

  pub in_front : (xs ys : List A) (x : A) → Contains xs x → Contains (xs ++ ys) x
  in_front [] ys x within = absurd (none_in x within)
  in_front (y ∷ xs) ys x within =
      elim (in_cons y xs x within) [
        | inl same ↦ subst (λ (z : A). Contains (y ∷ (xs ++ ys)) z) same (now_in y (xs ++ ys))
        | inr later ↦ later_in y (xs ++ ys) x (in_front xs ys x later)
      ]

  pub in_back : (xs ys : List A) (y : A) → Contains ys y → Contains (xs ++ ys) y
  in_back [] ys y within = within
  in_back (x ∷ xs) ys y within = later_in x (xs ++ ys) y (in_back xs ys y within)

in_option : {B : Type 0} (o : Option B) (ys : List B) (y : B) → Contains ys y → Contains (cons_option o ys) y
in_option None ys y within = within
in_option (Some z) ys y within = later_in z ys y within

given_first : {B : Type 0} (o : Option B) (ys : List B) (y : B) → o ≡ Some y → Contains (cons_option o ys) y
given_first {B} o ys y e = subst (λ (o : Option B). Contains (cons_option o ys) y) (sym e) (now_in y ys)

module _ {A B : Type 0} where
  pub in_flat : (f : A → List B) (xs : List A) (x : A) (y : B) → Contains xs x → Contains (f x) y → Contains (flat_map f xs) y
  in_flat f [] x y within there = absurd (none_in x within)
  in_flat f (z ∷ xs) x y within there =
      elim (in_cons z xs x within) [
        | inl same ↦ in_front (f z) (flat_map f xs) y (subst (λ (a : A). Contains (f a) y) (sym same) there)
        | inr later ↦ in_back (f z) (flat_map f xs) y (in_flat f xs x y later there)
      ]

  -- what an item of a list gives
  pub gives : (f : A → Option B) (xs : List A) (x : A) (y : B) → Contains xs x → f x ≡ Some y → Contains (filter_map f xs) y
  gives f [] x y within e = absurd (none_in x within)
  gives f (z ∷ xs) x y within e =
      elim (in_cons z xs x within) [
        | inl same ↦ given_first (f z) (filter_map f xs) y (ap f same ∙ e)
        | inr later ↦ in_option (f z) (filter_map f xs) y (gives f xs x y later e)
      ]

  -- and what gives it
  pub record GivenBy (f : A → Option B) (xs : List A) (y : B) : Type 0 where
    pub item : A
    pub among : Contains xs item
    pub so : f item ≡ Some y

  pub given : (f : A → Option B) (xs : List A) (y : B) → Contains (filter_map f xs) y → GivenBy f xs y
  given f [] y within = absurd (none_in y within)
  given f (x ∷ xs) y within =
      elim (f x) as (λ o. f x ≡ o → Contains (cons_option o (filter_map f xs)) y → GivenBy f (x ∷ xs) y) [
        | None ↦ λ e within. let rest = given f xs y within in record { item = rest.item; among = later_in x xs rest.item rest.among; so = rest.so }
        | Some first ↦ λ e within. elim (in_cons first (filter_map f xs) y within) [
          | inl same ↦ record { item = x; among = now_in x xs; so = e ∙ ap Some same }
          | inr later ↦ let rest = given f xs y later in record { item = rest.item; among = later_in x xs rest.item rest.among; so = rest.so }
        ]
      ] refl within

-- the item at a place
pub place_in : {A : Type 0} (xs : List A) (k : ℕ) (d : A) → k < length xs → Contains xs (get_or xs k d)
place_in [] k d low = absurd (omega arith)
place_in (x ∷ xs) zero d low = now_in x xs
place_in (x ∷ xs) (suc k) d low = later_in x xs (get_or xs k d) (place_in xs k d (omega arith))
