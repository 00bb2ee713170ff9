-- Of finitely many things that drop one another by an order, each that is dropped is dropped by one that isn't.
use Rattle.std.proofs.Common.{◌≡◌, cond, Bool, true, false, not, ◌||◌, List, [], ◌∷◌, refl, sym, ap, ◌∙◌, ◌⊎◌, inl, inr}
use Rattle.std.proofs.lemmas.Bool.{false≢true}
use Rattle.std.specs.List.{filter, list_any}
use Rattle.pf_cover.proofs.Follows.{or_cases}

-- an item of a list
abbrev pub Among : {X : Type 0} → X → List X → Type 0
Among x [] = ⊥
Among x (y ∷ ys) = (x ≡ y) ⊎ Among x ys

-- nothing drops itself, and what drops one that drops a third drops the third
pub record IsDropping {X : Type 0} (drops : X → X → Bool) : Type 0 where
  pub joins : (a b c : X) → drops a b ≡ true → drops b c ≡ true → drops a c ≡ true
  pub never : (a : X) → drops a a ≡ false

-- an item of the list that drops this one, and that no item of the list drops
pub record Top {X : Type 0} (drops : X → X → Bool) (x : X) (ys : List X) : Type 0 where
  pub item : X
  pub among : Among item ys
  pub above : drops item x ≡ true
  pub top : list_any (λ y. drops y item) ys ≡ false

true_or_false : (b : Bool) → (b ≡ true) ⊎ (b ≡ false)
true_or_false true = inl refl
true_or_false false = inr refl

none_of : (x y : Bool) → x ≡ false → y ≡ false → (x || y) ≡ false
none_of x y h k = ap (λ t. t || y) h ∙ k

either_none : (x y : Bool) → (x || y) ≡ false → (x ≡ false) × (y ≡ false)
either_none true y h = absurd (false≢true (sym h))
either_none false y h = (refl, h)

-- where none drops the third and the first drops the second, which drops the third, the first isn't dropped
none_above : {X : Type 0} (drops : X → X → Bool) → IsDropping drops → (ys : List X) (z x : X) → drops z x ≡ true → list_any (λ y. drops y x) ys ≡ false → list_any (λ y. drops y z) ys ≡ false
none_above drops o [] z x h k = refl
none_above drops o (y ∷ ys) z x h k =
    let parts = either_none (drops y x) (list_any (λ v. drops v x) ys) k in
    elim (true_or_false (drops y z)) [
      | inl e ↦ absurd (false≢true (sym parts.0 ∙ o.joins y z x e h))
      | inr e ↦ none_of (drops y z) _ e (none_above drops o ys z x h parts.1)
    ]

pub top_of : {X : Type 0} (drops : X → X → Bool) → IsDropping drops → (ys : List X) (x : X) → list_any (λ y. drops y x) ys ≡ true → Top drops x ys
top_of drops o [] x h = absurd (false≢true h)
top_of drops o (z ∷ zs) x h =
    elim (true_or_false (list_any (λ y. drops y x) zs)) [
      | inl some ↦
          let t = top_of drops o zs x some in
          elim (true_or_false (drops z t.item)) [
            | inl e ↦ record {
              item = z;
              among = inl refl;
              above = o.joins z t.item x e t.above;
              top = none_of (drops z z) _ (o.never z) (none_above drops o zs z t.item e t.top);
            }
            | inr e ↦ record { item = t.item; among = inr t.among; above = t.above; top = none_of (drops z t.item) _ e t.top }
          ]
      | inr none ↦
          let above : drops z x ≡ true = only_first (drops z x) (list_any (λ y. drops y x) zs) h none in
          record { item = z; among = inl refl; above = above; top = none_of (drops z z) _ (o.never z) (none_above drops o zs z x above none) }
    ]
  where
    only_first : (a b : Bool) → (a || b) ≡ true → b ≡ false → a ≡ true
    only_first true b h k = refl
    only_first false b h k = absurd (false≢true (sym k ∙ h))

-- what passes a test stays among those that pass it
pub among_kept : {X : Type 0} (test : X → Bool) (x : X) (xs : List X) → Among x xs → test x ≡ true → Among x (filter test xs)
among_kept test x [] a h = a
among_kept test x (y ∷ ys) (inl e) h =
    elim (test y) as (λ b. test y ≡ b → Among x (cond b (y ∷ filter test ys) (filter test ys))) [
      | true ↦ λ is. inl e
      | false ↦ λ is. absurd (false≢true (sym is ∙ sym (ap test e) ∙ h))
    ] refl
among_kept test x (y ∷ ys) (inr a) h =
    elim (test y) as (λ b. Among x (cond b (y ∷ filter test ys) (filter test ys))) [
      | true ↦ inr (among_kept test x ys a h)
      | false ↦ among_kept test x ys a h
    ]

-- a test passes at some item exactly where it passes at an item among them
pub any_among : {X : Type 0} (test : X → Bool) (x : X) (xs : List X) → Among x xs → test x ≡ true → list_any test xs ≡ true
any_among test x [] a h = absurd a
any_among test x (y ∷ ys) (inl e) h = ap (λ t. t || list_any test ys) (sym (ap test e) ∙ h)
any_among test x (y ∷ ys) (inr a) h =
    elim (test y) as (λ b. (b || list_any test ys) ≡ true) [ true ↦ refl | false ↦ any_among test x ys a h ]

pub record Found {X : Type 0} (test : X → Bool) (xs : List X) : Type 0 where
  pub item : X
  pub among : Among item xs
  pub passes : test item ≡ true

pub found_in : {X : Type 0} (test : X → Bool) (xs : List X) → list_any test xs ≡ true → Found test xs
found_in test [] h = absurd (false≢true h)
found_in test (x ∷ xs) h =
    elim (or_cases (test x) (list_any test xs) h) [
      | inl e ↦ record { item = x; among = inl refl; passes = e }
      | inr e ↦ let f = found_in test xs e in record { item = f.item; among = inr f.among; passes = f.passes }
    ]

-- what is among those that pass a test is in the list, and passes it
pub among_all : {X : Type 0} (test : X → Bool) (x : X) (xs : List X) → Among x (filter test xs) → Among x xs
among_all test x [] = λ a. a
among_all test x (y ∷ ys) =
    elim (test y) as (λ b. Among x (cond b (y ∷ filter test ys) (filter test ys)) → Among x (y ∷ ys)) [
      | true ↦ λ a. elim a [ inl e ↦ inl e | inr r ↦ inr (among_all test x ys r) ]
      | false ↦ λ a. inr (among_all test x ys a)
    ]

-- a test that passes with each that drops what it passes at: it passes at some item exactly where it passes at some
-- item that isn't dropped
pub some_top : {X : Type 0} (drops : X → X → Bool) → IsDropping drops → (test : X → Bool) → ((a b : X) → drops a b ≡ true → test b ≡ true → test a ≡ true) → (xs : List X) → list_any test (filter (λ x. not (list_any (λ y. drops y x) xs)) xs) ≡ list_any test xs
some_top {X = X} drops o test up xs =
    both_ways' (list_any test (filter is_top xs)) (list_any test xs)
    (λ h. let f = found_in test (filter is_top xs) h in any_among test f.item xs (among_all is_top f.item xs f.among) f.passes)
    (λ h.
    let f = found_in test xs h in
    elim (true_or_false (list_any (λ y. drops y f.item) xs)) [
      | inl d ↦
          let t = top_of drops o xs f.item d in
          any_among test t.item (filter is_top xs) (among_kept is_top t.item xs t.among (ap not t.top)) (up t.item f.item t.above f.passes)
      | inr d ↦ any_among test f.item (filter is_top xs) (among_kept is_top f.item xs f.among (ap not d)) f.passes
    ])
  where
    is_top : X → Bool
    is_top x = not (list_any (λ y. drops y x) xs)

    both_ways' : (a b : Bool) → (a ≡ true → b ≡ true) → (b ≡ true → a ≡ true) → a ≡ b
    both_ways' true b f g = sym (f refl)
    both_ways' false true f g = absurd (false≢true (g refl))
    both_ways' false false f g = refl
