-- The stable sort by a test: a list that ascends and has, for each item, the items that tie with it in the same order, is
-- the sorted list.
use Rattle.std.proofs.Common.{◌≡◌, ℕ, zero, suc, ◌<◌, ◌≤◌, cond, Bool, true, false, not, ◌&&◌, List, [], ◌∷◌, length, get_or, refl, sym, ap, ◌∙◌, subst, ◌⊎◌, inl, inr, arith}
use Rattle.std.proofs.lemmas.Bool.{false≢true, and_from}
use Rattle.std.proofs.lemmas.List.Sorted.{sorted_far}
use Rattle.std.specs.Cmp.{IsStrictWeakOrder}
use Rattle.std.specs.List.{filter}
use Rattle.std.specs.List.Sorted.{IsSortedBy, IsStableBy, ties}
use Rattle.pf_order.specs.Sorting.{placed_in, sorted_by}

-- none of the items belongs before this one
abbrev pub NoneBefore : {X : Type 0} → (X → X → Bool) → X → List X → Type 0
NoneBefore lt x [] = Unit {0}
NoneBefore lt x (y ∷ ys) = (lt y x ≡ false) × NoneBefore lt x ys

-- no item belongs before one in front of it
abbrev pub Ascends : {X : Type 0} → (X → X → Bool) → List X → Type 0
Ascends lt [] = Unit {0}
Ascends lt (x ∷ xs) = NoneBefore lt x xs × Ascends lt xs

true_or_false : (b : Bool) → (b ≡ true) ⊎ (b ≡ false)
true_or_false true = inl refl
true_or_false false = inr refl

never : {X : Type 0} (lt : X → X → Bool) → IsStrictWeakOrder lt → (x : X) → lt x x ≡ false
never lt o x = elim (true_or_false (lt x x)) [ inl h ↦ o.one_way x x h | inr h ↦ h ]

-- what std says of a sorted list, as it stands
none_from : {X : Type 0} (lt : X → X → Bool) (x : X) (ys : List X) → ((j : ℕ) → j < length ys → lt (get_or ys j x) x ≡ false) → NoneBefore lt x ys
none_from lt x [] h = tt
none_from lt x (y ∷ ys) h = (h zero (omega arith), none_from lt x ys (λ j k. h (suc j) (omega arith)))

pub ascends_from : {X : Type 0} (lt : X → X → Bool) → ((xs : List X) → (far : (i j : ℕ) (d : X) → i ≤ j → j < length xs → lt (get_or xs j d) (get_or xs i d) ≡ false) → Ascends lt xs)
ascends_from lt [] far = tt
ascends_from lt (x ∷ xs) far = (
  none_from lt x xs (λ j h. far zero (suc j) x (omega arith) (omega arith)),
  ascends_from lt xs (λ i j d h k. far (suc i) (suc j) d (omega arith) (omega arith)),
)

-- the sorted list ascends
none_placed : {X : Type 0} (lt : X → X → Bool) (z x : X) (ys : List X) → lt x z ≡ false → NoneBefore lt z ys → NoneBefore lt z (placed_in lt x ys)
none_placed lt z x [] h n = (h, tt)
none_placed lt z x (y ∷ ys) h n =
    elim (lt y x) as (λ b. NoneBefore lt z (cond b (y ∷ placed_in lt x ys) (x ∷ (y ∷ ys)))) [
      | true ↦ (n.0, none_placed lt z x ys h n.1)
      | false ↦ (h, n)
    ]

none_through : {X : Type 0} (lt : X → X → Bool) → IsStrictWeakOrder lt → (x y : X) (ys : List X) → lt y x ≡ false → NoneBefore lt y ys → NoneBefore lt x ys
none_through lt o x y [] h n = tt
none_through lt o x y (z ∷ ys) h n = (o.chain z y x n.0 h, none_through lt o x y ys h n.1)

placed_ascends : {X : Type 0} (lt : X → X → Bool) → IsStrictWeakOrder lt → (x : X) (ys : List X) → Ascends lt ys → Ascends lt (placed_in lt x ys)
placed_ascends lt o x [] a = (tt, tt)
placed_ascends lt o x (y ∷ ys) a =
    elim (true_or_false (lt y x)) [
      | inl h ↦
          subst (λ (b : Bool). Ascends lt (cond b (y ∷ placed_in lt x ys) (x ∷ (y ∷ ys)))) (sym h)
          (none_placed lt y x ys (o.one_way y x h) a.0, placed_ascends lt o x ys a.1)
      | inr h ↦
          subst (λ (b : Bool). Ascends lt (cond b (y ∷ placed_in lt x ys) (x ∷ (y ∷ ys)))) (sym h)
          ((h, none_through lt o x y ys h a.0), a)
    ]

pub sorted_ascends : {X : Type 0} (lt : X → X → Bool) → IsStrictWeakOrder lt → (xs : List X) → Ascends lt (sorted_by lt xs)
sorted_ascends lt o [] = tt
sorted_ascends lt o (x ∷ xs) = placed_ascends lt o x (sorted_by lt xs) (sorted_ascends lt o xs)

-- the sorted list has the items that tie in their order
ties_parts : {X : Type 0} (lt : X → X → Bool) (x y : X) → ties lt x y ≡ true → (lt x y ≡ false) × (lt y x ≡ false)
ties_parts lt x y h = both (lt x y) (lt y x) h
  where
    both : (a b : Bool) → (not a && not b) ≡ true → (a ≡ false) × (b ≡ false)
    both false false h = (refl, refl)
    both false true h = absurd (false≢true h)
    both true b h = absurd (false≢true h)

ties_from : {X : Type 0} (lt : X → X → Bool) (x y : X) → lt x y ≡ false → lt y x ≡ false → ties lt x y ≡ true
ties_from lt x y h k = and_from (not (lt x y)) (not (lt y x)) (ap not h) (ap not k)

-- an item that another belongs before ties with nothing that the other ties with
apart : {X : Type 0} (lt : X → X → Bool) → IsStrictWeakOrder lt → (z x y : X) → lt y x ≡ true → ties lt z y ≡ true → ties lt z x ≡ false
apart lt o z x y h t =
    elim (true_or_false (ties lt z x)) [
      | inl u ↦
          let a = ties_parts lt z y t in
          let b = ties_parts lt z x u in
          absurd (false≢true (sym (o.chain y z x a.1 b.0) ∙ h))
      | inr u ↦ u
    ]

placed_ties : {X : Type 0} (lt : X → X → Bool) → IsStrictWeakOrder lt → (z x : X) (ys : List X) → filter (ties lt z) (placed_in lt x ys) ≡ filter (ties lt z) (x ∷ ys)
placed_ties lt o z x [] = refl
placed_ties {X = X} lt o z x (y ∷ ys) =
    elim (true_or_false (lt y x)) [
      | inl h ↦
          ap (λ (b : Bool). filter (ties lt z) (cond b (y ∷ placed_in lt x ys) (x ∷ (y ∷ ys)))) h
          ∙ ap (λ t. cond (ties lt z y) (y ∷ t) t) (placed_ties lt o z x ys)
          ∙ swapped (ties lt z y) (ties lt z x) (filter (ties lt z) ys) (apart lt o z x y h)
      | inr h ↦ ap (λ (b : Bool). filter (ties lt z) (cond b (y ∷ placed_in lt x ys) (x ∷ (y ∷ ys)))) h
    ]
  where
    swapped : (b c : Bool) (rest : List X) → (b ≡ true → c ≡ false) → cond b (y ∷ cond c (x ∷ rest) rest) (cond c (x ∷ rest) rest) ≡ cond c (x ∷ cond b (y ∷ rest) rest) (cond b (y ∷ rest) rest)
    swapped false c rest f = refl
    swapped true true rest f = absurd (false≢true (sym (f refl)))
    swapped true false rest f = refl

pub sorted_ties : {X : Type 0} (lt : X → X → Bool) → IsStrictWeakOrder lt → (z : X) (xs : List X) → filter (ties lt z) (sorted_by lt xs) ≡ filter (ties lt z) xs
sorted_ties lt o z [] = refl
sorted_ties lt o z (x ∷ xs) =
    placed_ties lt o z x (sorted_by lt xs) ∙ ap (λ t. cond (ties lt z x) (x ∷ t) t) (sorted_ties lt o z xs)

-- two lists that ascend and have the items that tie in one order are one
first_ties : {X : Type 0} (lt : X → X → Bool) → IsStrictWeakOrder lt → (y x : X) (xs : List X) → NoneBefore lt x xs → (rest : List X) → y ∷ rest ≡ filter (ties lt y) xs → lt y x ≡ false
first_ties lt o y x [] n rest e = absurd (no_cons e)
  where
    no_cons : y ∷ rest ≡ [] → ⊥
    no_cons e = cc
first_ties lt o y x (z ∷ xs) n rest e =
    elim (true_or_false (ties lt y z)) [
      | inl h ↦ o.chain y z x (ties_parts lt y z h).0 n.0
      | inr h ↦ first_ties lt o y x xs n.1 rest (e ∙ ap (λ (b : Bool). cond b (z ∷ filter (ties lt y) xs) (filter (ties lt y) xs)) h)
    ]

filter_first : {X : Type 0} (test : X → Bool) (x : X) (xs : List X) → test x ≡ true → filter test (x ∷ xs) ≡ x ∷ filter test xs
filter_first test x xs h = ap (λ (b : Bool). cond b (x ∷ filter test xs) (filter test xs)) h

below_first : {X : Type 0} (lt : X → X → Bool) → IsStrictWeakOrder lt → (y x : X) (xs : List X) → NoneBefore lt x xs → (rest : List X) → y ∷ rest ≡ filter (ties lt y) (x ∷ xs) → lt y x ≡ false
below_first lt o y x xs n rest e =
    elim (true_or_false (ties lt y x)) [
      | inl h ↦ (ties_parts lt y x h).0
      | inr h ↦ first_ties lt o y x xs n rest (e ∙ ap (λ (b : Bool). cond b (x ∷ filter (ties lt y) xs) (filter (ties lt y) xs)) h)
    ]

itself_ties : {X : Type 0} (lt : X → X → Bool) → IsStrictWeakOrder lt → (x : X) → ties lt x x ≡ true
itself_ties lt o x = ties_from lt x x (never lt o x) (never lt o x)

heads : {X : Type 0} (x y : X) (xs ys : List X) → x ∷ xs ≡ y ∷ ys → x ≡ y
heads x y xs ys e = cc

tails : {X : Type 0} (x y : X) (xs ys : List X) → x ∷ xs ≡ y ∷ ys → xs ≡ ys
tails x y xs ys e = cc

pub one_order : {X : Type 0} (lt : X → X → Bool) → IsStrictWeakOrder lt → (xs ys : List X) → Ascends lt xs → Ascends lt ys → ((z : X) → filter (ties lt z) xs ≡ filter (ties lt z) ys) → xs ≡ ys
one_order lt o [] [] a b e = refl
one_order lt o [] (y ∷ ys) a b e = absurd (no_cons (e y ∙ filter_first (ties lt y) y ys (itself_ties lt o y)))
  where
    no_cons : [] ≡ y ∷ filter (ties lt y) ys → ⊥
    no_cons e = cc
one_order lt o (x ∷ xs) [] a b e = absurd (no_cons (sym (filter_first (ties lt x) x xs (itself_ties lt o x)) ∙ e x))
  where
    no_cons : x ∷ filter (ties lt x) xs ≡ [] → ⊥
    no_cons e = cc
one_order {X = X} lt o (x ∷ xs) (y ∷ ys) a b e =
    let from_x = sym (filter_first (ties lt x) x xs (itself_ties lt o x)) ∙ e x in
    let from_y = sym (filter_first (ties lt y) y ys (itself_ties lt o y)) ∙ sym (e y) in
    let xy = below_first lt o x y ys b.0 (filter (ties lt x) xs) from_x in
    let yx = below_first lt o y x xs a.0 (filter (ties lt y) ys) from_y in
    let tie = ties_from lt x y xy yx in
    let same : x ≡ y = heads x y (filter (ties lt x) xs) (filter (ties lt x) ys) (from_x ∙ filter_first (ties lt x) y ys tie) in
    let rest = one_order lt o xs ys a.1 b.1 (λ z. later z (ties lt z x) (ties lt z y) (ap (ties lt z) same) (e z)) in
    ap (λ t. t ∷ xs) same ∙ ap (λ t. y ∷ t) rest
  where
    later : (z : X) (p q : Bool) → p ≡ q → cond p (x ∷ filter (ties lt z) xs) (filter (ties lt z) xs) ≡ cond q (y ∷ filter (ties lt z) ys) (filter (ties lt z) ys) → filter (ties lt z) xs ≡ filter (ties lt z) ys
    later z true true e f = tails x y (filter (ties lt z) xs) (filter (ties lt z) ys) f
    later z false false e f = f
    later z true false e f = absurd (false≢true (sym e))
    later z false true e f = absurd (false≢true e)

-- what a stable sort gives is the sorted list
pub stable_sort : {X : Type 0} (lt : X → X → Bool) → IsStrictWeakOrder lt → (xs ys : List X) → IsSortedBy lt ys → IsStableBy lt xs ys → ys ≡ sorted_by lt xs
stable_sort lt o xs ys up same =
    one_order lt o ys (sorted_by lt xs) (ascends_from lt ys (sorted_far lt o ys up)) (sorted_ascends lt o xs)
    (λ z. same z ∙ sym (sorted_ties lt o z xs))
