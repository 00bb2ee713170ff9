-- A list whose items stand in groups of mates. The first of a large group stands for the group, its others go, and every
-- other item stays: what a test passes at, and what weights come to, is then as in the list.
use Rattle.std.proofs.Common.{◌≡◌, ℕ, ◌+◌, cond, Bool, true, false, not, ◌&&◌, ◌||◌, nat_le, List, [], ◌∷◌, ◌++◌, length, refl, sym, ap, ◌∙◌, ◌⊎◌, inl, inr}
use Rattle.std.proofs.lemmas.Bool.{cases_Bool, false≢true, or_cases, or_from, or_left, or_right}
use Rattle.std.proofs.lemmas.List.Elements.{filter_agree}
use Rattle.std.proofs.lemmas.List.Folds.{list_any-append}
use Rattle.std.specs.List.{filter, list_any, sum_by}

-- mates of mates are mates
pub record Grouping {X : Type 0} (mates : X → X → Bool) : Type 0 where
  pub alike : (x y z : X) → mates x y ≡ true → mates z x ≡ mates z y
  pub turned : (x y : X) → mates x y ≡ mates y x

abbrev pub mates_of : {X : Type 0} → (X → X → Bool) → List X → X → List X
mates_of mates all x = filter (λ y. mates y x) all

abbrev pub is_many : {X : Type 0} → (X → X → Bool) → List X → X → Bool
is_many mates all x = nat_le 6 (length (mates_of mates all x))

abbrev pub has_mate : {X : Type 0} → (X → X → Bool) → List X → X → Bool
has_mate mates front x = list_any (λ y. mates y x) front

-- some item that is left passes
abbrev pub left_passes : {X : Type 0} → (X → X → Bool) → (X → Bool) → List X → List X → List X → Bool
left_passes mates hit all front [] = false
left_passes mates hit all front (x ∷ xs) =
    cond (is_many mates all x) (cond (has_mate mates front x) false (list_any hit (mates_of mates all x))) (hit x)
    || left_passes mates hit all (front ++ x ∷ []) xs

-- what is left weighs
abbrev pub left_weighs : {X : Type 0} → (X → X → Bool) → (X → ℕ) → List X → List X → List X → ℕ
left_weighs mates weight all front [] = 0
left_weighs mates weight all front (x ∷ xs) =
    cond (is_many mates all x) (cond (has_mate mates front x) 0 (sum_by weight (mates_of mates all x))) (weight x)
    + left_weighs mates weight all (front ++ x ∷ []) xs

-- mates have the same mates
pub same_mates : {X : Type 0} (mates : X → X → Bool) → Grouping mates → (all : List X) (x y : X) → mates x y ≡ true → mates_of mates all x ≡ mates_of mates all y
same_mates mates g all x y h = filter_agree (λ z. mates z x) (λ z. mates z y) (λ z. g.alike x y z h) all

pub any_agree : {X : Type 0} (p q : X → Bool) → ((x : X) → p x ≡ q x) → (xs : List X) → list_any p xs ≡ list_any q xs
any_agree p q e [] = refl
any_agree p q e (x ∷ xs) = ap (λ t. t || list_any p xs) (e x) ∙ ap (λ t. q x || t) (any_agree p q e xs)

pub same_front : {X : Type 0} (mates : X → X → Bool) → Grouping mates → (front : List X) (x y : X) → mates x y ≡ true → has_mate mates front x ≡ has_mate mates front y
same_front mates g front x y h = any_agree (λ z. mates z x) (λ z. mates z y) (λ z. g.alike x y z h) front

itself : {X : Type 0} (mates : X → X → Bool) → Grouping mates → (x y : X) → mates x y ≡ true → mates y y ≡ true
itself mates g x y h = sym (g.alike x y y h) ∙ g.turned y x ∙ h

-- what passes among the items of a filter passes in the list
any_of_filter : {X : Type 0} (p hit : X → Bool) (xs : List X) → list_any hit (filter p xs) ≡ true → list_any hit xs ≡ true
any_of_filter p hit [] h = h
any_of_filter p hit (x ∷ xs) h0 =
    elim (p x) as (λ b. list_any hit (cond b (x ∷ filter p xs) (filter p xs)) ≡ true → (hit x || list_any hit xs) ≡ true) [
      | true ↦ λ h. elim (or_cases (hit x) (list_any hit (filter p xs)) h) [
        | inl e ↦ or_left (hit x) (list_any hit xs) e
        | inr e ↦ or_right (hit x) (list_any hit xs) (any_of_filter p hit xs e)
      ]
      | false ↦ λ h. or_right (hit x) (list_any hit xs) (any_of_filter p hit xs h)
    ] h0

-- what is left passes only where some item of the list does
pub left_only : {X : Type 0} (mates : X → X → Bool) (hit : X → Bool) (all front items : List X) → (list_any hit items ≡ true → list_any hit all ≡ true) → left_passes mates hit all front items ≡ true → list_any hit all ≡ true
left_only mates hit all front [] within h = absurd (false≢true h)
left_only mates hit all front (x ∷ xs) within h =
    elim (or_cases (cond (is_many mates all x) (cond (has_mate mates front x) false (list_any hit (mates_of mates all x))) (hit x)) (left_passes mates hit all (front ++ x ∷ []) xs) h) [
      | inl e ↦ here (is_many mates all x) (has_mate mates front x) e
      | inr e ↦ left_only mates hit all (front ++ x ∷ []) xs (λ k. within (or_right (hit x) (list_any hit xs) k)) e
    ]
  where
    here : (many mate : Bool) → cond many (cond mate false (list_any hit (mates_of mates all x))) (hit x) ≡ true → list_any hit all ≡ true
    here true true e = absurd (false≢true e)
    here true false e = any_of_filter (λ y. mates y x) hit all e
    here false mate e = within (or_left (hit x) (list_any hit xs) e)

-- an item that stays passes
stays : {X : Type 0} (mates : X → X → Bool) (hit : X → Bool) (all front items : List X) → list_any (λ x. hit x && not (is_many mates all x)) items ≡ true → left_passes mates hit all front items ≡ true
stays mates hit all front [] h = h
stays mates hit all front (x ∷ xs) h =
    elim (or_cases (hit x && not (is_many mates all x)) (list_any (λ x. hit x && not (is_many mates all x)) xs) h) [
      | inl e ↦ or_left _ (left_passes mates hit all (front ++ x ∷ []) xs) (here (is_many mates all x) (hit x) e)
      | inr e ↦ or_right _ (left_passes mates hit all (front ++ x ∷ []) xs) (stays mates hit all (front ++ x ∷ []) xs e)
    ]
  where
    here : (many passes : Bool) → (passes && not many) ≡ true → cond many (cond (has_mate mates front x) false (list_any hit (mates_of mates all x))) passes ≡ true
    here true true e = absurd (false≢true e)
    here true false e = absurd (false≢true e)
    here false passes e = last passes e
      where
        last : (b : Bool) → (b && true) ≡ true → b ≡ true
        last true e = refl
        last false e = e

-- the first of a large group that passes somewhere
leads : {X : Type 0} (mates : X → X → Bool) → Grouping mates → (hit : X → Bool) (all front items : List X) (x : X) → is_many mates all x ≡ true → list_any hit (mates_of mates all x) ≡ true → has_mate mates front x ≡ false → has_mate mates items x ≡ true → left_passes mates hit all front items ≡ true
leads mates g hit all front [] x many some none has = has
leads mates g hit all front (y ∷ ys) x many some none has =
    elim (cases_Bool (mates y x)) [
      | inl e ↦
          or_left _ (left_passes mates hit all (front ++ y ∷ []) ys)
          (first (is_many mates all y) (has_mate mates front y) (list_any hit (mates_of mates all y)) (hit y)
          (ap (λ t. nat_le 6 (length t)) (same_mates mates g all y x e) ∙ many)
          (same_front mates g front y x e ∙ none)
          (ap (list_any hit) (same_mates mates g all y x e) ∙ some))
      | inr e ↦
          or_right _ (left_passes mates hit all (front ++ y ∷ []) ys)
          (leads mates g hit all (front ++ y ∷ []) ys x many some
          (list_any-append (λ z. mates z x) front (y ∷ []) ∙ or_from (has_mate mates front x) (mates y x || false) none (or_from (mates y x) false e refl))
          (sym (ap (λ t. t || has_mate mates ys x) e) ∙ has))
    ]
  where
    first : (many mate group one : Bool) → many ≡ true → mate ≡ false → group ≡ true → cond many (cond mate false group) one ≡ true
    first true true group one a b c = absurd (false≢true (sym b))
    first true false group one a b c = c
    first false mate group one a b c = absurd (false≢true a)

-- a list of some items that pass has one
pub some_of_length : {X : Type 0} (p : X → Bool) (xs : List X) → nat_le 6 (length (filter p xs)) ≡ true → list_any p xs ≡ true
some_of_length p [] h = absurd (false≢true h)
some_of_length p (x ∷ xs) h0 =
    elim (p x) as (λ b. nat_le 6 (length (cond b (x ∷ filter p xs) (filter p xs))) ≡ true → (b || list_any p xs) ≡ true) [
      | true ↦ λ h. refl
      | false ↦ λ h. some_of_length p xs h
    ] h0

-- an item of a large group that passes, with what its group has
record Passing {X : Type 0} (mates : X → X → Bool) (hit : X → Bool) (all xs : List X) : Type 0 where
  item : X
  many : is_many mates all item ≡ true
  some : list_any hit (filter (λ y. mates y item) xs) ≡ true

any_more : {X : Type 0} (p hit : X → Bool) (x : X) (xs : List X) → list_any hit (filter p xs) ≡ true → list_any hit (filter p (x ∷ xs)) ≡ true
any_more p hit x xs h =
    elim (p x) as (λ b. list_any hit (cond b (x ∷ filter p xs) (filter p xs)) ≡ true) [
      | true ↦ or_right (hit x) (list_any hit (filter p xs)) h
      | false ↦ h
    ]

found : {X : Type 0} (mates : X → X → Bool) → Grouping mates → (hit : X → Bool) (all xs : List X) → list_any (λ x. hit x && is_many mates all x) xs ≡ true → Passing mates hit all xs
found mates g hit all [] h = absurd (false≢true h)
found mates g hit all (x ∷ xs) h =
    elim (or_cases (hit x && is_many mates all x) (list_any (λ x. hit x && is_many mates all x) xs) h) [
      | inl e ↦
          let parts = both (hit x) (is_many mates all x) e in
          let some = some_of_length (λ y. mates y x) all parts.1 in
          record {
            item = x;
            many = parts.1;
            some = ap (λ b. list_any hit (cond b (x ∷ filter (λ y. mates y x) xs) (filter (λ y. mates y x) xs))) (mate_itself all some) ∙ or_left (hit x) (list_any hit (filter (λ y. mates y x) xs)) parts.0;
          }
      | inr e ↦
          let f = found mates g hit all xs e in
          record { item = f.item; many = f.many; some = any_more (λ y. mates y f.item) hit x xs f.some }
    ]
  where
    both : (a b : Bool) → (a && b) ≡ true → (a ≡ true) × (b ≡ true)
    both true b e = (refl, e)
    both false b e = absurd (false≢true e)

    mate_itself : (ys : List _) → list_any (λ y. mates y x) ys ≡ true → mates x x ≡ true
    mate_itself [] e = absurd (false≢true e)
    mate_itself (y ∷ ys) e = elim (or_cases (mates y x) (list_any (λ y. mates y x) ys) e) [
      | inl k ↦ itself mates g y x k
      | inr k ↦ mate_itself ys k
    ]

-- what passes has many mates, or hasn't
either_any : {X : Type 0} (hit many : X → Bool) (xs : List X) → list_any hit xs ≡ true → (list_any (λ x. hit x && not (many x)) xs ≡ true) ⊎ (list_any (λ x. hit x && many x) xs ≡ true)
either_any hit many [] h = inl h
either_any hit many (x ∷ xs) h =
    elim (or_cases (hit x) (list_any hit xs) h) [
      | inl e ↦ here (many x) (hit x) e
      | inr e ↦ elim (either_any hit many xs e) [
        | inl k ↦ inl (or_right (hit x && not (many x)) (list_any (λ x. hit x && not (many x)) xs) k)
        | inr k ↦ inr (or_right (hit x && many x) (list_any (λ x. hit x && many x) xs) k)
      ]
    ]
  where
    here : (m b : Bool) → b ≡ true → (((b && not m) || list_any (λ x. hit x && not (many x)) xs) ≡ true) ⊎ (((b && m) || list_any (λ x. hit x && many x) xs) ≡ true)
    here true true e = inr refl
    here true false e = absurd (false≢true e)
    here false true e = inl refl
    here false false e = absurd (false≢true e)

both_ways' : (a b : Bool) → (a ≡ true → b ≡ true) → (b ≡ true → a ≡ true) → a ≡ b
both_ways' true b f g = sym (f refl)
both_ways' false true f g = absurd (false≢true (g refl))
both_ways' false false f g = refl

pub left_passes_same : {X : Type 0} (mates : X → X → Bool) → Grouping mates → (hit : X → Bool) (all : List X) → left_passes mates hit all [] all ≡ list_any hit all
left_passes_same mates g hit all =
    both_ways' (left_passes mates hit all [] all) (list_any hit all)
    (left_only mates hit all [] all (λ h. h))
    (λ h. elim (either_any hit (is_many mates all) all h) [
      | inl e ↦ stays mates hit all [] all e
      | inr e ↦
          let f = found mates g hit all all e in
          leads mates g hit all [] all f.item f.many f.some refl (some_of_length (λ y. mates y f.item) all f.many)
    ])
