-- Cutting a list at its first element that passes a test.
use Rattle.std.proofs.Common.{◌≡◌, ℕ, ◌+◌, ◌<◌, ◌≤◌, Bool, true, false, cond, not, nat_lt, List, [], ◌∷◌, ◌++◌, length, take, get_or, Some, None, refl, ap, ◌∙◌, subst, arith, suc}
use Rattle.std.specs.List.{slice_split, onto_first, list_all, position, position_or_len}
use Rattle.std.specs.Cmp.{first_so, second_so}
use Rattle.std.proofs.lemmas.Bool.{ltb-true, ltb-false}
use Rattle.std.proofs.lemmas.List.{take_all}
use Rattle.std.proofs.lemmas.List.Sums.{passes_at_first, split_at_first as cut_at_first}
use Rattle.std.proofs.lemmas.List.Folds.{list_all-append}
use Rattle.pf_base.specs.Text.{but_last, last_part}
pub use Rattle.pf_base.specs.Cuts.{IsFirst, NonePasses}

pub not_true : (b : Bool) → not b ≡ true → b ≡ false
not_true true h = cc
not_true false h = refl

-- the first part ends at the first element that passes
pub split_at_first : {X : Type 0} (p : X → Bool) (xs : List X) (y : X) (ys : List X) → NonePasses p xs → p y ≡ true → slice_split p (xs ++ y ∷ ys) ≡ xs ∷ slice_split p ys
split_at_first p [] y ys none h = rw h refl
split_at_first p (x ∷ xs) y ys none h =
    let no : p x ≡ false = not_true (p x) (first_so (not (p x)) (list_all (λ z. not (p z)) xs) none) in
    let rest : slice_split p (xs ++ y ∷ ys) ≡ xs ∷ slice_split p ys = split_at_first p xs y ys (second_so (not (p x)) (list_all (λ z. not (p z)) xs) none) h in
    rw (no, rest) refl

-- where none passes, the list is the one part
pub split_none : {X : Type 0} (p : X → Bool) (xs : List X) → NonePasses p xs → slice_split p xs ≡ xs ∷ []
split_none p [] none = refl
split_none p (x ∷ xs) none =
    let no : p x ≡ false = not_true (p x) (first_so (not (p x)) (list_all (λ z. not (p z)) xs) none) in
    let rest : slice_split p xs ≡ xs ∷ [] = split_none p xs (second_so (not (p x)) (list_all (λ z. not (p z)) xs) none) in
    rw (no, rest) refl

pub none_append : {X : Type 0} (p : X → Bool) (xs ys : List X) → NonePasses p xs → NonePasses p ys → NonePasses p (xs ++ ys)
none_append p xs ys a b = list_all-append (λ x. not (p x)) xs ys ∙ rw (a, b) refl

some_is : {A : Type 0} (b : Bool) (x y : A) → cond b (Some x) None ≡ Some y → (b ≡ true) × (x ≡ y)
some_is true x y h = (refl, cc)
some_is false x y h = (cc, cc)

-- the front up to the first that passes: none passes in it
pub front_fails : {X : Type 0} (p : X → Bool) (xs : List X) → NonePasses p (take (position_or_len p xs) xs)
front_fails p [] = refl
front_fails p (x ∷ xs) =
    let n = position_or_len p xs in
    elim (p x) as (λ b. p x ≡ b → NonePasses p (take (cond (not b) (1 + n) 0) (x ∷ xs))) [
      | true ↦ λ h. refl
      | false ↦ λ h. let e : 1 + n ≡ suc n = omega arith in rw (e, h) (front_fails p xs)
    ] refl

some_or_none : {A : Type 0} (b : Bool) (x : A) → cond b (Some x) None ≡ None → b ≡ false
some_or_none true x h = cc
some_or_none false x h = refl

pub first_of_position : {X : Type 0} (p : X → Bool) (xs : List X) (i : ℕ) (d : X) → position p xs ≡ Some i → IsFirst p xs i (get_or xs i d)
first_of_position p xs i d h =
    let n = position_or_len p xs in
    let e = some_is (nat_lt n (length xs)) n i h in
    let lt : n < length xs = ltb-true n (length xs) e.0 in
    subst (λ (k : ℕ). IsFirst p xs k (get_or xs k d)) e.1 (record {
      inside = lt;
      passes = passes_at_first p xs d lt;
      before = front_fails p xs;
      joined = cut_at_first p xs d lt;
    })

pub none_of_position : {X : Type 0} (p : X → Bool) (xs : List X) → position p xs ≡ None → NonePasses p xs
none_of_position p xs h =
    let n = position_or_len p xs in
    let le : length xs ≤ n = ltb-false n (length xs) (some_or_none (nat_lt n (length xs)) n h) in
    let e : take n xs ≡ xs = take_all n xs le in
    subst (NonePasses p) e (front_fails p xs)

-- a list that is cut has a first part
pub first_part : {X : Type 0} (p : X → Bool) (xs : List X) → (part : List X) × (parts : List (List X)) × (slice_split p xs ≡ part ∷ parts)
first_part p [] = ([], [], refl)
first_part p (x ∷ xs) =
    let rest = first_part p xs in
    elim (p x) as (λ b. (part : List _) × (parts : List (List _)) × (cond b ([] ∷ slice_split p xs) (onto_first x (slice_split p xs)) ≡ part ∷ parts)) [
      | true ↦ ([], slice_split p xs, refl)
      | false ↦ (x ∷ rest.0, rest.1, ap (onto_first x) rest.2)
    ]

push_front : {X : Type 0} (x : X) (p : X → Bool) (ys : List X) (part : List X) (parts : List (List X)) → p x ≡ false → onto_first x (but_last (part ∷ parts) ++ slice_split p (last_part (part ∷ parts) ++ ys)) ≡ but_last ((x ∷ part) ∷ parts) ++ slice_split p (last_part ((x ∷ part) ∷ parts) ++ ys)
push_front x p ys part [] h = rw h refl
push_front x p ys part (next ∷ parts) h = refl

push_part : {X : Type 0} (p : X → Bool) (ys : List X) (part : List X) (parts : List (List X)) → [] ∷ (but_last (part ∷ parts) ++ slice_split p (last_part (part ∷ parts) ++ ys)) ≡ but_last ([] ∷ part ∷ parts) ++ slice_split p (last_part ([] ∷ part ∷ parts) ++ ys)
push_part p ys part parts = refl

-- how the parts of a text go on with more
pub split_append : {X : Type 0} (p : X → Bool) (xs ys : List X) → slice_split p (xs ++ ys) ≡ but_last (slice_split p xs) ++ slice_split p (last_part (slice_split p xs) ++ ys)
split_append p [] ys = refl
split_append {X} p (x ∷ xs) ys =
    let parts = first_part p xs in
    let rest : slice_split p (xs ++ ys) ≡ but_last (slice_split p xs) ++ slice_split p (last_part (slice_split p xs) ++ ys) = split_append p xs ys in
    elim (p x) as (λ b. p x ≡ b → cond b ([] ∷ slice_split p (xs ++ ys)) (onto_first x (slice_split p (xs ++ ys))) ≡ but_last (cond b ([] ∷ slice_split p xs) (onto_first x (slice_split p xs))) ++ slice_split p (last_part (cond b ([] ∷ slice_split p xs) (onto_first x (slice_split p xs))) ++ ys)) [
      | true ↦ λ h. rw rest (rw parts.2 (push_part p ys parts.0 parts.1))
      | false ↦ λ h. rw rest (rw parts.2 (push_front x p ys parts.0 parts.1 h))
    ] refl

-- the last part has no separator
pub last_is_one : {X : Type 0} (p : X → Bool) (xs : List X) → NonePasses p (last_part (slice_split p xs))
last_is_one p [] = refl
last_is_one p (x ∷ xs) =
    let parts = first_part p xs in
    let rest : NonePasses p (last_part (parts.0 ∷ parts.1)) = rw parts.2 at (last_is_one p xs) in
    elim (p x) as (λ b. p x ≡ b → NonePasses p (last_part (cond b ([] ∷ slice_split p xs) (onto_first x (slice_split p xs))))) [
      | true ↦ λ h. rw parts.2 rest
      | false ↦ λ h. rw parts.2 (push_one p x parts.0 parts.1 h rest)
    ] refl
  where
    push_one : {X : Type 0} (p : X → Bool) (x : X) (part : List X) (parts : List (List X)) → p x ≡ false → NonePasses p (last_part (part ∷ parts)) → NonePasses p (last_part ((x ∷ part) ∷ parts))
    push_one p x part [] h rest = rw h rest
    push_one p x part (next ∷ parts) h rest = rest
