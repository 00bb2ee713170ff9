-- Round by round, the places whose rank is within a bound.
use Rattle.std.proofs.Common.{◌≡◌, ℕ, zero, suc, ◌+◌, ◌<◌, ◌≤◌, ◌⊎◌, Bool, true, false, List, [], ◌∷◌, ◌++◌, length, take, add-one, refl, sym, ap, ◌∙◌, subst, inl, inr, arith}
use Rattle.std.specs.Prelude.{Contains, slice_index_or}
use Rattle.std.specs.List.{list_all, list_any}
use mathlib.Core.Bool.{beq}
use Rattle.std.proofs.lemmas.Bool.{cases_lt, false≢true, lt-ltb}
use Rattle.std.proofs.lemmas.List.{get_or-map, length-map, map-append, take_more}
use Rattle.pf_calls.specs.GraphLaws.{is_within, later_in, now_in, within_inside}
use Rattle.pf_calls.specs.Numbered.{IsDepth, IsInside, IsOver, IsRound, next_round, numbered}

same_tests : {X : Type 0} (p q : X → Bool) (xs : List X) → ((x : X) → Contains xs x → p x ≡ q x) → list_all p xs ≡ list_all q xs
same_tests p q [] h = refl
same_tests p q (x ∷ xs) h = rw (h x (now_in x xs), same_tests p q xs (λ y within. h y (later_in x xs y within))) refl

pub round_more : (links : List (List ℕ)) (rank : ℕ) (within : List Bool) → IsInside links → IsRound links rank within → IsRound links (rank + 1) (next_round links within)
round_more links rank within inside round = record {
  long = length-map links (list_all (λ place. slice_index_or within place false));
  each = λ i lt.
      get_or-map (list_all (λ place. slice_index_or within place false)) links i [] false lt
      ∙ same_tests (λ place. slice_index_or within place false) (is_within (numbered links) rank) (slice_index_or links i []) (λ j within_j. round.each j (inside.below i j within_j))
      ∙ sym (rw add-one (within_inside (numbered links) rank i (lt-ltb i (length links) lt)));
}

-- a round in which all are within
pub round_full : (links : List (List ℕ)) (rank : ℕ) (within : List Bool) → IsRound links rank within → ((i : ℕ) → i < length within → slice_index_or within i false ≡ true) → (i : ℕ) → i < length links → is_within (numbered links) rank i ≡ true
round_full links rank within round all i lt = sym (round.each i lt) ∙ all i (let long = round.long in omega arith)

-- one more place of a round
pub round_next : (links : List (List ℕ)) (within : List Bool) (i : ℕ) (places items : List ℕ) (told : Bool) (next : List Bool) → i < length links → places ≡ slice_index_or links i places → items ≡ places → told ≡ list_all (λ place. slice_index_or within place false) items → next ≡ next_round (take i links) within → next ++ told ∷ [] ≡ next_round (take (i + 1) links) within
round_next links within i places items told next lt is same test front =
    (λ j. front j ++ (test ∙ ap (list_all (λ place. slice_index_or within place false)) same) j ∷ [])
    ∙ sym (map-append (list_all (λ place. slice_index_or within place false)) (take i links) (places ∷ []))
    ∙ ap (λ l. next_round l within) (sym (take_more links i places lt ∙ ap (λ x. take i links ++ x ∷ []) (sym is)))

-- a test of all told places
told_false : (within : List Bool) → list_any (λ y. beq y false) within ≡ true → (k : ℕ) × (k < length within) × (slice_index_or within k false ≡ false)
told_false [] h = absurd (false≢true h)
told_false (false ∷ within) h = (0, omega arith, refl)
told_false (true ∷ within) h = let later = told_false within h in (suc later.0, omega arith, later.2)

told_true : (within : List Bool) → list_any (λ y. beq y false) within ≡ false → (k : ℕ) → k < length within → slice_index_or within k false ≡ true
told_true [] h k lt = absurd (omega arith)
told_true (false ∷ within) h k lt = absurd (false≢true (sym h))
told_true (true ∷ within) h zero lt = refl
told_true (true ∷ within) h (suc k) lt = told_true within h k (omega arith)

-- a round that is full tells the greatest rank
pub depth_found : (links : List (List ℕ)) (rank : ℕ) (within : List Bool) → IsRound links (rank + 1) within → list_any (λ y. beq y false) within ≡ false → ((before : ℕ) → before ≤ rank → IsOver links before) → IsDepth links (rank + 1)
depth_found links rank within round none over = record {
  all = round_full links (rank + 1) within round (told_true within none);
  least = λ before few. over before (omega arith);
}

at_or_below : (before rank : ℕ) → before ≤ rank + 1 → (before ≤ rank) ⊎ (rank + 1 ≡ before)
at_or_below before rank h = elim (cases_lt rank before) [ inl above ↦ inr (omega arith) | inr below ↦ inl below ]

pub over_more : (links : List (List ℕ)) (rank : ℕ) (within : List Bool) → IsRound links (rank + 1) within → list_any (λ y. beq y false) within ≡ true → ((before : ℕ) → before ≤ rank → IsOver links before) → (before : ℕ) → before ≤ rank + 1 → IsOver links before
over_more links rank within round some over before few =
    elim (at_or_below before rank few) [
      | inl below ↦ over before below
      | inr here ↦
          let found = told_false within some in
          let inside : found.0 < length links = (let lt = found.1 in let long = round.long in omega arith) in
          subst (λ (n : ℕ). IsOver links n) here (record { place = found.0; inside = inside; over = sym (round.each found.0 inside) ∙ found.2 })
    ]
