-- Runs of neighbours are the whole list, each is linked, and none could be joined to the next.
use Rattle.std.proofs.Common.{◌≡◌, cond, Bool, true, false, not, List, [], ◌∷◌, refl, sym, ap, ◌∙◌, subst}
use Rattle.std.proofs.lemmas.Bool.{and_parts, and_from, false≢true}
use Rattle.std.specs.List.{flat_map, list_all}
use Rattle.pf_order.specs.Blocks.{runs_of, with_run}
use Rattle.pf_order.specs.Runs.{are_cut, is_filled, is_linked}
use Rattle.pf_order.proofs.Blocking.{begins}

whole_with : {X : Type 0} (joins : X → X → Bool) (x : X) (runs : List (List X)) → flat_map (λ run. run) (with_run joins x runs) ≡ x ∷ flat_map (λ run. run) runs
whole_with joins x [] = refl
whole_with joins x ([] ∷ runs) = refl
whole_with joins x ((y ∷ ys) ∷ runs) = cases (joins x y)
  where
    cases : (b : Bool) → flat_map (λ run. run) (cond b ((x ∷ (y ∷ ys)) ∷ runs) ((x ∷ []) ∷ ((y ∷ ys) ∷ runs))) ≡ x ∷ flat_map (λ run. run) ((y ∷ ys) ∷ runs)
    cases true = refl
    cases false = refl

pub whole : {X : Type 0} (joins : X → X → Bool) (xs : List X) → flat_map (λ run. run) (runs_of joins xs) ≡ xs
whole joins [] = refl
whole joins (x ∷ xs) = whole_with joins x (runs_of joins xs) ∙ ap (λ t. x ∷ t) (whole joins xs)

linked_with : {X : Type 0} (joins : X → X → Bool) (x : X) (runs : List (List X)) → list_all (is_linked joins) runs ≡ true → list_all (is_linked joins) (with_run joins x runs) ≡ true
linked_with joins x [] h = refl
linked_with joins x ([] ∷ runs) h = h
linked_with joins x ((y ∷ ys) ∷ runs) h = cases (joins x y) refl
  where
    cases : (b : Bool) → joins x y ≡ b → list_all (is_linked joins) (cond b ((x ∷ (y ∷ ys)) ∷ runs) ((x ∷ []) ∷ ((y ∷ ys) ∷ runs))) ≡ true
    cases true e =
        let parts = and_parts (is_linked joins (y ∷ ys)) (list_all (is_linked joins) runs) h in
        and_from (is_linked joins (x ∷ (y ∷ ys))) (list_all (is_linked joins) runs) (and_from (joins x y) (is_linked joins (y ∷ ys)) e parts.0) parts.1
    cases false e = h

pub linked : {X : Type 0} (joins : X → X → Bool) (xs : List X) → list_all (is_linked joins) (runs_of joins xs) ≡ true
linked joins [] = refl
linked joins (x ∷ xs) = linked_with joins x (runs_of joins xs) (linked joins xs)

-- the first run's end stays where an item is put before it
cut_longer : {X : Type 0} (joins : X → X → Bool) (x y : X) (ys : List X) (runs : List (List X)) → are_cut joins ((y ∷ ys) ∷ runs) ≡ true → are_cut joins ((x ∷ (y ∷ ys)) ∷ runs) ≡ true
cut_longer joins x y ys [] h = refl
cut_longer joins x y ys (run ∷ runs) h = h

cut_with : {X : Type 0} (joins : X → X → Bool) (x y : X) (ys : List X) (runs : List (List X)) → are_cut joins ((y ∷ ys) ∷ runs) ≡ true → are_cut joins (with_run joins x ((y ∷ ys) ∷ runs)) ≡ true
cut_with joins x y ys runs h = cases (joins x y) refl
  where
    cases : (b : Bool) → joins x y ≡ b → are_cut joins (cond b ((x ∷ (y ∷ ys)) ∷ runs) ((x ∷ []) ∷ ((y ∷ ys) ∷ runs))) ≡ true
    cases true e = cut_longer joins x y ys runs h
    cases false e = and_from (not (joins x y)) (are_cut joins ((y ∷ ys) ∷ runs)) (ap not e) h

pub cut : {X : Type 0} (joins : X → X → Bool) (xs : List X) → are_cut joins (runs_of joins xs) ≡ true
cut joins [] = refl
cut joins (x ∷ []) = refl
cut {X = X} joins (x ∷ (y ∷ ys)) =
    let first = begins joins y (runs_of joins ys) in
    subst (λ (t : List (List X)). are_cut joins (with_run joins x t) ≡ true) (sym first.is)
    (cut_with joins x y first.others first.later (subst (λ (t : List (List X)). are_cut joins t ≡ true) first.is (cut joins (y ∷ ys))))

-- no run is empty
with_filled : {X : Type 0} (test : X → X → Bool) (x : X) (runs : List (List X)) → list_all is_filled runs ≡ true → list_all is_filled (with_run test x runs) ≡ true
with_filled test x [] h = refl
with_filled test x ([] ∷ runs) h = absurd (false≢true h)
with_filled test x ((y ∷ ys) ∷ runs) h =
    elim (test x y) as (λ b. list_all is_filled (cond b ((x ∷ (y ∷ ys)) ∷ runs) ((x ∷ []) ∷ ((y ∷ ys) ∷ runs))) ≡ true) [
      | true ↦ h
      | false ↦ h
    ]

pub filled : {X : Type 0} (test : X → X → Bool) (xs : List X) → list_all is_filled (runs_of test xs) ≡ true
filled test [] = refl
filled test (x ∷ xs) = with_filled test x (runs_of test xs) (filled test xs)
