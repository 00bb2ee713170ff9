-- What the orders keep.
use Rattle.std.proofs.Common.{◌≡◌, ℕ, ◌<◌, ◌≤◌, cond, Bool, true, false, nat_lt, List, [], ◌∷◌, map, length, refl, sym, ap, ◌∙◌, subst, ◌||◌, arith}
use Rattle.std.proofs.lemmas.Bool.{ltb-true}
use Rattle.std.proofs.lemmas.List.Sorted.{IsPermutation-middle, IsPermutation-cons, IsPermutation-map, IsPermutation-refl, IsPermutation-sym, IsPermutation-trans}
use Rattle.std.proofs.lemmas.Slice.Zip.{firsts-zip}
use Rattle.std.specs.List.{list_any, zip}
use Rattle.std.specs.List.Sorted.{IsPermutation}
use Rattle.pf_order.specs.Order.{gain, gain_order, profile_order, sorted_order}
use Rattle.pf_order.specs.Sorting.{placed_in, sorted_by}
use Rattle.pf_rule.specs.declared.rule.Rule.{Rule}

-- a test passes at some item of the list exactly where it passes at some item of the sorted list
any_placed : {X : Type 0} (test : X → Bool) (before : X → X → Bool) (x : X) (ys : List X) → list_any test (placed_in before x ys) ≡ list_any test (x ∷ ys)
any_placed test before x [] = refl
any_placed test before x (y ∷ ys) =
    cases (before y x) (any_placed test before x ys)
  where
    turned : (a b c : Bool) → (a || (b || c)) ≡ (b || (a || c))
    turned true true c = refl
    turned true false c = refl
    turned false true c = refl
    turned false false c = refl

    cases : (b : Bool) → list_any test (placed_in before x ys) ≡ list_any test (x ∷ ys) → list_any test (cond b (y ∷ placed_in before x ys) (x ∷ (y ∷ ys))) ≡ list_any test (x ∷ (y ∷ ys))
    cases true e = ap (λ t. test y || t) e ∙ turned (test y) (test x) (list_any test ys)
    cases false e = refl

pub any_sorted : {X : Type 0} (test : X → Bool) (before : X → X → Bool) (xs : List X) → list_any test (sorted_by before xs) ≡ list_any test xs
any_sorted test before [] = refl
any_sorted test before (x ∷ xs) = any_placed test before x (sorted_by before xs) ∙ ap (λ t. test x || t) (any_sorted test before xs)

any_firsts : (test : Rule → Bool) (items : List (Rule × ℕ)) → list_any test (map (λ item. item.0) items) ≡ list_any (λ item. test item.0) items
any_firsts test [] = refl
any_firsts test (item ∷ items) = ap (λ t. test item.0 || t) (any_firsts test items)

pub any_gain : (test : Rule → Bool) (rules : List Rule) → list_any test (gain_order rules) ≡ list_any test rules
any_gain test rules = cases (nat_lt (gain rules) (gain (sorted_order rules)))
  where
    cases : (b : Bool) → list_any test (cond b (sorted_order rules) rules) ≡ list_any test rules
    cases true = any_sorted test _ rules
    cases false = refl

pub any_profile : (test : Rule → Bool) (rules : List Rule) (weights : List ℕ) → length rules ≡ length weights → list_any test (profile_order rules weights) ≡ list_any test rules
any_profile test rules weights e =
    any_firsts test (sorted_by _ (zip rules weights))
    ∙ any_sorted (λ (item : Rule × ℕ). test item.0) _ (zip rules weights)
    ∙ sym (any_firsts test (zip rules weights))
    ∙ ap (list_any test) (firsts-zip rules weights (sym e))

-- the order holds the same rules
permuted_placed : {X : Type 0} (before : X → X → Bool) (x : X) (ys : List X) → IsPermutation (x ∷ ys) (placed_in before x ys)
permuted_placed before x [] = IsPermutation-refl (x ∷ [])
permuted_placed before x (y ∷ ys) = cases (before y x) (permuted_placed before x ys)
  where
    cases : (b : Bool) → IsPermutation (x ∷ ys) (placed_in before x ys) → IsPermutation (x ∷ (y ∷ ys)) (cond b (y ∷ placed_in before x ys) (x ∷ (y ∷ ys)))
    cases true p = IsPermutation-trans (x ∷ (y ∷ ys)) (y ∷ (x ∷ ys)) (y ∷ placed_in before x ys) (IsPermutation-sym (y ∷ (x ∷ ys)) (x ∷ (y ∷ ys)) (IsPermutation-middle (y ∷ []) x ys)) (IsPermutation-cons y (x ∷ ys) (placed_in before x ys) p)
    cases false p = IsPermutation-refl (x ∷ (y ∷ ys))

pub permuted_sorted : {X : Type 0} (before : X → X → Bool) (xs : List X) → IsPermutation xs (sorted_by before xs)
permuted_sorted before [] = IsPermutation-refl []
permuted_sorted before (x ∷ xs) =
    IsPermutation-trans (x ∷ xs) (x ∷ sorted_by before xs) (sorted_by before (x ∷ xs))
    (IsPermutation-cons x xs (sorted_by before xs) (permuted_sorted before xs))
    (permuted_placed before x (sorted_by before xs))

pub permuted_gain : (rules : List Rule) → IsPermutation rules (gain_order rules)
permuted_gain rules = cases (nat_lt (gain rules) (gain (sorted_order rules)))
  where
    cases : (b : Bool) → IsPermutation rules (cond b (sorted_order rules) rules)
    cases true = permuted_sorted _ rules
    cases false = IsPermutation-refl rules

pub more_gain : (rules : List Rule) → gain rules ≤ gain (gain_order rules)
more_gain rules = cases (nat_lt (gain rules) (gain (sorted_order rules))) (λ h. ltb-true _ _ h)
  where
    cases : (b : Bool) → (b ≡ true → gain rules < gain (sorted_order rules)) → gain rules ≤ gain (cond b (sorted_order rules) rules)
    cases true f = let h : gain rules < gain (sorted_order rules) = f refl in omega arith
    cases false f = omega arith

pub permuted_profile : (rules : List Rule) (weights : List ℕ) → length rules ≡ length weights → IsPermutation rules (profile_order rules weights)
permuted_profile rules weights e =
    subst (λ (t : List Rule). IsPermutation t (profile_order rules weights)) (firsts-zip rules weights (sym e))
    (IsPermutation-map (λ (item : Rule × ℕ). item.0) (zip rules weights) (sorted_by _ (zip rules weights)) (permuted_sorted _ (zip rules weights)))
