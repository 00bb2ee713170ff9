-- Sorting places in place of what stands at them.
use Rattle.std.proofs.Common.{◌≡◌, ℕ, zero, suc, ◌+◌, cond, Bool, true, false, nat_lt, nat_eq, List, [], ◌∷◌, map, length, drop, Option, Some, refl, sym, ap, ◌∙◌, arith}
use Rattle.std.specs.List.{cons_option, enumerate_from, filter_map, slice_get, zip}
use Rattle.std.specs.Ordering.{is_lt, nat_cmp}
use Rattle.std.specs.declared.cmp.Ordering.TheVariants.{Less, Equal, Greater}
use Rattle.pf_order.specs.Order.{profile_order}
use Rattle.pf_order.specs.Sorting.{placed_in, sorted_by}
use Rattle.pf_rule.specs.declared.rule.Rule.{Rule}

map_placed : {A B : Type 0} (f : A → B) (lt : A → A → Bool) (by : B → B → Bool) → ((x y : A) → lt x y ≡ by (f x) (f y)) → (x : A) (ys : List A) → map f (placed_in lt x ys) ≡ placed_in by (f x) (map f ys)
map_placed f lt by same x [] = refl
map_placed f lt by same x (y ∷ ys) =
    cases (lt y x) (map_placed f lt by same x ys)
    ∙ ap (λ (b : Bool). cond b (f y ∷ placed_in by (f x) (map f ys)) (f x ∷ (f y ∷ map f ys))) (same y x)
  where
    cases : (b : Bool) → map f (placed_in lt x ys) ≡ placed_in by (f x) (map f ys) → map f (cond b (y ∷ placed_in lt x ys) (x ∷ (y ∷ ys))) ≡ cond b (f y ∷ placed_in by (f x) (map f ys)) (f x ∷ (f y ∷ map f ys))
    cases true e = ap (λ t. f y ∷ t) e
    cases false e = refl

pub map_sorted : {A B : Type 0} (f : A → B) (lt : A → A → Bool) (by : B → B → Bool) → ((x y : A) → lt x y ≡ by (f x) (f y)) → (xs : List A) → map f (sorted_by lt xs) ≡ sorted_by by (map f xs)
map_sorted f lt by same [] = refl
map_sorted f lt by same (x ∷ xs) = map_placed f lt by same x (sorted_by lt xs) ∙ ap (λ t. placed_in by (f x) t) (map_sorted f lt by same xs)

pub less_by_cmp : (m n : ℕ) → is_lt (nat_cmp m n) ≡ nat_lt m n
less_by_cmp m n = elim (nat_lt m n) as (λ b. is_lt (cond b Less (cond (nat_eq m n) Equal Greater)) ≡ b) [ true ↦ refl | false ↦ level (nat_eq m n) ]
  where
    level : (b : Bool) → is_lt (cond b Equal Greater) ≡ false
    level true = refl
    level false = refl

-- rules beside their weights, as what may stand at a place beside its weight
abbrev with_some : {W : Type 0} → Rule × W → Option Rule × W
with_some item = (Some item.0, item.1)

abbrev at_place : {W : Type 0} → List Rule → ℕ × W → Option Rule × W
at_place rules place = (slice_get rules place.0, place.1)

-- a list from a place on, one rule further
get_from : {X : Type 0} (all : List X) (n : ℕ) (x : X) (xs : List X) → drop n all ≡ x ∷ xs → slice_get all n ≡ Some x
get_from [] zero x xs e = absurd (nothing_there e)
  where
    nothing_there : [] ≡ x ∷ xs → ⊥
    nothing_there e = cc
get_from [] (suc n) x xs e = absurd (nothing_there e)
  where
    nothing_there : [] ≡ x ∷ xs → ⊥
    nothing_there e = cc
get_from (y ∷ ys) zero x xs e = cc
get_from (y ∷ ys) (suc n) x xs e = get_from ys n x xs e

drop_next : {X : Type 0} (all : List X) (n : ℕ) (x : X) (xs : List X) → drop n all ≡ x ∷ xs → drop (suc n) all ≡ xs
drop_next [] zero x xs e = absurd (nothing_there e)
  where
    nothing_there : [] ≡ x ∷ xs → ⊥
    nothing_there e = cc
drop_next [] (suc n) x xs e = absurd (nothing_there e)
  where
    nothing_there : [] ≡ x ∷ xs → ⊥
    nothing_there e = cc
drop_next (y ∷ ys) zero x xs e = cc
drop_next (y ∷ ys) (suc n) x xs e = drop_next ys n x xs e

places_from : {W : Type 0} (all : List Rule) (n : ℕ) (rules : List Rule) (weights : List W) → drop n all ≡ rules → length rules ≡ length weights → map (at_place all) (enumerate_from n weights) ≡ map with_some (zip rules weights)
places_from all n [] [] d e = refl
places_from all n [] (w ∷ ws) d e = absurd (omega arith)
places_from all n (rule ∷ rules) [] d e = absurd (omega arith)
places_from all n (rule ∷ rules) (w ∷ ws) d e =
    let next : suc n ≡ n + 1 = omega arith in
    ap (λ (o : Option Rule). (o, w) ∷ map (at_place all) (enumerate_from (n + 1) ws)) (get_from all n rule rules d)
    ∙ ap (λ t. (Some rule, w) ∷ t) (places_from all (n + 1) rules ws (sym (ap (λ (m : ℕ). drop m all) next) ∙ drop_next all n rule rules d) (omega arith))

-- the rules that are found at places
found_some : {W : Type 0} (items : List (Rule × W)) → filter_map (λ place. place.0) (map with_some items) ≡ map (λ item. item.0) items
found_some [] = refl
found_some (item ∷ items) = ap (λ t. item.0 ∷ t) (found_some items)

found_places : {W : Type 0} (rules : List Rule) (places : List (ℕ × W)) → filter_map (λ place. slice_get rules place.0) places ≡ filter_map (λ place. place.0) (map (at_place rules) places)
found_places rules [] = refl
found_places rules (place ∷ places) = ap (λ t. cons_option (slice_get rules place.0) t) (found_places rules places)

-- The rules found at places that are sorted by what stands beside them, as the rules sorted beside it.
pub sorted_places : {W : Type 0} (before : W → W → Bool) (rules : List Rule) (beside : List W) → length rules ≡ length beside → filter_map (λ place. slice_get rules place.0) (sorted_by (λ one other. before one.1 other.1) (enumerate_from 0 beside)) ≡ map (λ item. item.0) (sorted_by (λ one other. before one.1 other.1) (zip rules beside))
sorted_places {W = W} before rules beside e =
    found_places rules (sorted_by (λ (one other : ℕ × W). before one.1 other.1) (enumerate_from 0 beside))
    ∙ ap (filter_map (λ (place : Option Rule × W). place.0))
    (map_sorted (at_place rules) (λ (one other : ℕ × W). before one.1 other.1) (λ (one other : Option Rule × W). before one.1 other.1) (λ x y. refl) (enumerate_from 0 beside)
    ∙ ap (sorted_by (λ (one other : Option Rule × W). before one.1 other.1)) (places_from rules 0 rules beside refl e)
    ∙ sym (map_sorted with_some (λ (one other : Rule × W). before one.1 other.1) (λ (one other : Option Rule × W). before one.1 other.1) (λ x y. refl) (zip rules beside)))
    ∙ found_some (sorted_by (λ (one other : Rule × W). before one.1 other.1) (zip rules beside))

pub profile_places : (rules : List Rule) (weights : List ℕ) → length rules ≡ length weights → filter_map (λ place. slice_get rules place.0) (sorted_by (λ one other. nat_lt other.1 one.1) (enumerate_from 0 weights)) ≡ profile_order rules weights
profile_places rules weights e = sorted_places (λ m n. nat_lt n m) rules weights e
