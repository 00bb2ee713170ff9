-- The keys of rules by columns, and the rules in their order.
use Rattle.std.proofs.Common.{◌≡◌, ℕ, ◌+◌, ◌<◌, ◌≤◌, cond, Bool, true, false, not, ◌&&◌, ◌||◌, nat_lt, nat_eq, List, [], ◌∷◌, ◌++◌, map, length, get_or, take, Option, Some, None, Ordering, refl, sym, ap, ◌∙◌, arith}
use Rattle.std.proofs.lemmas.Bool.{ltb-false}
use Rattle.std.proofs.lemmas.Cmp.{nat_cmp_total, lists_total}
use Rattle.std.proofs.lemmas.List.{length-map, map-append, take_more}
use Rattle.std.proofs.lemmas.List.FromFn.{map-range_with_len_more}
use Rattle.std.proofs.lemmas.List.MinMax.{ranks_by}
use Rattle.std.specs.Cmp.{IsStrictWeakOrder}
use Rattle.std.specs.Cmp.Lexicographic.{slice_cmp}
use Rattle.std.specs.List.{cons_option, enumerate_from, filter_map, list_any, position, position_or_len, range_with_len, slice_get, zip}
use Rattle.std.specs.List.Sorted.{IsSortedBy, IsStableBy}
use Rattle.std.specs.Ordering.{is_lt, nat_cmp, ordering_then}
use Rattle.std.specs.declared.cmp.Ordering.TheVariants.{Less, Equal, Greater}
use Rattle.indexmap.specs.IndexSet.{insert_key}
use Rattle.pf_base.specs.Equality.{options}
use Rattle.pf_order.specs.Order.{distinct, fields_by_count, key_in, sorted_order, value_at, values_of}
use Rattle.pf_order.specs.RankSteps.{all_fields, key_by, rank_by, with_values}
use Rattle.pf_order.specs.Sorting.{is_before, sorted_by}
use Rattle.pf_order.proofs.Distinct.{distinct_more, with_value}
use Rattle.pf_order.proofs.Places.{less_by_cmp, map_sorted, sorted_places}
use Rattle.pf_order.proofs.Stable.{stable_sort}
use Rattle.pf_rule.specs.Equal.{skip_values}
use Rattle.pf_rule.specs.Fields.{field_values}
use Rattle.pf_rule.specs.declared.field.FieldValue.{FieldValue}
use Rattle.pf_rule.specs.declared.rule.Rule.{Rule}

-- the order of words by `cmp`
then_less : (a b : Bool) (rest : Ordering) (t : Bool) → is_lt rest ≡ t → is_lt (ordering_then (cond a Less (cond b Equal Greater)) rest) ≡ (a || (b && t))
then_less true b rest t e = refl
then_less false true rest t e = e
then_less false false rest t e = refl

pub before_by_cmp : (xs ys : List ℕ) → is_lt (slice_cmp nat_cmp xs ys) ≡ is_before xs ys
before_by_cmp [] [] = refl
before_by_cmp [] (y ∷ ys) = refl
before_by_cmp (x ∷ xs) [] = refl
before_by_cmp (x ∷ xs) (y ∷ ys) = then_less (nat_lt x y) (nat_eq x y) (slice_cmp nat_cmp xs ys) (is_before xs ys) (before_by_cmp xs ys)

pub by_words : {X : Type 0} (key : X → List ℕ) → IsStrictWeakOrder (λ x y. is_lt (slice_cmp nat_cmp (key x) (key y)))
by_words key = ranks_by (lists_total nat_cmp_total) key

pub by_size : {X : Type 0} (size : X → ℕ) → IsStrictWeakOrder (λ x y. is_lt (nat_cmp (size x) (size y)))
by_size size = ranks_by nat_cmp_total size

-- distinct values, one more
any_some : (value : FieldValue) (keys : List FieldValue) → list_any ((options skip_values).same (Some value)) (map Some keys) ≡ list_any (skip_values.same value) keys
any_some value [] = refl
any_some value (k ∷ keys) = ap (λ t. skip_values.same value k || t) (any_some value keys)

shown_insert : (keys : List FieldValue) (value : FieldValue) → map Some (insert_key skip_values.same keys value) ≡ with_value (Some value) (map Some keys)
shown_insert keys value =
    cases (list_any (skip_values.same value) keys)
    ∙ ap (λ (b : Bool). cond b (map Some keys) (map Some keys ++ Some value ∷ [])) (sym (any_some value keys))
  where
    cases : (b : Bool) → map Some (cond b keys (keys ++ value ∷ [])) ≡ cond b (map Some keys) (map Some keys ++ Some value ∷ [])
    cases true = refl
    cases false = map-append Some keys (value ∷ [])

pub values_more : (rules : List Rule) (field i : ℕ) (rule : Rule) (value : FieldValue) (keys more : List FieldValue) → i < length rules → rule ≡ get_or rules i rule → slice_get (field_values rule.criteria) field ≡ Some value → map Some keys ≡ values_of (take i rules) field → more ≡ insert_key skip_values.same keys value → map Some more ≡ values_of (take (i + 1) rules) field
values_more rules field i rule value keys more h is has before after =
    ap (λ t. map Some t) after
    ∙ shown_insert keys value
    ∙ ap (λ t. with_value (Some value) t) before
    ∙ sym (distinct_more (map (value_at field) (take i rules)) (Some value))
    ∙ ap (λ t. distinct (map (value_at field) (take i rules) ++ t ∷ [])) (sym has)
    ∙ ap (λ t. distinct t) (sym (map-append (value_at field) (take i rules) (rule ∷ [])))
    ∙ ap (λ (r : Rule). distinct (map (value_at field) (take i rules ++ r ∷ []))) is
    ∙ ap (λ (t : List Rule). distinct (map (value_at field) t)) (sym (take_more rules i rule h))

-- the place of a value among others, beside `Some`
pub place_with_some : (value : FieldValue) (keys : List FieldValue) → position_or_len ((options skip_values).same (Some value)) (map Some keys) ≡ position_or_len (skip_values.same value) keys
place_with_some value [] = refl
place_with_some value (k ∷ keys) = cases (skip_values.same value k) (place_with_some value keys)
  where
    cases : (b : Bool) → position_or_len ((options skip_values).same (Some value)) (map Some keys) ≡ position_or_len (skip_values.same value) keys → cond (not b) (1 + position_or_len ((options skip_values).same (Some value)) (map Some keys)) 0 ≡ cond (not b) (1 + position_or_len (skip_values.same value) keys) 0
    cases true e = refl
    cases false e = ap (λ n. 1 + n) e

-- the columns in the order of their sizes
pub columns_sorted : (rules : List Rule) → sorted_by (λ (one other : ℕ × List (Option FieldValue)). nat_lt (length one.1) (length other.1)) (with_values rules all_fields) ≡ with_values rules (fields_by_count rules)
columns_sorted rules =
    sym (map_sorted (λ field. (field, values_of rules field)) (λ one other. nat_lt (length (values_of rules one)) (length (values_of rules other))) (λ (one other : ℕ × List (Option FieldValue)). nat_lt (length one.1) (length other.1)) (λ x y. refl) all_fields)

map_twice : {A B C : Type 0} (f : B → C) (g : A → B) (xs : List A) → map f (map g xs) ≡ map (λ x. f (g x)) xs
map_twice f g [] = refl
map_twice f g (x ∷ xs) = ap (λ t. f (g x) ∷ t) (map_twice f g xs)

pub keys_are : (rules : List Rule) (rule : Rule) → key_by (with_values rules (fields_by_count rules)) rule ≡ key_in rules rule
unfolding key_in
keys_are rules rule = map_twice (rank_by rule) (λ field. (field, values_of rules field)) (fields_by_count rules)

-- rules in the order of what is found of each
zip_map : {A B : Type 0} (f : A → B) (xs : List A) → zip xs (map f xs) ≡ map (λ x. (x, f x)) xs
zip_map f [] = refl
zip_map f (x ∷ xs) = ap (λ t. (x, f x) ∷ t) (zip_map f xs)

map_same : {A B : Type 0} (f g : A → B) → ((x : A) → f x ≡ g x) → (xs : List A) → map f xs ≡ map g xs
map_same f g e [] = refl
map_same f g e (x ∷ xs) = ap (λ t. t ∷ map f xs) (e x) ∙ ap (λ t. g x ∷ t) (map_same f g e xs)

map_itself : {A : Type 0} (xs : List A) → map (λ x. x) xs ≡ xs
map_itself [] = refl
map_itself (x ∷ xs) = ap (λ t. x ∷ t) (map_itself xs)

sorted_beside : {A : Type 0} (key : A → List ℕ) (xs : List A) → map (λ item. item.0) (sorted_by (λ one other. is_before one.1 other.1) (zip xs (map key xs))) ≡ sorted_by (λ one other. is_before (key one) (key other)) xs
sorted_beside {A = A} key xs =
    ap (λ t. map (λ (item : A × List ℕ). item.0) (sorted_by (λ (one other : A × List ℕ). is_before one.1 other.1) t)) (zip_map key xs)
    ∙ ap (λ t. map (λ (item : A × List ℕ). item.0) t) (sym (map_sorted (λ (x : A). (x, key x)) (λ one other. is_before (key one) (key other)) (λ (one other : A × List ℕ). is_before one.1 other.1) (λ x y. refl) xs))
    ∙ map_twice (λ (item : A × List ℕ). item.0) (λ (x : A). (x, key x)) (sorted_by (λ one other. is_before (key one) (key other)) xs)
    ∙ map_itself (sorted_by (λ one other. is_before (key one) (key other)) xs)

pub found_in_order : (rules : List Rule) (columns : List (ℕ × List (Option FieldValue))) → columns ≡ with_values rules (fields_by_count rules) → filter_map (λ place. slice_get rules place.0) (sorted_by (λ one other. is_before one.1 other.1) (enumerate_from 0 (map (key_by columns) rules))) ≡ sorted_order rules
found_in_order rules columns e =
    ap (λ t. filter_map (λ (place : ℕ × List ℕ). slice_get rules place.0) (sorted_by (λ (one other : ℕ × List ℕ). is_before one.1 other.1) (enumerate_from 0 t)))
    (map_same (key_by columns) (key_in rules) (λ rule. ap (λ t. key_by t rule) e ∙ keys_are rules rule) rules)
    ∙ sorted_places is_before rules (map (key_in rules) rules) (sym (length-map rules (key_in rules)))
    ∙ sorted_beside (key_in rules) rules

-- the rules at places beside which something else stands
pub found_beside : {V W : Type 0} (view : V → W) (rules : List Rule) (places : List (ℕ × V)) → filter_map (λ (place : ℕ × V). slice_get rules place.0) places ≡ filter_map (λ (place : ℕ × W). slice_get rules place.0) (map (λ (place : ℕ × V). (place.0, view place.1)) places)
found_beside view rules [] = refl
found_beside view rules (place ∷ places) = ap (cons_option (slice_get rules place.0)) (found_beside view rules places)

-- what a stable sort by words, or by sizes, makes of a view of the items
pub seen_by_words : {V : Type 0} (view : V → ℕ × List ℕ) (xs ys : List V) → IsSortedBy (λ x y. is_lt (slice_cmp nat_cmp (view x).1 (view y).1)) ys → IsStableBy (λ x y. is_lt (slice_cmp nat_cmp (view x).1 (view y).1)) xs ys → map view ys ≡ sorted_by (λ one other. is_before one.1 other.1) (map view xs)
seen_by_words {V = V} view xs ys up same =
    ap (map view) (stable_sort (λ (x y : V). is_lt (slice_cmp nat_cmp (view x).1 (view y).1)) (by_words (λ (x : V). (view x).1)) xs ys up same)
    ∙ map_sorted view (λ (x y : V). is_lt (slice_cmp nat_cmp (view x).1 (view y).1)) (λ (one other : ℕ × List ℕ). is_before one.1 other.1) (λ x y. before_by_cmp (view x).1 (view y).1) xs

pub seen_by_size : {V A : Type 0} (view : V → ℕ × List A) (size : V → ℕ) → ((x : V) → size x ≡ length (view x).1) → (xs ys : List V) → IsSortedBy (λ x y. is_lt (nat_cmp (size x) (size y))) ys → IsStableBy (λ x y. is_lt (nat_cmp (size x) (size y))) xs ys → map view ys ≡ sorted_by (λ one other. nat_lt (length one.1) (length other.1)) (map view xs)
seen_by_size {V = V} {A = A} view size sizes xs ys up same =
    ap (map view) (stable_sort (λ (x y : V). is_lt (nat_cmp (size x) (size y))) (by_size size) xs ys up same)
    ∙ map_sorted view (λ (x y : V). is_lt (nat_cmp (size x) (size y))) (λ (one other : ℕ × List A). nat_lt (length one.1) (length other.1)) (λ x y. less_by_cmp (size x) (size y) ∙ ap (λ n. nat_lt n (size y)) (sizes x) ∙ ap (nat_lt (length (view x).1)) (sizes y)) xs

-- the first place that passes, by whether there is one
place_most : {X : Type 0} (p : X → Bool) (xs : List X) → position_or_len p xs ≤ length xs
place_most p [] = omega arith
place_most p (x ∷ xs) =
    let rest = place_most p xs in
    elim (p x) as (λ b. cond (not b) (1 + position_or_len p xs) 0 ≤ length (x ∷ xs)) [
      | true ↦ omega arith
      | false ↦ omega arith
    ]

pub place_some : {X : Type 0} (p : X → Bool) (xs : List X) (place : ℕ) → position p xs ≡ Some place → place ≡ position_or_len p xs
place_some p xs place e = cases (nat_lt (position_or_len p xs) (length xs)) e
  where
    cases : (b : Bool) → cond b (Some (position_or_len p xs)) None ≡ Some place → place ≡ position_or_len p xs
    cases true e = cc
    cases false e = absurd cc

pub place_none : {X : Type 0} (p : X → Bool) (xs : List X) → position p xs ≡ None → length xs ≡ position_or_len p xs
place_none p xs e = cases (nat_lt (position_or_len p xs) (length xs)) refl e
  where
    cases : (b : Bool) → nat_lt (position_or_len p xs) (length xs) ≡ b → cond b (Some (position_or_len p xs)) None ≡ None → length xs ≡ position_or_len p xs
    cases true low e = absurd cc
    cases false low e = omega (arith, ltb-false (position_or_len p xs) (length xs) low, place_most p xs)

pub rank_found : (column_field : ℕ) (keys : List FieldValue) (rule : Rule) (value : FieldValue) → slice_get (field_values rule.criteria) column_field ≡ Some value → position_or_len (skip_values.same value) keys ≡ rank_by rule (column_field, map Some keys)
rank_found field keys rule value has =
    sym (place_with_some value keys) ∙ ap (λ (t : Option FieldValue). position_or_len ((options skip_values).same t) (map Some keys)) (sym has)

-- one column more
pub with_more : (rules : List Rule) (field : ℕ) (front : List (ℕ × List (Option FieldValue))) (column : ℕ × List (Option FieldValue)) → front ≡ with_values rules (range_with_len 0 field) → column ≡ (field, values_of rules field) → front ++ column ∷ [] ≡ with_values rules (range_with_len 0 (field + 1))
with_more rules field front column before is =
    let place : 0 + field ≡ field = omega arith in
    ap (λ t. t ++ column ∷ []) before
    ∙ ap (λ t. with_values rules (range_with_len 0 field) ++ t ∷ []) is
    ∙ sym (map-range_with_len_more (λ (n : ℕ). (n, values_of rules n)) 0 field field place)
