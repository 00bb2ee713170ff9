-- The skips of all places, found from the last rule to the first, are the skips.
use Rattle.std.proofs.Common.{◌≡◌, ℕ, zero, suc, ◌+◌, ◌-◌, ◌<◌, ◌≤◌, cond, Bool, true, false, List, [], ◌∷◌, ◌++◌, reverse, length, get_or, take, drop, Option, Some, length-drop, refl, sym, ap, ◌∙◌, subst, arith}
use Rattle.std.proofs.lemmas.Bool.{false≢true}
use Rattle.std.proofs.lemmas.List.{at_drop_more, length-map, reverse-append, take_all}
use Rattle.std.proofs.lemmas.List.FromFn.{get_or-map-range_with_len}
use Rattle.std.specs.List.{prefix_len, slice_get}
use Rattle.pf_base.specs.Equality.{options}
use Rattle.pf_optim.specs.Skips.{IsSkip, run_of, same_value, skip, values_at}
use Rattle.pf_optim.specs.SkipSteps.{first_row, row_by, row_of, rows_from, skip_before}
use Rattle.pf_order.specs.Order.{value_at}
use Rattle.pf_rule.specs.Equal.{skip_values}
use Rattle.pf_rule.specs.declared.field.FieldValue.{FieldValue}
use Rattle.pf_rule.specs.declared.rule.Rule.{Rule}

-- what stands from a place on: the rule there, and what is behind it
pub from_place : (rules : List Rule) (place : ℕ) (rule : Rule) → place < length rules → rule ≡ get_or rules place rule → drop place rules ≡ rule ∷ drop (place + 1) rules
from_place rules place rule h is =
    at_drop_more (λ (t : List Rule). t) rules place rule h ∙ ap (λ (r : Rule). r ∷ drop (place + 1) rules) (sym is)

-- the part of a list from a place to its end
pub to_end : (rules : List Rule) (place : ℕ) → take (length rules - place) (drop place rules) ≡ drop place rules
to_end rules place = take_all (length rules - place) (drop place rules) (omega (arith, length-drop place rules))

same_is : (one other : Option FieldValue) → same_value (Some one) (Some other) ≡ true → one ≡ other
same_is one other = ((options skip_values).decides one other).0

-- the skip of a rule, by the next rule and its skip
step_is : (place : ℕ) (rule other : Rule) (behind : List Rule) (field : ℕ) → skip_before place rule (other ∷ behind) field ≡ cond (same_value (Some (value_at field rule)) (Some (value_at field other))) (skip_before (place + 1) other behind field) (place + 1)
step_is place rule other behind field = cases (same_value (Some (value_at field rule)) (Some (value_at field other))) refl
  where
    cases : (b : Bool) → same_value (Some (value_at field rule)) (Some (value_at field other)) ≡ b → place + 1 + cond b (1 + run_of (Some (value_at field rule)) field behind) 0 ≡ cond b (skip_before (place + 1) other behind field) (place + 1)
    cases true e =
        let run = ap (λ (v : Option FieldValue). run_of (Some v) field behind) (same_is (value_at field rule) (value_at field other) e) in
        omega (arith, run)
    cases false e = omega arith

pub row_step : (place : ℕ) (rule other : Rule) (behind : List Rule) → row_of place rule (other ∷ behind) ≡ row_by place rule other (row_of (place + 1) other behind)
row_step place rule other behind =
    λ i. step_is place rule other behind 0 i ∷ step_is place rule other behind 1 i ∷ step_is place rule other behind 2 i ∷ step_is place rule other behind 3 i ∷ step_is place rule other behind 4 i ∷ step_is place rule other behind 5 i ∷ step_is place rule other behind 6 i ∷ step_is place rule other behind 7 i ∷ []

-- one skip of all
pub row_at : (rules : List Rule) (n place field : ℕ) (d : List ℕ) → place < length rules → field < 8 → get_or (get_or (rows_from n rules) place d) field 0 ≡ n + skip rules place field
unfolding skip
row_at [] n place field d h k = absurd (omega arith)
row_at (rule ∷ rules) n zero field d h k =
    get_or-map-range_with_len (skip_before n rule rules) 0 8 field field 0 k (omega arith) ∙ omega arith
row_at (rule ∷ rules) n (suc place) field d h k =
    let rest = row_at rules (n + 1) place field d (omega arith) k in
    let next : suc place + 1 ≡ suc (place + 1) = omega arith in
    let gone = ap (λ (m : ℕ). run_of (slice_get (values_at field rules) place) field (drop m (rule ∷ rules))) next in
    rest ∙ omega (arith, gone)

-- how far a value goes on
run_same : (x : Option FieldValue) (xs : List (Option FieldValue)) (k : ℕ) → k < prefix_len (λ other. same_value (Some x) (Some other)) xs → slice_get xs k ≡ Some x
run_same x [] k h = absurd (omega arith)
run_same x (y ∷ ys) k h = cases (same_value (Some x) (Some y)) refl (run_same x ys) k h
  where
    cases : (b : Bool) → same_value (Some x) (Some y) ≡ b → ((k : ℕ) → k < prefix_len (λ other. same_value (Some x) (Some other)) ys → slice_get ys k ≡ Some x) → (k : ℕ) → k < cond b (1 + prefix_len (λ other. same_value (Some x) (Some other)) ys) 0 → slice_get (y ∷ ys) k ≡ Some x
    cases true e more zero h = ap (λ (v : Option FieldValue). Some v) (sym (same_is x y e))
    cases true e more (suc k) h = more k (omega arith)
    cases false e more k h = absurd (omega arith)

run_ends : (x : Option FieldValue) (xs : List (Option FieldValue)) → slice_get xs (prefix_len (λ other. same_value (Some x) (Some other)) xs) ≡ Some x → ⊥
run_ends x [] = none_here
  where
    none_here : slice_get [] 0 ≡ Some x → ⊥
    none_here e = cc
run_ends x (y ∷ ys) = cases (same_value (Some x) (Some y)) refl (run_ends x ys)
  where
    some_of : (a b : Option FieldValue) → Some a ≡ Some b → a ≡ b
    some_of a b e = cc

    cases : (b : Bool) → same_value (Some x) (Some y) ≡ b → (slice_get ys (prefix_len (λ other. same_value (Some x) (Some other)) ys) ≡ Some x → ⊥) → slice_get (y ∷ ys) (cond b (1 + prefix_len (λ other. same_value (Some x) (Some other)) ys) 0) ≡ Some x → ⊥
    cases true e rest h =
        let more : 1 + prefix_len (λ other. same_value (Some x) (Some other)) ys ≡ suc (prefix_len (λ other. same_value (Some x) (Some other)) ys) = omega arith in
        rest (sym (ap (slice_get (y ∷ ys)) more) ∙ h)
    cases false e rest h = false≢true (sym e ∙ ((options skip_values).decides x y).1 (sym (some_of y x h)))

run_most : (x : Option FieldValue) (xs : List (Option FieldValue)) → prefix_len (λ other. same_value (Some x) (Some other)) xs ≤ length xs
run_most x [] = omega arith
run_most x (y ∷ ys) =
    let rest = run_most x ys in
    elim (same_value (Some x) (Some y)) as (λ b. cond b (1 + prefix_len (λ other. same_value (Some x) (Some other)) ys) 0 ≤ length (y ∷ ys)) [
      | true ↦ omega arith
      | false ↦ omega arith
    ]

-- the same of a place behind one rule more
shifted : (rule : Rule) (rules : List Rule) (place field next : ℕ) → IsSkip rules place field next → IsSkip (rule ∷ rules) (suc place) field (suc next)
shifted rule rules place field next is = record {
  behind = omega (arith, is.behind);
  within = omega (arith, is.within);
  equal = λ k low high. later k low high;
  differs = λ high e. is.differs (omega (arith, high)) e;
}
  where
    later : (k : ℕ) → suc place < k → k < suc next → slice_get (values_at field (rule ∷ rules)) k ≡ slice_get (values_at field rules) place
    later zero low high = absurd (omega arith)
    later (suc k) low high = is.equal k (omega arith) (omega arith)

-- what the skip of a place says
pub skip_is : (rules : List Rule) (place field : ℕ) → place < length rules → IsSkip rules place field (skip rules place field)
unfolding skip
skip_is [] place field h = absurd (omega arith)
skip_is (rule ∷ rules) zero field h = record {
  behind = omega arith;
  within = omega (arith, run_most (value_at field rule) (values_at field rules), length-map rules (value_at field));
  equal = λ k low high. first_equal k low high;
  differs = λ high e. run_ends (value_at field rule) (values_at field rules) (sym (ap (slice_get (values_at field (rule ∷ rules))) first_next) ∙ e);
}
  where
    first_next : 0 + 1 + run_of (Some (value_at field rule)) field rules ≡ suc (run_of (Some (value_at field rule)) field rules)
    first_next = omega arith

    first_equal : (k : ℕ) → zero < k → k < 0 + 1 + run_of (Some (value_at field rule)) field rules → slice_get (values_at field (rule ∷ rules)) k ≡ Some (value_at field rule)
    first_equal zero low high = absurd (omega arith)
    first_equal (suc k) low high = run_same (value_at field rule) (values_at field rules) k (omega arith)
skip_is (rule ∷ rules) (suc place) field h =
    let next : suc place + 1 ≡ suc (place + 1) = omega arith in
    let gone = ap (λ (m : ℕ). run_of (slice_get (values_at field rules) place) field (drop m (rule ∷ rules))) next in
    let is : suc place + 1 + run_of (slice_get (values_at field rules) place) field (drop (suc place + 1) (rule ∷ rules)) ≡ suc (place + 1 + run_of (slice_get (values_at field rules) place) field (drop (place + 1) rules)) = omega (arith, gone) in
    let P : ℕ → Type 0 = λ n. IsSkip (rule ∷ rules) (suc place) field n in
    subst P (sym is) (shifted rule rules place field (place + 1 + run_of (slice_get (values_at field rules) place) field (drop (place + 1) rules)) (skip_is rules place field (omega arith)))

-- a list with an item begins with it
pub begins_with : (behind : List Rule) (other : Rule) → 1 ≤ length behind → other ≡ get_or behind 0 other → behind ≡ other ∷ drop 1 behind
begins_with [] other h is = absurd (omega arith)
begins_with (x ∷ behind) other h is = ap (λ (r : Rule). r ∷ behind) (sym is)

pub row_found : (place : ℕ) (rule other : Rule) (behind : List Rule) (next result : List ℕ) → 1 ≤ length behind → other ≡ get_or behind 0 other → next ≡ first_row (place + 1) behind → result ≡ row_by place rule other next → result ≡ row_of place rule behind
row_found place rule other behind next result h is before made =
    let all = begins_with behind other h is in
    made
    ∙ ap (row_by place rule other) (before ∙ ap (first_row (place + 1)) all)
    ∙ sym (row_step place rule other (drop 1 behind))
    ∙ sym (ap (row_of place rule) all)

pub length_rows : (n : ℕ) (rules : List Rule) → length (rows_from n rules) ≡ length rules
length_rows n [] = refl
length_rows n (rule ∷ rules) = ap suc (length_rows (n + 1) rules)

-- the rows with one before them
pub rows_more : (rows : List (List ℕ)) (row : List ℕ) (rules : List Rule) (p place : ℕ) (rule : Rule) → p + 1 ≡ place → drop p rules ≡ rule ∷ drop (p + 1) rules → row ≡ row_of p rule (drop (p + 1) rules) → reverse rows ≡ rows_from place (drop place rules) → reverse (rows ++ row ∷ []) ≡ rows_from p (drop p rules)
rows_more rows row rules p place rule next at is found =
    reverse-append rows (row ∷ [])
    ∙ ap (λ t. row ∷ t) (found ∙ sym (ap (λ (n : ℕ). rows_from n (drop n rules)) next))
    ∙ ap (λ t. t ∷ rows_from (p + 1) (drop (p + 1) rules)) is
    ∙ sym (ap (rows_from p) at)
