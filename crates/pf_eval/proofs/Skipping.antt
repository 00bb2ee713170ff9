-- The walk through rules from a place on, and its tests, by what the test of the rule there finds.
use Rattle.std.proofs.Common.{◌≡◌, ℕ, zero, suc, ◌+◌, ◌<◌, cond, Bool, true, false, List, [], ◌∷◌, length, get_or, drop, Option, Some, refl, sym, ap, ◌∙◌, arith}
use Rattle.std.proofs.lemmas.List.{at_drop_more}
use Rattle.std.proofs.lemmas.Option.{slice_get-get_or, slice_get-map}
use Rattle.std.specs.List.{slice_get}
use Rattle.std.specs.Option.{option_map}
use Rattle.pf_base.specs.Equality.{options}
use Rattle.pf_eval.proofs.Lists.{drop_plus}
use Rattle.pf_eval.specs.Chain.{passed_over, tests_in}
use Rattle.pf_optim.specs.Skips.{run_of, same_value, skip, values_at}
use Rattle.pf_order.specs.Order.{value_at}
use Rattle.pf_rule.specs.Equal.{skip_values}
use Rattle.pf_rule.specs.Walking.{Walking, walked_past, walked_through}
use Rattle.pf_rule.specs.declared.field.FieldValue.{FieldValue}
use Rattle.pf_rule.specs.declared.rule.Rule.{Rule}
use Rattle.pf_rule.specs.declared.testing.Tested.{Tested}
use Rattle.pf_rule.specs.declared.testing.Tested.TheVariants.{Hit, Field, Other}

-- what stands from a place on: the rule there, and what is behind it
pub from_place : (rules : List Rule) (place : ℕ) (rule : Rule) → place < length rules → rule ≡ get_or rules place rule → drop place rules ≡ rule ∷ drop (place + 1) rules
from_place rules place rule h is =
    at_drop_more (λ (t : List Rule). t) rules place rule h ∙ ap (λ (r : Rule). r ∷ drop (place + 1) rules) (sym is)

-- what is behind a skip
pub behind_skip : (rules : List Rule) (place field : ℕ) (rule : Rule) → place < length rules → rule ≡ get_or rules place rule → drop (skip rules place field) rules ≡ drop (run_of (Some (value_at field rule)) field (drop (place + 1) rules)) (drop (place + 1) rules)
unfolding skip
behind_skip rules place field rule h is =
    let here : slice_get rules place ≡ Some rule = slice_get-get_or rules place rule h ∙ ap Some (sym is) in
    let value : slice_get (values_at field rules) place ≡ Some (value_at field rule) =
    slice_get-map (value_at field) rules place ∙ ap (option_map (value_at field)) here in
    ap (λ (v : Option (Option FieldValue)). drop (place + 1 + run_of v field (drop (place + 1) rules)) rules) value
    ∙ drop_plus (place + 1) (run_of (Some (value_at field rule)) field (drop (place + 1) rules)) rules

-- the place to which a skip leads is behind what is passed over
pub skip_place : (rules : List Rule) (place field : ℕ) (rule : Rule) → slice_get rules place ≡ Some rule → skip rules place field ≡ place + 1 + passed_over (Field field) rule (drop (place + 1) rules)
unfolding skip
skip_place rules place field rule here =
    let value : slice_get (values_at field rules) place ≡ Some (value_at field rule) =
    slice_get-map (value_at field) rules place ∙ ap (option_map (value_at field)) here in
    ap (λ (v : Option (Option FieldValue)). place + 1 + run_of v field (drop (place + 1) rules)) value

same_is : (one other : Option FieldValue) → same_value (Some one) (Some other) ≡ true → one ≡ other
same_is one other = ((options skip_values).decides one other).0

module _ {W : Type 0} (on : Walking W Rule) where
  -- a walk that has stopped
  pub stopped_walk : (rules : List Rule) (walk : W) → on.stopped walk ≡ true → walked_through on rules walk ≡ walk
  stopped_walk [] walk stop = refl
  stopped_walk (rule ∷ rules) walk stop = ap (λ (b : Bool). cond b walk (walked_through on rules (walked_past on rule walk))) stop

  module _ (walk : W) (going : on.stopped walk ≡ false) where
    hit_first : (rule : Rule) (rules : List Rule) → on.hits rule walk ≡ true → walked_through on (rule ∷ rules) walk ≡ walked_through on rules (on.deed rule walk)
    hit_first rule rules hit =
        ap (λ (b : Bool). cond b walk (walked_through on rules (walked_past on rule walk))) going
        ∙ ap (λ (b : Bool). walked_through on rules (cond b (on.deed rule walk) walk)) hit

    miss_first : (rule : Rule) (rules : List Rule) → on.hits rule walk ≡ false → walked_through on (rule ∷ rules) walk ≡ walked_through on rules walk
    miss_first rule rules miss =
        ap (λ (b : Bool). cond b walk (walked_through on rules (walked_past on rule walk))) going
        ∙ ap (λ (b : Bool). walked_through on rules (cond b (on.deed rule walk) walk)) miss

    -- rules in a row of which none hits are passed over
    passed : (value : Option FieldValue) (field : ℕ) → ((rule : Rule) → value_at field rule ≡ value → on.hits rule walk ≡ false) → (rules : List Rule) → walked_through on (drop (run_of (Some value) field rules) rules) walk ≡ walked_through on rules walk
    passed value field miss [] = refl
    passed value field miss (rule ∷ rules) = cases (same_value (Some value) (Some (value_at field rule))) refl (passed value field miss rules)
      where
        cases : (b : Bool) → same_value (Some value) (Some (value_at field rule)) ≡ b → walked_through on (drop (run_of (Some value) field rules) rules) walk ≡ walked_through on rules walk → walked_through on (drop (cond b (1 + run_of (Some value) field rules) 0) (rule ∷ rules)) walk ≡ walked_through on (rule ∷ rules) walk
        cases false e rest = refl
        cases true e rest =
            let more : 1 + run_of (Some value) field rules ≡ suc (run_of (Some value) field rules) = omega arith in
            ap (λ (k : ℕ). walked_through on (drop k (rule ∷ rules)) walk) more
            ∙ rest
            ∙ sym (miss_first rule rules (miss rule (sym (same_is value (value_at field rule) e))))

    module _ (rules : List Rule) (place : ℕ) (rule : Rule) (inside : place < length rules) (is : rule ≡ get_or rules place rule) where
      pub hit_walk : on.hits rule walk ≡ true → walked_through on (drop (place + 1) rules) (on.deed rule walk) ≡ walked_through on (drop place rules) walk
      hit_walk hit =
          sym (hit_first rule (drop (place + 1) rules) hit) ∙ ap (λ (t : List Rule). walked_through on t walk) (sym (from_place rules place rule inside is))

      pub miss_walk : on.hits rule walk ≡ false → walked_through on (drop (place + 1) rules) walk ≡ walked_through on (drop place rules) walk
      miss_walk miss =
          sym (miss_first rule (drop (place + 1) rules) miss) ∙ ap (λ (t : List Rule). walked_through on t walk) (sym (from_place rules place rule inside is))

      pub skip_walk : (field : ℕ) → ((other : Rule) → value_at field other ≡ value_at field rule → on.hits other walk ≡ false) → walked_through on (drop (skip rules place field) rules) walk ≡ walked_through on (drop place rules) walk
      skip_walk field miss =
          ap (λ (t : List Rule). walked_through on t walk) (behind_skip rules place field rule inside is)
          ∙ passed (value_at field rule) field miss (drop (place + 1) rules)
          ∙ miss_walk (miss rule refl)

  module _ (test : Rule → W → Tested) (cost : Rule → W → ℕ) where
    abbrev tests : List Rule → W → ℕ
    tests rules walk = tests_in on test cost rules 0 walk

    -- rules that are passed over
    tests_dropped : (rules : List Rule) (n : ℕ) (walk : W) → tests_in on test cost rules n walk ≡ tests (drop n rules) walk
    tests_dropped [] zero walk = refl
    tests_dropped [] (suc n) walk = refl
    tests_dropped (rule ∷ rules) zero walk = refl
    tests_dropped (rule ∷ rules) (suc n) walk = tests_dropped rules n walk

    pub stopped_tests : (rules : List Rule) (walk : W) → on.stopped walk ≡ true → tests rules walk ≡ 0
    stopped_tests [] walk stop = refl
    stopped_tests (rule ∷ rules) walk stop =
        ap (λ (b : Bool). cond b 0 (1 + cond (on.hits rule walk) (cost rule walk) 0 + tests_in on test cost rules (passed_over (test rule walk) rule rules) (walked_past on rule walk))) stop

    module _ (walk : W) (going : on.stopped walk ≡ false) where
      first_tests : (rule : Rule) (rules : List Rule) (hit : Bool) → on.hits rule walk ≡ hit → tests (rule ∷ rules) walk ≡ 1 + cond hit (cost rule walk) 0 + tests (drop (passed_over (test rule walk) rule rules) rules) (cond hit (on.deed rule walk) walk)
      first_tests rule rules hit e =
          ap (λ (b : Bool). cond b 0 (1 + cond (on.hits rule walk) (cost rule walk) 0 + tests_in on test cost rules (passed_over (test rule walk) rule rules) (walked_past on rule walk))) going
          ∙ ap (λ (b : Bool). 1 + cond b (cost rule walk) 0 + tests_in on test cost rules (passed_over (test rule walk) rule rules) (cond b (on.deed rule walk) walk)) e
          ∙ ap (λ (n : ℕ). 1 + cond hit (cost rule walk) 0 + n) (tests_dropped rules (passed_over (test rule walk) rule rules) (cond hit (on.deed rule walk) walk))

      module _ (rules : List Rule) (place : ℕ) (rule : Rule) (inside : place < length rules) (is : rule ≡ get_or rules place rule) where
        pub hit_tests : on.hits rule walk ≡ true → test rule walk ≡ Hit → tests (drop place rules) walk ≡ 1 + cost rule walk + tests (drop (place + 1) rules) (on.deed rule walk)
        hit_tests hit found =
            ap (λ (t : List Rule). tests t walk) (from_place rules place rule inside is)
            ∙ first_tests rule (drop (place + 1) rules) true hit
            ∙ ap (λ (t : Tested). 1 + cost rule walk + tests (drop (passed_over t rule (drop (place + 1) rules)) (drop (place + 1) rules)) (on.deed rule walk)) found

        pub other_tests : on.hits rule walk ≡ false → test rule walk ≡ Other → tests (drop place rules) walk ≡ 1 + tests (drop (place + 1) rules) walk
        other_tests miss found =
            ap (λ (t : List Rule). tests t walk) (from_place rules place rule inside is)
            ∙ first_tests rule (drop (place + 1) rules) false miss
            ∙ ap (λ (t : Tested). 1 + 0 + tests (drop (passed_over t rule (drop (place + 1) rules)) (drop (place + 1) rules)) walk) found

        pub skip_tests : (field : ℕ) → on.hits rule walk ≡ false → test rule walk ≡ Field field → tests (drop place rules) walk ≡ 1 + tests (drop (skip rules place field) rules) walk
        skip_tests field miss found =
            ap (λ (t : List Rule). tests t walk) (from_place rules place rule inside is)
            ∙ first_tests rule (drop (place + 1) rules) false miss
            ∙ ap (λ (t : Tested). 1 + 0 + tests (drop (passed_over t rule (drop (place + 1) rules)) (drop (place + 1) rules)) walk) found
            ∙ ap (λ (t : List Rule). 1 + tests t walk) (sym (behind_skip rules place field rule inside is))
