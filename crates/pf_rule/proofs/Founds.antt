-- What the test of a rule finds, by its first failing field.
use Rattle.std.proofs.Common.{◌≡◌, ℕ, ◌+◌, ◌<◌, length, Bool, true, false, not, ◌&&◌, cond, Option, Some, None, unwrap_or, List, [], ◌∷◌, refl, ap, sym, ◌∙◌, arith}
use Rattle.std.proofs.lemmas.Bool.{false≢true}
use Rattle.std.specs.List.{position_from}
use Rattle.pf_rule.specs.Around.{Around}
use Rattle.pf_rule.specs.Hit.{Finds, all_hold, failing_field, fails_at, hits, hits_at, missed_at, other_tests, skip_tests}
use Rattle.pf_rule.specs.declared.rule.Rule.{Rule}
use Rattle.pf_rule.specs.declared.testing.Tested.{Tested}
use Rattle.pf_rule.specs.declared.testing.Tested.TheVariants.{Hit, Field, Other}
use Rattle.pf_rule.specs.declared.walk.Walk.{Walk}

-- a test that holds is passed over
pub passed : (holds : Bool) (n : ℕ) (tests : List Bool) → holds ≡ true → position_from not n (holds ∷ tests) ≡ position_from not (n + 1) tests
passed holds n tests e = ap (λ b. cond (not b) (Some n) (position_from not (n + 1) tests)) e

-- one that fails is the first
pub failed : (holds : Bool) (n : ℕ) (tests : List Bool) → holds ≡ false → position_from not n (holds ∷ tests) ≡ Some n
failed holds n tests e = ap (λ b. cond (not b) (Some n) (position_from not (n + 1) tests)) e

-- where no test fails, all hold
none_fails : (tests : List Bool) (n : ℕ) → position_from not n tests ≡ None → all_hold tests ≡ true
none_fails [] n none = refl
none_fails (true ∷ tests) n none = none_fails tests (n + 1) none
none_fails (false ∷ tests) n none = cc

-- where one fails, not all do
some_fails : (tests : List Bool) (n field : ℕ) → position_from not n tests ≡ Some field → all_hold tests ≡ false
some_fails [] n field some = cc
some_fails (true ∷ tests) n field some = some_fails tests (n + 1) field some
some_fails (false ∷ tests) n field some = refl

-- the first that fails is one of them
fails_within : (tests : List Bool) (n field : ℕ) → position_from not n tests ≡ Some field → field < n + length tests
fails_within [] n field some = cc
fails_within (true ∷ tests) n field some = omega (arith, fails_within tests (n + 1) field some)
fails_within (false ∷ tests) n field some =
    let here : n ≡ field = ap (λ o. unwrap_or o n) some in
    omega arith

-- where a skip field fails, the rule doesn't hit
pub hits_failing : (around : Around) (rule : Rule) (walk : Walk) (field : ℕ) → fails_at around rule walk ≡ Some field → hits_at around rule walk ≡ false
unfolding hits failing_field
hits_failing around rule walk field fails =
    ap (λ b. b && all_hold (other_tests rule.criteria walk.packet walk.tag)) (some_fails (skip_tests around rule.criteria walk.packet) 0 field fails)

-- it is one of the eight
few_failing : (around : Around) (rule : Rule) (walk : Walk) (field : ℕ) → fails_at around rule walk ≡ Some field → field < 8
unfolding failing_field
few_failing around rule walk field fails = fails_within (skip_tests around rule.criteria walk.packet) 0 field fails

-- where none fails, it hits where the other tests hold
pub hits_others : (around : Around) (rule : Rule) (walk : Walk) → fails_at around rule walk ≡ None
    → hits_at around rule walk ≡ all_hold (other_tests rule.criteria walk.packet walk.tag)
unfolding hits failing_field
hits_others around rule walk none =
    ap (λ b. b && all_hold (other_tests rule.criteria walk.packet walk.tag)) (none_fails (skip_tests around rule.criteria walk.packet) 0 none)

-- the field that is told
abbrev field_in : Tested → Option ℕ
field_in Hit = None
field_in (Field n) = Some n
field_in Other = None

-- what the test says, by the first failing field and whether the rule hits
found_by : Bool → Option ℕ → Tested
found_by hit field = cond hit Hit (missed_at field)

-- where a rule hits, no field fails
no_hit_fails : (around : Around) (rule : Rule) (walk : Walk) (field : ℕ) → hits_at around rule walk ≡ true → fails_at around rule walk ≡ Some field → ⊥
no_hit_fails around rule walk field hit fails = false≢true (sym (hits_failing around rule walk field fails) ∙ hit)

finds_by : (around : Around) (rule : Rule) (walk : Walk) (hit : Bool) (field : Option ℕ)
    → hits_at around rule walk ≡ hit → fails_at around rule walk ≡ field → Finds around rule walk (found_by hit field)
unfolding found_by
finds_by around rule walk true field is_hit is_field = record {
  hit = (λ e. is_hit, λ h. refl);
  field = λ n. (λ e. cc, λ fails. absurd (no_hit_fails around rule walk n is_hit fails));
  few = λ n e. cc;
  other = (λ e. cc, λ both. absurd (false≢true (sym both.1 ∙ is_hit)));
  value = sym (ap (λ b. cond b Hit (missed_at (fails_at around rule walk))) is_hit);
}
finds_by around rule walk false (Some field) is_hit is_field = record {
  hit = (λ e. cc, λ h. absurd (false≢true (sym is_hit ∙ h)));
  field = λ n. (λ e. is_field ∙ ap (λ t. field_in t) e, λ fails. ap missed_at (sym is_field ∙ fails));
  few = λ n e. few_failing around rule walk n (is_field ∙ ap (λ t. field_in t) e);
  other = (λ e. cc, λ both. cc);
  value = sym (ap (λ b. cond b Hit (missed_at (fails_at around rule walk))) is_hit ∙ ap missed_at is_field);
}
finds_by around rule walk false None is_hit is_field = record {
  hit = (λ e. cc, λ h. absurd (false≢true (sym is_hit ∙ h)));
  field = λ n. (λ e. cc, λ fails. cc);
  few = λ n e. cc;
  other = (λ e. (is_field, is_hit), λ both. refl);
  value = sym (ap (λ b. cond b Hit (missed_at (fails_at around rule walk))) is_hit ∙ ap missed_at is_field);
}

-- a skip field fails
pub finds_field : (around : Around) (rule : Rule) (walk : Walk) (field : ℕ) → failing_field around rule.criteria walk.packet ≡ Some field
    → Finds around rule walk (Field field)
unfolding found_by
finds_field around rule walk field fails = finds_by around rule walk false (Some field) (hits_failing around rule walk field fails) fails

-- all tests hold
pub finds_hit : (around : Around) (rule : Rule) (walk : Walk) → failing_field around rule.criteria walk.packet ≡ None
    → all_hold (other_tests rule.criteria walk.packet walk.tag) ≡ true → Finds around rule walk Hit
unfolding found_by
finds_hit around rule walk none others = finds_by around rule walk true None (hits_others around rule walk none ∙ others) none

-- the tests of the skip fields hold, and another fails
pub finds_other : (around : Around) (rule : Rule) (walk : Walk) → failing_field around rule.criteria walk.packet ≡ None
    → all_hold (other_tests rule.criteria walk.packet walk.tag) ≡ false → Finds around rule walk Other
unfolding found_by
finds_other around rule walk none others = finds_by around rule walk false None (hits_others around rule walk none ∙ others) none
