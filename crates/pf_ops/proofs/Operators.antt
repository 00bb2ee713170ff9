-- The set that an operator names, in its kept form.
use Rattle.std.proofs.Common.{◌≡◌, ℕ, ◌+◌, ◌≤◌, nat_lt, nat_le, ◌&&◌, ◌||◌, sym, ◌∙◌, arith}
use Rattle.std.proofs.lemmas.Bool.Decides.{nat_tests}
use Rattle.std.proofs.lemmas.Bool.{cond_both, ltb-false}
use Rattle.pf_ops.specs.declared.numbers.Numbers.{Numbers}
use Rattle.pf_ops.specs.declared.operator.OpKind.{OpKind}
use Rattle.pf_ops.specs.declared.operator.OpKind.TheVariants.{Equal, Other, Below, UpTo, Above, From, Within, Between, Outside}
use Rattle.pf_ops.specs.Numbers.{IsKept, in_numbers}
use Rattle.pf_ops.specs.Operator.{IsOperator, set_of, numbers_below, joined}
use Rattle.pf_ops.proofs.Subsets.{one_form}

below_kept : (top low end : ℕ) → end ≤ top + 1 → IsKept top (numbers_below low end)
below_kept top low end h = grind (arith, nat_tests)

below_holds : (low end n : ℕ) → in_numbers (numbers_below low end) n ≡ (nat_le low n && nat_lt n end)
below_holds low end n = grind (arith, nat_tests)

joined_kept : (top a b : ℕ) → a ≤ b → b ≤ top → IsKept top (joined (numbers_below 0 a) (numbers_below (b + 1) (top + 1)))
joined_kept top a b h below = grind (arith, nat_tests)

joined_holds : (top a b n : ℕ) → a ≤ b → b ≤ top → n ≤ top → in_numbers (joined (numbers_below 0 a) (numbers_below (b + 1) (top + 1))) n ≡ (nat_lt n a || nat_lt b n)
joined_holds top a b n h below in_range = grind (arith, nat_tests)

set_of_kept : (top : ℕ) (kind : OpKind) (a b : ℕ) → a ≤ top → b ≤ top → IsKept top (set_of top kind a b)
unfolding set_of
set_of_kept top Equal a b ha hb = below_kept top a (a + 1) (omega arith)
set_of_kept top Other a b ha hb = joined_kept top a a (omega arith) ha
set_of_kept top Below a b ha hb = below_kept top 0 a (omega arith)
set_of_kept top UpTo a b ha hb = below_kept top 0 (a + 1) (omega arith)
set_of_kept top Above a b ha hb = below_kept top (a + 1) (top + 1) (omega arith)
set_of_kept top From a b ha hb = below_kept top a (top + 1) (omega arith)
set_of_kept top Within a b ha hb = below_kept top a (b + 1) (omega arith)
set_of_kept top Between a b ha hb = below_kept top (a + 1) b (omega arith)
set_of_kept top Outside a b ha hb =
    cond_both (nat_lt b a) _ _ (IsKept top)
    (λ _. below_kept top 0 (top + 1) (omega arith))
    (λ h. joined_kept top a b (omega (arith, ltb-false)) hb)

set_of_holds : (top : ℕ) (kind : OpKind) (a b : ℕ) → a ≤ top → b ≤ top → IsOperator top kind a b (set_of top kind a b)
unfolding set_of
set_of_holds top Equal a b ha hb n h = below_holds a (a + 1) n ∙ grind (arith, nat_tests)
set_of_holds top Other a b ha hb n h = joined_holds top a a n (omega arith) ha h ∙ grind (arith, nat_tests)
set_of_holds top Below a b ha hb n h = below_holds 0 a n ∙ grind (arith, nat_tests)
set_of_holds top UpTo a b ha hb n h = below_holds 0 (a + 1) n ∙ grind (arith, nat_tests)
set_of_holds top Above a b ha hb n h = below_holds (a + 1) (top + 1) n ∙ grind (arith, nat_tests)
set_of_holds top From a b ha hb n h = below_holds a (top + 1) n ∙ grind (arith, nat_tests)
set_of_holds top Within a b ha hb n h = below_holds a (b + 1) n ∙ grind (arith, nat_tests)
set_of_holds top Between a b ha hb n h = below_holds (a + 1) b n ∙ grind (arith, nat_tests)
set_of_holds top Outside a b ha hb n h =
    cond_both (nat_lt b a) _ _ (λ set. in_numbers set n ≡ (nat_lt n a || nat_lt b n))
    (λ apart. below_holds 0 (top + 1) n ∙ grind (arith, nat_tests))
    (λ near. joined_holds top a b n (omega (arith, ltb-false)) hb h)

-- a kept set that has an operator's numbers is the operator's set
pub value_of_op : (top : ℕ) (kind : OpKind) (a b : ℕ) (set : Numbers) → a ≤ top → b ≤ top → IsKept top set → IsOperator top kind a b set → set ≡ set_of top kind a b
value_of_op top kind a b set ha hb kept holds =
    let other = set_of_holds top kind a b ha hb in
    one_form top set (set_of top kind a b) kept (set_of_kept top kind a b ha hb)
    (λ n h inner. holds n h ∙ sym (other n h) ∙ inner)
    (λ n h inner. other n h ∙ sym (holds n h) ∙ inner)
