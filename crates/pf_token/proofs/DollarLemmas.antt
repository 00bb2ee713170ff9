-- Where a `$` comes next: the step there, and that it stands in the file.
use Rattle.std.proofs.Common.{◌≡◌, ℕ, ◌+◌, ◌^◌, ◌<◌, Bool, true, false, cond, List, [], ◌∷◌, ◌++◌, drop, Option, Some, refl, ap, sym, ◌∙◌, subst, arith}
use Rattle.std.specs.Prelude.{◌==◌, ◌&&◌, nat_le, IsSomeAnd}
use Rattle.std.proofs.lemmas.Bool.{or_parts, both_ways}
use Rattle.pf_base.specs.declared.fault.Place.{Place}
use Rattle.pf_token.specs.declared.byte.ByteClass.{ByteClass}
use Rattle.pf_token.specs.declared.byte.ByteClass.TheVariants.{Blank, Newline, Sign, Quote, Hash, Dollar, Plain, Bad}
use Rattle.pf_token.specs.declared.cell.Cell.{Cell}
use Rattle.pf_token.specs.Bytes.{class_of}
use Rattle.pf_token.specs.Cells.{cells_at, first_cell, has_dollar}
use Rattle.pf_token.specs.Reading.{step, step_by, weight}

-- not chosen here, so chosen further on
passed : (test : Bool) (here : ByteClass) (rest class : ByteClass) → cond test here rest ≡ class → (here ≡ class → ⊥) → rest ≡ class
passed true here rest class e other = absurd (other e)
passed false here rest class e other = e

last_two : (a b : Bool) → cond a Dollar (cond b Plain Bad) ≡ Dollar → a ≡ true
last_two true b e = refl
last_two false true e = absurd cc
last_two false false e = absurd cc

-- `$` alone has its class
pub class_dollar : (byte : ℕ) → class_of byte ≡ Dollar → (byte == 36) ≡ true
unfolding class_of
class_dollar byte is =
    last_two (byte == 36) (nat_le 33 byte && nat_le byte 126)
    (passed _ Hash _ Dollar (passed _ Quote _ Dollar (passed _ Sign _ Dollar (passed _ Newline _ Dollar (passed _ Blank _ Dollar is (λ e. cc)) (λ e. cc)) (λ e. cc)) (λ e. cc)) (λ e. cc))

-- the next cell and those after it
pub cells_are : (cells : List Cell) (cell : Cell) → Some cell ≡ first_cell cells → cells ≡ cell ∷ drop 1 cells
cells_are [] cell e = absurd cc
cells_are (first ∷ rest) cell e = let same : first ≡ cell = cc in ap (λ c. c ∷ rest) same

module _ (cells : List Cell) (cell : Cell) (e : Some cell ≡ first_cell cells) where
  -- the step at a cell of a known class
  pub step_at : (values : List ℕ → Option (List ℕ)) (class : ByteClass) → class_of cell.byte ≡ class → step values cells ≡ step_by class values cell (drop 1 cells)
  unfolding step
  step_at values class is = ap (step values) (cells_are cells cell e) ∙ ap (λ c. step_by c values cell (drop 1 cells)) is

  pub weight_dollar : class_of cell.byte ≡ Dollar → weight cells ≡ 2 ^ 64 + weight (drop 1 cells)
  weight_dollar is = ap weight (cells_are cells cell e) ∙ ap (λ b. cond b (2 ^ 64) 1 + weight (drop 1 cells)) (class_dollar cell.byte is)

  pub weight_passed : weight (drop 1 cells) < weight cells
  weight_passed = subst (λ t. weight (drop 1 cells) < t) (sym (ap weight (cells_are cells cell e))) (by_test (cell.byte == 36)) where
    by_test : (b : Bool) → weight (drop 1 cells) < cond b (2 ^ 64) 1 + weight (drop 1 cells)
    by_test true = omega arith
    by_test false = omega arith

-- a value in use has no `$`, so where one comes next, the value is over
pub value_over : (value : List ℕ) (place : Place) (file : List Cell) → has_dollar value ≡ false → IsSomeAnd (first_cell (cells_at place value ++ file)) (λ (cell : Cell). class_of cell.byte ≡ Dollar) → value ≡ []
value_over [] place file plain next = refl
value_over (byte ∷ value) place file plain next =
    let none = (or_parts (byte == 36) (has_dollar value) plain).0 in
    absurd (both_ways (byte == 36) none (class_dollar byte next))
