-- How much is left to do, and what makes it less.
use Rattle.std.proofs.Common.{◌≡◌, ℕ, ◌+◌, ◌<◌, ◌≤◌, ◌^◌, Bool, true, false, cond, List, [], ◌∷◌, ◌++◌, length, Option, refl, ap, sym, ◌∙◌, arith}
use Rattle.std.specs.Prelude.{◌==◌}
use Rattle.std.proofs.lemmas.Bool.{or_parts}
use Rattle.pf_base.specs.declared.fault.Place.{Place}
use Rattle.pf_token.specs.declared.cell.Cell.{Cell}
use Rattle.pf_token.specs.declared.uses.MacroUse.{MacroUse}
use Rattle.pf_token.specs.declared.uses.MacroUse.TheVariants.{Refused, Value}
use Rattle.pf_token.specs.Bytes.{class_of, is_known, is_name_byte}
use Rattle.pf_token.specs.Cells.{cells_at, bytes_of, has_dollar}
use Rattle.pf_token.specs.Pieces.{is_escape}
use Rattle.pf_token.specs.Reading.{Quoted, quoted_from, prepended, weight, front, beyond, macro_step, named_step, use_step, left_after, IsUseOf, IsPlainUse}

pub weight_beyond : (p : ℕ → Bool) (cells : List Cell) → weight (beyond p cells) ≤ weight cells
unfolding beyond
weight_beyond p [] = omega arith
weight_beyond p (cell ∷ cells) = by_test (p cell.byte) (weight_beyond p cells) where
  by_test : (b : Bool) → weight (beyond p cells) ≤ weight cells → weight (cond b (beyond p cells) (cell ∷ cells)) ≤ weight (cell ∷ cells)
  by_test true less = omega arith
  by_test false less = omega arith

weight-append : (a b : List Cell) → weight (a ++ b) ≡ weight a + weight b
weight-append [] b = omega arith
weight-append (cell ∷ a) b = omega (arith, weight-append a b)

weight_plain : (place : Place) (value : List ℕ) → has_dollar value ≡ false → weight (cells_at place value) ≡ length value
weight_plain place [] plain = refl
weight_plain place (byte ∷ value) plain =
    let parts = or_parts (byte == 36) (has_dollar value) plain in
    let rest = weight_plain place value parts.1 in
    rw parts.0 (omega (arith, rest))

-- a value that is used weighs less than its `$`
pub use_lighter : (found : MacroUse) (place : Place) (cells old : List Cell) → IsPlainUse found → weight cells ≤ weight old → weight (use_step place found cells).1 < 2 ^ 64 + weight old
use_lighter (Refused cause) place cells old plain less = omega arith
use_lighter (Value value) place cells old plain less =
    let long = value.ok in
    let small = value.small in
    omega (arith, weight-append (cells_at place value.items) cells, weight_plain place value.items plain)

-- what was found behind `$`, put together
pub use_is : (values : List ℕ → Option (List ℕ)) (place : Place) (old rest new : List Cell) (name : List ℕ) (found : MacroUse)
    → name ≡ bytes_of (front is_name_byte old) → rest ≡ beyond is_name_byte old → IsUseOf found name (values name) → new ≡ left_after found rest
    → macro_step values place old ≡ use_step place found new
unfolding macro_step
use_is values place old rest new name found name_is rest_is is new_is =
    (λ i. named_step place (sym name_is i) (values (sym name_is i)) (sym rest_is i)) ∙ is place rest ∙ ap (use_step place found) (sym new_is)

-- what is left behind a string weighs no more
choose : (a b : Bool) (x y z : Quoted) (most : ℕ) → weight x.after ≤ most → weight y.after ≤ most → weight z.after ≤ most → weight (cond a x (cond b y z)).after ≤ most
choose true b x y z most p q r = p
choose false true x y z most p q r = q
choose false false x y z most p q r = r

one_less : (b : Bool) (n m : ℕ) → n ≤ m → n ≤ cond b (2 ^ 64) 1 + m
one_less true n m less = omega arith
one_less false n m less = omega arith

pub weight_quoted : (quote : ℕ) (cells : List Cell) → weight (quoted_from quote cells).after ≤ weight cells
unfolding quoted_from
weight_quoted quote [] = omega arith
weight_quoted quote (cell ∷ []) = choose (cell.byte == quote) (cell.byte == 10) _ _ _ _ (omega arith) (omega arith) (omega arith)
weight_quoted quote (cell ∷ next ∷ cells) = with_rests (weight_quoted quote cells) (weight_quoted quote (next ∷ cells)) where
  with_rests : weight (quoted_from quote cells).after ≤ weight cells → weight (quoted_from quote (next ∷ cells)).after ≤ weight (next ∷ cells) → weight (quoted_from quote (cell ∷ next ∷ cells)).after ≤ weight (cell ∷ next ∷ cells)
  with_rests two one =
      let far = one_less (cell.byte == 36) _ _ (one_less (next.byte == 36) _ _ two) in
      let near = one_less (cell.byte == 36) _ _ one in
      let here = one_less (cell.byte == 36) (weight (next ∷ cells)) _ (omega arith) in
      choose (cell.byte == quote) (cell.byte == 10) _ _ _ _ here near
      (elim (is_escape quote (cell ∷ next ∷ [])) as (λ b. weight (cond b (prepended (next.byte ∷ []) true (quoted_from quote cells)) (prepended (cell.byte ∷ []) (is_known (class_of cell.byte)) (quoted_from quote (next ∷ cells)))).after ≤ weight (cell ∷ next ∷ cells)) [ true ↦ far | false ↦ near ])
