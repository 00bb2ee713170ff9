-- The longest run of cells that pass a test, and what follows it.
use Rattle.std.proofs.Common.{◌≡◌, ℕ, Bool, true, false, cond, ◌<◌, List, [], ◌∷◌, ◌++◌, length, drop, Some, None, refl, ap, sym, ◌∙◌, append_assoc, append-nil, arith}
use Rattle.std.specs.List.{list_all}
use Rattle.std.proofs.lemmas.Bool.{and_parts, and_from, not-true, not_from_false}
use Rattle.pf_token.specs.declared.cell.Cell.{Cell}
use Rattle.pf_token.specs.Cells.{bytes_of, stops, first_cell}
use Rattle.pf_token.specs.Pieces.{IsLongestRun}
use Rattle.pf_token.specs.Reading.{front, beyond}

module _ (p : ℕ → Bool) where
  -- the run and what follows it are the cells
  pub joined : (cells : List Cell) → cells ≡ front p cells ++ beyond p cells
  unfolding front beyond
  joined [] = refl
  joined (cell ∷ cells) =
      elim (p cell.byte) as (λ b. cell ∷ cells ≡ cond b (cell ∷ front p cells) [] ++ cond b (beyond p cells) (cell ∷ cells)) [
        | true ↦ ap (λ t. cell ∷ t) (joined cells)
        | false ↦ refl
      ]

  front_each : (cells : List Cell) → list_all (λ (cell : Cell). p cell.byte) (front p cells) ≡ true
  unfolding front
  front_each [] = refl
  front_each (cell ∷ cells) = by_test (p cell.byte) refl (front_each cells) where
    by_test : (b : Bool) → p cell.byte ≡ b → list_all (λ (cell : Cell). p cell.byte) (front p cells) ≡ true → list_all (λ (cell : Cell). p cell.byte) (cond b (cell ∷ front p cells) []) ≡ true
    by_test true e rest = and_from _ _ e rest
    by_test false e rest = refl

  beyond_ends : (cells : List Cell) → stops p (beyond p cells) ≡ true
  unfolding beyond
  beyond_ends [] = refl
  beyond_ends (cell ∷ cells) = by_test (p cell.byte) refl (beyond_ends cells) where
    by_test : (b : Bool) → p cell.byte ≡ b → stops p (beyond p cells) ≡ true → stops p (cond b (beyond p cells) (cell ∷ cells)) ≡ true
    by_test true e rest = rest
    by_test false e rest = not_from_false _ e

  pub longest : (cells : List Cell) → IsLongestRun p (front p cells) (beyond p cells)
  longest cells = record { each = front_each cells; ends = beyond_ends cells }

  -- a longest run is the one that is found
  pub front_is : (cells rest : List Cell) → IsLongestRun p cells rest → front p (cells ++ rest) ≡ cells
  unfolding front
  front_is [] [] run = refl
  front_is [] (cell ∷ rest) run = rw (not-true (p cell.byte) run.ends) refl
  front_is (cell ∷ cells) rest run =
      let parts = and_parts (p cell.byte) (list_all (λ (cell : Cell). p cell.byte) cells) run.each in
      rw parts.0 (ap (λ t. cell ∷ t) (front_is cells rest (record { each = parts.1; ends = run.ends })))

  pub beyond_is : (cells rest : List Cell) → IsLongestRun p cells rest → beyond p (cells ++ rest) ≡ rest
  unfolding beyond
  beyond_is [] [] run = refl
  beyond_is [] (cell ∷ rest) run = rw (not-true (p cell.byte) run.ends) refl
  beyond_is (cell ∷ cells) rest run =
      let parts = and_parts (p cell.byte) (list_all (λ (cell : Cell). p cell.byte) cells) run.each in
      rw parts.0 (beyond_is cells rest (record { each = parts.1; ends = run.ends }))

-- the run one cell at a time, as a loop takes it
module _ (p : ℕ → Bool) where
  pub front_more : (cells : List Cell) (cell : Cell) → Some cell ≡ first_cell cells → p cell.byte ≡ true → front p cells ≡ cell ∷ front p (drop 1 cells)
  unfolding front
  front_more [] cell e passes = absurd cc
  front_more (first ∷ cells) cell e passes =
      let same : cell ≡ first = cc in
      let first_passes = ap (λ (c : Cell). p c.byte) (sym same) ∙ passes in
      rw first_passes (ap (λ c. c ∷ front p cells) (sym same))

  pub beyond_more : (cells : List Cell) (cell : Cell) → Some cell ≡ first_cell cells → p cell.byte ≡ true → beyond p (drop 1 cells) ≡ beyond p cells
  unfolding beyond
  beyond_more [] cell e passes = absurd cc
  beyond_more (first ∷ cells) cell e passes =
      let same : cell ≡ first = cc in
      let first_passes = ap (λ (c : Cell). p c.byte) (sym same) ∙ passes in
      rw first_passes refl

  pub front_stops : (cells : List Cell) (cell : Cell) → Some cell ≡ first_cell cells → p cell.byte ≡ false → front p cells ≡ []
  unfolding front
  front_stops [] cell e fails = refl
  front_stops (first ∷ cells) cell e fails =
      let same : cell ≡ first = cc in
      rw (ap (λ (c : Cell). p c.byte) (sym same) ∙ fails) refl

  pub beyond_stops : (cells : List Cell) (cell : Cell) → Some cell ≡ first_cell cells → p cell.byte ≡ false → beyond p cells ≡ cells
  unfolding beyond
  beyond_stops [] cell e fails = refl
  beyond_stops (first ∷ cells) cell e fails =
      let same : cell ≡ first = cc in
      rw (ap (λ (c : Cell). p c.byte) (sym same) ∙ fails) refl

  pub front_none : (cells : List Cell) → None ≡ first_cell cells → front p cells ≡ []
  unfolding front
  front_none [] e = refl
  front_none (first ∷ cells) e = absurd cc

  pub beyond_none : (cells : List Cell) → None ≡ first_cell cells → beyond p cells ≡ cells
  unfolding beyond
  beyond_none [] e = refl
  beyond_none (first ∷ cells) e = absurd cc

-- a cell that is passed makes the rest shorter
pub shorter : (cells : List Cell) (cell : Cell) → Some cell ≡ first_cell cells → length (drop 1 cells) < length cells
shorter [] cell e = absurd cc
shorter (first ∷ cells) cell e = omega arith

-- a text to which the bytes of the run are added one by one
module _ (p : ℕ → Bool) (text whole : List ℕ) (cells : List Cell) (so_far : text ++ bytes_of (front p cells) ≡ whole) where
  pub taken_more : (cell : Cell) → Some cell ≡ first_cell cells → p cell.byte ≡ true → (text ++ cell.byte ∷ []) ++ bytes_of (front p (drop 1 cells)) ≡ whole
  taken_more cell e passes =
      append_assoc text (cell.byte ∷ []) (bytes_of (front p (drop 1 cells))) ∙ ap (λ t. text ++ bytes_of t) (sym (front_more p cells cell e passes)) ∙ so_far

  taken : front p cells ≡ [] → text ≡ whole
  taken e = sym (append-nil text) ∙ ap (λ t. text ++ bytes_of t) (sym e) ∙ so_far

  pub taken_all : (cell : Cell) → Some cell ≡ first_cell cells → p cell.byte ≡ false → text ≡ whole
  taken_all cell e fails = taken (front_stops p cells cell e fails)

  pub taken_none : None ≡ first_cell cells → text ≡ whole
  taken_none e = taken (front_none p cells e)
