-- Blocks found from the last rule to the first are the blocks.
use Rattle.std.proofs.Common.{◌≡◌, ℕ, ◌+◌, cond, Bool, true, false, not, List, [], ◌∷◌, length, refl, sym, ap, ◌∙◌, arith}
use Rattle.pf_order.specs.Blocks.{joins, runs_of, spans_from, with_run}
use Rattle.pf_order.specs.BlockSteps.{ends_block, with_place}
use Rattle.pf_order.specs.declared.block.Span.{Span}
use Rattle.pf_rule.specs.declared.rule.Rule.{Rule}

-- the first run of a list begins with its first item
pub record BeginsWith {X : Type 0} (x : X) (runs : List (List X)) : Type 0 where
  pub others : List X
  pub later : List (List X)
  pub is : runs ≡ (x ∷ others) ∷ later

pub begins : {X : Type 0} (test : X → X → Bool) (x : X) (runs : List (List X)) → BeginsWith x (with_run test x runs)
begins test x [] = record { others = []; later = []; is = refl }
begins test x ([] ∷ runs) = record { others = []; later = runs; is = refl }
begins test x ((y ∷ ys) ∷ runs) =
    elim (test x y) as (λ b. BeginsWith x (cond b ((x ∷ (y ∷ ys)) ∷ runs) ((x ∷ []) ∷ ((y ∷ ys) ∷ runs)))) [
      | true ↦ record { others = y ∷ ys; later = runs; is = refl }
      | false ↦ record { others = []; later = (y ∷ ys) ∷ runs; is = refl }
    ]

-- a rule before runs whose first begins with the next rule
placed_before : (p : ℕ) (x y : Rule) (others : List Rule) (later : List (List Rule)) → spans_from p (with_run joins x ((y ∷ others) ∷ later)) ≡ with_place (not (joins x y)) p (spans_from (p + 1) ((y ∷ others) ∷ later))
placed_before p x y others later =
    elim (joins x y) as (λ b. spans_from p (cond b ((x ∷ (y ∷ others)) ∷ later) ((x ∷ []) ∷ ((y ∷ others) ∷ later))) ≡ with_place (not b) p (spans_from (p + 1) ((y ∷ others) ∷ later))) [
      | true ↦ joined (p + length (x ∷ (y ∷ others))) (p + 1 + length (y ∷ others)) (omega arith)
      | false ↦ alone (p + length (x ∷ [])) (p + 1) (omega arith)
    ]
  where
    joined : (a b : ℕ) → a ≡ b → ◌≡◌ {A = List Span} (record { start = p; end = a } ∷ spans_from a later) (record { start = p; end = b } ∷ spans_from b later)
    joined a b e = ap (λ (n : ℕ). record { start = p; end = n } ∷ spans_from n later) e

    alone : (a b : ℕ) → a ≡ b → ◌≡◌ {A = List Span} (record { start = p; end = a } ∷ spans_from a ((y ∷ others) ∷ later)) (record { start = p; end = b } ∷ spans_from b ((y ∷ others) ∷ later))
    alone a b e = ap (λ (n : ℕ). record { start = p; end = n } ∷ spans_from n ((y ∷ others) ∷ later)) e

pub span_step : (p : ℕ) (x : Rule) (rest : List Rule) → spans_from p (runs_of joins (x ∷ rest)) ≡ with_place (ends_block x rest) p (spans_from (p + 1) (runs_of joins rest))
span_step p x [] = ap (λ (n : ℕ). record { start = p; end = n } ∷ []) (omega arith)
span_step p x (y ∷ rest) =
    let first = begins joins y (runs_of joins rest) in
    ap (λ (t : List (List Rule)). spans_from p (with_run joins x t)) first.is
    ∙ placed_before p x y first.others first.later
    ∙ sym (ap (λ (t : List (List Rule)). with_place (not (joins x y)) p (spans_from (p + 1) t)) first.is)
