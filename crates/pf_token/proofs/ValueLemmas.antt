-- What is left of a macro's value that is in use.
use Rattle.std.proofs.Common.{◌≡◌, ℕ, ◌+◌, ◌<◌, ◌≤◌, List, ◌++◌, length, drop, get_or, sym, ap, ◌∙◌, arith}
use Rattle.std.specs.Prelude.{◌==◌}
use Rattle.std.proofs.lemmas.Bool.{or_parts}
use Rattle.std.proofs.lemmas.List.{drop_more, drop_all}
use Rattle.pf_base.specs.declared.fault.Place.{Place}
use Rattle.pf_token.specs.declared.cell.Cell.{Cell}
use Rattle.pf_token.specs.Cells.{cells_at, has_dollar, IsValueRest}

module _ (value : List ℕ) (at : ℕ) where
  pub IsValueRest-next : IsValueRest value at → at < length value → IsValueRest value (at + 1)
  IsValueRest-next rest inside = record {
    in_value = omega arith;
    plain = (or_parts (get_or value at 0 == 36) (has_dollar (drop (at + 1) value)) (ap has_dollar (sym (drop_more value at 0 inside)) ∙ rest.plain)).1;
  }

  pub value_next : (place : Place) (file : List Cell) → at < length value → cells_at place (drop (at + 1) value) ++ file ≡ drop 1 (cells_at place (drop at value) ++ file)
  value_next place file inside = ap (λ t. drop 1 (cells_at place t ++ file)) (sym (drop_more value at 0 inside))

  pub value_done : (place : Place) (file : List Cell) → length value ≤ at → cells_at place (drop at value) ++ file ≡ file
  value_done place file over = ap (λ t. cells_at place t ++ file) (drop_all at value over)
