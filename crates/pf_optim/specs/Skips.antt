-- Skip steps: where the evaluation of a list of rules goes on when a rule fails in a field. All rules up to there are equal
-- in that field, so they fail too.
use Rattle.std.specs.Prelude.{◌≡◌, ℕ, ◌+◌, ◌<◌, ◌≤◌, List, length, drop, map, Bool, Option, Some, slice_get}
use Rattle.std.specs.List.{prefix_len}
use Rattle.pf_base.specs.Equality.{options}
use Rattle.pf_order.specs.Order.{value_at}
use Rattle.pf_rule.specs.Equal.{skip_values}
use Rattle.pf_rule.specs.declared.field.FieldValue.{FieldValue}
use Rattle.pf_rule.specs.declared.rule.Rule.{Rule}

-- the values of a field in a list of rules
abbrev pub values_at : ℕ → List Rule → List (Option FieldValue)
values_at field rules = map (value_at field) rules

-- the two values are equal
abbrev pub same_value : Option (Option FieldValue) → Option (Option FieldValue) → Bool
same_value = (options (options skip_values)).same

-- how many rules in a row have this value in a field
abbrev pub run_of : Option (Option FieldValue) → ℕ → List Rule → ℕ
run_of value field rules = prefix_len (λ other. same_value value (Some other)) (values_at field rules)

-- the next place whose field differs, or the list's length
unfoldable pub skip : List Rule → ℕ → ℕ → ℕ
skip rules place field = place + 1 + run_of (slice_get (values_at field rules) place) field (drop (place + 1) rules)

-- what this says: it is behind the place and not past the end, every place between has the same value there, and its own
-- value differs
pub record IsSkip (rules : List Rule) (place field next : ℕ) : Type 0 where
  pub behind : place < next
  pub within : next ≤ length rules
  pub equal : (k : ℕ) → place < k → k < next → slice_get (values_at field rules) k ≡ slice_get (values_at field rules) place
  pub differs : next < length rules → slice_get (values_at field rules) next ≡ slice_get (values_at field rules) place → ⊥
