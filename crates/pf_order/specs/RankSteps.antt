-- The keys of rules, as the code finds them: field by field, by columns of distinct values.
use Rattle.std.specs.Prelude.{ℕ, List, [], ◌∷◌, map, Option, Some}
use Rattle.std.specs.List.{position_or_len}
use Rattle.pf_base.specs.Equality.{options}
use Rattle.pf_order.specs.Order.{value_at, values_of}
use Rattle.pf_order.specs.declared.column.Column.{Column}
use Rattle.pf_rule.specs.Equal.{skip_values}
use Rattle.pf_rule.specs.declared.field.FieldValue.{FieldValue}
use Rattle.pf_rule.specs.declared.rule.Rule.{Rule}

abbrev pub all_fields : List ℕ
all_fields = 0 ∷ 1 ∷ 2 ∷ 3 ∷ 4 ∷ 5 ∷ 6 ∷ 7 ∷ []

-- a field with the values that it has
abbrev pub shown : Column → ℕ × List (Option FieldValue)
shown column = (column.field, map Some column.values.keys)

-- fields with the distinct values that they have in these rules
abbrev pub with_values : List Rule → List ℕ → List (ℕ × List (Option FieldValue))
with_values rules fields = map (λ field. (field, values_of rules field)) fields

-- the place of a rule's value among those of a field
abbrev pub rank_by : Rule → ℕ × List (Option FieldValue) → ℕ
rank_by rule column = position_or_len ((options skip_values).same (value_at column.0 rule)) column.1

-- the ranks of a rule in these fields
abbrev pub key_by : List (ℕ × List (Option FieldValue)) → Rule → List ℕ
key_by columns rule = map (rank_by rule) columns
