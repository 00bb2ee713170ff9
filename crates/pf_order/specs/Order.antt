-- The order of the rules of a block (pf.conf(5), "set ruleset-optimization": rules are re-ordered to improve evaluation
-- performance). A rule that fails in a field lets all be passed over that are equal in that field, so what counts is in how
-- many fields neighbours agree.
use Rattle.std.specs.Prelude.{ℕ, ◌+◌, List, [], ◌∷◌, length, map, nat_lt, Option, not, if◌then◌else◌}
use Rattle.std.specs.List.{count_by, filter, position_or_len, slice_get, zip}
use Rattle.pf_base.specs.Equality.{options}
use Rattle.pf_order.specs.Sorting.{is_before, sorted_by}
use Rattle.pf_rule.specs.Equal.{skip_values}
use Rattle.pf_rule.specs.Fields.{field_values}
use Rattle.pf_rule.specs.declared.field.FieldValue.{FieldValue}
use Rattle.pf_rule.specs.declared.rule.Rule.{Rule}

-- in how many of the eight skip fields two rules agree
unfoldable pub agreements : Rule → Rule → ℕ
agreements one other =
    count_by (λ pair. skip_values.same pair.0 pair.1) (zip (field_values one.criteria) (field_values other.criteria))

-- the gain of a list of rules: the fields in which neighbours agree
abbrev pub gain : List Rule → ℕ
gain [] = 0
gain (one ∷ []) = 0
gain (one ∷ (other ∷ rules)) = agreements one other + gain (other ∷ rules)

-- in how many fields a rule agrees with the first of those behind it
abbrev pub first_agreements : Rule → List Rule → ℕ
first_agreements rule [] = 0
first_agreements rule (next ∷ rules) = agreements rule next

-- the value of a rule's field with this number
abbrev pub value_at : ℕ → Rule → Option FieldValue
value_at field rule = slice_get (field_values rule.criteria) field

-- the values without repetition, in the order in which they first appear
abbrev pub distinct : List (Option FieldValue) → List (Option FieldValue)
distinct [] = []
distinct (value ∷ values) = value ∷ filter (λ other. not ((options skip_values).same value other)) (distinct values)

-- the distinct values of a field in a block
abbrev pub values_of : List Rule → ℕ → List (Option FieldValue)
values_of rules field = distinct (map (value_at field) rules)

-- the place of a rule's value among them
abbrev pub rank_in : List Rule → ℕ → Rule → ℕ
rank_in rules field rule = position_or_len ((options skip_values).same (value_at field rule)) (values_of rules field)

-- the fields, those with the fewest distinct values first, and of as many the lower number
abbrev pub fields_by_count : List Rule → List ℕ
fields_by_count rules =
    sorted_by (λ one other. nat_lt (length (values_of rules one)) (length (values_of rules other)))
    (0 ∷ 1 ∷ 2 ∷ 3 ∷ 4 ∷ 5 ∷ 6 ∷ 7 ∷ [])

-- the key of a rule: its ranks in the fields in this order
unfoldable pub key_in : List Rule → Rule → List ℕ
key_in rules rule = map (λ field. rank_in rules field rule) (fields_by_count rules)

-- the rules by their keys
abbrev pub sorted_order : List Rule → List Rule
sorted_order rules = sorted_by (λ one other. is_before (key_in rules one) (key_in rules other)) rules

-- the sorted order where its gain is greater, else the order that there is
abbrev pub gain_order : List Rule → List Rule
gain_order rules = if nat_lt (gain rules) (gain (sorted_order rules)) then sorted_order rules else rules

-- rules with their weights, the greatest first
abbrev pub by_weight : List Rule → List ℕ → List (Rule × ℕ)
by_weight rules weights = sorted_by (λ one other. nat_lt other.1 one.1) (zip rules weights)

-- the rules with the greatest weights first
abbrev pub profile_order : List Rule → List ℕ → List Rule
profile_order rules weights = map (λ item. item.0) (by_weight rules weights)
