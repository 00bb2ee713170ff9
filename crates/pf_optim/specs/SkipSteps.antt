-- The skips of all places, found from the last rule to the first.
use Rattle.std.specs.Prelude.{ℕ, ◌+◌, List, [], ◌∷◌, map, Some, slice_index, if◌then◌else◌}
use Rattle.pf_optim.specs.Skips.{run_of, same_value}
use Rattle.pf_order.specs.Order.{value_at}
use Rattle.pf_rule.specs.declared.rule.Rule.{Rule}

abbrev pub all_fields : List ℕ
all_fields = 0 ∷ 1 ∷ 2 ∷ 3 ∷ 4 ∷ 5 ∷ 6 ∷ 7 ∷ []

-- the skip of a rule at a place, by the rules behind it
abbrev pub skip_before : ℕ → Rule → List Rule → ℕ → ℕ
skip_before place rule behind field = place + 1 + run_of (Some (value_at field rule)) field behind

-- its skips in all fields
abbrev pub row_of : ℕ → Rule → List Rule → List ℕ
row_of place rule behind = map (skip_before place rule behind) all_fields

-- those of the first of the rules from a place on; where there is none, each leads to the place
abbrev pub first_row : ℕ → List Rule → List ℕ
first_row place [] = place ∷ place ∷ place ∷ place ∷ place ∷ place ∷ place ∷ place ∷ []
first_row place (rule ∷ behind) = row_of place rule behind

-- those of all
abbrev pub rows_from : ℕ → List Rule → List (List ℕ)
rows_from place [] = []
rows_from place (rule ∷ behind) = row_of place rule behind ∷ rows_from (place + 1) behind

-- the skip in a field, by the next rule and its skips
abbrev pub step_by : ℕ → Rule → Rule → List ℕ → ℕ → ℕ
step_by place one other next field =
    if same_value (Some (value_at field one)) (Some (value_at field other)) then slice_index next field else place + 1

abbrev pub row_by : ℕ → Rule → Rule → List ℕ → List ℕ
row_by place one other next = map (step_by place one other next) all_fields
