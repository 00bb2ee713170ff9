-- What a list of rules with weights costs where rules are tried in order: each rule that is used, by its place.
use Rattle.std.specs.Prelude.{ℕ, ◌+◌, ◌*◌, List, [], ◌∷◌}
use Rattle.pf_rule.specs.declared.rule.Rule.{Rule}

-- the sum of weights times places, from this place on
abbrev pub cost_from : ℕ → List (Rule × ℕ) → ℕ
cost_from place [] = 0
cost_from place (item ∷ items) = place * item.1 + cost_from (place + 1) items

-- the sum of weights times places, from 1
abbrev pub cost : List (Rule × ℕ) → ℕ
cost items = cost_from 1 items
