-- The rules of a block that are kept (pf.conf(5), "set ruleset-optimization": duplicate rules are removed, and so are
-- rules that are a subset of another rule), and where the weights of the others go.
use Rattle.std.specs.Prelude.{ℕ, ◌+◌, List, [], ◌∷◌, Bool, not, ◌&&◌, ◌||◌, nat_lt, map, if◌then◌else◌}
use Rattle.std.specs.List.{enumerate_from, filter, fold, list_any, zip}
use Rattle.pf_cover.specs.Cover.{covers}
use Rattle.pf_rule.specs.declared.rule.Rule.{Rule}

-- the rules with their places, from 0
abbrev pub placed : List Rule → List (ℕ × Rule)
placed rules = enumerate_from 0 rules

-- The one rule drops the other: it covers it, and it isn't covered by it or stands before it. So of rules that cover
-- each other the first one stays.
abbrev pub drops : ℕ × Rule → ℕ × Rule → Bool
drops one other =
    covers one.1.criteria other.1.criteria
    && (not (covers other.1.criteria one.1.criteria) || nat_lt one.0 other.0)

-- some rule of the block drops it
unfoldable pub is_dropped : List Rule → ℕ × Rule → Bool
is_dropped rules other = list_any (λ one. drops one other) (placed rules)

-- the rules that no rule of the block drops
abbrev pub kept : List Rule → List (ℕ × Rule)
kept rules = filter (λ rule. not (is_dropped rules rule)) (placed rules)

-- their places, ascending
abbrev pub kept_places : List Rule → List ℕ
kept_places rules = map (λ rule. rule.0) (kept rules)

-- the kept rules, in order
abbrev pub kept_rules : List Rule → List Rule
kept_rules rules = map (λ rule. rule.1) (kept rules)

-- the weights of these rules, where that of the first rule which covers the dropped one has grown by its weight
abbrev pub given_to_first : List Rule → List ℕ → Rule × ℕ → List ℕ
given_to_first [] weights dropped = weights
given_to_first (rule ∷ rules) [] dropped = []
given_to_first (rule ∷ rules) (weight ∷ weights) dropped =
    if covers rule.criteria dropped.0.criteria then (weight + dropped.1) ∷ weights
    else weight ∷ given_to_first rules weights dropped

-- the kept rules' own weights
abbrev pub own_weights : List Rule → List ℕ → List ℕ
own_weights rules weights =
    map (λ item. item.1) (filter (λ item. not (is_dropped rules item.0)) (zip (placed rules) weights))

-- the dropped rules with their weights
abbrev pub dropped_weighed : List Rule → List ℕ → List (Rule × ℕ)
dropped_weighed rules weights =
    map (λ item. (item.0.1, item.1)) (filter (λ item. is_dropped rules item.0) (zip (placed rules) weights))

-- the weights of the kept rules, when each dropped rule's weight has gone to the first kept rule that covers it
abbrev pub kept_weights : List Rule → List ℕ → List ℕ
kept_weights rules weights =
    fold (given_to_first (kept_rules rules)) (own_weights rules weights) (dropped_weighed rules weights)
