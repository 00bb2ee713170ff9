-- The blocks of a ruleset: what an optimiser may drop, join and sort within, and never across (pf.conf(5),
-- "set ruleset-optimization").
use Rattle.std.specs.Prelude.{ℕ, ◌+◌, List, [], ◌∷◌, length, Bool, not, ◌&&◌, ◌||◌, is_some, if◌then◌else◌}
use Rattle.pf_order.specs.declared.block.Span.{Span}
use Rattle.pf_parts.specs.declared.state.StateOptions.{StateOptions}
use Rattle.pf_rule.specs.Effect.{is_anchor}
use Rattle.pf_rule.specs.Equal.{effects}
use Rattle.pf_rule.specs.declared.rule.Rule.{Rule}

-- a limit of states or sources, which counts what this rule alone has made (pf.conf(5), "Stateful Tracking Options")
abbrev pub has_limit : StateOptions → Bool
has_limit options =
    is_some options.max
    || is_some options.max_src_nodes
    || is_some options.max_src_states
    || is_some options.max_src_conn
    || is_some options.max_src_conn_rate
    || is_some options.source_track

-- a rule that stands alone: an anchor, a rule with a label ("add a label to act as optimization barrier"), or a rule with
-- a limit
unfoldable pub is_barrier : Rule → Bool
is_barrier rule = is_anchor rule.effect.action || is_some rule.effect.label || has_limit rule.effect.options

-- neighbours of one block: neither stands alone, and both do the same with a packet
abbrev pub joins : Rule → Rule → Bool
joins one other = (not (is_barrier one) && not (is_barrier other)) && effects.same one.effect other.effect

-- runs with an item before the first: it stands in the first run where it joins that run's first item
abbrev pub with_run : {X : Type 0} → (X → X → Bool) → X → List (List X) → List (List X)
with_run joins x [] = (x ∷ []) ∷ []
with_run joins x ([] ∷ runs) = (x ∷ []) ∷ runs
with_run joins x ((y ∷ ys) ∷ runs) = if joins x y then (x ∷ (y ∷ ys)) ∷ runs else (x ∷ []) ∷ ((y ∷ ys) ∷ runs)

-- the longest runs of neighbours that join
abbrev pub runs_of : {X : Type 0} → (X → X → Bool) → List X → List (List X)
runs_of joins [] = []
runs_of joins (x ∷ xs) = with_run joins x (runs_of joins xs)

-- the blocks: each barrier, and the longest runs of neighbours of equal effects between barriers
abbrev pub blocks_of : List Rule → List (List Rule)
blocks_of rules = runs_of joins rules

-- the places of lists that stand one behind the other, from this one on
abbrev pub spans_from : {X : Type 0} → ℕ → List (List X) → List Span
spans_from start [] = []
spans_from start (run ∷ runs) = record { start = start; end = start + length run } ∷ spans_from (start + length run) runs
