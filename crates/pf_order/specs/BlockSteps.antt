-- Blocks found from the last rule to the first, as the code finds them.
use Rattle.std.specs.Prelude.{ℕ, ◌+◌, List, [], ◌∷◌, Bool, true, false, not}
use Rattle.pf_order.specs.Blocks.{joins}
use Rattle.pf_order.specs.declared.block.Span.{Span}
use Rattle.pf_rule.specs.declared.rule.Rule.{Rule}

-- the rule doesn't stand in one block with the next
abbrev pub ends_block : Rule → List Rule → Bool
ends_block rule [] = true
ends_block rule (next ∷ rules) = not (joins rule next)

-- the spans with a rule before them, at this place: alone, or in the first of them
abbrev pub with_place : Bool → ℕ → List Span → List Span
with_place true place spans = record { start = place; end = place + 1 } ∷ spans
with_place false place [] = record { start = place; end = place + 1 } ∷ []
with_place false place (span ∷ spans) = record span { start = place } ∷ spans
