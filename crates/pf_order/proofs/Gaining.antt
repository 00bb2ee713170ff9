-- The gain, found from the last rule to the first.
use Rattle.std.proofs.Common.{◌≡◌, ℕ, ◌+◌, ◌-◌, ◌<◌, List, [], ◌∷◌, length, get_or, take, drop, length-drop, refl, sym, ap, ◌∙◌, arith}
use Rattle.std.proofs.lemmas.List.{at_drop_more, take_all}
use Rattle.pf_order.specs.Order.{first_agreements, gain}
use Rattle.pf_rule.specs.declared.rule.Rule.{Rule}

pub gain_step : (x : Rule) (rest : List Rule) → gain (x ∷ rest) ≡ first_agreements x rest + gain rest
gain_step x [] = refl
gain_step x (y ∷ rest) = refl

-- what stands from a place on: the rule there, and what is behind it
pub from_place : (rules : List Rule) (place : ℕ) (rule : Rule) → place < length rules → rule ≡ get_or rules place rule → drop place rules ≡ rule ∷ drop (place + 1) rules
from_place rules place rule h is =
    at_drop_more (λ (t : List Rule). t) rules place rule h ∙ ap (λ (r : Rule). r ∷ drop (place + 1) rules) (sym is)

-- the part of a list from a place to its end
pub to_end : (rules : List Rule) (place : ℕ) → take (length rules - place) (drop place rules) ≡ drop place rules
to_end rules place = take_all (length rules - place) (drop place rules) (omega (arith, length-drop place rules))
