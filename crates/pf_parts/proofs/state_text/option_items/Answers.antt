use Rattle.std.proofs.Common.{[], ◌∷◌}
use Rattle.pf_parts.specs.StateText.{option_parts}
use Rattle.pf_parts.proofs.state_text.option_items.Goals as goal

pub returns : goal.returns
unfolding option_parts
returns c = λ i.
    c.number_item.ensures i
    ∷ c.track_item.ensures i
    ∷ c.number_item-2.ensures i
    ∷ c.number_item-3.ensures i
    ∷ c.number_item-4.ensures i
    ∷ c.rate_item.ensures i
    ∷ c.overload_item.ensures i
    ∷ c.word_item.ensures i
    ∷ c.word_item-2.ensures i
    ∷ c.word_item-3.ensures i
    ∷ c.word_item-4.ensures i
    ∷ []
