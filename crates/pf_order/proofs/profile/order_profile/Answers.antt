use Rattle.std.proofs.Common.{ℕ, ◌∙◌, ap}
use Rattle.std.specs.List.{filter_map, slice_get}
use Rattle.pf_order.proofs.Places.{profile_places}
use Rattle.pf_order.proofs.profile.order_profile.Goals as goal

pub returns : goal.returns
returns c =
    c.in_ok-ordered.ensures
    ∙ ap (filter_map (λ (place : ℕ × ℕ). slice_get c.args.rules.now place.0)) (c.deref.ensures.value ∙ c.in_ok-places.ensures)
    ∙ profile_places c.args.rules.now c.args.weights.now c.requires
