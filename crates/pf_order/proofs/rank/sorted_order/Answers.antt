use Rattle.std.proofs.Common.{ℕ, List, Vec, Global, ◌∙◌, ap, map}
use Rattle.std.specs.List.{filter_map, slice_get}
use Rattle.pf_order.specs.RankSteps.{shown}
use Rattle.pf_order.proofs.Ranks.{found_beside, found_in_order}
use Rattle.pf_order.proofs.rank.sorted_order.Goals as goal

pub returns : goal.returns
returns c =
    let rules = c.args.rules.now in
    c.in_ok-ordered.ensures
    ∙ found_beside (λ (key : Vec ℕ Global). key.items) rules c.deref-2.result.now
    ∙ ap (filter_map (λ (place : ℕ × List ℕ). slice_get rules place.0)) (ap (map (λ (place : ℕ × Vec ℕ Global). (place.0, place.1.items))) c.deref-2.ensures.value ∙ c.in_ok-places.ensures)
    ∙ found_in_order rules (map shown c.deref.result.now) (ap (map shown) c.deref.ensures.value ∙ c.in_ok-columns.ensures)
