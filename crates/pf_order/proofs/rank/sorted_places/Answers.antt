use Rattle.std.proofs.Common.{◌≡◌, ℕ, List, Vec, Global, ◌∙◌, ap, rules}
use Rattle.std.proofs.lemmas.List.Sorted.{answers_always}
use Rattle.std.specs.Cmp.Lexicographic.{slice_cmp}
use Rattle.std.specs.Ordering.{is_lt, nat_cmp}
use Rattle.pf_order.specs.Sorting.{is_before, sorted_by}
use Rattle.pf_order.proofs.Ranks.{by_words, seen_by_words}
use Rattle.pf_order.proofs.rank.sorted_places.Goals as goal

pub returns : goal.returns
returns c =
    let lt = λ (one other : ℕ × Vec ℕ Global). is_lt (slice_cmp nat_cmp one.1.items other.1.items) in
    let order = by_words (λ (one : ℕ × Vec ℕ Global). one.1.items) in
    let told = answers_always _ _ _ (λ f a r g h. (let e : r ≡ slice_cmp nat_cmp a.0.now.1.items a.1.0.now.1.items = search rules in ap is_lt e)) in
    seen_by_words (λ (place : ℕ × Vec ℕ Global). (place.0, place.1.items)) c.in_ok-places.places.items c.sort_by.new.self.items (c.in_ok-sort_by.ensures.sorted lt order told) (c.in_ok-sort_by.ensures.stable lt order told)
    ∙ ap (sorted_by (λ (one other : ℕ × List ℕ). is_before one.1 other.1)) c.in_ok-places.ensures
