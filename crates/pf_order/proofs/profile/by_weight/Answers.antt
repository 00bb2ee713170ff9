use Rattle.std.proofs.Common.{◌≡◌, ℕ, nat_lt, ◌∙◌, ap, rules}
use Rattle.std.specs.Ordering.{is_lt, nat_cmp}
use Rattle.std.proofs.lemmas.List.Sorted.{IsStrictWeakOrder-by_number, IsStrictWeakOrder-flip, answers_always}
use Rattle.pf_order.specs.Sorting.{sorted_by}
use Rattle.pf_order.proofs.Places.{less_by_cmp}
use Rattle.pf_order.proofs.Stable.{stable_sort}
use Rattle.pf_order.proofs.profile.by_weight.Goals as goal

pub returns : goal.returns
returns c =
    let lt = λ (one other : ℕ × ℕ). nat_lt other.1 one.1 in
    let order = IsStrictWeakOrder-flip (λ (one other : ℕ × ℕ). nat_lt one.1 other.1) (IsStrictWeakOrder-by_number (λ (item : ℕ × ℕ). item.1)) in
    let told = answers_always _ _ _ (λ f a r g h. (let e : r ≡ nat_cmp a.1.0.now.1 a.0.now.1 = search rules in ap is_lt e ∙ less_by_cmp a.1.0.now.1 a.0.now.1)) in
    stable_sort lt order c.in_ok-places.places.items c.sort_by.new.self.items (c.in_ok-sort_by.ensures.sorted lt order told) (c.in_ok-sort_by.ensures.stable lt order told)
    ∙ ap (sorted_by lt) c.in_ok-places.ensures
