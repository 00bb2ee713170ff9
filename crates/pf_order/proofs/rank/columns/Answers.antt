use Rattle.std.proofs.Common.{◌≡◌, ℕ, List, Option, ◌∙◌, ap, length, nat_lt, rules}
use Rattle.std.proofs.lemmas.List.{length-map}
use Rattle.std.proofs.lemmas.List.Sorted.{answers_always}
use Rattle.pf_order.specs.RankSteps.{shown}
use Rattle.pf_order.specs.Sorting.{sorted_by}
use Rattle.pf_order.specs.declared.column.Column.{Column}
use Rattle.pf_order.proofs.Ranks.{columns_sorted, seen_by_size}
use Rattle.pf_rule.specs.declared.field.FieldValue.{FieldValue}
use Rattle.std.proofs.Common.{Some, sym}
use Rattle.pf_order.proofs.rank.columns.Goals as goal

pub returns : goal.returns
returns c =
    let size = λ (column : Column). length column.values.keys in
    let told = answers_always _ _ _ (λ f a r g h. (let e : r ≡ length a.0.now.values.keys = search rules in e)) in
    seen_by_size shown size (λ column. sym (length-map column.values.keys Some)) c.in_ok-columns.columns.items c.sort_by_key.new.self.items (c.in_ok-sort_by_key.ensures.sorted size told) (c.in_ok-sort_by_key.ensures.stable size told)
    ∙ ap (sorted_by (λ (one other : ℕ × List (Option FieldValue)). nat_lt (length one.1) (length other.1))) c.in_ok-columns.ensures
    ∙ columns_sorted c.args.rules.now
