use Rattle.std.proofs.Common.{length, ap, ◌∙◌, arith}
use Rattle.std.proofs.lemmas.List.Sorted.{length_permutation}
use Rattle.pf_order.specs.Order.{sorted_order}
use Rattle.pf_order.proofs.Sums.{permuted_sorted}
use Rattle.pf_order.proofs.rank.order_gain.Goals as goal

pub gain-requires-2 : goal.gain-requires-2
gain-requires-2 c =
    let rules = c.args.rules.now in
    let sorted = ap length (c.items.ensures ∙ c.in_ok-sorted.ensures) in
    let long = length_permutation rules (sorted_order rules) (permuted_sorted _ rules) in
    omega (arith, sorted, long)
