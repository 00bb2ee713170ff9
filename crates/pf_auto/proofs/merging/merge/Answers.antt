use Rattle.std.proofs.Common.{◌≡◌, ◌+◌, ℕ, List, length, sum, ap, ◌∙◌, arith}
use Rattle.std.specs.List.{zip}
use Rattle.pf_auto.proofs.Putting.{first_step, merged_twice, nothing_with}
use Rattle.pf_auto.specs.Merged.{merged_at}
use Rattle.pf_auto.specs.Putting.{behind}
use Rattle.pf_auto.specs.declared.place.End.TheVariants.{Target}
use Rattle.pf_rule.specs.declared.rule.Rule.{Rule}
use Rattle.pf_auto.proofs.merging.merge.Goals as goal

pub merge_at-requires-2-clause-same : goal.merge_at-requires-2-clause-same
merge_at-requires-2-clause-same c =
    let f = first_step c.args.rules.now c.args.weights.now c.args.first_number c.new-tables.result c.in_ok-first.first c.new-tables.ensures c.in_ok-first.ensures c.requires.same in
    let rules : length c.items.result.now ≡ length c.in_ok-first.first.rules = ap length c.items.ensures in
    let weights : length c.items-2.result.now ≡ length c.in_ok-first.first.weights = ap length c.items-2.ensures in
    omega (arith, f.each)

pub merge_at-requires-2-clause-few : goal.merge_at-requires-2-clause-few
merge_at-requires-2-clause-few c =
    let f = first_step c.args.rules.now c.args.weights.now c.args.first_number c.new-tables.result c.in_ok-first.first c.new-tables.ensures c.in_ok-first.ensures c.requires.same in
    let weights : sum c.items-2.result.now ≡ sum c.args.weights.now = ap sum c.items-2.ensures ∙ f.total in
    omega (arith, c.requires.few)

pub merge_at-requires-2-clause-numbers : goal.merge_at-requires-2-clause-numbers
merge_at-requires-2-clause-numbers c =
    let f = first_step c.args.rules.now c.args.weights.now c.args.first_number c.new-tables.result c.in_ok-first.first c.new-tables.ensures c.in_ok-first.ensures c.requires.same in
    let rules : length c.items.result.now ≡ length c.in_ok-first.first.rules = ap length c.items.ensures in
    omega (arith, f.few, c.requires.numbers)

pub returns : goal.returns
returns c =
    let one = c.in_ok-first.first in
    merged_twice c.args.rules.now c.args.weights.now c.args.first_number c.new-tables.result one c.in_ok-second.second c.new-tables.ensures c.in_ok-first.ensures
    (c.in_ok-second.ensures
    ∙ ap (λ (t : List Rule). behind (nothing_with one.tables) (merged_at Target (c.args.first_number + length one.tables) (zip t c.items-2.result.now))) c.items.ensures
    ∙ ap (λ (t : List ℕ). behind (nothing_with one.tables) (merged_at Target (c.args.first_number + length one.tables) (zip one.rules t))) c.items-2.ensures)
