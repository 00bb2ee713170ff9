use Rattle.std.proofs.Common.{sym, ap, ◌∙◌, refl}
use Rattle.std.specs.Ordering.{is_lt}
use Rattle.std.proofs.lemmas.Bool.{false≢true}
use Rattle.pf_tree.specs.Order.{path_cmp}
use Rattle.pf_calls.proofs.Placed.{all_ascend, ascend_more, neighbours, one_falls}
use Rattle.pf_calls.proofs.row.paths_ascend.Goals as goal

pub returns-then-not-is_lt : goal.returns-then-not-is_lt
returns-then-not-is_lt c =
    let rows = c.args.rows.now in
    let told = ap is_lt (neighbours rows c.loop-place.place c.index-rows-place.result c.index-rows-place-in-loop-place.result c.loop-place.auto.place c.loop-place-test.true c.index-rows-place.is c.index-rows-place-in-loop-place.is ∙ (λ i. path_cmp (c.index-rows-place.is i).path (c.index-rows-place-in-loop-place.is i).path) ∙ sym c.cmp.ensures) ∙ sym c.is_lt.ensures ∙ c.if-not-is_lt.true in
    (λ h. absurd (false≢true h), λ sorted. absurd (one_falls rows c.loop-place.place c.loop-place.auto.place c.loop-place-test.true told sorted))

pub loop-place-preserved : goal.loop-place-preserved
loop-place-preserved c =
    let rows = c.args.rows.now in
    let told = ap is_lt (neighbours rows c.loop-place.place c.index-rows-place.result c.index-rows-place-in-loop-place.result c.loop-place.auto.place c.loop-place-test.true c.index-rows-place.is c.index-rows-place-in-loop-place.is ∙ (λ i. path_cmp (c.index-rows-place.is i).path (c.index-rows-place-in-loop-place.is i).path) ∙ sym c.cmp.ensures) ∙ sym c.is_lt.ensures ∙ c.if-not-is_lt.false in
    ascend_more rows c.loop-place.place c.loop-place.auto.place c.loop-place.invariant told

pub returns : goal.returns
returns c = (λ h. all_ascend c.args.rows.now c.loop-place.place c.loop-place-test.false c.loop-place.invariant, λ sorted. refl)
