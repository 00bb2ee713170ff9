use Rattle.std.proofs.Common.{subst, sym, ◌∙◌, arith, inl, inr}
use Rattle.std.proofs.lemmas.Bool.{false≢true}
use Rattle.pf_tree.specs.Order.{path_cmp}
use Rattle.pf_calls.specs.Graph.{IsFirstOnCycle, OnCycle}
use Rattle.pf_calls.specs.Calls.{graph_of}
use Rattle.pf_calls.specs.Numbered.{numbered}
use Rattle.pf_calls.proofs.Answered.{first_path, some_cycle}
use Rattle.pf_calls.proofs.Placed.{path_here}
use Rattle.pf_calls.proofs.Reached.{below_or_here}
use Rattle.pf_calls.proofs.calls.first_on_cycle.Goals as goal

pub returns-then-branch : goal.returns-then-branch
returns-then-branch c =
    let here = path_here c.args.rows.now c.loop-place.place c.index-rows-place.result c.loop-place-test.true c.index-rows-place.is in
    subst (IsFirstOnCycle (graph_of c.args.rows.now) path_cmp) here
    (first_path c.args.rows.now c.args.links.now c.requires.copy c.requires.sorted c.requires.long c.loop-place.place c.loop-place-test.true (c.in_ok-is_on_cycle.ensures.0 c.if-branch.true) c.loop-place.invariant)

pub loop-place-preserved : goal.loop-place-preserved
loop-place-preserved c = λ i below cycle.
    elim (below_or_here i c.loop-place.place below) [
      | inl before ↦ c.loop-place.invariant i before cycle
      | inr here ↦ false≢true (sym c.if-branch.false ∙ c.in_ok-is_on_cycle.ensures.1 (subst (OnCycle (numbered c.args.links.now)) (sym here) cycle))
    ]

pub unreachable-requires : goal.unreachable-requires
unreachable-requires c =
    some_cycle c.args.rows.now c.args.links.now c.requires.copy c.requires.long c.requires.endless (λ i lt cycle. c.loop-place.invariant i (omega (arith, c.requires.long)) cycle)
