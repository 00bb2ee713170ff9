use Rattle.std.proofs.lemmas.Result.{err_from_is_err_and}
use Rattle.std.proofs.Common.{sym, ◌∙◌, arith}
use Rattle.pf_syntax.proofs.Repeating.{kept_ends, kept_next, kept_out, kept_stops, item_more, item_stops}
use Rattle.pf_syntax.proofs.row.take_to_end.Goals as goal

pub returns-then-is_at_end : goal.returns-then-is_at_end
returns-then-is_at_end g c = kept_ends c.loop.invariant (omega (arith, c.loop-test.true)) (sym c.is_at_end.ensures ∙ c.if-is_at_end.true)

pub returns-in_err-value : goal.returns-in_err-value
returns-in_err-value g c =
    let p = err_from_is_err_and c.from_residual.result c.from_residual.ensures.1 in
    rw (p.1, p.2) (kept_stops c.in_err-value.field-0.0 c.loop.invariant c.loop-test.true (sym c.is_at_end.ensures ∙ c.if-is_at_end.false) c.in_err-value.ensures)

pub loop-preserved : goal.loop-preserved
loop-preserved g c = kept_next c.loop.invariant (sym c.is_at_end.ensures ∙ c.if-is_at_end.false) c.in_ok-value.ensures

pub returns-then-is_at_end-2 : goal.returns-then-is_at_end-2
returns-then-is_at_end-2 g c = kept_ends c.loop.invariant (omega (arith, c.loop-test.false, c.loop.auto.counter-end)) (sym c.is_at_end-2.ensures ∙ c.if-is_at_end-2.true)

pub returns-else-is_at_end-2 : goal.returns-else-is_at_end-2
returns-else-is_at_end-2 g c = kept_out c.loop.invariant (omega (arith, c.loop-test.false, c.loop.auto.counter-end)) (sym c.is_at_end-2.ensures ∙ c.if-is_at_end-2.false)
