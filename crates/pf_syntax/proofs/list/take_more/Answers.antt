use Rattle.std.proofs.lemmas.Result.{err_from_is_err_and}
use Rattle.std.proofs.Common.{sym, ◌∙◌, arith}
use Rattle.pf_syntax.proofs.Repeating.{kept_ends, kept_next, kept_out, kept_stops, item_more, item_stops}
use Rattle.pf_syntax.proofs.list.take_more.Goals as goal

pub returns-then-is_at_sign : goal.returns-then-is_at_sign
returns-then-is_at_sign g c = kept_ends c.loop.invariant (omega (arith, c.loop-test.true)) (sym c.is_at_sign.ensures ∙ c.if-is_at_sign.true)

pub returns-in_err-next : goal.returns-in_err-next
returns-in_err-next g c =
    let p = err_from_is_err_and c.from_residual-in_err-next.result c.from_residual-in_err-next.ensures.1 in
    rw (p.1, p.2) (kept_stops c.in_err-next.field-0.0 c.loop.invariant c.loop-test.true (sym c.is_at_sign.ensures ∙ c.if-is_at_sign.false) (item_stops (g.I.Take.grammar c.args.items.now) c.loop.list c.loop.cursor c.in_err-next.field-0.0 c.in_err-next.ensures))

pub loop-preserved : goal.loop-preserved
loop-preserved g c = kept_next c.loop.invariant (sym c.is_at_sign.ensures ∙ c.if-is_at_sign.false) (item_more (g.I.Take.grammar c.args.items.now) c.loop.list _ c.in_ok-next.next c.loop.cursor _ c.in_ok-next.ensures c.in_ok-push-2.ensures.ok)

pub returns-then-is_at_sign-2 : goal.returns-then-is_at_sign-2
returns-then-is_at_sign-2 g c = kept_ends c.loop.invariant (omega (arith, c.loop-test.false, c.loop.auto.counter-end)) (sym c.is_at_sign-2.ensures ∙ c.if-is_at_sign-2.true)

pub returns-else-is_at_sign-2 : goal.returns-else-is_at_sign-2
returns-else-is_at_sign-2 g c = kept_out c.loop.invariant (omega (arith, c.loop-test.false, c.loop.auto.counter-end)) (sym c.is_at_sign-2.ensures ∙ c.if-is_at_sign-2.false)
