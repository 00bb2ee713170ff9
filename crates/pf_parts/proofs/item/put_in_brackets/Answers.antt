use Rattle.std.proofs.Common.{arith}
use Rattle.pf_parts.proofs.BracketLemmas.{closed, left_out}
use Rattle.pf_parts.proofs.item.put_in_brackets.Goals as goal

pub returns-in_ok-put-clause-ok : goal.returns-in_ok-put-clause-ok
returns-in_ok-put-clause-ok c =
    closed c.args.items.now c.loop-item.item-index _ _ _ _ (omega arith) c.if-some.true c.loop-item.invariant.whole c.in_ok-put.ensures.ok

pub returns-else-some-clause-ok : goal.returns-else-some-clause-ok
returns-else-some-clause-ok c =
    left_out c.args.items.now c.loop-item.item-index _ _ _ (omega arith) c.if-some.false c.loop-item.invariant.whole
