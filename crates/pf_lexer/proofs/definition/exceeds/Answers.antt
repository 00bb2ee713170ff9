-- The sum of the lengths, each with one more, says how long the value is.
use Rattle.std.proofs.Common.{length, ap, arith}
use Rattle.std.proofs.lemmas.List.{drop_all}
use Rattle.pf_lexer.proofs.ValueTexts.{total, total_none, total_drop, exceeds_true, exceeds_false}
use Rattle.pf_lexer.proofs.definition.exceeds.Goals as goal

pub returns-then-text-gt-MOST_BYTES : goal.returns-then-text-gt-MOST_BYTES
returns-then-text-gt-MOST_BYTES c =
    let values = c.args.values.now in
    exceeds_true values (omega (arith, total_drop values c.loop-value.value-index c.value-item.result c.loop-value-test.true c.value-item.is, ap length c.text-text.ensures))

pub returns-then-length : goal.returns-then-length
returns-then-length c =
    let values = c.args.values.now in
    exceeds_true values (omega (arith, total_drop values c.loop-value.value-index c.value-item.result c.loop-value-test.true c.value-item.is, ap length c.text-text.ensures))

pub loop-value-preserved : goal.loop-value-preserved
loop-value-preserved c =
    let values = c.args.values.now in
    record {
      counted = omega (arith, total_drop values c.loop-value.value-index c.value-item.result c.loop-value-test.true c.value-item.is, ap length c.text-text.ensures);
      few = omega arith;
    }

pub returns : goal.returns
returns c =
    let values = c.args.values.now in
    exceeds_false values (omega (arith, ap total (drop_all c.loop-value.value-index values c.loop-value-test.false), total_none))
