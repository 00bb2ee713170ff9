use Rattle.std.proofs.Common.{arith}
use Rattle.pfctl.specs.Generating.{says}
use Rattle.pfctl.proofs.Counting.{counted_on, counted_to_end}
use Rattle.pfctl.proofs.generating.count.Goals as goal

pub loop-first-preserved : goal.loop-first-preserved
loop-first-preserved c =
    let judged = rw c.items.ensures at c.is_judged.ensures in
    record {
      counts = counted_on (says c.args.verdict) c.args.engine.now c.args.records.now c.loop-first.left.now c.in-Some.behind.now c.in-Some.first.now c.is_judged.result c.loop-first.count c.one_if-count.result c.in-Some.ensures.cases.0 judged c.one_if-count.ensures.value c.loop-first.invariant.counts;
      few =
          let before = c.loop-first.invariant.few in
          let one = c.one_if-count.ensures.few in
          let cut = c.in-Some.ensures.cases.1 in
          omega arith;
    }

pub returns : goal.returns
returns c =
    counted_to_end (says c.args.verdict) c.args.engine.now c.args.records.now c.loop-first.left.now c.loop-first.count c.in_default.ensures.cases c.loop-first.invariant.counts
