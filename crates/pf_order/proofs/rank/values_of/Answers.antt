use Rattle.std.proofs.Common.{arith}
use Rattle.pf_order.proofs.Ranks.{values_more}
use Rattle.pf_order.proofs.rank.values_of.Goals as goal

pub loop-rule-preserved : goal.loop-rule-preserved
loop-rule-preserved c =
    values_more c.args.rules.now c.args.field c.loop-rule.rule-index c.rule-item.result c.field_value.result c.loop-rule.values.keys c.insert.new.self.keys (omega arith) c.rule-item.is c.field_value.ensures c.loop-rule.invariant c.in_ok-insert.ensures.keys
