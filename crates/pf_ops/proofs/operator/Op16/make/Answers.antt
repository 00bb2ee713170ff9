use Rattle.std.proofs.Common.{arith}
use Rattle.pf_ops.proofs.Operators.{value_of_op}
use Rattle.pf_ops.proofs.operator.Op16.make.Goals as goal

pub returns-clause-value : goal.returns-clause-value
returns-clause-value c =
    value_of_op _ c.args.kind c.args.low c.args.high c.make.result (omega arith) (omega arith) c.make.ensures.kept c.make.ensures.holds
