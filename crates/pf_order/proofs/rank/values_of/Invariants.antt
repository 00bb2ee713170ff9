use Rattle.std.proofs.Common.{◌≡◌, map, take, Some}
use Rattle.pf_order.specs.Order.{values_of}
use Rattle.pf_order.proofs.rank.values_of.Given as goal

abbrev pub invariant-loop-rule : goal.invariant-loop-rule
invariant-loop-rule l = map Some l.values.keys ≡ values_of (take l.rule-index l.rules) l.field
