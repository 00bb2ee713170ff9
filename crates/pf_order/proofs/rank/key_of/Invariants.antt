use Rattle.std.proofs.Common.{◌≡◌, ◌++◌, drop, map}
use Rattle.pf_order.specs.RankSteps.{key_by, shown}
use Rattle.pf_order.proofs.rank.key_of.Given as goal

abbrev pub invariant-loop-column : goal.invariant-loop-column
invariant-loop-column l = l.key.items ++ key_by (map shown (drop l.column-index l.columns)) l.rule ≡ key_by (map shown l.columns) l.rule
