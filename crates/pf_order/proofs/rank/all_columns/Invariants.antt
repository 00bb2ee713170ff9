use Rattle.std.proofs.Common.{◌≡◌, map}
use Rattle.std.specs.List.{range_with_len}
use Rattle.pf_order.specs.RankSteps.{shown, with_values}
use Rattle.pf_order.proofs.rank.all_columns.Given as goal

abbrev pub invariant-loop-field : goal.invariant-loop-field
invariant-loop-field l = map shown l.columns.items ≡ with_values l.rules (range_with_len 0 l.field)
