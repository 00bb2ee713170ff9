use Rattle.std.proofs.Common.{◌≡◌, true, ◌==◌}
use Rattle.std.specs.FinMap as fin
use Rattle.std.specs.List.{list_all}
use Rattle.pf_tree.proofs.node.Node.+is_bare.Given as goal

abbrev pub decreases-is_bare : goal.decreases-is_bare
decreases-is_bare g l = goal.size-is_bare g l

abbrev pub invariant-loop-child : goal.invariant-loop-child
invariant-loop-child g l = list_all (λ child. fin.len child.now.value.payloads == 0) l.yielded ≡ true
