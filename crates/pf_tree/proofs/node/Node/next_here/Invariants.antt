use Rattle.std.proofs.Common.{◌≡◌, true, ◌==◌}
use Rattle.std.specs.FinMap as fin
use Rattle.std.specs.List.{list_all}
use Rattle.pf_tree.proofs.node.Node.next_here.Given as goal

abbrev pub invariant-loop-name : goal.invariant-loop-name
invariant-loop-name g l = list_all (λ entry. fin.len entry.1.now.value.payloads == 0) l.yielded ≡ true
