use Rattle.std.proofs.Common.{◌≡◌, ◌++◌, map}
use Rattle.std.specs.Map.Iter.{deref_pair}
use Rattle.pf_tree.proofs.Listed.{listed}
use Rattle.pf_tree.proofs.node.Node.+add_paths.Given as goal

abbrev pub invariant-loop-name : goal.invariant-loop-name
invariant-loop-name g l = l.paths ≡ l.initial.paths ++ listed (λ child. child.value.payloads) l.at (map deref_pair l.yielded)
