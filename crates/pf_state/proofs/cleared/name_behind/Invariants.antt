use Rattle.std.proofs.Common.{◌≡◌, length}
use Rattle.pf_tree.specs.Paths.{name_behind}
use Rattle.pf_state.proofs.cleared.name_behind.Given as goal

abbrev pub invariant-loop-first : goal.invariant-loop-first
invariant-loop-first l = name_behind l.path l.at ≡ name_behind l.initial.path l.initial.at

abbrev pub decreases-loop-first : goal.decreases-loop-first
decreases-loop-first l = length l.path
