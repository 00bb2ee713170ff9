use Rattle.std.proofs.Common.{◌≡◌, ◌++◌, map, drop}
use Rattle.pf_state.specs.declared.ready.Staged.{Staged}
use Rattle.pf_state.specs.Commits.{paths_of}
use Rattle.pf_state.proofs.commit.paths_of.Given as goal

abbrev pub invariant-loop-part : goal.invariant-loop-part
invariant-loop-part l = l.paths.items ++ paths_of (drop l.part-index l.parts) ≡ paths_of l.parts
