use Rattle.std.proofs.Common.{◌≡◌, ◌++◌, map, drop}
use Rattle.pf_state.specs.Commits.{shelf_of}
use Rattle.pf_state.proofs.commit.shelves_of.Given as goal

abbrev pub invariant-loop-part : goal.invariant-loop-part
invariant-loop-part l = l.shelves.items ++ map (shelf_of l.rulesets) (drop l.part-index l.parts) ≡ map (shelf_of l.rulesets) l.parts
