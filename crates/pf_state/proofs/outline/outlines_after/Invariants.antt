use Rattle.std.proofs.Common.{◌≡◌, ◌≤◌, length, drop, not}
use Rattle.std.specs.FinMap as finite
use Rattle.pf_base.specs.OrderedMap.{map_of}
use Rattle.pf_tree.specs.Order.{path_cmp}
use Rattle.pf_state.specs.Commits.{is_cleared, with_parts}
use Rattle.pf_state.specs.Outlines.{AreOutlined}
use Rattle.pf_state.proofs.outline.outlines_after.Given as goal

abbrev pub invariant-loop-place : goal.invariant-loop-place
invariant-loop-place l = record {
  within : l.place ≤ length l.parts;
  are : AreOutlined (with_parts l.rulesets (drop l.place l.parts) (finite.retain_keys l.rulesets (λ at. not (is_cleared l.parts at)))) (map_of path_cmp l.outlines);
}

abbrev pub decreases-loop-place : goal.decreases-loop-place
decreases-loop-place l = l.place
