use Rattle.std.proofs.Common.{◌≡◌, drop}
use Rattle.pf_base.specs.OrderedMap.{map_of}
use Rattle.pf_tree.specs.Order.{path_cmp}
use Rattle.pf_state.proofs.Outlining.{left_by}
use Rattle.pf_state.proofs.outline.outlines_left.Given as goal

abbrev pub invariant-loop-path : goal.invariant-loop-path
invariant-loop-path l =
    left_by l.parts l.rulesets (drop l.path-index l.path-items) (map_of path_cmp l.outlines)
    ≡ left_by l.parts l.rulesets l.path-items (map_of path_cmp l.initial.outlines)
