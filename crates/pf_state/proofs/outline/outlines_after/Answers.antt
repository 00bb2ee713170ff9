use Rattle.std.proofs.Common.{◌≡◌, ℕ, ◌+◌, ◌-◌, List, length, refl, arith}
use Rattle.std.specs.FinMap as fin
use Rattle.std.proofs.Common.{not}
use Rattle.pf_base.specs.OrderedMap.{map_of}
use Rattle.pf_tree.specs.Order.{path_cmp}
use Rattle.pf_state.specs.Commits.{is_cleared}
use Rattle.pf_state.proofs.Outlining.{none_outlined, outlined_on}
use Rattle.pf_state.proofs.outline.outlines_after.Goals as goal

pub loop-place-init : goal.loop-place-init
loop-place-init c = record {
  within = omega arith;
  are = none_outlined c.args.rulesets.now (fin.retain_keys c.args.rulesets.now (λ at. not (is_cleared c.args.parts.now at))) c.args.parts.now (length c.args.parts.now) _ refl c.in_ok-outlines.ensures;
}

pub loop-place-preserved : goal.loop-place-preserved
loop-place-preserved c = record {
  within = omega arith;
  are = outlined_on c.args.rulesets.now (fin.retain_keys c.args.rulesets.now (λ at. not (is_cleared c.args.parts.now at))) c.args.parts.now c.args.shelves.now c.loop-place.place (c.loop-place.place - 1)
      c.index-parts-place.result c.index-shelves-place.result (map_of path_cmp c.loop-place.outlines) (map_of path_cmp c.put_outline.new.outlines)
      c.requires (omega arith) (omega arith) c.index-parts-place.is c.index-shelves-place.is c.loop-place.invariant.are c.in_ok-put_outline.ensures;
}
