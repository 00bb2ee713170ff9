use Rattle.std.proofs.Common.{◌≡◌, ℕ, ◌+◌, List, length, drop, sym, ap, subst, ◌∙◌, not, arith}
use Rattle.std.specs.FinMap as fin
use Rattle.std.specs.FinMap.{FinMap}
use Rattle.pf_base.specs.OrderedMap.{map_of}
use Rattle.pf_tree.specs.Order.{path_cmp}
use Rattle.pf_state.specs.Commits.{is_cleared}
use Rattle.pf_state.specs.Outlines.{AreOutlined}
use Rattle.pf_state.specs.declared.outline.Outline.{Outline}
use Rattle.pf_state.proofs.Lists.{left, none_left}
use Rattle.pf_state.proofs.Outlining.{left_by, left_outlined}
use Rattle.pf_state.proofs.outline.outlines_left.Goals as goal

pub loop-path-preserved : goal.loop-path-preserved
loop-path-preserved c =
    let items = c.items-path-items.result.now in
    let old = map_of path_cmp c.loop-path.outlines in
    ap (left_by c.args.parts.now c.args.rulesets.now (drop (c.loop-path.path-index + 1) items)) c.in_ok-add_outline.ensures
    ∙ ap (λ (ps : List (List (List ℕ))). left_by c.args.parts.now c.args.rulesets.now ps old) (sym (left items c.loop-path.path-index c.path-item.result c.loop-path-test.true c.path-item.is))
    ∙ c.loop-path.invariant

pub returns : goal.returns
returns c =
    let items = c.items-path-items.result.now in
    let end = ap (λ (ps : List (List (List ℕ))). left_by c.args.parts.now c.args.rulesets.now ps (map_of path_cmp c.loop-path.outlines)) (sym (none_left items c.loop-path.path-index (omega arith))) ∙ c.loop-path.invariant in
    let keys = c.items-path-items.ensures ∙ c.in_ok-paths.ensures in
    subst (λ (m : FinMap path_cmp Outline). AreOutlined (fin.retain_keys c.args.rulesets.now (λ at. not (is_cleared c.args.parts.now at))) m)
    (sym (end ∙ ap (λ (ps : List (List (List ℕ))). left_by c.args.parts.now c.args.rulesets.now ps (map_of path_cmp c.new-outlines.result)) keys))
    (left_outlined c.args.parts.now c.args.rulesets.now (map_of path_cmp c.new-outlines.result) (ap (fin.from_entries {R = path_cmp}) c.new-outlines.ensures.empty))
