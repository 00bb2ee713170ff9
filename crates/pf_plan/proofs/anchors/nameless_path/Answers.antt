use Rattle.std.proofs.Common.{◌≡◌, List, [], ℕ, Option, Some, None, sym, ap, ◌∙◌}
use Rattle.pf_base.specs.Path.{child_path}
use Rattle.pf_plan.proofs.Nameless.{nameless_child}
use Rattle.pf_plan.proofs.anchors.nameless_path.Goals as goal

pub unreachable-requires : goal.unreachable-requires
unreachable-requires c =
    let name = c.in_ok-name.ensures in
    let is = c.child.ensures ∙ ap (λ (at : List (List ℕ)). child_path at c.in_ok-name.name) c.main.ensures ∙ ap (child_path []) name ∙ nameless_child c.args.number c.ranges.number.fits in
    let none = c.in-None.is in
    cc

pub returns : goal.returns
returns c =
    let name = c.in_ok-name.ensures in
    let is = c.child.ensures ∙ ap (λ (at : List (List ℕ)). child_path at c.in_ok-name.name) c.main.ensures ∙ ap (child_path []) name ∙ nameless_child c.args.number c.ranges.number.fits in
    let some = c.in-Some.is in
    cc
