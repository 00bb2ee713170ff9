use Rattle.std.proofs.Common.{◌≡◌, ℕ, List, length, Option, sym, ap, ◌∙◌}
use Rattle.std.specs.Prelude.{if◌then◌else◌}
use Rattle.std.specs.FinMap as fin
use Rattle.pf_base.specs.OrderedMap.{map_of}
use Rattle.pf_optim.specs.declared.node.Node.{Node}
use Rattle.pf_rule.specs.declared.rule.Rule.{Rule}
use Rattle.pf_shelf.specs.Shelf.{total}
use Rattle.pf_tree.specs.Order.{path_cmp}
use Rattle.pf_state.specs.Outlines.{with_outline}
use Rattle.pf_state.specs.Rulesets.{calls_in}
use Rattle.pf_state.specs.declared.outline.Outline.{Outline}
use Rattle.pf_state.proofs.outline.add_outline.Goals as goal

pub returns-in_ok-insert : goal.returns-in_ok-insert
returns-in_ok-insert c =
    let old = map_of path_cmp c.args.outlines.now in
    let make : List Rule → Outline = λ rules. record { rules = length rules; entries = total c.in-Some.node.now.shelf; calls = calls_in rules } in
    c.path_map_laws.ensures.inserted c.args.outlines.now c.insert.new.self c.args.path.now c.in_ok-made.made c.in_ok-insert.ensures.updates
    ∙ ap (λ (o : Outline). fin.insert old c.args.path.now o) (c.in_ok-made.ensures ∙ ap make c.written.ensures.rules)
    ∙ ap (with_outline old c.args.path.now) c.in-Some.ensures
    ∙ ap (λ b. if b then old else with_outline old c.args.path.now (fin.get c.args.rulesets.now c.args.path.now)) (sym c.if-is_cleared.false ∙ c.is_cleared.ensures)
