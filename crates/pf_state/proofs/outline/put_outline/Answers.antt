use Rattle.std.proofs.Common.{◌≡◌, ℕ, List, length, Option, sym, ap, ◌∙◌}
use Rattle.std.specs.Option.{option_map}
use Rattle.std.specs.FinMap as fin
use Rattle.pf_base.specs.OrderedMap.{map_of}
use Rattle.pf_rule.specs.declared.rule.Rule.{Rule}
use Rattle.pf_shelf.specs.Shelf.{total}
use Rattle.pf_tree.specs.Meaning.{put_payload}
use Rattle.pf_tree.specs.Order.{path_cmp}
use Rattle.pf_state.specs.Outlines.{outline_of}
use Rattle.pf_state.specs.Rulesets.{calls_in}
use Rattle.pf_state.specs.declared.outline.Outline.{Outline}
use Rattle.pf_state.proofs.Outlining.{bare_none, full_some}
use Rattle.pf_state.proofs.outline.put_outline.Goals as goal

pub returns-then-is_bare : goal.returns-then-is_bare
returns-then-is_bare c =
    c.path_map_laws.ensures.removed c.args.outlines.now c.remove.new.self c.args.part.now.path c.remove.ensures.updates
    ∙ ap (λ (o : Option Outline). put_payload (map_of path_cmp c.args.outlines.now) c.args.part.now.path o)
    (sym (ap (option_map outline_of) (bare_none (record { rules = c.args.part.now.rules; shelf = c.args.shelf.now }) c.is_bare.result c.is_bare.ensures c.if-is_bare.true)))

pub returns : goal.returns
returns c =
    let make : List Rule → Outline = λ rules. record { rules = length rules; entries = total c.args.shelf.now; calls = calls_in rules } in
    c.path_map_laws.ensures.inserted c.args.outlines.now c.insert.new.self c.args.part.now.path c.in_ok-made.made c.in_ok-insert.ensures.updates
    ∙ ap (λ (o : Outline). fin.insert (map_of path_cmp c.args.outlines.now) c.args.part.now.path o) (c.in_ok-made.ensures ∙ ap make c.written.ensures.rules)
    ∙ ap (λ (o : Option Outline). put_payload (map_of path_cmp c.args.outlines.now) c.args.part.now.path o)
    (sym (ap (option_map outline_of) (full_some (record { rules = c.args.part.now.rules; shelf = c.args.shelf.now }) c.is_bare.result c.is_bare.ensures c.if-is_bare.false)))
