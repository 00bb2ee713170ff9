use Rattle.std.proofs.Common.{ℕ, List, ◌++◌, None, sym, ap, ◌∙◌}
use Rattle.pf_eval.specs.Rulesets.{named_children}
use Rattle.pf_eval.specs.Steps.{names_after}
use Rattle.pf_tree.specs.Paths.{child_names, next_name}
use Rattle.pf_engine.proofs.Showing.{all_names, name_less, name_more, named, names_done}
use Rattle.pf_engine.proofs.shows.children_of.Goals as goal

pub loop-name-init : goal.loop-name-init
loop-name-init c =
    ap (λ (names : List (List ℕ)). names ++ named (names_after None (child_names c.args.rulesets.now c.args.path.now))) c.new-names.ensures
    ∙ ap named (all_names (child_names c.args.rulesets.now c.args.path.now))

pub loop-name-smaller : goal.loop-name-smaller
loop-name-smaller c =
    name_less c.args.rulesets.now c.args.path.now c.loop-name.last c.in-Some.name
    (sym (c.in-Some.ensures ∙ ap (next_name c.args.rulesets.now c.args.path.now) c.as_ref.ensures.value))

pub loop-name-preserved : goal.loop-name-preserved
loop-name-preserved c =
    name_more c.args.rulesets.now c.args.path.now c.loop-name.last c.in-Some.name c.loop-name.names c.add_named.new.names (named_children c.args.rulesets.now c.args.path.now)
    (sym (c.in-Some.ensures ∙ ap (next_name c.args.rulesets.now c.args.path.now) c.as_ref.ensures.value))
    c.in_ok-add_named.ensures c.loop-name.invariant

pub returns : goal.returns
returns c =
    names_done c.args.rulesets.now c.args.path.now c.loop-name.last c.loop-name.names (named_children c.args.rulesets.now c.args.path.now)
    (sym (c.in_default.ensures ∙ ap (next_name c.args.rulesets.now c.args.path.now) c.as_ref.ensures.value))
    c.loop-name.invariant
