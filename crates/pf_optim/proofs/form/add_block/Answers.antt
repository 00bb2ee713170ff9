use Rattle.std.proofs.Common.{ℕ, List, length, ap, ◌∙◌, arith}
use Rattle.std.specs.List.{zip}
use Rattle.pf_optim.specs.FormSteps.{shown}
use Rattle.pf_optim.specs.Optimised.{ordered}
use Rattle.pf_optim.proofs.Forming.{form_added, merged_small}
use Rattle.pf_rule.specs.declared.rule.Rule.{Rule}
use Rattle.pf_optim.proofs.form.add_block.Goals as goal

pub ordered-requires-clause-few : goal.ordered-requires-clause-few
ordered-requires-clause-few c =
    let small = merged_small c.combined_rules_keep_what_others_had.ensures.few c.items-2.result.now c.items-3.result.now _ c.in_ok-merged.merged c.in_ok-merged.ensures in
    let kept = ap length (c.items-2.ensures ∙ c.in_ok-kept.ensures.rules) in
    omega (arith, small, kept, ap length c.items-4.ensures, c.kept_rules_are_of_the_block.ensures.fewer c.args.rules.now, c.requires.numbers)

pub returns : goal.returns
returns c =
    let merged = c.in_ok-merged.merged in
    form_added c.args.level c.args.rules.now c.args.weights.now (shown c.args.form.now) c.append_copy.new.self c.append_tables.new.tables _ c.items-2.result.now c.items-3.result.now merged c.items-6.result.now
    c.requires.weighed
    (ap length c.items.ensures)
    (c.items-2.ensures ∙ c.in_ok-kept.ensures.rules)
    (c.items-3.ensures ∙ c.in_ok-kept.ensures.weights)
    c.in_ok-merged.ensures
    (c.items-6.ensures ∙ c.in_ok-sorted.ensures ∙ ap (λ (t : List Rule). ordered c.args.level (zip t c.items-5.result.now)) c.items-4.ensures ∙ ap (λ (t : List ℕ). ordered c.args.level (zip merged.rules t)) c.items-5.ensures)
    c.in_ok-append_copy.ensures.ok
    c.in_ok-append_tables.ensures
