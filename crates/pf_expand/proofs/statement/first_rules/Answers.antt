use Rattle.std.proofs.Common.{◌≡◌, ◌∙◌, IfOk, List, map, subst}
use Rattle.pf_rule.specs.declared.rule.Rule.{Rule}
use Rattle.pf_expand.specs.Expansion.{rules_of}
use Rattle.pf_expand.specs.Rules.{effect_of, rule_of}
use Rattle.pf_expand.proofs.statement.first_rules.Goals as goal

pub returns : goal.returns
unfolding rules_of
returns c =
    let effect = c.effect_of-effect.ensures ∙ (λ i. effect_of c.args.form.now c.args.call.now c.args.defaults.now (c.items.ensures i) (c.items-2.ensures i)) in
    let found = c.items-3.ensures ∙ c.in_ok-found.ensures in
    subst (λ (z : List Rule). IfOk c.rules_of.result (λ rules. rules ≡ z)) (λ i. map (rule_of c.args.form.now (effect i)) (found i)) c.rules_of.ensures
