use Rattle.std.proofs.Common.{◌∙◌}
use Rattle.pf_optim.proofs.Forming.{by_gain, by_weights}
use Rattle.pf_optim.proofs.form.ordered.Goals as goal

pub returns-then-goes_by_weight : goal.returns-then-goes_by_weight
returns-then-goes_by_weight c =
    c.in_ok-sorted.ensures ∙ by_weights c.args.level c.args.rules.now c.args.weights.now c.goes_by_weight.result c.requires.weighed c.goes_by_weight.ensures c.if-goes_by_weight.true

pub returns : goal.returns
returns c =
    c.in_ok-sorted-2.ensures ∙ by_gain c.args.level c.args.rules.now c.args.weights.now c.goes_by_weight.result c.requires.weighed c.goes_by_weight.ensures c.if-goes_by_weight.false
