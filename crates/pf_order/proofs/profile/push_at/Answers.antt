use Rattle.std.proofs.Common.{◌++◌, Option, sym, ap, ◌∙◌, append-nil}
use Rattle.std.proofs.lemmas.Option.{slice_get_past}
use Rattle.std.specs.Option.{option_to_list}
use Rattle.pf_rule.specs.declared.rule.Rule.{Rule}
use Rattle.pf_order.proofs.profile.push_at.Goals as goal

pub returns-else-place-rules : goal.returns-else-place-rules
returns-else-place-rules c =
    sym (ap (λ (o : Option Rule). c.args.found.now ++ option_to_list o) (slice_get_past c.args.rules.now c.args.place c.if-place-rules.false)
    ∙ append-nil c.args.found.now)
