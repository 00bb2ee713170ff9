use Rattle.std.proofs.Common.{List, Option, ◌∙◌, ap, map}
use Rattle.std.proofs.lemmas.List.{map-append}
use Rattle.pf_order.specs.RankSteps.{shown}
use Rattle.pf_order.proofs.Ranks.{with_more}
use Rattle.pf_order.proofs.rank.all_columns.Goals as goal
use Rattle.pf_rule.specs.declared.field.FieldValue.{FieldValue}

pub loop-field-preserved : goal.loop-field-preserved
loop-field-preserved c =
    ap (map shown) c.in_ok-push.ensures.items
    ∙ map-append shown c.loop-field.columns.items _
    ∙ with_more c.args.rules.now c.loop-field.field _ _ c.loop-field.invariant (ap (λ (t : List (Option FieldValue)). (c.loop-field.field, t)) c.in_ok-values.ensures)
