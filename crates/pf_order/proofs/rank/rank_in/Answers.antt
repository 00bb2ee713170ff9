use Rattle.std.proofs.Common.{sym, ◌∙◌}
use Rattle.pf_order.proofs.Ranks.{place_none, place_some, rank_found}
use Rattle.pf_order.proofs.rank.rank_in.Goals as goal

pub returns-in-Some : goal.returns-in-Some
returns-in-Some c =
    place_some _ c.args.column.now.values.keys c.in-Some.place (sym c.in-Some.ensures.index)
    ∙ rank_found c.args.column.now.field c.args.column.now.values.keys c.args.rule.now c.field_value-value.result c.field_value-value.ensures

pub returns-in-None : goal.returns-in-None
returns-in-None c =
    c.len.ensures.len
    ∙ place_none _ c.args.column.now.values.keys (sym c.in-None.ensures.index)
    ∙ rank_found c.args.column.now.field c.args.column.now.values.keys c.args.rule.now c.field_value-value.result c.field_value-value.ensures
