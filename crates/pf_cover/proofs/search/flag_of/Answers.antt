use Rattle.std.proofs.Common.{sym, ◌∙◌}
use Rattle.pf_cover.proofs.Searching.{placed_drops}
use Rattle.pf_cover.proofs.search.flag_of.Goals as goal

pub returns-then-drops : goal.returns-then-drops
returns-then-drops c =
    sym (placed_drops c.args.rules.now c.args.hint c.index-rules-hint.result (c.args.place, c.args.rule.now) c.if-hint-rules.true c.index-rules-hint.is (sym c.drops.ensures ∙ c.if-drops.true))
