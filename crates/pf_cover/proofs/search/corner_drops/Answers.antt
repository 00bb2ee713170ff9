use Rattle.std.proofs.Common.{sym, ◌∙◌}
use Rattle.pf_cover.proofs.Searching.{drops_at}
use Rattle.pf_cover.proofs.search.corner_drops.Goals as goal

pub returns : goal.returns
returns c =
    c.drops.ensures
    ∙ sym (drops_at c.args.rules.now c.args.place c.args.other.now c.index-rules-corner.result c.args.corner.now c.requires c.index-rules-corner.is)
