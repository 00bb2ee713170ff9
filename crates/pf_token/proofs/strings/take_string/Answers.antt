-- At the end nothing more is found.
use Rattle.std.proofs.Common.{sym, ◌∙◌}
use Rattle.pf_token.proofs.QuotedLemmas.{cut_off_is}
use Rattle.pf_token.proofs.strings.take_string.Goals as goal

pub returns : goal.returns
returns c =
    cut_off_is c.args.quote c.loop-cell.reader c.loop-cell.text.items c.loop-cell.known _ (sym c.in_default.is ∙ c.peek.ensures) c.loop-cell.invariant
