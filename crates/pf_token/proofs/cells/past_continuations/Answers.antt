-- Past a continuation the same cells are left.
use Rattle.std.proofs.Common.{sym, ◌∙◌}
use Rattle.pf_token.proofs.CellLemmas.{same_past, CountsLines-past}
use Rattle.pf_token.proofs.cells.past_continuations.Goals as goal

pub loop-at-preserved : goal.loop-at-preserved
loop-at-preserved c =
    let continued = sym c.is_continued.ensures ∙ c.loop-at-test.true in
    record {
      counts = CountsLines-past c.args.text.now c.loop-at.at c.loop-at.place.line c.loop-at.invariant.counts continued;
      same = same_past c.args.text.now c.loop-at.at c.loop-at.place continued ∙ c.loop-at.invariant.same;
    }
