-- The first cell of the rest.
use Rattle.std.proofs.Common.{sym, ap, ◌∙◌}
use Rattle.pf_token.specs.Cells.{first_cell}
use Rattle.pf_token.proofs.CellLemmas.{first_next, none_left}
use Rattle.pf_token.proofs.cells.FileCells.peek.Goals as goal

pub returns-then-self-text : goal.returns-then-self-text
returns-then-self-text c =
    let here = c.self.inside in
    rw c.items-text.ensures (sym (ap first_cell (sym c.self.view_is) ∙ first_next here.text here.at here.place (rw c.items-text.ensures at c.if-self-text.true) c.self.invariant.past))

pub returns-else-self-text : goal.returns-else-self-text
returns-else-self-text c =
    let here = c.self.inside in
    sym (ap first_cell (sym c.self.view_is ∙ none_left here.text here.at here.place (rw c.items-text.ensures at c.if-self-text.false)))
