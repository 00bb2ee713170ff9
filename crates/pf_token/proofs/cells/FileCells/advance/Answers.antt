-- The rest behind the first cell.
use Rattle.std.proofs.Common.{◌+◌, drop, sym, ap, ◌∙◌}
use Rattle.pf_token.specs.Cells.{cells_from}
use Rattle.pf_token.proofs.CellLemmas.{rest_next, none_left}
use Rattle.pf_token.proofs.cells.FileCells.advance.Goals as goal

pub returns-then-self-text : goal.returns-then-self-text
returns-then-self-text c =
    let here = c.self.inside in
    let same = rw c.items-text.ensures at c.past_continuations-at.ensures.same in
    let place = rw c.items-text.ensures at c.place_after-next.ensures in
    same
    ∙ ap (λ p. cells_from p (drop (here.at + 1) here.text)) place
    ∙ sym (rest_next here.text here.at here.place (rw c.items-text.ensures at c.if-self-text.true) c.self.invariant.past)
    ∙ ap (drop 1) c.self.view_is

pub returns-else-self-text : goal.returns-else-self-text
returns-else-self-text c =
    let here = c.self.inside in
    let nothing = sym c.self.view_is ∙ none_left here.text here.at here.place (rw c.items-text.ensures at c.if-self-text.false) in
    nothing ∙ ap (drop 1) (sym nothing)
