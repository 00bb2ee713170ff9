use Rattle.std.proofs.Common.{ℕ, ◌==◌, sym, ap, ◌∙◌}
use Rattle.std.specs.FinMap as finite
use Rattle.pf_shelf.proofs.shelf.Shelf.is_empty.Goals as goal

pub returns : goal.returns
returns c =
    ap (λ (n : ℕ). n == 0)
    (c.len.ensures.len
    ∙ sym (c.name_map_laws.ensures.counted c.self.inside.tables c.len.ensures.ordered)
    ∙ ap finite.len c.self.view_is)
