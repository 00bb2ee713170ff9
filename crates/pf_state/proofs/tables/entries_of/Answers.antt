use Rattle.std.proofs.Common.{◌≡◌, ℕ, Option, None, sym, ap, ◌∙◌}
use Rattle.pf_optim.specs.declared.node.Node.{Node}
use Rattle.pf_shelf.specs.Shelf.{total}
use Rattle.pf_state.specs.Rulesets.{tables_in}
use Rattle.pf_state.proofs.Sums.{total_none}
use Rattle.pf_state.proofs.tables.entries_of.Goals as goal

pub returns-in-None : goal.returns-in-None
returns-in-None c = sym (ap (λ (node : Option Node). total (tables_in node)) (sym c.in-None.ensures) ∙ total_none)
