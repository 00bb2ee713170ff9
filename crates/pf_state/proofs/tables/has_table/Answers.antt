use Rattle.std.proofs.Common.{◌≡◌, Option, is_some, sym, ap, ◌∙◌}
use Rattle.std.specs.FinMap as fin
use Rattle.pf_optim.specs.declared.node.Node.{Node}
use Rattle.pf_shelf.specs.Shelf.{name_cmp}
use Rattle.pf_state.specs.Rulesets.{tables_in}
use Rattle.pf_state.proofs.tables.has_table.Goals as goal

pub returns-in-None : goal.returns-in-None
returns-in-None c =
    sym (ap (λ (node : Option Node). is_some (fin.get (tables_in node) c.args.name.now)) (sym c.in-None.ensures)
    ∙ ap is_some (fin.get-empty name_cmp c.args.name.now))
