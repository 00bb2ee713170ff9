use Rattle.std.proofs.Common.{◌≡◌, ℕ, List, Option, None, Some, sym, ap, ◌∙◌}
use Rattle.std.specs.Option.{option_map}
use Rattle.std.specs.FinMap as finite
use Rattle.pf_optim.specs.declared.node.Node.{Node}
use Rattle.pf_shelf.specs.Renewed.{standing}
use Rattle.pf_shelf.specs.Shelf.{name_cmp}
use Rattle.pf_shelf.specs.declared.decl.Shelved.{Shelved}
use Rattle.pf_table.specs.Table.{Signs}
use Rattle.pf_state.specs.Rulesets.{tables_in}
use Rattle.pf_state.proofs.Counted.{none_standing}
use Rattle.pf_state.proofs.tables.table_len.Goals as goal

pub returns-in-None-find : goal.returns-in-None-find
returns-in-None-find c =
    sym (none_standing _ (c.in-None-find.ensures
    ∙ ap (λ (node : Option Node). option_map (λ (found : Shelved). found.table) (finite.get (tables_in node) c.args.name.now)) c.in-Some.ensures))

pub returns-in-None : goal.returns-in-None
returns-in-None c =
    sym (none_standing _ (sym (ap (λ (node : Option Node). option_map (λ (found : Shelved). found.table) (finite.get (tables_in node) c.args.name.now)) (sym c.in-None.ensures)
    ∙ ap (option_map (λ (found : Shelved). found.table)) (finite.get-empty name_cmp c.args.name.now))))
