use Rattle.std.proofs.Common.{List, Option, sym, ap, ◌∙◌}
use Rattle.std.specs.Option.{option_copied}
use Rattle.pf_eval.proofs.Named.{named_main, named_nowhere, named_own, named_without_main}
use Rattle.pf_eval.specs.Rulesets.{entries_named, tables_in}
use Rattle.pf_optim.specs.declared.node.Node.{Node}
use Rattle.pf_table.specs.Table.{member}
use Rattle.pf_table.specs.declared.entry.Entry.{Entry}
use Rattle.pf_eval.proofs.tables.has_named.Goals as goal

pub returns-in_default-main : goal.returns-in_default-main
returns-in_default-main c =
    let own = c.args.own.now.shelf in
    let name = c.args.name.now in
    sym (ap (λ (m : Option Node). member (entries_named own (tables_in m) name) c.args.addr.now) (ap option_copied c.in_default-main.is)
    ∙ ap (λ (entries : List Entry). member entries c.args.addr.now) (named_without_main own name c.in_default.ensures))

pub returns-in-Some : goal.returns-in-Some
returns-in-Some c =
    c.lookup.ensures
    ∙ sym (ap (λ (entries : List Entry). member entries c.args.addr.now) (named_own c.args.own.now.shelf (tables_in (option_copied c.args.main)) c.args.name.now c.in-Some.table.now c.in-Some.ensures))

pub returns-in-Some-find : goal.returns-in-Some-find
returns-in-Some-find c =
    let own = c.args.own.now.shelf in
    let name = c.args.name.now in
    c.lookup-in-Some-find.ensures
    ∙ sym (ap (λ (m : Option Node). member (entries_named own (tables_in m) name) c.args.addr.now) (ap option_copied c.in-Some-main.is)
    ∙ ap (λ (entries : List Entry). member entries c.args.addr.now) (named_main own c.in-Some-main.node.now.shelf name c.in-Some-find.table.now c.in_default.ensures c.in-Some-find.ensures))

pub returns-in-None : goal.returns-in-None
returns-in-None c =
    let own = c.args.own.now.shelf in
    let name = c.args.name.now in
    sym (ap (λ (m : Option Node). member (entries_named own (tables_in m) name) c.args.addr.now) (ap option_copied c.in-Some-main.is)
    ∙ ap (λ (entries : List Entry). member entries c.args.addr.now) (named_nowhere own c.in-Some-main.node.now.shelf name c.in_default.ensures c.in-None.ensures))
