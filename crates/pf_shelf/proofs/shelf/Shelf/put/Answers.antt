use Rattle.std.proofs.Common.{sym, ◌∙◌}
use Rattle.pf_base.specs.OrderedMap.{map_of}
use Rattle.pf_shelf.specs.Shelf.{name_cmp}
use Rattle.pf_shelf.proofs.Tables.{none_of, sum_put}
use Rattle.pf_shelf.proofs.shelf.Shelf.put.Goals as goal

pub invariant_of-self-2 : goal.invariant_of-self-2
invariant_of-self-2 c =
    let laws = c.name_map_laws.ensures in
    sum_put (map_of name_cmp c.self.inside.tables) (map_of name_cmp c.insert.new.self) c.args.name c.args.shelved c.in-Some.sum c.self.inside.total c.len.result
    (laws.found c.self.inside.tables c.args.name ∙ none_of _ (sym c.contains_key.ensures ∙ c.if-contains_key.false))
    (laws.inserted c.self.inside.tables c.insert.new.self c.args.name c.args.shelved c.in_ok-insert.ensures.updates)
    c.self.invariant c.len.ensures c.in-Some.ensures.1
