use Rattle.std.proofs.Common.{rules, subst, sym}
use Rattle.std.proofs.lemmas.Fn.{always_returns_same}
use Rattle.pf_tree.specs.Order.{path_cmp}
use Rattle.pf_calls.specs.declared.row.CallRow.{CallRow}
use Rattle.pf_calls.specs.Numbered.{IsPlaceOf}
use Rattle.pf_calls.proofs.Placed.{place_told}
use Rattle.pf_calls.proofs.links.place_of.Goals as goal

pub returns : goal.returns
returns c =
    let position = c.binary_search_by.ensures.position (λ (row : CallRow). path_cmp row.path c.args.path.now) (always_returns_same _ _ _ (λ a r f' called. search rules)) in
    subst (IsPlaceOf c.args.rows.now c.args.path.now) (sym c.ok.ensures.value) (place_told c.args.rows.now c.args.path.now c.binary_search_by.result c.requires c.binary_search_by.ensures.bound position)
