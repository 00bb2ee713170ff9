use Rattle.std.proofs.Common.{sym, ap, ◌∙◌}
use Rattle.std.specs.Prelude.{map, Bool}
use Rattle.pf_base.specs.OrderedMap.{map_laws_hold}
use Rattle.pf_addr.specs.PrefixOrder.{prefix_cmp-total}
use Rattle.pf_table.specs.Table.{entries_of, entry}
use Rattle.pf_table.specs.Kept.{signs_in}
use Rattle.pf_table.proofs.Signs.{antisymmetric}
use Rattle.pf_table.proofs.table.Table.entries.Goals as goal

pub returns : goal.returns
returns c =
    let laws = map_laws_hold prefix_cmp-total antisymmetric Bool in
    c.in_ok-list.ensures.list ∙ ap (map entry) (sym (laws.listed c.in_ok-signs.signs c.in_ok-list.ensures.ordered))
    ∙ ap entries_of (c.in_ok-signs.ensures ∙ ap signs_in c.deref.ensures.value ∙ c.self.view_is)
