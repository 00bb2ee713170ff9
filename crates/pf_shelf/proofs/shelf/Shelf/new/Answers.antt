use Rattle.std.proofs.Common.{List, ℕ, sym, ap, ◌∙◌}
use Rattle.std.specs.FinMap as finite
use Rattle.pf_shelf.specs.declared.decl.Shelved.{Shelved}
use Rattle.pf_shelf.specs.Shelf.{name_cmp, total}
use Rattle.pf_shelf.proofs.Totals.{total_none}
use Rattle.pf_shelf.proofs.shelf.Shelf.new.Goals as goal

pub invariant_of-result : goal.invariant_of-result
invariant_of-result c = sym (ap (λ (es : List (List ℕ × Shelved)). total (finite.from_entries {R = name_cmp} es)) c.new.ensures.empty ∙ total_none)
