use Rattle.std.proofs.Common.{◌≡◌, ℕ, List, take}
use Rattle.std.specs.List.{sum_by}
use Rattle.std.specs.FinMap as finite
use Rattle.pf_shelf.specs.Shelf.{total}
use Rattle.pf_state.specs.Rulesets.{tables_in}
use Rattle.pf_state.proofs.tables.count_entries.Given as goal

abbrev pub invariant-loop-path : goal.invariant-loop-path
invariant-loop-path l = l.count ≡ sum_by (λ (path : List (List ℕ)). total (tables_in (finite.get l.rulesets path))) (take l.path-index l.path-items)
