use Rattle.std.proofs.Common.{◌≡◌, ℕ, List, length, take, ap, ◌∙◌, arith}
use Rattle.std.proofs.Math.Seq.{take-length}
use Rattle.std.specs.List.{sum_by}
use Rattle.std.specs.FinMap as finite
use Rattle.pf_shelf.specs.Shelf.{total}
use Rattle.pf_state.specs.Rulesets.{tables_in}
use Rattle.pf_state.proofs.Sums.{counted_by_paths}
use Rattle.pf_state.proofs.tables.count_entries.Goals as goal

pub returns : goal.returns
returns c =
    let items = c.items-path-items.result.now in
    let last : c.loop-path.path-index ≡ length items = omega arith in
    c.loop-path.invariant
    ∙ ap (sum_by (λ (path : List (List ℕ)). total (tables_in (finite.get c.args.rulesets.now path)))) (ap (λ n. take n items) last ∙ take-length items ∙ c.items-path-items.ensures ∙ c.in_ok-paths.ensures)
    ∙ counted_by_paths c.args.rulesets.now
