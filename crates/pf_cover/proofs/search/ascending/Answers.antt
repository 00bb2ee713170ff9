use Rattle.std.proofs.Common.{rules}
use Rattle.std.proofs.Common.{subst, List}
use Rattle.std.proofs.lemmas.List.Sorted.{IsNonDecreasingBy-from_sort_by_key}
use Rattle.std.specs.List.Sorted.{IsPermutation}
use Rattle.pf_cover.specs.declared.corner.Corner.{Corner}
use Rattle.pf_cover.proofs.search.ascending.Goals as goal

pub returns : goal.returns
returns c = record {
  all = subst (λ (t : List Corner). IsPermutation t c.sort_unstable_by_key.new.self.items) c.in_ok-corners.ensures c.sort_unstable_by_key.ensures.permutation;
  rise = IsNonDecreasingBy-from_sort_by_key (λ (corner : Corner). corner.low) _ c.sort_unstable_by_key.ensures.sorted (λ a r q k. search rules);
}
