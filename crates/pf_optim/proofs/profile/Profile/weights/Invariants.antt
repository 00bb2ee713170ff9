use Rattle.std.proofs.Common.{◌≡◌, ◌≤◌, map, All}
use Rattle.std.specs.List.{range_with_len}
use Rattle.pf_optim.specs.Profile.{weight_at}
use Rattle.pf_optim.proofs.profile.Profile.weights.Given as goal

abbrev pub invariant-loop-before : goal.invariant-loop-before
invariant-loop-before l = record {
  are : l.weights.items ≡ map (weight_at l.self l.path) (range_with_len 1 l.before);
  small : All (λ weight. weight ≤ 4294967295) l.weights.items;
}
