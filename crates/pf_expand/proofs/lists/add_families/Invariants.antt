use Rattle.std.proofs.Common.{◌≡◌, take, map, filter, ◌++◌}
use Rattle.pf_expand.specs.Expansion.{target_family}
use Rattle.pf_expand.proofs.lists.add_families.Given as goal

abbrev pub invariant-loop-target : goal.invariant-loop-target
invariant-loop-target l = l.families ≡ l.initial.families ++ map target_family (take l.target-index l.targets)
