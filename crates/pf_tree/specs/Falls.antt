-- A node has more prepared paths than any of its children.
use Rattle.std.specs.Prelude.{ℕ, ◌+◌, ◌≤◌, List, Some, map}
use Rattle.std.specs.List.Sorted.{IsStrictlySortedBy}
use Rattle.std.specs.Map.{keys_of}
use Rattle.std.specs.FinMap as fin
use Rattle.std.proofs.Common.{arith}
use Prim.Native.Nat.{max}
use denote.Param.Weighed.{most}
use Rattle.pf_tree.specs.Order.{name_cmp, path_cmp}
use Rattle.pf_tree.specs.Grown.{grown}
use Rattle.pf_tree.specs.GrownLaws.{most_grown}

pub prepared_fall : {X B : Type 0} (map_of : B → fin.FinMap path_cmp X) (x : X) (children : List (List ℕ × B)) → IsStrictlySortedBy name_cmp (keys_of children) → max (most (λ b. fin.len (map_of b) + 1) (map (λ e. e.1) children)) 0 ≤ fin.len (grown map_of (Some x) children)
prepared_fall map_of x children h = omega (arith, most_grown map_of x children h)
