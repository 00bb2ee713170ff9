-- What is left of the two decides.
use Rattle.std.proofs.Common.{◌≡◌, drop}
use Rattle.std.specs.Cmp.Lexicographic.{pointwise}
use Rattle.pf_base.proofs.same.same_items.Given as goal

abbrev pub invariant-loop-place : goal.invariant-loop-place
invariant-loop-place g l = pointwise (g.T.Same.equality.same) l.items l.others ≡ pointwise (g.T.Same.equality.same) (drop l.place l.items) (drop l.place l.others)
