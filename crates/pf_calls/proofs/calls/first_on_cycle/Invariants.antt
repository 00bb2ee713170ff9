use Rattle.std.proofs.Common.{ℕ, ◌<◌}
use Rattle.pf_calls.specs.Graph.{OnCycle}
use Rattle.pf_calls.specs.Numbered.{numbered}
use Rattle.pf_calls.proofs.calls.first_on_cycle.Given as goal

abbrev pub invariant-loop-place : goal.invariant-loop-place
invariant-loop-place l = (i : ℕ) → i < l.place → OnCycle (numbered l.links) i → ⊥
