use Rattle.pf_calls.proofs.Placed.{AscendBelow}
use Rattle.pf_calls.proofs.row.paths_ascend.Given as goal

abbrev pub invariant-loop-place : goal.invariant-loop-place
invariant-loop-place l = AscendBelow l.rows l.place
