use Rattle.std.proofs.Common.{take, drop}
use Rattle.pf_entries.proofs.Settling.{SettledSoFar}
use Rattle.pf_entries.proofs.settle.settle.Given as goal

abbrev pub invariant-loop-one : goal.invariant-loop-one
invariant-loop-one l = SettledSoFar l.placed (take l.one-index l.placed) (drop l.one-index l.placed) l.seen l.entries
