use Rattle.std.proofs.Common.{◌≡◌, take, map, filter, ◌++◌}
use Rattle.std.specs.List.{find}
use Rattle.pf_expand.specs.Faults.{is_of}
use Rattle.std.proofs.Common.{None}
use Rattle.pf_expand.proofs.faults.of_word.Given as goal

abbrev pub invariant-loop-fault : goal.invariant-loop-fault
invariant-loop-fault l = find (is_of l.kind) (take l.fault-index l.faults) ≡ None
