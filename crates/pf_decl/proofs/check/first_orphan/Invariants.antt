use Rattle.pf_decl.specs.Checks.{is_orphan}
use Rattle.pf_decl.proofs.CheckLemmas.{FailsBelow}
use Rattle.pf_decl.proofs.check.first_orphan.Given as goal

-- no queue so far
abbrev pub invariant-loop-i : goal.invariant-loop-i
invariant-loop-i l = FailsBelow is_orphan l.queues l.i
