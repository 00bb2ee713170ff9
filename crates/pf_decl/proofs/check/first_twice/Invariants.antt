use Rattle.pf_decl.specs.Checks.{is_twice}
use Rattle.pf_decl.proofs.CheckLemmas.{FailsBelow}
use Rattle.pf_decl.proofs.check.first_twice.Given as goal

-- no queue so far
abbrev pub invariant-loop-i : goal.invariant-loop-i
invariant-loop-i l = FailsBelow is_twice l.queues l.i
