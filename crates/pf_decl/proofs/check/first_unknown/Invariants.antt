use Rattle.pf_decl.specs.Checks.{is_unknown}
use Rattle.pf_decl.proofs.CheckLemmas.{FailsBelow}
use Rattle.pf_decl.proofs.check.first_unknown.Given as goal

-- no use so far
abbrev pub invariant-loop-i : goal.invariant-loop-i
invariant-loop-i l = FailsBelow (is_unknown l.queues) l.used l.i
