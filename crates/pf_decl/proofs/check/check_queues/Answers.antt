use Rattle.pf_decl.specs.Checks.{twice, orphan, unknown, fine}
use Rattle.pf_decl.proofs.check.check_queues.Goals as goal

pub returns-in-Some : goal.returns-in-Some
returns-in-Some c = twice c.in-Some.ensures

pub returns-in-Some-first_orphan : goal.returns-in-Some-first_orphan
returns-in-Some-first_orphan c = orphan c.in_default.ensures c.in-Some-first_orphan.ensures

pub returns-in-Some-first_unknown : goal.returns-in-Some-first_unknown
returns-in-Some-first_unknown c = rw c.unknown_at.ensures (unknown c.in_default.ensures c.in_default-first_orphan.ensures c.in-Some-first_unknown.ensures)

pub returns : goal.returns
returns c = fine c.in_default.ensures c.in_default-first_orphan.ensures c.in_default-first_unknown.ensures
