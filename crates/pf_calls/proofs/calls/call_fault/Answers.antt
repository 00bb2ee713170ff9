use Rattle.std.proofs.Common.{Result, Ok, Err, IfOk}
use Rattle.pf_calls.proofs.Answered.{told_cycle, told_deep, told_none}
use Rattle.pf_calls.proofs.calls.call_fault.Goals as goal

where_ok : {A E : Type 0} (r : Result A E) (P Q : A → Type 0) → ((a : A) → P a → Q a) → IfOk r P → IfOk r Q
where_ok (Ok a) P Q more h = more a h
where_ok (Err e) P Q more h = tt

pub returns-clause-cycle : goal.returns-clause-cycle
returns-clause-cycle c = where_ok c.find_fault.result _ _ (λ fault is path. told_cycle c.args.rows.now fault is path) c.find_fault.ensures

pub returns-clause-deep : goal.returns-clause-deep
returns-clause-deep c = where_ok c.find_fault.result _ _ (λ fault is depth. told_deep c.args.rows.now fault is depth) c.find_fault.ensures

pub returns-clause-none : goal.returns-clause-none
returns-clause-none c = where_ok c.find_fault.result _ _ (λ fault is. told_none c.args.rows.now fault is) c.find_fault.ensures
