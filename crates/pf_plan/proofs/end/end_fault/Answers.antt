use Rattle.pf_plan.proofs.Places.{end_in}
use Rattle.pf_plan.proofs.end.end_fault.Goals as goal

pub returns-clause-within : goal.returns-clause-within
returns-clause-within c = λ count so. end_in count c.args.draft.now c.unit_fault.result c.unit_fault.ensures so
