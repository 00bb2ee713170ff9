use Rattle.pf_plan.proofs.Places.{table_within}
use Rattle.pf_plan.proofs.draft.Draft.with_table.Goals as goal

pub returns-clause-within : goal.returns-clause-within
returns-clause-within c = λ count so. rw c.in_ok-here.ensures (table_within c.args.self c.args.table count so)
