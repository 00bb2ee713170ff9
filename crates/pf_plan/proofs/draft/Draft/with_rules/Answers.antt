use Rattle.pf_plan.proofs.Places.{rules_within}
use Rattle.pf_plan.proofs.draft.Draft.with_rules.Goals as goal

pub returns-clause-within : goal.returns-clause-within
returns-clause-within c = λ count so h. rw (c.in_ok-used.ensures, c.in_ok-here.ensures) (rules_within c.args.self c.args.rules c.args.queues.now c.args.place count so h)
