use Rattle.pf_plan.proofs.Places.{queue_within}
use Rattle.pf_plan.proofs.draft.Draft.with_queue.Goals as goal

pub returns-clause-within : goal.returns-clause-within
returns-clause-within c = λ count so h. rw c.in_ok-queues.ensures (queue_within c.args.self c.args.queue count so h)
