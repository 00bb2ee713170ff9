use Rattle.pf_plan.proofs.OneEnd.{one_end}
use Rattle.pf_plan.proofs.laws.ends_have_one_fault.Goals as goal

pub returns : goal.returns
returns c = one_end c.queues_are_judged_once.ensures
