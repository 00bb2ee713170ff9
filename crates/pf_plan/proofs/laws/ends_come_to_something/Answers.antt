use Rattle.pf_plan.proofs.Something.{end_comes}
use Rattle.pf_plan.proofs.laws.ends_come_to_something.Goals as goal

pub returns : goal.returns
returns c = end_comes
