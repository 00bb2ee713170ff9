use Rattle.pf_plan.proofs.Places.{end_in}
use Rattle.pf_plan.proofs.laws.ends_stay_within.Goals as goal

pub returns : goal.returns
returns c = end_in
