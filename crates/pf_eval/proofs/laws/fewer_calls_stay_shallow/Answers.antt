use Rattle.pf_eval.proofs.Fewer.{stays_shallow}
use Rattle.pf_eval.proofs.laws.fewer_calls_stay_shallow.Goals as goal

pub returns : goal.returns
returns c = λ less more most fewer shallow. stays_shallow less more fewer most shallow
