use Rattle.pf_order.proofs.Least.{weight_least}
use Rattle.pf_order.proofs.laws.the_most_used_first_cost_least.Goals as goal

pub returns : goal.returns
returns c = weight_least
