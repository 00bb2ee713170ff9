use Rattle.pfctl.proofs.Generated.{one_reply}
use Rattle.pfctl.proofs.laws.a_number_comes_to_one_thing.Goals as goal

pub returns : goal.returns
returns c = one_reply c.a_number_counts_alike_at_each_level.ensures
