use Rattle.pf_optim.proofs.Keeping.{packet_walk}
use Rattle.pf_optim.proofs.laws.optimised_rules_mean_the_same.Goals as goal

pub returns : goal.returns
returns c = packet_walk c.optimised_rules_walk_alike.ensures c.effect_twice_is_once.ensures
