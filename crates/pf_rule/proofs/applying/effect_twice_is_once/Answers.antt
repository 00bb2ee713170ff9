use Rattle.pf_rule.proofs.Effects.{effect_twice}
use Rattle.pf_rule.proofs.applying.effect_twice_is_once.Goals as goal

pub returns : goal.returns
returns c = effect_twice
