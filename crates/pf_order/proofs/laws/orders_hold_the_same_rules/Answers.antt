use Rattle.pf_order.proofs.Sums.{any_gain, any_profile, more_gain, permuted_gain, permuted_profile}
use Rattle.pf_order.proofs.laws.orders_hold_the_same_rules.Goals as goal

pub returns : goal.returns
returns c = record {
  gain = permuted_gain;
  more = more_gain;
  some_gain = any_gain;
  profile = permuted_profile;
  some_profile = any_profile;
}
