use Rattle.pf_ops.proofs.Subsets.{covers_exact, same_numbers}
use Rattle.pf_ops.proofs.laws.equal_sets_are_one_value.Goals as goal

pub returns : goal.returns
returns c = record { one = same_numbers; subset = covers_exact }
