use Rattle.std.proofs.Common.{refl}
use Rattle.pf_addr.proofs.Stretches.{prefix_stretch-contains}
use Rattle.pf_addr.proofs.laws.stretches_have_the_addresses.Goals as goal

pub returns : goal.returns
returns c = record { prefixes = prefix_stretch-contains; ranges = λ r a. refl }
