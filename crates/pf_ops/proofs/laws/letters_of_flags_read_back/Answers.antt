use Rattle.pf_ops.proofs.Letters.{bits_back, flags_back}
use Rattle.pf_ops.proofs.laws.letters_of_flags_read_back.Goals as goal

pub returns-clause-bits : goal.returns-clause-bits
returns-clause-bits c = bits_back

pub returns-clause-flags : goal.returns-clause-flags
returns-clause-flags c = flags_back
