use Rattle.std.proofs.Common.{refl}
use Rattle.pf_load.proofs.Remembering.{no_memory_on}
use Rattle.pf_load.proofs.laws.no_load_comes_to_want_of_memory.Goals as goal

pub returns : goal.returns
returns c = λ disk facts options file loads. no_memory_on disk facts options loads.on refl
