use Rattle.std.proofs.Common.{length}
use Rattle.pf_load.proofs.loading.end_unit.Goals as goal

pub returns-in-Some-clause-within : goal.returns-in-Some-clause-within
returns-in-Some-clause-within g c = c.in-Some.ensures.within (length c.args.reads.now.names) c.requires
