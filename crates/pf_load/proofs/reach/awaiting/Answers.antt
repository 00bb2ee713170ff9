use Rattle.pf_load.proofs.Deciding.{awaits_load}
use Rattle.pf_load.proofs.reach.awaiting.Goals as goal

pub returns-in-Into-clause-awaits : goal.returns-in-Into-clause-awaits
returns-in-Into-clause-awaits c = awaits_load c.args.draft c.in-Into.path c.args.file c.with_load.result c.with_load.ensures.laid
