use Rattle.pf_decl.proofs.CheckLemmas.{some_judgement}
use Rattle.pf_decl.proofs.check.queues_are_judged.Goals as goal

pub returns : goal.returns
returns c = some_judgement
