use Rattle.pf_decl.proofs.CheckLemmas.{judged_once}
use Rattle.pf_decl.proofs.check.queues_are_judged_once.Goals as goal

pub returns : goal.returns
returns c = judged_once
