use Rattle.pf_engine.proofs.Waits.{at_once, commits, only_closes, waits}
use Rattle.pf_engine.proofs.laws.plans_wait_for_their_commit.Goals as goal

pub returns-clause-waits : goal.returns-clause-waits
returns-clause-waits c = waits

pub returns-clause-stale : goal.returns-clause-stale
returns-clause-stale c = λ disk machine line name session does is there stale steps. only_closes machine name session does stale (commits disk machine line name session does is there steps)

pub returns-clause-at_once : goal.returns-clause-at_once
returns-clause-at_once c = λ disk machine line name session does is there steps accepted path.
    at_once c.a_load_is_one_replacement.ensures machine name session does (commits disk machine line name session does is there steps) accepted path
