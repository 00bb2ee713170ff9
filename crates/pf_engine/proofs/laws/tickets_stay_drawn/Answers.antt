use Rattle.pf_engine.proofs.Beginning.{stays_drawn}
use Rattle.pf_engine.proofs.Drawing.{empty_drawn, next_new}
use Rattle.pf_engine.proofs.GoingStale.{reached_drawn}
use Rattle.pf_engine.proofs.laws.tickets_stay_drawn.Goals as goal

pub returns-clause-first : goal.returns-clause-first
returns-clause-first c = empty_drawn

pub returns-clause-on : goal.returns-clause-on
returns-clause-on c = stays_drawn

pub returns-clause-reached : goal.returns-clause-reached
returns-clause-reached c = reached_drawn

pub returns-clause-new : goal.returns-clause-new
returns-clause-new c = next_new
