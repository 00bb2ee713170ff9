use Rattle.pf_engine.proofs.Shallow.{empty_shallow}
use Rattle.pf_engine.proofs.ShallowLines.{step_shallow}
use Rattle.pf_engine.proofs.laws.the_calls_of_rulesets_stay_shallow.Goals as goal

pub returns-clause-first : goal.returns-clause-first
returns-clause-first c = empty_shallow

pub returns-clause-on : goal.returns-clause-on
returns-clause-on c = λ disk machine line does shallow steps. step_shallow c.fewer_calls_stay_shallow.ensures disk machine line does shallow steps
