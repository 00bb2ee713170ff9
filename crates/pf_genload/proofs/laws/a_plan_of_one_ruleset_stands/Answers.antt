use Rattle.pf_genload.proofs.Standing.{main_counted, plan_stands}
use Rattle.pf_genload.proofs.laws.a_plan_of_one_ruleset_stands.Goals as goal

pub returns : goal.returns
returns c = record { accepted = plan_stands; counted = main_counted }
