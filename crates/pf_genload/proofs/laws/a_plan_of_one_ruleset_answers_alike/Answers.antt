use Rattle.pf_genload.proofs.Standing.{main_alike}
use Rattle.pf_genload.proofs.laws.a_plan_of_one_ruleset_answers_alike.Goals as goal

pub returns : goal.returns
returns c = main_alike
