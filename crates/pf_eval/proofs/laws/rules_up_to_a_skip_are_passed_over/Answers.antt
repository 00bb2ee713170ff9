use Rattle.pf_eval.proofs.Skipping.{skip_place}
use Rattle.pf_eval.proofs.laws.rules_up_to_a_skip_are_passed_over.Goals as goal

pub returns : goal.returns
returns c = λ rules place field rule here. skip_place rules place field rule here
