use Rattle.pf_auto.proofs.Both.{match_together}
use Rattle.pf_auto.proofs.laws.combined_rules_match_together.Goals as goal

pub returns : goal.returns
returns c = match_together
