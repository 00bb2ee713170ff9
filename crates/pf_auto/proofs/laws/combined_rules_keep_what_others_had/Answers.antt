use Rattle.pf_auto.proofs.Both.{effects_stay, few, single, total_stays}
use Rattle.pf_auto.proofs.laws.combined_rules_keep_what_others_had.Goals as goal

pub returns : goal.returns
returns c = record { effects = effects_stay; few = few; total = total_stays; single = single }
