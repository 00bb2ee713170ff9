use Rattle.pfctl.proofs.Generated.{summed_alike}
use Rattle.pfctl.proofs.laws.a_number_counts_alike_at_each_level.Goals as goal

pub returns : goal.returns
returns c =
    let stand = c.a_plan_of_one_ruleset_stands.ensures in
    summed_alike c.a_generated_configuration_loads.ensures stand.accepted stand.counted c.a_plan_of_one_ruleset_answers_alike.ensures c.a_record_is_read_one_way.ensures
