use Rattle.pfctl.proofs.Verdicts.{summed_together}
use Rattle.pfctl.proofs.laws.every_generated_record_is_answered.Goals as goal

pub returns : goal.returns
returns c =
    let walk = c.a_walk_passes_or_blocks.ensures in
    summed_together c.a_generated_configuration_loads.ensures c.a_plan_of_one_ruleset_stands.ensures.accepted c.generated_records_are_packets.ensures walk.decided walk.unskipped c.a_record_is_read_one_way.ensures
