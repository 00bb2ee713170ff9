use Rattle.pfctl.proofs.Generated.{load_is_done, rules_are_counted}
use Rattle.pfctl.proofs.laws.a_generated_load_is_done.Goals as goal

pub returns : goal.returns
returns c =
    let loads = c.a_generated_configuration_loads.ensures in
    let stand = c.a_plan_of_one_ruleset_stands.ensures in
    record {
      done = λ number level does steps. (load_is_done loads stand.accepted number level does steps).done;
      rules = rules_are_counted loads stand.accepted stand.counted;
    }
