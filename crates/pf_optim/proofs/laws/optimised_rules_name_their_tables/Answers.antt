use Rattle.pf_optim.proofs.Keeping.{RunLaws, StepLaws}
use Rattle.pf_optim.proofs.Naming.{NameLaws, anchors_are, names_are, numbers_are}
use Rattle.pf_optim.proofs.laws.optimised_rules_name_their_tables.Goals as goal

pub returns : goal.returns
returns c =
    let steps : StepLaws = record {
      together = c.kept_rules_match_together.ensures.together;
      each = c.weights_go_to_kept_rules.ensures.each;
      hits = c.combined_rules_match_together.ensures;
      effect = c.combined_rules_keep_what_others_had.ensures.effects;
      single = c.combined_rules_keep_what_others_had.ensures.single;
      some_gain = c.orders_hold_the_same_rules.ensures.some_gain;
      some_profile = c.orders_hold_the_same_rules.ensures.some_profile;
    } in
    let runs : RunLaws = record { whole = c.runs_are_the_longest.ensures.whole; linked = c.runs_are_the_longest.ensures.linked } in
    let names : NameLaws = record { numbers = c.tables_are_numbered_on.ensures.numbers; names = c.tables_are_numbered_on.ensures.names } in
    record {
      numbers = numbers_are names;
      names = names_are steps names runs;
      anchors = anchors_are steps runs;
    }
