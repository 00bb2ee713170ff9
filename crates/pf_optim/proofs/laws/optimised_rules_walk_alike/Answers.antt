use Rattle.pf_optim.proofs.Keeping.{optimised_walk}
use Rattle.pf_optim.proofs.laws.optimised_rules_walk_alike.Goals as goal

pub returns : goal.returns
returns g c =
    optimised_walk
    (record {
      together = c.kept_rules_match_together.ensures.together;
      each = c.weights_go_to_kept_rules.ensures.each;
      hits = c.combined_rules_match_together.ensures;
      effect = c.combined_rules_keep_what_others_had.ensures.effects;
      single = c.combined_rules_keep_what_others_had.ensures.single;
      some_gain = c.orders_hold_the_same_rules.ensures.some_gain;
      some_profile = c.orders_hold_the_same_rules.ensures.some_profile;
    })
    (record { joined = c.laws_of_walks.ensures.joined; alike = c.laws_of_walks.ensures.alike; once = c.laws_of_walks.ensures.once })
    (record { whole = c.runs_are_the_longest.ensures.whole; linked = c.runs_are_the_longest.ensures.linked })
