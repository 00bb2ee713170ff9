use Rattle.pf_optim.proofs.Keeping.{block_hits, one_effect}
use Rattle.pf_optim.proofs.laws.blocks_act_once.Goals as goal

pub returns-clause-hits : goal.returns-clause-hits
returns-clause-hits g c =
    block_hits (record {
      together = c.kept_rules_match_together.ensures.together;
      each = c.weights_go_to_kept_rules.ensures.each;
      hits = c.combined_rules_match_together.ensures;
      effect = c.combined_rules_keep_what_others_had.ensures.effects;
      single = c.combined_rules_keep_what_others_had.ensures.single;
      some_gain = c.orders_hold_the_same_rules.ensures.some_gain;
      some_profile = c.orders_hold_the_same_rules.ensures.some_profile;
    })

pub returns-clause-once : goal.returns-clause-once
returns-clause-once g c =
    λ on view act around effect rules walk walks plain same. c.laws_of_walks.ensures.once on (act effect) rules walk (one_effect on view act around walks effect plain rules same)
