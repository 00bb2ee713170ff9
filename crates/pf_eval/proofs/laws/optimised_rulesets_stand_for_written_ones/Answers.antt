use Rattle.pf_eval.proofs.Standing.{walks_stand, worlds_stand}
use Rattle.pf_eval.proofs.laws.optimised_rulesets_stand_for_written_ones.Goals as goal

pub returns-clause-stand : goal.returns-clause-stand
returns-clause-stand g c = λ by trees facts once sound.
    worlds_stand (record { keeps = c.optimised_rules_walk_alike.ensures; numbers = c.optimised_rules_name_their_tables.ensures.numbers }) by once trees facts sound

pub returns-clause-walk : goal.returns-clause-walk
returns-clause-walk g c = λ by one other bound at walk stand. walks_stand by one other stand bound at walk
