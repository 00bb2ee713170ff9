use Rattle.pf_eval.proofs.Standing.{path_stands}
use Rattle.pf_eval.specs.Steps.{walk_left}
use Rattle.pf_eval.specs.World.{packet_walker}
use Rattle.pf_eval.proofs.laws.optimised_walk_is_written.Goals as goal

pub returns : goal.returns
returns c = λ trees facts left at node walk there sound.
    path_stands (record { keeps = c.optimised_rules_walk_alike.ensures; numbers = c.optimised_rules_name_their_tables.ensures.numbers }) packet_walker
    (record { twice = λ effect walk plain. c.effect_twice_is_once.ensures effect walk }) trees facts (walk_left trees facts left) at node there sound walk
