use Rattle.pf_eval.specs.World.{packet_walker}
use Rattle.pf_rule.specs.Opening.{opening_walk}
use Rattle.std.proofs.Common.{[]}
use Rattle.pf_engine.proofs.ReachedMachines.{reached_shallow, same_answer}
use Rattle.pf_engine.proofs.laws.answers_are_those_of_the_walk.Goals as goal

pub returns-clause-shallow : goal.returns-clause-shallow
returns-clause-shallow c = reached_shallow c.the_calls_of_rulesets_stay_shallow.ensures.on c.the_calls_of_rulesets_stay_shallow.ensures.first

pub returns-clause-walk : goal.returns-clause-walk
returns-clause-walk c = λ machine reached. c.walks_need_no_bound.ensures.walk packet_walker machine.rulesets machine.facts
    (reached_shallow c.the_calls_of_rulesets_stay_shallow.ensures.on c.the_calls_of_rulesets_stay_shallow.ensures.first machine reached)

pub returns-clause-answer : goal.returns-clause-answer
returns-clause-answer c = λ machine walk_from packet reached is. same_answer machine walk_from packet
    (c.walks_need_no_bound.ensures.only packet_walker machine.rulesets machine.facts walk_from
    (reached_shallow c.the_calls_of_rulesets_stay_shallow.ensures.on c.the_calls_of_rulesets_stay_shallow.ensures.first machine reached) is [] (opening_walk packet))
