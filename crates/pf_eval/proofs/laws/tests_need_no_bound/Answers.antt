use Rattle.pf_eval.proofs.Chained.{chain_is, chain_only}
use Rattle.pf_eval.proofs.laws.tests_need_no_bound.Goals as goal

pub returns-clause-tests : goal.returns-clause-tests
returns-clause-tests g c = λ by trees facts sound shallow.
    chain_is (record { alike = c.laws_of_walks.ensures.alike }) (record { anchors = c.optimised_rules_name_their_tables.ensures.anchors }) by trees facts sound shallow

pub returns-clause-only : goal.returns-clause-only
returns-clause-only g c = λ by trees facts walk_from tests_from sound shallow is chain.
    chain_only (record { alike = c.laws_of_walks.ensures.alike }) (record { anchors = c.optimised_rules_name_their_tables.ensures.anchors }) by trees facts sound shallow walk_from tests_from is chain
