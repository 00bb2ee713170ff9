use Rattle.pf_expand.proofs.Promises.{rules_few, rules_of_one_family, rules_settled, rules_without_auto}
use Rattle.pf_expand.proofs.laws.expanded_rules_are_written.Goals as goal

pub returns-clause-tables : goal.returns-clause-tables
returns-clause-tables c = rules_without_auto

pub returns-clause-families : goal.returns-clause-families
returns-clause-families c = rules_of_one_family

pub returns-clause-floating : goal.returns-clause-floating
returns-clause-floating c = rules_settled

pub returns-clause-few : goal.returns-clause-few
returns-clause-few c = rules_few
