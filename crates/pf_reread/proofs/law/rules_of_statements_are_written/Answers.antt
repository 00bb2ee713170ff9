use Rattle.pf_reread.proofs.Statements.{statement_rules}
use Rattle.pf_reread.proofs.law.rules_of_statements_are_written.Goals as goal

pub returns : goal.returns
returns c = statement_rules c.expanded_rules_are_written.ensures.families
