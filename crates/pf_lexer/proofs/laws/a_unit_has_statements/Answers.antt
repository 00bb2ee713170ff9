-- Statement by statement.
use Rattle.pf_lexer.proofs.Finding.{has_deed}
use Rattle.pf_lexer.proofs.Leading.{has_statements}
use Rattle.pf_lexer.proofs.laws.a_unit_has_statements.Goals as goal

pub returns : goal.returns
returns c = λ disk macros name reads. has_statements disk (has_deed c.next_is_one.ensures c.something_comes_next.ensures c.descents_end.ensures) c.descents_end.ensures macros name reads
