-- Token by token.
use Rattle.pf_lexer.proofs.Finding.{has_statement}
use Rattle.pf_lexer.proofs.laws.a_statement_ends.Goals as goal

pub returns : goal.returns
returns c = λ values cells. has_statement values (c.next_is_one.ensures values) (c.something_comes_next.ensures values) c.descents_end.ensures cells
