-- Statement by statement.
use Rattle.pf_lexer.proofs.Finding.{has_deed}
use Rattle.pf_lexer.proofs.Leading.{has_lead}
use Rattle.pf_lexer.proofs.laws.something_leads.Goals as goal

pub returns : goal.returns
returns c = λ disk unit reads. has_lead disk (has_deed c.next_is_one.ensures c.something_comes_next.ensures c.descents_end.ensures) c.descents_end.ensures unit reads
