-- Statement by statement.
use Rattle.pf_lexer.proofs.Finding.{has_deed}
use Rattle.pf_lexer.proofs.Finishing.{finishes}
use Rattle.pf_lexer.proofs.laws.units_finish.Goals as goal

pub returns : goal.returns
returns c = λ disk stage reads. finishes disk c.next_is_one.ensures (has_deed c.next_is_one.ensures c.something_comes_next.ensures c.descents_end.ensures) c.descents_end.ensures stage reads
