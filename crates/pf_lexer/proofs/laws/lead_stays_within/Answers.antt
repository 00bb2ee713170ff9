-- Statement by statement.
use Rattle.std.proofs.Common.{refl}
use Rattle.pf_lexer.proofs.Within.{leads_within}
use Rattle.pf_lexer.proofs.laws.lead_stays_within.Goals as goal

pub returns : goal.returns
returns c = λ disk unit next reads later answer leads within. leads_within c.next_stays_in.ensures disk leads unit refl within
