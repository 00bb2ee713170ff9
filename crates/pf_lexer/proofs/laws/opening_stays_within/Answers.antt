-- The number is that of the file's name.
use Rattle.pf_lexer.proofs.Within.{opens_within}
use Rattle.pf_lexer.proofs.laws.opening_stays_within.Goals as goal

pub returns : goal.returns
returns c = λ disk name reads later result opens. opens_within opens
