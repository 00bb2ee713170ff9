-- By the first number, and where that stays by the second.
use Rattle.pf_token.proofs.Coming.{descent_ends}
use Rattle.pf_token.proofs.pieces.descents_end.Goals as goal

pub returns : goal.returns
returns c = λ a b. descent_ends a b
