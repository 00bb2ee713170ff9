-- The code's steps are the pieces, and they are one.
use Rattle.pf_token.proofs.Tokens.{next_one, no_next}
use Rattle.pf_token.proofs.pieces.next_is_one.Goals as goal

pub returns : goal.returns
returns c = λ values. record { one = next_one values; none = no_next values }
