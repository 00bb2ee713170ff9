-- Token by token.
use Rattle.pf_token.proofs.Coming.{has_tokens}
use Rattle.pf_token.proofs.pieces.a_text_has_tokens.Goals as goal

pub returns : goal.returns
returns c = λ values cells. has_tokens values cells
