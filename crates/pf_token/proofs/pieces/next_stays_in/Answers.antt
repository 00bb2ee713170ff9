-- Piece by piece.
use Rattle.pf_token.proofs.FileLemmas.{next_in}
use Rattle.pf_token.proofs.pieces.next_stays_in.Goals as goal

pub returns : goal.returns
returns c = λ values count cells after lexeme next within. next_in count values next within
