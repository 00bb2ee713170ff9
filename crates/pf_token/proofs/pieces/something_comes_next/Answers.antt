-- Each piece leaves less.
use Rattle.pf_token.proofs.Coming.{something_comes}
use Rattle.pf_token.proofs.pieces.something_comes_next.Goals as goal

pub returns : goal.returns
returns c = λ values cells. something_comes values cells
