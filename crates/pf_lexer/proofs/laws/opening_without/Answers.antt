-- The file is that one, or another.
use Rattle.pf_lexer.proofs.OutageLemmas.{opens_without}
use Rattle.pf_lexer.proofs.laws.opening_without.Goals as goal

pub returns : goal.returns
returns c = λ disk gone name reads later answer opens. opens_without disk gone name reads later answer opens
