-- Step by step.
use Rattle.pf_lexer.proofs.OutageLemmas.{leads_without}
use Rattle.pf_lexer.proofs.laws.lead_without.Goals as goal

pub returns : goal.returns
returns c = λ disk gone stage next reads later answer leads. leads_without disk gone stage next reads later answer leads
