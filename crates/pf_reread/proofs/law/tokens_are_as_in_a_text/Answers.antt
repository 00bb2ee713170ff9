use Rattle.pf_reread.proofs.FileTokens.{tokens_read}
use Rattle.pf_reread.proofs.law.tokens_are_as_in_a_text.Goals as goal

pub returns : goal.returns
returns c = tokens_read
