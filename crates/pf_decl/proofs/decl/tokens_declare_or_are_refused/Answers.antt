use Rattle.pf_decl.proofs.DeclLemmas.{declares_or_not}
use Rattle.pf_decl.proofs.decl.tokens_declare_or_are_refused.Goals as goal

pub returns : goal.returns
returns c = declares_or_not
