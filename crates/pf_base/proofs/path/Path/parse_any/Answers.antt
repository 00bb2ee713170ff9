use Rattle.pf_base.proofs.PathGrammar.{grammar_exact}
use Rattle.pf_base.proofs.path.Path.parse_any.Goals as goal

pub returns-clause-grammar : goal.returns-clause-grammar
returns-clause-grammar c = grammar_exact _ c.args.text.now _ c.read.ensures
