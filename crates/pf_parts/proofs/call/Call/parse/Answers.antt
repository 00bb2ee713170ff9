use Rattle.pf_parts.proofs.CallGrammar.{grammar_exact}
use Rattle.pf_parts.proofs.call.Call.parse.Goals as goal

pub returns-clause-grammar : goal.returns-clause-grammar
returns-clause-grammar c = grammar_exact c.args.text.now _ c.read.ensures
