use Rattle.pf_expand.proofs.Something.{some_answer}
use Rattle.pf_expand.proofs.laws.a_statement_comes_to_something.Goals as goal

pub returns : goal.returns
returns c = some_answer c.each_word_means_something.ensures.hosts c.each_word_means_something.ensures.target
