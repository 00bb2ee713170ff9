use Rattle.pf_expand.proofs.OneThing.{one_answer}
use Rattle.pf_expand.proofs.laws.a_statement_comes_to_one_thing.Goals as goal

pub returns : goal.returns
returns c = one_answer c.words_have_one_meaning.ensures.hosts c.words_have_one_meaning.ensures.target
