use Rattle.pf_grammar.proofs.WordsKept.{form_words}
use Rattle.pf_grammar.proofs.words.forms_have_words.Goals as goal

pub returns : goal.returns
returns c = form_words
