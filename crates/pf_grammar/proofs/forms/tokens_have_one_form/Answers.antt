use Rattle.pf_grammar.proofs.FormLemmas.{one_form}
use Rattle.pf_grammar.proofs.forms.tokens_have_one_form.Goals as goal

pub returns : goal.returns
returns c = one_form
