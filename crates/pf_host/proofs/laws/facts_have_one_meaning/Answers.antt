use Rattle.pf_host.proofs.OneMeaning.{one_meaning}
use Rattle.pf_host.proofs.laws.facts_have_one_meaning.Goals as goal

pub returns : goal.returns
returns c = one_meaning c.texts_are_read_in_one_way.ensures.address c.texts_are_read_in_one_way.ensures.masked
