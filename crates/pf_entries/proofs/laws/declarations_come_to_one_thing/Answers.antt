use Rattle.pf_entries.proofs.OneTable.{one_table}
use Rattle.pf_entries.proofs.laws.declarations_come_to_one_thing.Goals as goal

pub returns : goal.returns
returns c = one_table c.words_have_one_meaning.ensures.word c.texts_are_read_in_one_way.ensures.prefix c.texts_are_read_in_one_way.ensures.mask
