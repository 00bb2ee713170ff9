use Rattle.pf_record.proofs.OneReading.{read_one_way}
use Rattle.pf_record.proofs.record.a_record_is_read_one_way.Goals as goal

pub returns : goal.returns
returns c = read_one_way c.texts_are_read_in_one_way.ensures.address
