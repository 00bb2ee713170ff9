use Rattle.pf_word.proofs.OneMeaning.{one_host_word, one_list, one_target}
use Rattle.pf_word.proofs.laws.words_have_one_meaning.Goals as goal

pub returns-clause-word : goal.returns-clause-word
returns-clause-word c =
    one_host_word c.texts_are_read_in_one_way.ensures.address c.texts_are_read_in_one_way.ensures.mask c.texts_are_read_in_one_way.ensures.prefix c.equal_values_are_one.ensures.addresses c.equal_values_are_one.ensures.ranges

pub returns-clause-hosts : goal.returns-clause-hosts
returns-clause-hosts c =
    one_list c.texts_are_read_in_one_way.ensures.address c.texts_are_read_in_one_way.ensures.mask c.texts_are_read_in_one_way.ensures.prefix c.equal_values_are_one.ensures.addresses c.equal_values_are_one.ensures.ranges

pub returns-clause-target : goal.returns-clause-target
returns-clause-target c =
    one_target c.texts_are_read_in_one_way.ensures.address c.texts_are_read_in_one_way.ensures.mask c.texts_are_read_in_one_way.ensures.prefix c.equal_values_are_one.ensures.addresses c.equal_values_are_one.ensures.ranges
