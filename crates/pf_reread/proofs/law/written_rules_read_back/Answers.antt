use Rattle.pf_reread.proofs.ReadingBack.{rules_read_back}
use Rattle.pf_reread.proofs.law.written_rules_read_back.Goals as goal

pub returns : goal.returns
returns c =
    rules_read_back
    (record {
      addresses = c.printed_texts_are_one_word.ensures.address_bytes;
      some = λ addr is. (c.printed_texts_are_one_word.ensures.address addr is).some;
      letters = c.letters_of_flags_read_back.ensures.flags;
    })
    (record { address = c.printed_texts_read_back.ensures.address; prefix = c.printed_texts_read_back.ensures.prefix })
    c.letters_of_flags_read_back.ensures.bits
