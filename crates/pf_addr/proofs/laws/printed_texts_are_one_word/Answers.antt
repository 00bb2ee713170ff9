use Rattle.pf_addr.proofs.OneWord.{addr_bytes, addr_word, prefix_bytes, prefix_word}
use Rattle.pf_addr.proofs.laws.printed_texts_are_one_word.Goals as goal

pub returns : goal.returns
returns c = record { address_bytes = addr_bytes; prefix_bytes = prefix_bytes; address = addr_word; prefix = prefix_word }
