use Rattle.pf_addr.proofs.Printed.{IsAddrText-addr_text, IsPrefixText-prefix_text}
use Rattle.pf_addr.proofs.laws.printed_texts_read_back.Goals as goal

pub returns : goal.returns
returns c = record { address = IsAddrText-addr_text; prefix = IsPrefixText-prefix_text }
