use Rattle.pf_addr.proofs.Prefixes.{IsMaskedText-unique, IsPrefixText-unique}
use Rattle.pf_addr.proofs.Texts.{IsNetworkText-unique, Writes-unique}
use Rattle.pf_addr.proofs.Values.{IsAddrText-unique}
use Rattle.pf_addr.proofs.laws.texts_are_read_in_one_way.Goals as goal

pub returns : goal.returns
returns c = record {
  address = IsAddrText-unique;
  network = IsNetworkText-unique;
  mask = λ text a b m n h k. (Writes-unique text a b m n h k).1;
  prefix = IsPrefixText-unique;
  masked = IsMaskedText-unique;
}
