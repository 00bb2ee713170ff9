use Rattle.std.proofs.Common.{◌≡◌, ap, ◌∙◌, rules, Option, List, ℕ, subst}
use Rattle.std.specs.Option.{option_copied, option_and_then}
use Rattle.pf_base.specs.Name.{plain_name}
use Rattle.pf_addr.specs.declared.addr.Addr.{Addr}
use Rattle.pf_record.specs.Record.{Writes}
use Rattle.pf_ops.specs.Words.{proto_of}
use Rattle.pf_record.specs.Words as says
use Rattle.pf_record.proofs.WordLemmas.{WordAt-first, WordAt-next}
use Rattle.pf_record.proofs.head.Head.read.Goals as goal

pub returns : goal.returns
returns c =
    let one = WordAt-first c.next_word.ensures in
    let two = WordAt-next one c.next_word-2.ensures in
    let three = WordAt-next two c.next_word-3.ensures in
    let four = WordAt-next three c.next_word-4.ensures in
    let five = WordAt-next four c.next_word-5.ensures in
    let direction : c.and_then.result ≡ option_and_then says.direction_of (option_copied c.next_word.result.0) = search rules in
    let iface : c.and_then-2.result ≡ option_and_then plain_name (option_copied c.next_word-2.result.0) = search rules in
    let proto : c.and_then-3.result ≡ option_and_then proto_of (option_copied c.next_word-3.result.0) = search rules in
    record {
      direction = direction ∙ ap (option_and_then says.direction_of) one.taken;
      iface = iface ∙ ap (option_and_then plain_name) two.taken;
      proto = proto ∙ ap (option_and_then proto_of) three.taken;
      source = subst (λ (word : Option (List ℕ)). Writes word c.address_of.result) four.taken c.address_of.ensures.writes;
      target = subst (λ (word : Option (List ℕ)). Writes word c.address_of-2.result) five.taken c.address_of-2.ensures.writes;
      source_only = subst (λ (word : Option (List ℕ)). (other : Option Addr) → Writes word other → other ≡ c.address_of.result) four.taken c.address_of.ensures.only;
      target_only = subst (λ (word : Option (List ℕ)). (other : Option Addr) → Writes word other → other ≡ c.address_of-2.result) five.taken c.address_of-2.ensures.only;
      left = five.left;
    }
