-- What a record is read as, by its first five words and its keys.
use Rattle.std.proofs.Common.{◌≡◌, ℕ, Bool, true, false, List, [], ◌∷◌, drop, Option, Some, None, refl, ap, sym, subst, ◌∙◌, eq-eqb}
use Rattle.std.specs.List.{slice_get}
use Rattle.std.specs.Option.{option_or}
use Rattle.pf_addr.specs.declared.addr.Addr.{Addr}
use Rattle.pf_rule.specs.declared.packet.Packet.{Packet}
use Rattle.pf_record.specs.declared.field.Field.{Field}
use Rattle.pf_record.specs.declared.head.Head.{Head}
use Rattle.pf_record.specs.declared.head.Start.{Start}
use Rattle.pf_record.specs.Reading.{AreCut, IsHead, IsPacketOf, Starts, end_fault, values_fault}
use Rattle.pf_record.specs.Record.{AreAllowed, IsFaulty, IsRecord, Values, Writes, fault_of}
use Rattle.pf_record.proofs.FaultLemmas.{keys_fault-values}
use Rattle.pf_record.proofs.GivenLemmas.{key_words-cut}
use Rattle.pf_record.proofs.OneReading.{AreAllowed-read, AreSaid-read, IsOne}

pub source_one : (words rest : List (List ℕ)) (head : Head) → IsHead words head rest → IsOne (slice_get words 3)
source_one words rest head h a b wa wb = h.source_only a wa ∙ sym (h.source_only b wb)

pub target_one : (words rest : List (List ℕ)) (head : Head) → IsHead words head rest → IsOne (slice_get words 4)
target_one words rest head h a b wa wb = h.target_only a wa ∙ sym (h.target_only b wb)

-- a fault of the five words is the record's, and so is one of the keys behind them
pub IsFaulty-head : (words rest : List (List ℕ)) (head : Head) (fault : Field) → IsHead words head rest → fault_of head.direction head.iface head.proto head.source head.target (drop 5 words) ≡ Some fault → IsFaulty words fault
IsFaulty-head words rest head fault h first = record {
  source = head.source;
  target = head.target;
  source_said = h.source;
  target_said = h.target;
  first = (λ i. fault_of (sym h.direction i) (sym h.iface i) (sym h.proto i) head.source head.target (drop 5 words)) ∙ first;
}

pub IsFaulty-keys : (words rest : List (List ℕ)) (head : Head) (start : Start) (v : Values) (extra : Bool) (fault : Field) → IsHead words head rest → Starts head start → AreCut rest v extra → option_or (values_fault start.proto v) (end_fault start.proto v extra) ≡ Some fault → IsFaulty words fault
IsFaulty-keys words rest head start v extra fault h starts cut bad =
    let here : AreCut (drop 5 words) v extra = subst (λ (ws : List (List ℕ)). AreCut ws v extra) h.left cut in
    let last = keys_fault-values start.proto (drop 5 words) v extra here ∙ bad in
    IsFaulty-head words rest head fault h
    (rw (starts.direction, starts.iface, starts.proto, starts.source, starts.target, eq-eqb _ _ starts.one_family) last)

no_more : (proto : ℕ) (v : Values) (extra : Bool) → end_fault proto v extra ≡ None → extra ≡ false
unfolding end_fault
no_more proto v true h = absurd cc
no_more proto v false h = refl

-- the words of a record, where none of the five has a fault and the keys say this packet
abbrev IsRead : List (List ℕ) → Packet → Type 0
IsRead words p = (rest : List (List ℕ)) (head : Head) (start : Start) (v : Values) (extra : Bool) → IsHead words head rest → Starts head start → AreCut rest v extra → IsPacketOf start v extra p → IsRecord words p

pub IsRecord-read : (words : List (List ℕ)) (p : Packet) → IsRead words p
IsRecord-read [] p rest head start v extra h starts cut packet = absurd (let no = h.direction in let some = starts.direction in cc)
IsRecord-read (a ∷ []) p rest head start v extra h starts cut packet = absurd (let no = h.iface in let some = starts.iface in cc)
IsRecord-read (a ∷ b ∷ []) p rest head start v extra h starts cut packet = absurd (let no = h.proto in let some = starts.proto in cc)
IsRecord-read (a ∷ b ∷ c ∷ []) p rest head start v extra h starts cut packet = absurd (let no = h.source in let some = starts.source in cc)
IsRecord-read (a ∷ b ∷ c ∷ d ∷ []) p rest head start v extra h starts cut packet = absurd (let no = h.target in let some = starts.target in cc)
IsRecord-read (a ∷ b ∷ c ∷ d ∷ e ∷ words) p rest head start v extra h starts cut packet =
    let none : extra ≡ false = no_more start.proto v extra packet.ended in
    let here : AreCut words v false = subst (λ (ws : List (List ℕ)). AreCut ws v false) h.left (subst (λ (x : Bool). AreCut rest v x) none cut) in
    let ended : end_fault start.proto v false ≡ None = subst (λ (x : Bool). end_fault start.proto v x ≡ None) none packet.ended in
    record {
      direction = a;
      iface = b;
      proto = c;
      source = d;
      target = e;
      values = v;
      spelled = ap (λ (ws : List (List ℕ)). a ∷ b ∷ c ∷ d ∷ e ∷ ws) (key_words-cut words v here);
      direction_said = sym h.direction ∙ starts.direction ∙ ap Some (sym packet.direction);
      iface_said = sym h.iface ∙ starts.iface ∙ ap Some (sym packet.iface);
      proto_said = sym h.proto ∙ starts.proto ∙ ap Some (sym packet.proto);
      source_said = subst (λ (o : Option Addr). Writes (Some d) o) (starts.source ∙ ap Some (sym packet.source)) h.source;
      target_said = subst (λ (o : Option Addr). Writes (Some e) o) (starts.target ∙ ap Some (sym packet.target)) h.target;
      one_family = rw (packet.source, packet.target) starts.one_family;
      allowed = subst (λ (n : ℕ). AreAllowed n v) (sym packet.proto) (AreAllowed-read start.proto v p packet.keys ended);
      said = AreSaid-read start.proto v p packet.keys;
    }
