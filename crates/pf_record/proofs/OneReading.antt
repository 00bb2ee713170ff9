-- A text is read in one way.
use Rattle.std.proofs.Common.{◌≡◌, ℕ, true, false, List, ◌∷◌, drop, Option, Some, None, Result, Ok, Err, refl, ap, sym, subst, ◌∙◌, eq-eqb}
use Rattle.std.specs.List.{slice_get}
use Rattle.std.specs.Option.{option_and_then, option_or}
use Rattle.pf_base.specs.Decimal.{decimal_of}
use Rattle.pf_base.specs.Name.{plain_name}
use Rattle.pf_base.specs.Text.{fields_of}
use Rattle.pf_addr.specs.Addr.{SameFamily}
use Rattle.pf_addr.specs.declared.addr.Addr.{Addr}
use Rattle.pf_addr.specs.Grammar.{IsAddrText}
use Rattle.pf_rule.specs.declared.packet.Packet.{Packet}
use Rattle.pf_record.specs.declared.field.Field.{Field}
use Rattle.pf_record.specs.declared.field.Field.TheVariants as field
use Rattle.pf_record.specs.declared.field.PacketFault.{PacketFault}
use Rattle.pf_record.specs.Keys.{keys_fault}
use Rattle.pf_record.specs.Reading.{AreCut, AreRead, end_fault, lacks, list_of, values_fault, sport_read, dport_read, flags_read, icmptype_read, code_read, tos_read, prio_read, user_read, group_read, tag_read}
use Rattle.pf_record.specs.Record.{AreAllowed, AreSaid, IsFaulty, IsReadAs, IsRecord, Values, Writes, fault_of, perhaps}
use Rattle.pf_ops.specs.Words.{flags_of, proto_of}
use Rattle.pf_record.specs.Words.{direction_of, has_ports, has_types, is_tcp}
use Rattle.pf_record.proofs.FaultLemmas.{keys_fault-values}
use Rattle.pf_record.proofs.GivenLemmas.{AreCut-key_words}
use Rattle.pf_record.proofs.SaidLemmas.{Says-value_read, has-value_read, given-value_read, value_read-Says, lacks-given, both_none}

-- ---- from what is read to what is said

pub AreSaid-read : (proto : ℕ) (v : Values) (p : Packet) → AreRead proto v p → AreSaid v p
AreSaid-read proto v p h = record {
  sport = Says-value_read (has_ports proto) (perhaps (decimal_of 65535)) None field.Sport v.sport _ h.sport;
  dport = Says-value_read (has_ports proto) (perhaps (decimal_of 65535)) None field.Dport v.dport _ h.dport;
  flags = Says-value_read (is_tcp proto) flags_of 0 field.Flags v.flags _ h.flags;
  icmptype = Says-value_read (has_types proto) (perhaps (decimal_of 255)) None field.Icmptype v.icmptype _ h.icmptype;
  code = Says-value_read (has_types proto) (perhaps (decimal_of 255)) None field.Code v.code _ h.code;
  tos = Says-value_read true (decimal_of 255) 0 field.Tos v.tos _ h.tos;
  prio = Says-value_read true (decimal_of 7) 3 field.Prio v.prio _ h.prio;
  user = Says-value_read (has_ports proto) (perhaps (decimal_of 4294967295)) None field.User v.user _ h.user;
  group = Says-value_read (has_ports proto) (perhaps (decimal_of 4294967295)) None field.Group v.group _ h.group;
  tag = Says-value_read true (perhaps plain_name) None field.Tag v.tag _ h.tag;
}

-- no key is missing
record AreFull (proto : ℕ) (v : Values) : Type 0 where
  sport : lacks (has_ports proto) field.Sport v.sport ≡ None
  dport : lacks (has_ports proto) field.Dport v.dport ≡ None
  icmptype : lacks (has_types proto) field.Icmptype v.icmptype ≡ None
  code : lacks (has_types proto) field.Code v.code ≡ None

full : (proto : ℕ) (v : Values) → end_fault proto v false ≡ None → AreFull proto v
unfolding end_fault
full proto v h =
    let one = both_none _ _ h in
    let two = both_none _ _ one.1 in
    let three = both_none _ _ two.1 in
    record { sport = one.0; dport = two.0; icmptype = three.0; code = three.1 }

pub AreAllowed-read : (proto : ℕ) (v : Values) (p : Packet) → AreRead proto v p → end_fault proto v false ≡ None → AreAllowed proto v
AreAllowed-read proto v p h ended = let f = full proto v ended in record {
  sport = given-value_read (has_ports proto) (perhaps (decimal_of 65535)) None field.Sport v.sport _ h.sport f.sport;
  dport = given-value_read (has_ports proto) (perhaps (decimal_of 65535)) None field.Dport v.dport _ h.dport f.dport;
  flags = has-value_read (is_tcp proto) flags_of 0 field.Flags v.flags _ h.flags;
  icmptype = given-value_read (has_types proto) (perhaps (decimal_of 255)) None field.Icmptype v.icmptype _ h.icmptype f.icmptype;
  code = given-value_read (has_types proto) (perhaps (decimal_of 255)) None field.Code v.code _ h.code f.code;
  user = has-value_read (has_ports proto) (perhaps (decimal_of 4294967295)) None field.User v.user _ h.user;
  group = has-value_read (has_ports proto) (perhaps (decimal_of 4294967295)) None field.Group v.group _ h.group;
}

-- ---- from what is said to what is read

read_said : (proto : ℕ) (v : Values) (p : Packet) → AreAllowed proto v → AreSaid v p → AreRead proto v p
read_said proto v p may said = record {
  sport = value_read-Says (has_ports proto) (perhaps (decimal_of 65535)) None field.Sport v.sport _ said.sport (λ some. sym may.sport ∙ some);
  dport = value_read-Says (has_ports proto) (perhaps (decimal_of 65535)) None field.Dport v.dport _ said.dport (λ some. sym may.dport ∙ some);
  flags = value_read-Says (is_tcp proto) flags_of 0 field.Flags v.flags _ said.flags may.flags;
  icmptype = value_read-Says (has_types proto) (perhaps (decimal_of 255)) None field.Icmptype v.icmptype _ said.icmptype (λ some. sym may.icmptype ∙ some);
  code = value_read-Says (has_types proto) (perhaps (decimal_of 255)) None field.Code v.code _ said.code (λ some. sym may.code ∙ some);
  tos = value_read-Says true (decimal_of 255) 0 field.Tos v.tos _ said.tos (λ some. refl);
  prio = value_read-Says true (decimal_of 7) 3 field.Prio v.prio _ said.prio (λ some. refl);
  user = value_read-Says (has_ports proto) (perhaps (decimal_of 4294967295)) None field.User v.user _ said.user may.user;
  group = value_read-Says (has_ports proto) (perhaps (decimal_of 4294967295)) None field.Group v.group _ said.group may.group;
  tag = value_read-Says true (perhaps plain_name) None field.Tag v.tag _ said.tag (λ some. refl);
}

ended_said : (proto : ℕ) (v : Values) → AreAllowed proto v → end_fault proto v false ≡ None
unfolding end_fault
ended_said proto v may =
    rw (lacks-given (has_ports proto) field.Sport v.sport may.sport, lacks-given (has_ports proto) field.Dport v.dport may.dport, lacks-given (has_types proto) field.Icmptype v.icmptype may.icmptype, lacks-given (has_types proto) field.Code v.code may.code) refl

-- values that are read have no fault
pub values_fault-read : (proto : ℕ) (v : Values) (p : Packet) → AreRead proto v p → values_fault proto v ≡ None
unfolding values_fault
values_fault-read proto v p h =
    rw (h.sport, h.dport, h.flags, h.icmptype, h.code, h.tos, h.prio, h.user, h.group, h.tag) refl

-- ---- one packet

-- what a record's words are read as
record IsWhole (words : List (List ℕ)) (p : Packet) : Type 0 where
  direction : option_and_then direction_of (slice_get words 0) ≡ Some p.direction
  iface : option_and_then plain_name (slice_get words 1) ≡ Some p.iface
  proto : option_and_then proto_of (slice_get words 2) ≡ Some p.proto
  source : Writes (slice_get words 3) (Some p.source)
  target : Writes (slice_get words 4) (Some p.target)
  one_family : SameFamily p.source p.target
  values : Values
  cut : AreCut (drop 5 words) values false
  keys : AreRead p.proto values p
  ended : end_fault p.proto values false ≡ None

whole : (words : List (List ℕ)) (p : Packet) → IsRecord words p → IsWhole words p
whole words p h = subst (λ (ws : List (List ℕ)). IsWhole ws p) (sym h.spelled) (record {
  direction = h.direction_said;
  iface = h.iface_said;
  proto = h.proto_said;
  source = h.source_said;
  target = h.target_said;
  one_family = h.one_family;
  values = h.values;
  cut = AreCut-key_words h.values;
  keys = read_said p.proto h.values p h.allowed h.said;
  ended = ended_said p.proto h.values h.allowed;
})

-- a word writes one address at most
abbrev pub IsOne : Option (List ℕ) → Type 0
IsOne word = (a b : Option Addr) → Writes word a → Writes word b → a ≡ b

same_Ok : {A : Type 0} (x y : A) (r s : Result A PacketFault) → r ≡ Ok x → s ≡ Ok y → r ≡ s → x ≡ y
same_Ok x y r s hr hs h = cc

same_Some : {A : Type 0} (x y : A) (o : Option A) → o ≡ Some x → o ≡ Some y → x ≡ y
same_Some x y o hx hy = cc

same_some : {A : Type 0} (x y : A) → Some x ≡ Some y → x ≡ y
same_some x y h = cc

same_pair : {A : Type 0} (x y : A) (xs ys : List A) → x ∷ xs ≡ y ∷ ys → (x ≡ y) × (xs ≡ ys)
same_pair x y xs ys h = (cc, cc)

same_values : (v w : Values) → list_of v ≡ list_of w → v ≡ w
same_values v w h =
    let a = same_pair _ _ _ _ h in
    let b = same_pair _ _ _ _ a.1 in
    let c = same_pair _ _ _ _ b.1 in
    let d = same_pair _ _ _ _ c.1 in
    let e = same_pair _ _ _ _ d.1 in
    let f = same_pair _ _ _ _ e.1 in
    let g = same_pair _ _ _ _ f.1 in
    let j = same_pair _ _ _ _ g.1 in
    let k = same_pair _ _ _ _ j.1 in
    let l = same_pair _ _ _ _ k.1 in
    λ i. record { sport = a.0 i; dport = b.0 i; flags = c.0 i; icmptype = d.0 i; code = e.0 i; tos = f.0 i; prio = g.0 i; user = j.0 i; group = k.0 i; tag = l.0 i }

one_whole : (words : List (List ℕ)) (p q : Packet) → IsOne (slice_get words 3) → IsOne (slice_get words 4) → IsWhole words p → IsWhole words q → p ≡ q
one_whole words p q one_source one_target h g =
    let values : h.values ≡ g.values = same_values h.values g.values (h.cut.all.taken ∙ sym g.cut.all.taken) in
    let direction = same_Some _ _ _ h.direction g.direction in
    let iface = same_Some _ _ _ h.iface g.iface in
    let proto = same_Some _ _ _ h.proto g.proto in
    let source = same_some _ _ (one_source (Some p.source) (Some q.source) h.source g.source) in
    let target = same_some _ _ (one_target (Some p.target) (Some q.target) h.target g.target) in
    let sport = same_Ok _ _ _ _ h.keys.sport g.keys.sport (λ i. sport_read (proto i) (values i)) in
    let dport = same_Ok _ _ _ _ h.keys.dport g.keys.dport (λ i. dport_read (proto i) (values i)) in
    let flags = same_Ok _ _ _ _ h.keys.flags g.keys.flags (λ i. flags_read (proto i) (values i)) in
    let icmptype = same_Ok _ _ _ _ h.keys.icmptype g.keys.icmptype (λ i. icmptype_read (proto i) (values i)) in
    let code = same_Ok _ _ _ _ h.keys.code g.keys.code (λ i. code_read (proto i) (values i)) in
    let tos = same_Ok _ _ _ _ h.keys.tos g.keys.tos (λ i. tos_read (values i)) in
    let prio = same_Ok _ _ _ _ h.keys.prio g.keys.prio (λ i. prio_read (values i)) in
    let user = same_Ok _ _ _ _ h.keys.user g.keys.user (λ i. user_read (proto i) (values i)) in
    let group = same_Ok _ _ _ _ h.keys.group g.keys.group (λ i. group_read (proto i) (values i)) in
    let tag = same_Ok _ _ _ _ h.keys.tag g.keys.tag (λ i. tag_read (values i)) in
    λ i. record { direction = direction i; iface = iface i; proto = proto i; source = source i; target = target i; source_port = sport i; target_port = dport i; flags = flags i; icmp_type = icmptype i; icmp_code = code i; tos = tos i; prio = prio i; user = user i; group = group i; tag = tag i }

-- ---- one fault, and none beside a packet

no_fault : (words : List (List ℕ)) (p : Packet) (fault : Field) → IsOne (slice_get words 3) → IsOne (slice_get words 4) → IsWhole words p → IsFaulty words fault → ⊥
no_fault words p fault one_source one_target h g =
    let source = one_source _ _ g.source_said h.source in
    let target = one_target _ _ g.target_said h.target in
    let none : keys_fault p.proto (drop 5 words) ≡ None =
    keys_fault-values p.proto (drop 5 words) h.values false h.cut
    ∙ ap (λ (f : Option Field). option_or f (end_fault p.proto h.values false)) (values_fault-read p.proto h.values p h.keys)
    ∙ h.ended in
    let first = g.first in
    let bad : None ≡ Some fault =
    sym (rw (h.direction, h.iface, h.proto, source, target, eq-eqb _ _ h.one_family, none) refl) ∙ first in
    absurd cc

one_fault : (words : List (List ℕ)) (a b : Field) → IsOne (slice_get words 3) → IsOne (slice_get words 4) → IsFaulty words a → IsFaulty words b → a ≡ b
one_fault words a b one_source one_target h g =
    let source = one_source _ _ h.source_said g.source_said in
    let target = one_target _ _ h.target_said g.target_said in
    same_Some a b _ h.first
    (ap (λ (s : Option Addr). fault_of (option_and_then direction_of (slice_get words 0)) (option_and_then plain_name (slice_get words 1)) (option_and_then proto_of (slice_get words 2)) s h.target (drop 5 words)) source
    ∙ ap (λ (t : Option Addr). fault_of (option_and_then direction_of (slice_get words 0)) (option_and_then plain_name (slice_get words 1)) (option_and_then proto_of (slice_get words 2)) g.source t (drop 5 words)) target
    ∙ g.first)

-- where its addresses are read in one way, a text is read in one way
pub one_reading : (text : List ℕ) (r s : Result Packet PacketFault) → IsOne (slice_get (fields_of text) 3) → IsOne (slice_get (fields_of text) 4) → IsReadAs text r → IsReadAs text s → s ≡ r
one_reading text (Ok p) (Ok q) one_source one_target h g =
    ap Ok (one_whole _ q p one_source one_target (whole _ q g) (whole _ p h))
one_reading text (Ok p) (Err b) one_source one_target h g = absurd (no_fault _ p b.0 one_source one_target (whole _ p h) g)
one_reading text (Err a) (Ok q) one_source one_target h g = absurd (no_fault _ q a.0 one_source one_target (whole _ q g) h)
one_reading text (Err a) (Err b) one_source one_target h g =
    let same = one_fault _ b.0 a.0 one_source one_target g h in λ i. Err (record { 0 = same i })

-- an address text is that of one address
abbrev AreUnique : Type 0
AreUnique = (text : List ℕ) (a b : Addr) → IsAddrText text a → IsAddrText text b → a ≡ b

one_address : AreUnique → (word : Option (List ℕ)) → IsOne word
one_address unique None a b h k = h ∙ sym k
one_address unique (Some text) None None h k = refl
one_address unique (Some text) None (Some y) h k = absurd (h y k)
one_address unique (Some text) (Some x) None h k = absurd (k x h)
one_address unique (Some text) (Some x) (Some y) h k = ap Some (unique text x y h k)

-- a text is read in one way
pub read_one_way : AreUnique → (text : List ℕ) (r s : Result Packet PacketFault) → IsReadAs text r → IsReadAs text s → r ≡ s
read_one_way unique text r s h k = one_reading text s r (one_address unique _) (one_address unique _) k h
