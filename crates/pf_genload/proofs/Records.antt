-- The text of a generated record is the record of a packet.
use Rattle.std.proofs.Common.{◌≡◌, ℕ, ◌+◌, ◌*◌, ◌^◌, ◌<◌, ◌≤◌, Bool, true, false, List, [], ◌∷◌, ◌++◌, Some, None, get_or, refl, ap, ◌∙◌, inl, inr, append_assoc, arith, decimal}
use Rattle.std.specs.Prelude.{◌==◌, codes, map, nat_le, not, if◌then◌else◌}
use Rattle.std.specs.Char.{is_ascii_digit}
use Rattle.std.specs.Fmt.{digits}
use Rattle.std.specs.List.{All, list_all, range_with_len}
use Rattle.std.proofs.lemmas.Bool.{and_parts, cases_Bool, eqb-true, leb-true, not-true}
use Rattle.std.proofs.lemmas.List.{append-nil}
use Rattle.std.proofs.lemmas.List.FromFn.{length-map-range_with_len}
use Rattle.std.proofs.lemmas.List.Splits.{slice_split_at, slice_split_none}
use Rattle.std.proofs.lemmas.List.Sums.{AllPass-from_list_all}
use Rattle.pf_addr.specs.declared.addr.Addr.TheVariants.{V4}
use Rattle.pf_base.specs.Decimal.{decimal_of}
use Rattle.pf_base.specs.Name.{is_plain_byte, is_plain_name, plain_name}
use Rattle.pf_base.specs.Text.{fields_of, is_space}
use Rattle.pf_gen.specs.Draws.{after, draw}
use Rattle.pf_gen.specs.Texts.{end_part, head_part, host_part, record_at, record_text, records_from}
use Rattle.pf_ops.specs.Words.{flags_of, tcp_flags}
use Rattle.pf_parts.specs.declared.direction.Direction.TheVariants.{In}
use Rattle.pf_record.specs.Record.{AreAllowed, AreSaid, IsRecord, Says, Values, key_words, perhaps}
use Rattle.pf_record.specs.Words.{most_port}
use Rattle.pf_rule.specs.declared.packet.Packet.{Packet}
use Rattle.pf_genload.specs.Records.{ArePackets, AreRecordsOf}
use Rattle.pf_genload.proofs.Glyphs.{all-append, weaker}
use Rattle.pf_genload.proofs.Numbers.{all_digits, decimal_back}
use Rattle.pf_genload.proofs.Sources.{AddressesReadBack, host_is_address, host_number, host_text, target_is_address, target_number}
use Rattle.pf_genload.proofs.Texts.{four, iface_word, proto_is, proto_number, proto_word}

-- ---- words between single spaces

abbrev is_no_space : ℕ → Bool
is_no_space byte = not (is_space byte)

-- no space stands in it
abbrev is_field : List ℕ → Bool
is_field word = list_all is_no_space word

-- a word and the words behind it, with a space between each two
abbrev spaced : List ℕ → List (List ℕ) → List ℕ
spaced word [] = word
spaced word (next ∷ words) = word ++ 32 ∷ spaced next words

no_space_at : (word : List ℕ) → is_field word ≡ true → All (λ byte. is_space byte ≡ false) word
no_space_at word is = λ k d low. not-true (is_space (get_or word k d)) (AllPass-from_list_all is_no_space word is k d low)

fields_are : (word : List ℕ) (words : List (List ℕ)) → is_field word ≡ true → list_all is_field words ≡ true → fields_of (spaced word words) ≡ word ∷ words
unfolding fields_of
fields_are word [] one each = slice_split_none is_space word (no_space_at word one)
fields_are word (next ∷ words) one each =
    let p = and_parts (is_field next) (list_all is_field words) each in
    slice_split_at is_space word 32 (spaced next words) (no_space_at word one) refl
    ∙ ap (λ (parts : List (List ℕ)). word ∷ parts) (fields_are next words p.0 p.1)

digit_no_space : (byte : ℕ) → is_ascii_digit byte ≡ true → is_no_space byte ≡ true
digit_no_space byte digit = elim (cases_Bool (is_space byte)) [
  | inl space ↦
      let fits : 48 ≤ byte = leb-true 48 byte (and_parts (nat_le 48 byte) (nat_le byte 57) digit).0 in
      let same : byte ≡ 32 = eqb-true byte 32 space in
      absurd (omega arith)
  | inr other ↦ ap not other
]

number_is_field : (n : ℕ) → n < 2 ^ 64 → is_field (decimal n) ≡ true
number_is_field n small = weaker is_ascii_digit is_no_space digit_no_space (decimal n) (all_digits n small)

-- ---- the words of a record

abbrev values_of : Bool → List ℕ → Values
values_of tcp port = record {
  sport = Some (codes "1024");
  dport = Some port;
  flags = if tcp then Some (codes "S") else None;
  icmptype = None;
  code = None;
  tos = None;
  prio = None;
  user = None;
  group = None;
  tag = None;
}

-- the words behind the direction
abbrev words_of : Bool → List ℕ → List ℕ → List ℕ → List (List ℕ)
words_of tcp iface source port = iface ∷ proto_word tcp ∷ source ∷ codes "192.0.2.1" ∷ key_words (values_of tcp port)

iface_is_field : (n : ℕ) → n < 4 → is_field (iface_word n) ≡ true
unfolding digits
iface_is_field = four (λ n. is_field (iface_word n) ≡ true) refl refl refl refl

iface_is_name : (n : ℕ) → n < 4 → plain_name (iface_word n) ≡ Some (iface_word n)
unfolding is_plain_name is_plain_byte digits
iface_is_name = four (λ n. plain_name (iface_word n) ≡ Some (iface_word n)) refl refl refl refl

host_is_field : (b c h : ℕ) → b < 256 → c < 256 → h < 256 → is_field (host_text b c h) ≡ true
host_is_field b c h small_b small_c small_h =
    all-append is_no_space (decimal b) (46 ∷ (decimal c ++ 46 ∷ decimal h)) (number_is_field b (omega arith))
    (all-append is_no_space (decimal c) (46 ∷ decimal h) (number_is_field c (omega arith)) (number_is_field h (omega arith)))

words_are_fields : (tcp : Bool) (iface source port : List ℕ) → is_field iface ≡ true → is_field source ≡ true → is_field port ≡ true → list_all is_field (words_of tcp iface source port) ≡ true
words_are_fields true iface source port i s d = rw (i, s, d) refl
words_are_fields false iface source port i s d = rw (i, s, d) refl

-- the text as it is made, part by part
abbrev made : Bool → List ℕ → List ℕ → List ℕ → List ℕ → List ℕ → List ℕ
made tcp n b c h d =
    (codes "in em" ++ n ++ codes " " ++ proto_word tcp)
    ++ ((codes " 10." ++ b ++ codes "." ++ c ++ codes "." ++ h) ++ (codes " 192.0.2.1 sport=1024 dport=" ++ d ++ (if tcp then codes " flags=S" else [])))

in_row : (front n space proto ten b dot c h back d flags : List ℕ)
    → ((front ++ n ++ space ++ proto) ++ ((ten ++ b ++ dot ++ c ++ dot ++ h) ++ (back ++ d ++ flags)))
    ≡ front ++ (n ++ (space ++ (proto ++ (ten ++ ((b ++ (dot ++ (c ++ (dot ++ h)))) ++ (back ++ (d ++ flags)))))))
in_row front n space proto ten b dot c h back d flags = simp append_assoc

in_row_bare : (front n space proto ten b dot c h back d : List ℕ)
    → ((front ++ n ++ space ++ proto) ++ ((ten ++ b ++ dot ++ c ++ dot ++ h) ++ (back ++ d ++ [])))
    ≡ front ++ (n ++ (space ++ (proto ++ (ten ++ ((b ++ (dot ++ (c ++ (dot ++ h)))) ++ (back ++ d))))))
in_row_bare front n space proto ten b dot c h back d = simp (append_assoc, append-nil)

made_is : (tcp : Bool) (n : List ℕ) (b c h : ℕ) (d : List ℕ)
    → made tcp n (decimal b) (decimal c) (decimal h) d ≡ spaced (codes "in") (words_of tcp (101 ∷ 109 ∷ n) (host_text b c h) d)
made_is true n b c h d =
    in_row (codes "in em") n (codes " ") (codes "tcp") (codes " 10.") (decimal b) (codes ".") (decimal c) (decimal h) (codes " 192.0.2.1 sport=1024 dport=") d (codes " flags=S")
made_is false n b c h d =
    in_row_bare (codes "in em") n (codes " ") (codes "udp") (codes " 10.") (decimal b) (codes ".") (decimal c) (decimal h) (codes " 192.0.2.1 sport=1024 dport=") d

-- ---- the packet

abbrev packet_by : Bool → ℕ → ℕ → ℕ → ℕ → ℕ → Packet
packet_by tcp n b c h d = record {
  direction = In;
  iface = iface_word n;
  proto = proto_number tcp;
  source = V4 (host_number b c h);
  target = V4 target_number;
  source_port = Some 1024;
  target_port = Some d;
  flags = if tcp then 2 else 0;
  icmp_type = None;
  icmp_code = None;
  tos = 0;
  prio = 3;
  user = None;
  group = None;
  tag = None;
}

are_allowed : (tcp : Bool) (port : List ℕ) → AreAllowed (proto_number tcp) (values_of tcp port)
are_allowed true port = record { sport = refl; dport = refl; flags = λ some. refl; icmptype = refl; code = refl; user = λ some. refl; group = λ some. refl }
are_allowed false port = record { sport = refl; dport = refl; flags = λ some. some; icmptype = refl; code = refl; user = λ some. refl; group = λ some. refl }

source_port_said : Says (perhaps (decimal_of most_port)) None (Some (codes "1024")) (Some 1024)
unfolding decimal_of
source_port_said = refl

port_said : (d : ℕ) → d ≤ 1000 → Says (perhaps (decimal_of most_port)) None (Some (decimal d)) (Some d)
port_said d few = rw (decimal_back 65535 d (omega arith) (omega arith)) refl

flags_said : Says flags_of 0 (Some (codes "S")) 2
unfolding flags_of tcp_flags
flags_said = refl

are_said : (tcp : Bool) (n b c h d : ℕ) → d ≤ 1000 → AreSaid (values_of tcp (decimal d)) (packet_by tcp n b c h d)
are_said true n b c h d few = record { sport = source_port_said; dport = port_said d few; flags = flags_said; icmptype = refl; code = refl; tos = refl; prio = refl; user = refl; group = refl; tag = refl }
are_said false n b c h d few = record { sport = source_port_said; dport = port_said d few; flags = refl; icmptype = refl; code = refl; tos = refl; prio = refl; user = refl; group = refl; tag = refl }

made_is_record : AddressesReadBack → (tcp : Bool) (n b c h d : ℕ) → n < 4 → b < 256 → c < 256 → h < 256 → d ≤ 1000
    → IsRecord (fields_of (made tcp (decimal n) (decimal b) (decimal c) (decimal h) (decimal d))) (packet_by tcp n b c h d)
made_is_record back tcp n b c h d few small_b small_c small_h small_d = record {
  direction = codes "in";
  iface = iface_word n;
  proto = proto_word tcp;
  source = host_text b c h;
  target = codes "192.0.2.1";
  values = values_of tcp (decimal d);
  spelled =
      ap fields_of (made_is tcp (decimal n) b c h (decimal d))
      ∙ fields_are (codes "in") (words_of tcp (iface_word n) (host_text b c h) (decimal d)) refl
      (words_are_fields tcp (iface_word n) (host_text b c h) (decimal d) (iface_is_field n few) (host_is_field b c h small_b small_c small_h) (number_is_field d (omega arith)));
  direction_said = refl;
  iface_said = iface_is_name n few;
  proto_said = proto_is tcp;
  source_said = host_is_address back b c h small_b small_c small_h;
  target_said = target_is_address back;
  one_family = refl;
  allowed = are_allowed tcp (decimal d);
  said = are_said tcp n b c h d small_d;
}

-- the packet of the six draws from here on
abbrev packet_of : ℕ → Packet
packet_of x = packet_by (draw x 2 2 == 0) (draw x 1 4) (draw (after x 2) 1 256) (draw (after x 2) 2 256) (draw (after x 2) 3 256) (draw (after x 5) 1 1000 + 1)

-- whatever numbers are drawn
record_is : AddressesReadBack → (x : ℕ) → IsRecord (fields_of (record_text x)) (packet_of x)
unfolding head_part host_part end_part
record_is back x =
    made_is_record back (draw x 2 2 == 0) (draw x 1 4) (draw (after x 2) 1 256) (draw (after x 2) 2 256) (draw (after x 2) 3 256) (draw (after x 5) 1 1000 + 1)
    (omega arith) (omega arith) (omega arith) (omega arith) (omega arith)

-- ---- the records of a run

-- the packet that so many others stand before, in a run whose records begin behind these draws
abbrev packet_at : ℕ → ℕ → Packet
packet_at start place = packet_of (after start (6 * place))

are_records : AddressesReadBack → (start : ℕ) (places : List ℕ) → AreRecordsOf (map (record_at start) places) (map (packet_at start) places)
are_records back start [] = tt
are_records back start (place ∷ places) = (record_is back (after start (6 * place)), are_records back start places)

pub are_packets : AddressesReadBack → (start many : ℕ) → ArePackets (records_from start many) many
unfolding records_from
are_packets back start many = record {
  packets = map (packet_at start) (range_with_len 0 many);
  count = length-map-range_with_len (packet_at start) 0 many;
  are = are_records back start (range_with_len 0 many);
}
