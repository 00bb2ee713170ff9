-- How the code reads a record: its words one after the other, the values of its keys, and then the faults among these. No public
-- clause names this; the proofs tie it to Record and Keys.
use Rattle.std.specs.Prelude.{◌≡◌, ℕ, Bool, true, false, ◌&&◌, not, List, [], ◌∷◌, drop, length, Option, Some, None, Result, Ok, Err, is_some, is_none, if◌then◌else◌, codes, nat_eq}
use Rattle.std.specs.List.{slice_get, starts_with}
use Rattle.std.specs.Option.{option_or, option_and_then, option_copied, ok_or}
use Rattle.pf_base.specs.Decimal.{decimal_of}
use Rattle.pf_base.specs.Text.{fields_of}
use Rattle.pf_base.specs.Name.{plain_name}
use Rattle.pf_addr.specs.Addr.{SameFamily}
use Rattle.pf_addr.specs.declared.addr.Addr.{Addr}
use Rattle.pf_ops.specs.Words.{flags_of, proto_of}
use Rattle.pf_rule.specs.declared.packet.Packet.{Packet}
use Rattle.pf_record.specs.declared.field.Field.{Field}
use Rattle.pf_record.specs.declared.field.Field.TheVariants.{Sport, Dport, Flags, Icmptype, Code, Tos, Prio, User, Group, Tag, Extra}
use Rattle.pf_record.specs.declared.field.PacketFault.{PacketFault}
use Rattle.pf_record.specs.declared.head.Head.{Head}
use Rattle.pf_record.specs.declared.head.Start.{Start}
use Rattle.pf_record.specs.declared.values.KeyValues.{KeyValues}
use Rattle.pf_record.specs.Record.{Values, Writes, perhaps}
use Rattle.pf_record.specs.Words.{direction_of, is_tcp, has_ports, has_types, most_byte, most_owner, most_port, most_prio, plain_prio, plain_tos}

-- the words of what is left, where something is left
abbrev pub words_left : Option (List ℕ) → List (List ℕ)
words_left None = []
words_left (Some text) = fields_of text

-- what stands behind these bytes in a word that begins with them
abbrev pub value_behind : List ℕ → List ℕ → Option (List ℕ)
value_behind begins word = if starts_with nat_eq word begins then Some (drop (length begins) word) else None

-- the value of a key that the first of these words has
abbrev pub first_value : List ℕ → List (List ℕ) → Option (List ℕ)
first_value begins [] = None
first_value begins (word ∷ words) = value_behind begins word

-- the words without that one
abbrev pub behind_first : List ℕ → List (List ℕ) → List (List ℕ)
behind_first begins [] = []
behind_first begins (word ∷ words) = if is_some (value_behind begins word) then words else word ∷ words

-- a key's value is taken where its word comes next, and these words are left
pub record TakesValue (begins : List ℕ) (words : List (List ℕ)) (value : Option (List ℕ)) (rest : List (List ℕ)) : Type 0 where
  pub taken : value ≡ first_value begins words
  pub left : rest ≡ behind_first begins words

-- the values of keys, each where its word comes next
abbrev pub values_in : List (List ℕ) → List (List ℕ) → List (Option (List ℕ))
values_in [] words = []
values_in (begins ∷ keys) words = first_value begins words ∷ values_in keys (behind_first begins words)

-- the words behind them
abbrev pub rest_behind : List (List ℕ) → List (List ℕ) → List (List ℕ)
rest_behind [] words = words
rest_behind (begins ∷ keys) words = rest_behind keys (behind_first begins words)

-- how the words of the keys begin, in their order
abbrev pub beginnings : List (List ℕ)
beginnings =
    codes "sport="
    ∷ codes "dport="
    ∷ codes "flags="
    ∷ codes "icmptype="
    ∷ codes "code="
    ∷ codes "tos="
    ∷ codes "prio="
    ∷ codes "user="
    ∷ codes "group="
    ∷ codes "tag="
    ∷ []

abbrev pub is_empty : List (List ℕ) → Bool
is_empty [] = true
is_empty (word ∷ words) = false

-- the values as the code has them
abbrev pub values_of : KeyValues → Values
values_of v = record {
  sport = option_copied v.sport;
  dport = option_copied v.dport;
  flags = option_copied v.flags;
  icmptype = option_copied v.icmptype;
  code = option_copied v.code;
  tos = option_copied v.tos;
  prio = option_copied v.prio;
  user = option_copied v.user;
  group = option_copied v.group;
  tag = option_copied v.tag;
}

abbrev pub list_of : Values → List (Option (List ℕ))
list_of v =
    v.sport ∷ v.dport ∷ v.flags ∷ v.icmptype ∷ v.code ∷ v.tos ∷ v.prio ∷ v.user ∷ v.group ∷ v.tag ∷ []

-- the values of keys in a row are taken, and these words are left
pub record TakesAll (keys words : List (List ℕ)) (values : List (Option (List ℕ))) (rest : List (List ℕ)) : Type 0 where
  pub taken : values ≡ values_in keys words
  pub left : rest ≡ rest_behind keys words

-- the values are those of keys in the order of the table, and `extra` says whether more words stand behind them
pub record AreCut (words : List (List ℕ)) (v : Values) (extra : Bool) : Type 0 where
  pub rest : List (List ℕ)
  pub all : TakesAll beginnings words (list_of v) rest
  pub more : extra ≡ not (is_empty rest)

-- a value where the protocol has its key, and what holds without it
abbrev pub value_read : {A : Type 0} → Bool → (List ℕ → Option A) → A → Field → Option (List ℕ) → Result A PacketFault
value_read has read without field None = Ok without
value_read has read without field (Some value) = if has then ok_or (read value) (record { 0 = field }) else Err (record { 0 = field })

-- the fault of a result
abbrev pub fault_in : {A : Type 0} → Result A PacketFault → Option Field
fault_in (Ok value) = None
fault_in (Err fault) = Some fault.0

-- what each key says
abbrev pub sport_read : ℕ → Values → Result (Option ℕ) PacketFault
sport_read proto v = value_read (has_ports proto) (perhaps (decimal_of most_port)) None Sport v.sport

abbrev pub dport_read : ℕ → Values → Result (Option ℕ) PacketFault
dport_read proto v = value_read (has_ports proto) (perhaps (decimal_of most_port)) None Dport v.dport

abbrev pub flags_read : ℕ → Values → Result ℕ PacketFault
flags_read proto v = value_read (is_tcp proto) flags_of 0 Flags v.flags

abbrev pub icmptype_read : ℕ → Values → Result (Option ℕ) PacketFault
icmptype_read proto v = value_read (has_types proto) (perhaps (decimal_of most_byte)) None Icmptype v.icmptype

abbrev pub code_read : ℕ → Values → Result (Option ℕ) PacketFault
code_read proto v = value_read (has_types proto) (perhaps (decimal_of most_byte)) None Code v.code

abbrev pub tos_read : Values → Result ℕ PacketFault
tos_read v = value_read true (decimal_of most_byte) plain_tos Tos v.tos

abbrev pub prio_read : Values → Result ℕ PacketFault
prio_read v = value_read true (decimal_of most_prio) plain_prio Prio v.prio

abbrev pub user_read : ℕ → Values → Result (Option ℕ) PacketFault
user_read proto v = value_read (has_ports proto) (perhaps (decimal_of most_owner)) None User v.user

abbrev pub group_read : ℕ → Values → Result (Option ℕ) PacketFault
group_read proto v = value_read (has_ports proto) (perhaps (decimal_of most_owner)) None Group v.group

abbrev pub tag_read : Values → Result (Option (List ℕ)) PacketFault
tag_read v = value_read true (perhaps plain_name) None Tag v.tag

-- the first fault of the keys that are given
unfoldable pub values_fault : ℕ → Values → Option Field
values_fault proto v =
    option_or (fault_in (sport_read proto v))
    (option_or (fault_in (dport_read proto v))
    (option_or (fault_in (flags_read proto v))
    (option_or (fault_in (icmptype_read proto v))
    (option_or (fault_in (code_read proto v))
    (option_or (fault_in (tos_read v))
    (option_or (fault_in (prio_read v))
    (option_or (fault_in (user_read proto v))
    (option_or (fault_in (group_read proto v))
    (fault_in (tag_read v))))))))))

-- a key that has to be given
abbrev pub lacks : Bool → Field → Option (List ℕ) → Option Field
lacks has field value = if has && is_none value then Some field else None

-- the fault behind the keys: one more word, or a key that is missing
unfoldable pub end_fault : ℕ → Values → Bool → Option Field
end_fault proto v extra =
    if extra then Some Extra
    else option_or (lacks (has_ports proto) Sport v.sport)
    (option_or (lacks (has_ports proto) Dport v.dport)
    (option_or (lacks (has_types proto) Icmptype v.icmptype) (lacks (has_types proto) Code v.code)))

-- the packet's fields are what the keys say
pub record AreRead (proto : ℕ) (v : Values) (p : Packet) : Type 0 where
  pub sport : sport_read proto v ≡ Ok p.source_port
  pub dport : dport_read proto v ≡ Ok p.target_port
  pub flags : flags_read proto v ≡ Ok p.flags
  pub icmptype : icmptype_read proto v ≡ Ok p.icmp_type
  pub code : code_read proto v ≡ Ok p.icmp_code
  pub tos : tos_read v ≡ Ok p.tos
  pub prio : prio_read v ≡ Ok p.prio
  pub user : user_read proto v ≡ Ok p.user
  pub group : group_read proto v ≡ Ok p.group
  pub tag : tag_read v ≡ Ok p.tag

-- the packet has what its record's first words say, and what the keys say, and no key is missing
pub record IsPacketOf (start : Start) (v : Values) (extra : Bool) (p : Packet) : Type 0 where
  pub direction : p.direction ≡ start.direction
  pub iface : p.iface ≡ start.iface
  pub proto : p.proto ≡ start.proto
  pub source : p.source ≡ start.source
  pub target : p.target ≡ start.target
  pub keys : AreRead start.proto v p
  pub ended : end_fault start.proto v extra ≡ None

-- the first of the words is taken, where there is one, and these are left
pub record TakesWord (words : List (List ℕ)) (word : Option (List ℕ)) (rest : List (List ℕ)) : Type 0 where
  pub taken : word ≡ slice_get words 0
  pub left : rest ≡ drop 1 words

-- what the first five words are read as, and the words behind them
pub record IsHead (words : List (List ℕ)) (head : Head) (rest : List (List ℕ)) : Type 0 where
  pub direction : head.direction ≡ option_and_then direction_of (slice_get words 0)
  pub iface : head.iface ≡ option_and_then plain_name (slice_get words 1)
  pub proto : head.proto ≡ option_and_then proto_of (slice_get words 2)
  pub source : Writes (slice_get words 3) head.source
  pub target : Writes (slice_get words 4) head.target
  pub source_only : (other : Option Addr) → Writes (slice_get words 3) other → other ≡ head.source
  pub target_only : (other : Option Addr) → Writes (slice_get words 4) other → other ≡ head.target
  pub left : rest ≡ drop 5 words

-- none of the first five words has a fault, and they say this
pub record Starts (head : Head) (start : Start) : Type 0 where
  pub direction : head.direction ≡ Some start.direction
  pub iface : head.iface ≡ Some start.iface
  pub proto : head.proto ≡ Some start.proto
  pub source : head.source ≡ Some start.source
  pub target : head.target ≡ Some start.target
  pub one_family : SameFamily start.source start.target
