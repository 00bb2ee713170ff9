-- The record of a packet: words between single spaces. They are the direction, the interface, the protocol, the source
-- and the destination, and then the keys that are given, in their order.
use Rattle.std.specs.Prelude.{◌≡◌, ℕ, List, [], ◌∷◌, ◌++◌, drop, Option, Some, None, Result, Ok, Err, is_some, IsSome, IsTrue, MatchOption, if◌then◌else◌, codes}
use Rattle.std.specs.List.{slice_get}
use Rattle.std.specs.Option.{option_and_then, option_map}
use Rattle.pf_base.specs.Decimal.{decimal_of}
use Rattle.pf_base.specs.Name.{plain_name}
use Rattle.pf_base.specs.Text.{fields_of}
use Rattle.pf_addr.specs.Addr.{SameFamily, same_family}
use Rattle.pf_addr.specs.Grammar.{IsAddrText}
use Rattle.pf_addr.specs.declared.addr.Addr.{Addr}
use Rattle.pf_ops.specs.Words.{flags_of, proto_of}
use Rattle.pf_parts.specs.declared.direction.Direction.{Direction}
use Rattle.pf_rule.specs.declared.packet.Packet.{Packet}
use Rattle.pf_record.specs.declared.field.Field.{Field}
use Rattle.pf_record.specs.declared.field.Field.TheVariants as field
use Rattle.pf_record.specs.declared.field.PacketFault.{PacketFault}
use Rattle.pf_record.specs.Keys.{keys_fault}
use Rattle.pf_record.specs.Words.{direction_of, is_tcp, has_ports, has_types, most_byte, most_owner, most_port, most_prio, plain_prio, plain_tos}

-- the values of the keys of a record, each where its key is given
pub record Values : Type 0 where
  pub sport : Option (List ℕ)
  pub dport : Option (List ℕ)
  pub flags : Option (List ℕ)
  pub icmptype : Option (List ℕ)
  pub code : Option (List ℕ)
  pub tos : Option (List ℕ)
  pub prio : Option (List ℕ)
  pub user : Option (List ℕ)
  pub group : Option (List ℕ)
  pub tag : Option (List ℕ)

-- the word of a key that is given
abbrev pub given : List ℕ → Option (List ℕ) → List (List ℕ)
given begins None = []
given begins (Some value) = (begins ++ value) ∷ []

-- the words of the keys that are given, in their order
abbrev pub key_words : Values → List (List ℕ)
key_words values =
    given (codes "sport=") values.sport
    ++ (given (codes "dport=") values.dport
    ++ (given (codes "flags=") values.flags
    ++ (given (codes "icmptype=") values.icmptype
    ++ (given (codes "code=") values.code
    ++ (given (codes "tos=") values.tos
    ++ (given (codes "prio=") values.prio
    ++ (given (codes "user=") values.user
    ++ (given (codes "group=") values.group
    ++ given (codes "tag=") values.tag))))))))

-- what a key says: its value where it is given, else what holds without it
abbrev pub Says : {A : Type 0} → (List ℕ → Option A) → A → Option (List ℕ) → A → Type 0
Says read without None said = said ≡ without
Says read without (Some value) said = read value ≡ Some said

-- a value of what a packet may be without
abbrev pub perhaps : {A : Type 0} → (List ℕ → Option A) → List ℕ → Option (Option A)
perhaps read value = option_map Some (read value)

-- the values say this of the packet
pub record AreSaid (values : Values) (p : Packet) : Type 0 where
  pub sport : Says (perhaps (decimal_of most_port)) None values.sport p.source_port
  pub dport : Says (perhaps (decimal_of most_port)) None values.dport p.target_port
  pub flags : Says flags_of 0 values.flags p.flags
  pub icmptype : Says (perhaps (decimal_of most_byte)) None values.icmptype p.icmp_type
  pub code : Says (perhaps (decimal_of most_byte)) None values.code p.icmp_code
  pub tos : Says (decimal_of most_byte) plain_tos values.tos p.tos
  pub prio : Says (decimal_of most_prio) plain_prio values.prio p.prio
  pub user : Says (perhaps (decimal_of most_owner)) None values.user p.user
  pub group : Says (perhaps (decimal_of most_owner)) None values.group p.group
  pub tag : Says (perhaps plain_name) None values.tag p.tag

-- the keys that are given are those that a record of this protocol gives or may give
pub record AreAllowed (proto : ℕ) (values : Values) : Type 0 where
  pub sport : is_some values.sport ≡ has_ports proto
  pub dport : is_some values.dport ≡ has_ports proto
  pub flags : IsSome values.flags → IsTrue (is_tcp proto)
  pub icmptype : is_some values.icmptype ≡ has_types proto
  pub code : is_some values.code ≡ has_types proto
  pub user : IsSome values.user → IsTrue (has_ports proto)
  pub group : IsSome values.group → IsTrue (has_ports proto)

-- the words are the record of this packet
pub record IsRecord (words : List (List ℕ)) (p : Packet) : Type 0 where
  pub direction : List ℕ
  pub iface : List ℕ
  pub proto : List ℕ
  pub source : List ℕ
  pub target : List ℕ
  pub values : Values
  pub spelled : words ≡ direction ∷ iface ∷ proto ∷ source ∷ target ∷ key_words values
  pub direction_said : direction_of direction ≡ Some p.direction
  pub iface_said : plain_name iface ≡ Some p.iface
  pub proto_said : proto_of proto ≡ Some p.proto
  pub source_said : IsAddrText source p.source
  pub target_said : IsAddrText target p.target
  pub one_family : SameFamily p.source p.target
  pub allowed : AreAllowed p.proto values
  pub said : AreSaid values p

-- the address that a word writes, where there is a word and it writes one
abbrev pub Writes : Option (List ℕ) → Option Addr → Type 0
Writes None address = address ≡ None
Writes (Some word) address = MatchOption address ((a : Addr) → IsAddrText word a → ⊥) (IsAddrText word)

-- the first fault of a record from left to right, by what its first five words are read as and the words behind them
abbrev pub fault_of : Option Direction → Option (List ℕ) → Option ℕ → Option Addr → Option Addr → List (List ℕ) → Option Field
fault_of None iface proto source target words = Some field.Direction
fault_of (Some direction) None proto source target words = Some field.Interface
fault_of (Some direction) (Some iface) None source target words = Some field.Protocol
fault_of (Some direction) (Some iface) (Some proto) None target words = Some field.Source
fault_of (Some direction) (Some iface) (Some proto) (Some source) None words = Some field.Destination
fault_of (Some direction) (Some iface) (Some proto) (Some source) (Some target) words =
    if same_family source target then keys_fault proto words else Some field.Destination

-- the words are no record, and this is their first fault: a word that is missing is the fault of its field
pub record IsFaulty (words : List (List ℕ)) (fault : Field) : Type 0 where
  pub source : Option Addr
  pub target : Option Addr
  pub source_said : Writes (slice_get words 3) source
  pub target_said : Writes (slice_get words 4) target
  pub first :
      fault_of (option_and_then direction_of (slice_get words 0)) (option_and_then plain_name (slice_get words 1))
      (option_and_then proto_of (slice_get words 2)) source target (drop 5 words) ≡ Some fault

-- what the text of a record is read as
abbrev pub IsReadAs : List ℕ → Result Packet PacketFault → Type 0
IsReadAs text (Ok packet) = IsRecord (fields_of text) packet
IsReadAs text (Err fault) = IsFaulty (fields_of text) fault.0
