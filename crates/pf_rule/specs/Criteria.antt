-- The criteria of a rule (pf.conf(5), PARAMETERS), each as a test of a packet. A test reads the packet, the
-- tag that the packet has at the moment, and what stands around the rules, and nothing else.
use Rattle.std.specs.Prelude.{ℕ, List, Bool, true, false, not, ◌&&◌, ◌||◌, ◌==◌, Option, Some, None, bit_and, if◌then◌else◌}
use Rattle.std.specs.Str.{bytes_eq}
use Rattle.pf_addr.specs.Addr.{is_of_family}
use Rattle.pf_addr.specs.Prefix as prefixes
use Rattle.pf_addr.specs.Range as ranges
use Rattle.pf_addr.specs.declared.addr.Addr.{Addr}
use Rattle.pf_ops.specs.Numbers.{in_numbers}
use Rattle.pf_ops.specs.declared.flags.IcmpType.{IcmpType}
use Rattle.pf_ops.specs.declared.numbers.Numbers.{Numbers}
use Rattle.pf_rule.specs.Around.{Around}
use Rattle.pf_rule.specs.declared.criteria.AddrSet.{AddrSet}
use Rattle.pf_rule.specs.declared.criteria.AddrSet.TheVariants.{Prefix, Range, Table, Dynamic, Auto}
use Rattle.pf_rule.specs.declared.criteria.AddrTest.{AddrTest}
use Rattle.pf_rule.specs.declared.criteria.AddrTest.TheVariants as address
use Rattle.pf_rule.specs.declared.criteria.Criteria.{Criteria}
use Rattle.pf_parts.specs.declared.matching.IfTest.{IfTest}
use Rattle.pf_parts.specs.declared.matching.IfTest.TheVariants as interface
use Rattle.pf_parts.specs.declared.matching.TagTest.{TagTest}
use Rattle.pf_parts.specs.declared.matching.TagTest.TheVariants as tag
use Rattle.pf_parts.specs.declared.direction.Direction.{Direction}
use Rattle.pf_parts.specs.declared.direction.Direction.TheVariants.{In, Out}
use Rattle.pf_rule.specs.declared.packet.Packet.{Packet}

-- a criterion that isn't given holds for every packet
abbrev pub if_given : {A : Type 0} → Option A → (A → Bool) → Bool
if_given None test = true
if_given (Some value) test = test value

-- what a packet doesn't have, or its record doesn't tell, meets no test
abbrev pub if_known : {A : Type 0} → Option A → (A → Bool) → Bool
if_known None test = false
if_known (Some value) test = test value

-- `!` before a test turns it round
abbrev pub turned : Bool → Bool → Bool
turned negated holds = if negated then not holds else holds

-- the numbers of the protocols that have ports, flags or ICMP types
abbrev pub tcp : ℕ
tcp = 6

abbrev pub udp : ℕ
udp = 17

abbrev pub icmp : ℕ
icmp = 1

abbrev pub icmp6 : ℕ
icmp6 = 58

abbrev pub is_tcp_or_udp : ℕ → Bool
is_tcp_or_udp proto = proto == tcp || proto == udp

abbrev pub is_icmp : ℕ → Bool
is_icmp proto = proto == icmp || proto == icmp6

-- `on`: the packet's interface has this name or is in this group, or with `!` it isn't
abbrev pub on_interface : (List ℕ → List ℕ → Bool) → IfTest → List ℕ → Bool
on_interface in_group interface.Any iface = true
on_interface in_group (interface.On name negated) iface = turned negated (in_group name iface)

abbrev pub interface_holds : Around → Criteria → Packet → Bool
interface_holds around criteria packet = on_interface around.in_group criteria.iface packet.iface

-- `in` and `out`
abbrev pub same_direction : Direction → Direction → Bool
same_direction In In = true
same_direction In Out = false
same_direction Out In = false
same_direction Out Out = true

abbrev pub direction_holds : Criteria → Packet → Bool
direction_holds criteria packet = if_given criteria.direction (λ direction. same_direction direction packet.direction)

-- `inet` and `inet6`: the packet is of this family, which is that of its source
abbrev pub family_holds : Criteria → Packet → Bool
family_holds criteria packet = if_given criteria.family (λ family. is_of_family family packet.source)

-- the number, where one is given, is this one
abbrev pub same_number : Option ℕ → ℕ → Bool
same_number given number = if_given given (λ n. n == number)

-- `proto`
abbrev pub proto_holds : Criteria → Packet → Bool
proto_holds criteria packet = same_number criteria.proto packet.proto

-- The address is one of the set. None of the other family is in a prefix or a range.
abbrev pub in_set : Around → AddrSet → Addr → Bool
in_set around (Prefix prefix) addr = prefixes.contains prefix addr
in_set around (Range range) addr = ranges.contains range addr
in_set around (Table name) addr = around.member (Table name) addr
in_set around (Dynamic what) addr = around.dynamic what addr
in_set around (Auto number) addr = around.member (Auto number) addr

-- `from` and `to`: the address is one of the set, or with `!` it isn't
abbrev pub address_holds : Around → AddrTest → Addr → Bool
address_holds around address.Any addr = true
address_holds around (address.Test negated what) addr = turned negated (in_set around what addr)

abbrev pub source_holds : Around → Criteria → Packet → Bool
source_holds around criteria packet = address_holds around criteria.source packet.source

abbrev pub target_holds : Around → Criteria → Packet → Bool
target_holds around criteria packet = address_holds around criteria.target packet.target

-- `port`, `user` and `group`: the packet is TCP or UDP, and it has a number, which is in the set
abbrev pub number_holds : Option Numbers → Packet → Option ℕ → Bool
number_holds test packet number =
    if_given test (λ set. is_tcp_or_udp packet.proto && if_known number (λ n. in_numbers set n))

abbrev pub source_port_holds : Criteria → Packet → Bool
source_port_holds criteria packet = number_holds criteria.source_port packet packet.source_port

abbrev pub target_port_holds : Criteria → Packet → Bool
target_port_holds criteria packet = number_holds criteria.target_port packet packet.target_port

abbrev pub user_holds : Criteria → Packet → Bool
user_holds criteria packet = number_holds criteria.user packet packet.user

abbrev pub group_holds : Criteria → Packet → Bool
group_holds criteria packet = number_holds criteria.group packet packet.group

-- `flags`: of the packet's TCP flags in the mask exactly those in the set are set; what isn't TCP has no such test
abbrev pub flags_hold : Criteria → Packet → Bool
flags_hold criteria packet =
    if_given criteria.flags (λ flags. not (packet.proto == tcp) || bit_and packet.flags flags.mask == flags.set)

-- the code is the given one, or none is given
abbrev pub same_code : Option ℕ → Option ℕ → Bool
same_code given code = if_given given (λ n. if_known code (λ known. n == known))

-- the packet's type is this one, and its code where one is given
abbrev pub same_type : IcmpType → Packet → Bool
same_type type packet = if_known packet.icmp_type (λ kind. kind == type.kind) && same_code type.code packet.icmp_code

-- `icmp-type` and `icmp6-type`: the packet is ICMP or ICMP6, of this type and code
abbrev pub icmp_holds : Criteria → Packet → Bool
icmp_holds criteria packet = if_given criteria.icmp (λ type. is_icmp packet.proto && same_type type packet)

-- `tos`
abbrev pub tos_holds : Criteria → Packet → Bool
tos_holds criteria packet = same_number criteria.tos packet.tos

-- `prio`
abbrev pub prio_holds : Criteria → Packet → Bool
prio_holds criteria packet = same_number criteria.prio packet.prio

-- the tag is this name
abbrev pub is_tag : Option (List ℕ) → List ℕ → Bool
is_tag present name = if_known present (λ known. bytes_eq known name)

-- the tag that the packet has at the moment is this name, or with `!` it isn't
abbrev pub tag_passes : TagTest → Option (List ℕ) → Bool
tag_passes tag.Any present = true
tag_passes (tag.Is name negated) present = turned negated (is_tag present name)

-- `tagged`
abbrev pub tagged_holds : Criteria → Option (List ℕ) → Bool
tagged_holds criteria present = tag_passes criteria.tagged present
