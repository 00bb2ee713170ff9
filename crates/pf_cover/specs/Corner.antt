-- Where rules stand beside one another on one axis, so that most pairs need no comparison: how far each reaches, by the
-- low end of its addresses or numbers and by its depth, which is how far their high end is from the top. A rule that
-- covers another has neither larger. A criterion that only its equal covers has a number, and for its depth what is
-- left of a top, so that only one of the same number is neither higher nor deeper.
use Rattle.std.specs.Prelude.{ℕ, ◌+◌, ◌-◌, ◌*◌, ◌%◌, ◌^◌, ◌≤◌, List, Option, Some, None, min, max}
use Rattle.std.specs.List.{fold}
use Rattle.pf_addr.specs.Stretch.{prefix_stretch, range_stretch}
use Rattle.pf_addr.specs.declared.stretch.Stretch.{Stretch}
use Rattle.pf_base.specs.declared.kind.Family.{Family}
use Rattle.pf_base.specs.declared.kind.Family.TheVariants.{Inet, Inet6}
use Rattle.pf_cover.specs.declared.corner.Axis.{Axis}
use Rattle.pf_cover.specs.declared.corner.Axis.TheVariants.{Source, Target, Ports, Owners, Others}
use Rattle.pf_cover.specs.declared.corner.Corner.{Corner}
use Rattle.pf_cover.specs.declared.corner.Ends.{Ends}
use Rattle.pf_ops.specs.declared.flags.IcmpType.{IcmpType}
use Rattle.pf_ops.specs.declared.flags.TcpFlags.{TcpFlags}
use Rattle.pf_ops.specs.declared.numbers.Numbers.{Numbers}
use Rattle.pf_ops.specs.declared.numbers.Numbers.TheVariants.{Empty, One, Two}
use Rattle.pf_parts.specs.declared.direction.Direction.{Direction}
use Rattle.pf_parts.specs.declared.direction.Direction.TheVariants.{In, Out}
use Rattle.pf_parts.specs.declared.matching.IfTest.{IfTest}
use Rattle.pf_parts.specs.declared.matching.IfTest.TheVariants as interface
use Rattle.pf_parts.specs.declared.matching.TagTest.{TagTest}
use Rattle.pf_parts.specs.declared.matching.TagTest.TheVariants as tag
use Rattle.pf_rule.specs.declared.criteria.AddrSet.{AddrSet}
use Rattle.pf_rule.specs.declared.criteria.AddrSet.TheVariants.{Prefix, Range, Table, Dynamic, Auto}
use Rattle.pf_rule.specs.declared.criteria.AddrTest.{AddrTest}
use Rattle.pf_rule.specs.declared.criteria.AddrTest.TheVariants.{Any, Test}
use Rattle.pf_rule.specs.declared.criteria.Criteria.{Criteria}
use Rattle.pf_rule.specs.declared.rule.Rule.{Rule}

-- neither end is above the top
pub record EndsUpTo (top : ℕ) (ends : Ends) : Type 0 where
  pub low : ends.low ≤ top
  pub depth : ends.depth ≤ top

-- what isn't given
abbrev pub nowhere : Ends
nowhere = record { low = 0; depth = 0 }

abbrev pub if_given : {A : Type 0} → (A → Ends) → Option A → Ends
if_given ends None = nowhere
if_given ends (Some given) = ends given

-- a number that only its equal covers
abbrev pub exactly : ℕ → ℕ → Ends
exactly top number = record { low = number + 1; depth = top - number }

-- by one criterion, and among equals by another
abbrev pub beside : ℕ → Ends → Ends → Ends
beside base first second = record { low = first.low * base + second.low; depth = first.depth * base + second.depth }

-- a number of a name, which tells most names apart
abbrev pub mark_step : ℕ → ℕ → ℕ
mark_step mark byte = (mark * 31 + byte) % 16777216

unfoldable pub mark_of : List ℕ → ℕ
mark_of name = fold mark_step 0 name

unfoldable pub from_top : ℕ → ℕ
from_top high = (2 ^ 128 - 1) - high

abbrev pub stretch_ends : Stretch → Ends
stretch_ends stretch = record { low = stretch.low; depth = from_top stretch.high }

-- sets of addresses; those that aren't a stretch have a number
abbrev pub address_ends : AddrSet → Ends
address_ends (Prefix prefix) = stretch_ends (prefix_stretch prefix)
address_ends (Range range) = stretch_ends (range_stretch range)
address_ends (Table name) = exactly 16777216 (mark_of name)
address_ends (Dynamic what) = exactly 16777216 (mark_of what.name)
address_ends (Auto number) = exactly 4294967296 number

-- those with `!` too, since only their equals cover them
abbrev pub test_ends : AddrTest → Ends
test_ends Any = nowhere
test_ends (Test negated what) = address_ends what

-- a set of numbers, each as if it were no larger than the top
abbrev pub set_ends : ℕ → Numbers → Ends
set_ends top Empty = record { low = top; depth = top }
set_ends top (One all) = record { low = min all.low top; depth = top - all.high }
set_ends top (Two first last) = record { low = min (min first.low last.low) top; depth = top - max first.high last.high }

abbrev pub numbers_ends : ℕ → Option Numbers → Ends
numbers_ends top = if_given (set_ends top)

-- criteria that only their equals cover
abbrev pub byte_ends : Option ℕ → Ends
byte_ends = if_given (exactly 256)

abbrev pub direction_number : Direction → ℕ
direction_number In = 0
direction_number Out = 1

abbrev pub direction_ends : Option Direction → Ends
direction_ends = if_given (λ direction. exactly 2 (direction_number direction))

abbrev pub family_number : Family → ℕ
family_number Inet = 0
family_number Inet6 = 1

abbrev pub family_ends : Option Family → Ends
family_ends = if_given (λ family. exactly 2 (family_number family))

abbrev pub flags_ends : Option TcpFlags → Ends
flags_ends = if_given (λ flags. exactly 65536 (flags.set * 256 + flags.mask))

abbrev pub code_number : Option ℕ → ℕ
code_number None = 0
code_number (Some code) = code + 1

abbrev pub icmp_ends : Option IcmpType → Ends
icmp_ends = if_given (λ icmp. exactly 131072 (icmp.kind * 512 + code_number icmp.code))

abbrev pub interface_ends : IfTest → Ends
interface_ends interface.Any = nowhere
interface_ends (interface.On name negated) = exactly 16777216 (mark_of name)

abbrev pub tag_ends : TagTest → Ends
tag_ends tag.Any = nowhere
tag_ends (tag.Is name negated) = exactly 16777216 (mark_of name)

abbrev pub others_ends : Criteria → Ends
others_ends criteria =
    let names = beside 33554432 (interface_ends criteria.iface) (tag_ends criteria.tagged) in
    let protocol = beside 512 names (byte_ends criteria.proto) in
    let tos = beside 512 protocol (byte_ends criteria.tos) in
    let prio = beside 512 tos (byte_ends criteria.prio) in
    let flags = beside 131072 prio (flags_ends criteria.flags) in
    let icmp = beside 262144 flags (icmp_ends criteria.icmp) in
    let family = beside 4 icmp (family_ends criteria.family) in
    beside 4 family (direction_ends criteria.direction)

abbrev pub ends_at : Axis → Criteria → Ends
ends_at Source criteria = test_ends criteria.source
ends_at Target criteria = test_ends criteria.target
ends_at Ports criteria = beside 65536 (numbers_ends 65535 criteria.source_port) (numbers_ends 65535 criteria.target_port)
ends_at Owners criteria = beside 4294967296 (numbers_ends 4294967295 criteria.user) (numbers_ends 4294967295 criteria.group)
ends_at Others criteria = others_ends criteria

-- a rule's corner, with its place
unfoldable pub corner_at : Axis → ℕ × Rule → Corner
corner_at axis rule =
    let ends = ends_at axis rule.1.criteria in
    record { low = ends.low; depth = ends.depth; place = rule.0 }
