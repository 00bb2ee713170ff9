-- What single words of a record say, and its bounds.
use Rattle.std.specs.Prelude.{ℕ, Bool, ◌==◌, List, Option, Some, None, if◌then◌else◌, codes}
use Rattle.std.specs.Str.{bytes_eq}
use Rattle.pf_parts.specs.declared.direction.Direction.{Direction}
use Rattle.pf_parts.specs.declared.direction.Direction.TheVariants.{In, Out}
use Rattle.pf_rule.specs.Criteria.{is_icmp, is_tcp_or_udp, tcp}

-- the greatest port
abbrev pub most_port : ℕ
most_port = 65535

-- the greatest type, code and type of service
abbrev pub most_byte : ℕ
most_byte = 255

-- the greatest priority
abbrev pub most_prio : ℕ
most_prio = 7

-- the greatest number of a user or a group
abbrev pub most_owner : ℕ
most_owner = 4294967295

-- the type of service and the priority of a packet whose record gives none
abbrev pub plain_tos : ℕ
plain_tos = 0

abbrev pub plain_prio : ℕ
plain_prio = 3

-- `in` or `out`
abbrev pub direction_of : List ℕ → Option Direction
direction_of word = if bytes_eq word (codes "in") then Some In else if bytes_eq word (codes "out") then Some Out else None

-- TCP
abbrev pub is_tcp : ℕ → Bool
is_tcp proto = proto == tcp

-- TCP and UDP have ports and sockets with owners
abbrev pub has_ports : ℕ → Bool
has_ports proto = is_tcp_or_udp proto

-- ICMP and ICMPv6 have types and codes
abbrev pub has_types : ℕ → Bool
has_types proto = is_icmp proto
