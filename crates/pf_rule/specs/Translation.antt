-- Translation (pf.conf(5), TRANSLATION). A match rule with `nat-to` or `rdr-to` rewrites the packet as soon as it matches,
-- and the rules behind it are tested with the new addresses and ports.
use Rattle.std.specs.Prelude.{ℕ, Bool, Option, Some, None, if◌then◌else◌}
use Rattle.std.specs.Option.{option_or}
use Rattle.pf_addr.specs.Addr.{same_family}
use Rattle.pf_rule.specs.Criteria.{is_tcp_or_udp}
use Rattle.pf_rule.specs.declared.packet.Packet.{Packet}
use Rattle.pf_rule.specs.declared.translation.Target.{Target}

-- the new address is of the packet's family, which is that of the packet's source
abbrev pub suits : Target → Packet → Bool
suits new packet = same_family new.addr packet.source

-- the port of a TCP or UDP packet becomes the new one where one is given; all other ports stay
abbrev pub port_behind : Target → Packet → Option ℕ → Option ℕ
port_behind new packet port = if is_tcp_or_udp packet.proto then option_or new.port port else port

-- `nat-to`: the source of a packet of the address's family, and its port
unfoldable pub source_changed : Target → Packet → Packet
source_changed new packet =
    if suits new packet
    then record packet { source = new.addr; source_port = port_behind new packet packet.source_port }
    else packet

-- `rdr-to`: the same of the target and its port
unfoldable pub target_changed : Target → Packet → Packet
target_changed new packet =
    if suits new packet
    then record packet { target = new.addr; target_port = port_behind new packet packet.target_port }
    else packet

-- a translation that isn't given changes nothing
abbrev pub if_translated : (Target → Packet → Packet) → Option Target → Packet → Packet
if_translated change None packet = packet
if_translated change (Some new) packet = change new packet

-- both translations of a rule
unfoldable pub translated : Option Target → Option Target → Packet → Packet
translated nat rdr packet = if_translated target_changed rdr (if_translated source_changed nat packet)

-- a translation laid over another: its address replaces the other, and its port does where it is given
abbrev pub target_over : Option Target → Option Target → Option Target
target_over None old = old
target_over (Some new) None = Some new
target_over (Some new) (Some old) = Some (record { addr = new.addr; port = option_or new.port old.port })
