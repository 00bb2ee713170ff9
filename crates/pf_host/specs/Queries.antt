-- What facts answer.
use Rattle.std.specs.Prelude.{ℕ, ◌-◌, Bool, false, not, ◌||◌, ◌&&◌, List, length, drop, map, filter, codes, Option, Some, None, nat_eq}
use Rattle.std.specs.Char.{is_ascii_digit}
use Rattle.std.specs.List.{list_any, list_all, slice_get, starts_with}
use Rattle.std.specs.Str.{bytes_eq}
use Rattle.pf_addr.specs.Prefix.{contains}
use Rattle.pf_addr.specs.declared.addr.Addr.{Addr}
use Rattle.pf_addr.specs.declared.ifaces.DynIf.{DynIf}
use Rattle.pf_addr.specs.declared.prefix.Prefix.{Prefix}
use Rattle.pf_host.specs.Addresses.{addresses_listed, prefix_listed}
use Rattle.pf_host.specs.Facts.{HostFacts}
use Rattle.pf_host.specs.Rows.{has_row, values_of}

abbrev pub is_digit_there : Option ℕ → Bool
is_digit_there None = false
is_digit_there (Some byte) = is_ascii_digit byte

-- the last byte is a digit
abbrev pub ends_in_digit : List ℕ → Bool
ends_in_digit name = is_digit_there (slice_get name (length name - 1))

-- the name is the interface's without the digits at its end
abbrev pub is_stem : List ℕ → List ℕ → Bool
is_stem name iface =
    starts_with nat_eq iface name && list_all is_ascii_digit (drop (length name) iface) && not (ends_in_digit name)

-- the names of the interfaces, in order
abbrev pub interfaces_of : HostFacts → List (List ℕ)
interfaces_of facts = facts.interfaces

-- a name means the interface that has it, those whose group it is, and those whose name it is without the
-- digits at its end (pf.conf(5), PARAMETERS, on)
abbrev pub in_group : HostFacts → List ℕ → List ℕ → Bool
in_group facts name iface =
    bytes_eq name iface || list_any (λ group. bytes_eq group name) (values_of facts.members iface) || is_stem name iface

-- where addresses are asked for, `self` means all interfaces (pf.conf(5), PARAMETERS, from)
abbrev pub is_self : List ℕ → Bool
is_self name = bytes_eq name (codes "self")

-- the interface is one that the name means
abbrev pub is_meant : HostFacts → List ℕ → List ℕ → Bool
is_meant facts name iface = is_self name || in_group facts name iface

-- the name is `self`, or means some interface of the facts
abbrev pub knows : HostFacts → List ℕ → Bool
knows facts name = is_self name || list_any (λ iface. in_group facts name iface) facts.interfaces

-- what `what` stands for, in the order of the facts
abbrev pub addresses_of : HostFacts → DynIf → List Prefix
addresses_of facts what =
    map (λ row. prefix_listed what.network row.value)
    (filter (λ row. is_meant facts what.name row.name) (addresses_listed what.first facts.addresses))

-- the addresses of exactly this interface, or with `network` their networks, in the order of the facts
abbrev pub own_addresses : HostFacts → List ℕ → Bool → List Prefix
own_addresses facts iface network = map (prefix_listed network) (values_of facts.addresses iface)

-- the address is one of those that `what` stands for
abbrev pub dynamic : HostFacts → DynIf → Addr → Bool
dynamic facts what addr = list_any (λ prefix. contains prefix addr) (addresses_of facts what)

-- the facts have such a host
abbrev pub has_host : HostFacts → List ℕ → Bool
has_host facts name = has_row facts.hosts name

-- the addresses of a host
abbrev pub host_of : HostFacts → List ℕ → List Addr
host_of facts name = values_of facts.hosts name

-- the number of a user, of a group or of a service
abbrev pub user_of : HostFacts → List ℕ → Option ℕ
user_of facts name = slice_get (values_of facts.users name) 0

abbrev pub group_of : HostFacts → List ℕ → Option ℕ
group_of facts name = slice_get (values_of facts.groups name) 0

abbrev pub service_of : HostFacts → List ℕ → Option ℕ
service_of facts name = slice_get (values_of facts.services name) 0
