-- Which of the addresses of interfaces are asked for, and as what.
use Rattle.std.specs.Prelude.{Bool, true, false, not, ◌&&◌, List, [], ◌∷◌, filter}
use Rattle.std.specs.Str.{bytes_eq}
use Rattle.pf_addr.specs.Addr.{same_family}
use Rattle.pf_addr.specs.Prefix.{whole}
use Rattle.pf_addr.specs.declared.parse.Masked.{Masked}
use Rattle.pf_addr.specs.declared.prefix.Prefix.{Prefix}
use Rattle.pf_host.specs.declared.row.Row.{Row}

-- both are addresses of one family of one interface
abbrev pub is_beside : Row Masked → Row Masked → Bool
is_beside a b = bytes_eq a.name b.name && same_family a.value.addr b.value.addr

-- the first address of each family of each interface
abbrev pub first_of_each : List (Row Masked) → List (Row Masked)
first_of_each [] = []
first_of_each (a ∷ addresses) = a ∷ filter (λ b. not (is_beside a b)) (first_of_each addresses)

-- all addresses, or with `first`, which is `:0` of pf.conf(5), the first ones
abbrev pub addresses_listed : Bool → List (Row Masked) → List (Row Masked)
addresses_listed false addresses = addresses
addresses_listed true addresses = first_of_each addresses

-- the address as a prefix of all its bits, or with `network`, which is `:network` of pf.conf(5), its network
abbrev pub prefix_listed : Bool → Masked → Prefix
prefix_listed false address = whole address.addr
prefix_listed true address = address.network
