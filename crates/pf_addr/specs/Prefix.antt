-- A prefix as a set of addresses: those of its family with the same leading bits.
use Rattle.std.specs.Prelude.{◌≡◌, ◌-◌, ◌%◌, ◌^◌, ◌≤◌, Bool, ◌&&◌, ◌==◌, nat_le, IsTrue}
use Rattle.std.proofs.Common.{arith}
use Rattle.pf_addr.specs.declared.addr.Addr.{Addr}
use Rattle.pf_addr.specs.declared.addr.Addr.TheVariants.{V4, V6}
use Rattle.pf_addr.specs.declared.prefix.Prefix.{Prefix}
use Rattle.pf_addr.specs.Addr.{IsAddr, leading, number, same_family, width}

-- the address is in the prefix
abbrev pub contains : Prefix → Addr → Bool
contains p a = same_family p.addr a && (leading p.addr p.len == leading a p.len)

-- each address of the other prefix is in this one
abbrev pub CoversAll : Prefix → Prefix → Type 0
CoversAll p q = (a : Addr) → IsAddr a → IsTrue (contains q a) → IsTrue (contains p a)

-- the other's first address is in this one, and it is as narrow or narrower
abbrev pub covers : Prefix → Prefix → Bool
covers p q = contains p q.addr && nat_le p.len q.len

-- an address with all its bits is a prefix
pub whole-fits : (a : Addr) → width a ≤ width a
whole-fits a = omega arith

pub whole-no_host_bits : (a : Addr) → number a % 2 ^ (width a - width a) ≡ 0
whole-no_host_bits (V4 n) = omega arith
whole-no_host_bits (V6 n) = omega arith

-- the prefix of one address
abbrev pub whole : Addr → Prefix
whole a = record { addr = a; len = width a; fits = whole-fits a; no_host_bits = whole-no_host_bits a }
