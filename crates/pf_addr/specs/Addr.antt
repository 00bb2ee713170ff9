-- What an address is: a family and a number of as many bits as the family has.
use Rattle.std.specs.Prelude.{◌≡◌, ℕ, ◌-◌, ◌*◌, ◌/◌, ◌^◌, ◌<◌, Bool, ◌==◌}
use Rattle.pf_base.specs.declared.kind.Family.{Family}
use Rattle.pf_base.specs.declared.kind.Family.TheVariants.{Inet, Inet6}
use Rattle.pf_addr.specs.declared.addr.Addr.{Addr}
use Rattle.pf_addr.specs.declared.addr.Addr.TheVariants.{V4, V6}

-- the family of an address (pf.conf(5), PARAMETERS, inet and inet6)
abbrev pub family_of : Addr → Family
family_of (V4 n) = Inet
family_of (V6 n) = Inet6

-- how many bits an address of a family has
abbrev pub bits_of : Family → ℕ
bits_of Inet = 32
bits_of Inet6 = 128

-- how many bits this address has
abbrev pub width : Addr → ℕ
width a = bits_of (family_of a)

-- the address as a number, its first byte the highest
abbrev pub number : Addr → ℕ
number (V4 n) = n
number (V6 n) = n

-- the number is one of the type's
abbrev pub IsAddr : Addr → Type 0
IsAddr a = number a < 2 ^ width a

-- the two are of one family, which their bits tell
abbrev pub SameFamily : Addr → Addr → Type 0
SameFamily a b = width a ≡ width b

-- the test of that
abbrev pub same_family : Addr → Addr → Bool
same_family a b = width a == width b

-- the address is of this family
abbrev pub is_of_family : Family → Addr → Bool
is_of_family family a = bits_of family == width a

-- the first len bits, as a number
abbrev pub leading : Addr → ℕ → ℕ
leading a len = number a / 2 ^ (width a - len)

-- the address with all bits but the first len as zero
abbrev pub network : Addr → ℕ → Addr
network (V4 n) len = V4 (n / 2 ^ (32 - len) * 2 ^ (32 - len))
network (V6 n) len = V6 (n / 2 ^ (128 - len) * 2 ^ (128 - len))
