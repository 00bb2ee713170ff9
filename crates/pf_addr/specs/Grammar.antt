-- The texts that write an address or a prefix, each beside what it writes (pf.conf(5), PARAMETERS).
use Rattle.std.specs.Prelude.{◌≡◌, ℕ, zero, suc, ◌≤◌, ◌⊎◌, List, [], ◌∷◌, ◌++◌, length, codes, Some}
use Rattle.std.specs.Int.Digits.{number_from_digits}
use Rattle.std.specs.Net.Grammar.{IsDotted, IsColonHex}
use Rattle.pf_base.specs.Decimal.{decimal_of}
use Rattle.pf_addr.specs.declared.addr.Addr.{Addr}
use Rattle.pf_addr.specs.declared.addr.Addr.TheVariants.{V4, V6}
use Rattle.pf_addr.specs.Addr.{width}

-- the text is four decimal numbers below 256 with dots between them, the bytes of this number
pub record IsIpv4 (text : List ℕ) (n : ℕ) : Type 0 where
  pub octets : List ℕ
  pub dotted : IsDotted text octets
  pub value : n ≡ number_from_digits 256 octets

-- the text is eight hexadecimal groups of this number, or some of them and one `::` for the zero groups
-- between; the last two groups may be an IPv4 address (RFC 4291, 2.2)
pub record IsIpv6 (text : List ℕ) (n : ℕ) : Type 0 where
  pub groups : List ℕ
  pub hex : IsColonHex text groups
  pub value : n ≡ number_from_digits 65536 groups

-- the text writes this address
abbrev pub IsAddrText : List ℕ → Addr → Type 0
IsAddrText text (V4 n) = IsIpv4 text n
IsAddrText text (V6 n) = IsIpv6 text n

-- a dot and a zero for each of so many numbers
abbrev pub zeros : ℕ → List ℕ
zeros zero = []
zeros (suc k) = codes ".0" ++ zeros k

-- one to four numbers with dots between them: with zeros for the missing ones they are an IPv4 address
pub record IsShortIpv4 (text : List ℕ) (n : ℕ) : Type 0 where
  pub missing : ℕ
  pub few : missing ≤ 3
  pub filled : IsIpv4 (text ++ zeros missing) n

-- what may stand before a mask
abbrev pub IsNetworkText : List ℕ → Addr → Type 0
IsNetworkText text (V4 n) = IsShortIpv4 text n
IsNetworkText text (V6 n) = IsIpv6 text n

-- the number of a mask: one to three decimal digits, where leading zeros may stand
abbrev pub IsMask : List ℕ → ℕ → Type 0
IsMask text n = (decimal_of 999 text ≡ Some n) × (length text ≤ 3)

-- the byte before a mask
abbrev pub slash : ℕ
slash = 47

-- an address with a mask, of any number
pub record IsMasked (text : List ℕ) (a : Addr) (n : ℕ) : Type 0 where
  pub front : List ℕ
  pub digits : List ℕ
  pub spelled : text ≡ front ++ slash ∷ digits
  pub address : IsNetworkText front a
  pub mask : IsMask digits n

-- The text writes this address and a mask of n bits, whether or not the family has so many.
-- An address alone has all its bits.
abbrev pub Writes : List ℕ → Addr → ℕ → Type 0
Writes text a n = (IsAddrText text a × (n ≡ width a)) ⊎ IsMasked text a n
