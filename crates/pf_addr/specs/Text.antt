-- How an address is printed.
use Rattle.std.specs.Prelude.{◌≡◌, ℕ, zero, suc, ◌+◌, ◌/◌, ◌%◌, ◌<◌, ◌≤◌, ◌⊎◌, List, [], ◌∷◌, ◌++◌, length, take, drop, replicate, codes}
use Rattle.std.specs.Net.Text.{ipv4_text, groups_text, hex_groups_text}
use Rattle.pf_addr.specs.declared.addr.Addr.{Addr}
use Rattle.pf_addr.specs.declared.addr.Addr.TheVariants.{V4, V6}

-- the lowest k digits of the number in the base, the highest of them first
unfoldable pub last_digits : ℕ → ℕ → ℕ → List ℕ
last_digits base zero n = []
last_digits base (suc k) n = last_digits base k (n / base) ++ (n % base) ∷ []

-- the text of an address: four numbers with dots, or the groups with their longest run of zeros as `::`
abbrev pub addr_text : Addr → List ℕ
addr_text (V4 n) = ipv4_text (last_digits 256 4 n)
addr_text (V6 n) = hex_groups_text (last_digits 65536 8 n)

-- so many groups from start on are zero
pub record IsZeroRun (groups : List ℕ) (start len : ℕ) : Type 0 where
  pub within : start + len ≤ length groups
  pub zeros : take len (drop start groups) ≡ replicate len 0

-- the groups in full, since no two zeros stand side by side (RFC 5952, 4.2.2)
pub record IsWhole (text groups : List ℕ) : Type 0 where
  pub single : (start len : ℕ) → IsZeroRun groups start len → len < 2
  pub spelled : text ≡ groups_text groups

-- `::` for the longest run of zeros, of two at least (RFC 5952, 4.2.1 and 4.2.2), and for the first of the
-- longest (4.2.3). The groups are in lower case, without leading zeros (4.1, 4.3).
pub record IsShortened (text groups : List ℕ) : Type 0 where
  pub start : ℕ
  pub len : ℕ
  pub run : IsZeroRun groups start len
  pub some : 2 ≤ len
  pub longest : (from most : ℕ) → IsZeroRun groups from most → most ≤ len
  pub first : (from : ℕ) → IsZeroRun groups from len → start ≤ from
  pub spelled : text ≡ groups_text (take start groups) ++ codes "::" ++ groups_text (drop (start + len) groups)

-- the text is the one that RFC 5952, section 4, asks for; an IPv4 address has only one
abbrev pub IsShortest : List ℕ → Addr → Type 0
IsShortest text (V4 n) = text ≡ ipv4_text (last_digits 256 4 n)
IsShortest text (V6 n) = IsWhole text (last_digits 65536 8 n) ⊎ IsShortened text (last_digits 65536 8 n)
