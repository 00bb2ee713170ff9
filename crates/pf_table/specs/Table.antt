-- What a table holds, and what it answers (pf.conf(5), TABLES).
use Rattle.std.specs.Prelude.{Contains, IsTrue, ◌≤◌, ◌≡◌, ℕ, Bool, false, not, List, [], ◌∷◌, map, Option, Some, None, nat_lt, is_some, if◌then◌else◌}
use Rattle.std.specs.Option.{option_map_or}
use Rattle.std.specs.FinMap as finite
use Rattle.pf_addr.specs.declared.addr.Addr.{Addr}
use Rattle.pf_addr.specs.declared.addr.Addr.TheVariants.{V4, V6}
use Rattle.pf_addr.specs.Addr.{width, number}
use Rattle.std.specs.Coded.{Coded, coded×, coded_ℕ, coded_bool}
use base.Stored.{coded_via}
use Rattle.std.proofs.Common.{ap, arith}
use mathlib.Core.Bool.{beq}
use Rattle.pf_addr.specs.declared.prefix.Prefix.{Prefix}
use Rattle.pf_addr.specs.Prefix.{contains}
use Rattle.pf_addr.specs.PrefixOrder.{prefix_cmp, Prefix-same}
use Rattle.pf_table.specs.declared.entry.Entry.{Entry}

addr_tells : (a b : Addr) → width a ≡ width b → number a ≡ number b → a ≡ b
addr_tells (V4 m) (V4 n) e same = ap V4 same
addr_tells (V6 m) (V6 n) e same = ap V6 same
addr_tells (V4 m) (V6 n) e same = absurd (omega arith)
addr_tells (V6 m) (V4 n) e same = absurd (omega arith)

pub numbers_tell : (p q : Prefix) → ◌≡◌ {A = ℕ × (ℕ × ℕ)} (width p.addr, (number p.addr, p.len)) (width q.addr, (number q.addr, q.len)) → p ≡ q
numbers_tell p q e =
    Prefix-same p q (addr_tells p.addr q.addr (ap (λ (t : ℕ × (ℕ × ℕ)). t.0) e) (ap (λ (t : ℕ × (ℕ × ℕ)). t.1.0) e)) (ap (λ (t : ℕ × (ℕ × ℕ)). t.1.1) e)

-- a table as the finite map from its prefixes to their signs, true for a negated one
abbrev pub Signs : Type 0
Signs = finite.FinMap prefix_cmp Bool

-- a prefix as three numbers, which give it back
abbrev pub prefix_code : Coded Prefix
prefix_code = coded_via (coded× coded_ℕ (coded× coded_ℕ coded_ℕ)) (λ p. (width p.addr, (number p.addr, p.len))) numbers_tell

abbrev pub signs_code : Coded Signs
signs_code = finite.code prefix_code coded_bool

abbrev pub paired : Entry → Prefix × Bool
paired e = (e.prefix, e.negated)

abbrev pub entry : Prefix × Bool → Entry
entry pair = record { prefix = pair.0; negated = pair.1 }

-- the table of a list of entries: each prefix with the sign with which it first stands
abbrev pub table_of : List Entry → Signs
table_of entries = finite.from_entries (map paired entries)

-- its entries: inet first, then by address, then by length
abbrev pub entries_of : Signs → List Entry
entries_of signs = map entry (finite.entries signs)

-- the table with the entry, where it has none of that prefix
abbrev pub with_entry : Signs → Entry → Signs
with_entry signs e = if is_some (finite.get signs e.prefix) then signs else finite.insert signs e.prefix e.negated

-- whether this is the sign
abbrev pub is_sign : Option Bool → Bool → Bool
is_sign None sign = false
is_sign (Some found) sign = beq found sign

-- the table without the entry, where it is there with its sign
abbrev pub without_entry : Signs → Entry → Signs
without_entry signs e = if is_sign (finite.get signs e.prefix) e.negated then finite.remove signs e.prefix else signs

-- of two entries that contain an address the longer, the first of two alike
abbrev pub narrower : Entry → Option Entry → Entry
narrower e None = e
narrower e (Some f) = if nat_lt e.prefix.len f.prefix.len then f else e

-- the longest of the entries that contain the address
abbrev pub narrowest : List Entry → Addr → Option Entry
narrowest [] a = None
narrowest (e ∷ rest) a = if contains e.prefix a then Some (narrower e (narrowest rest a)) else narrowest rest a

-- it is one of them, contains the address, and no other that contains it is longer
pub record IsNarrowest (entries : List Entry) (a : Addr) (e : Entry) : Type 0 where
  pub among : Contains entries e
  pub inside : IsTrue (contains e.prefix a)
  pub longest : (f : Entry) → Contains entries f → IsTrue (contains f.prefix a) → f.prefix.len ≤ e.prefix.len

-- its sign decides, and where there is none the address is not in the table
abbrev pub member : List Entry → Addr → Bool
member entries a = option_map_or (λ e. not e.negated) (narrowest entries a) false
