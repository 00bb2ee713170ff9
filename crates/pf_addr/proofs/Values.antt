-- The number that octets or groups stand for, and that a text writes one number at most.
use Rattle.std.proofs.Common.{◌≡◌, ℕ, ◌-◌, List, [], ◌∷◌, ◌++◌, length, replicate, sym, ap, ◌∙◌, arith, inl, inr, lit≤, length-append}
use Rattle.std.proofs.lemmas.List.{length-replicate}
use Rattle.std.specs.Int.{w32, w128, from_be_bytes}
use Rattle.std.specs.Int.Digits.{number_from_digits}
use Rattle.std.specs.Net.Addr.{octets_of}
use Rattle.std.specs.Net.Grammar.{IsDotted, IsColonHex}
use Rattle.std.proofs.NetLemmas.Options.{same_parts}
use Rattle.std.proofs.NetLemmas.Ipv4.{read_ipv4_complete}
use Rattle.std.proofs.NetLemmas.Ipv6.{read_ipv6_complete, EndsGroups-nil, IsDotted-not_colon_hex}
use Rattle.std.proofs.NetLemmas.Arrays.{eight_items}
use Rattle.pf_addr.specs.declared.addr.Addr.{Addr}
use Rattle.pf_addr.specs.declared.addr.Addr.TheVariants.{V4, V6}
use Rattle.pf_addr.specs.Grammar.{IsIpv4, IsIpv6, IsAddrText}

octets_value : (a b c d : ℕ) → from_be_bytes w32 (a ∷ b ∷ c ∷ d ∷ []) ≡ number_from_digits 256 (a ∷ b ∷ c ∷ d ∷ [])
octets_value a b c d = omega arith

-- the number of dotted octets
pub dotted_value : (text octets : List ℕ) → IsDotted text octets → from_be_bytes w32 octets ≡ number_from_digits 256 octets
dotted_value text octets h = rw h.value (octets_value h.a h.b h.c h.d)

groups_value : (a b c d e f g h : ℕ) → from_be_bytes w128 (octets_of (a ∷ b ∷ c ∷ d ∷ e ∷ f ∷ g ∷ h ∷ [])) ≡ number_from_digits 65536 (a ∷ b ∷ c ∷ d ∷ e ∷ f ∷ g ∷ h ∷ [])
groups_value a b c d e f g h = omega arith

length-groups : (text groups : List ℕ) → IsColonHex text groups → length groups ≡ 8
length-groups text groups (inl h) = h.1
length-groups text groups (inr h) =
    let gap = 8 - length h.head - length h.tail in
    rw h.value (omega (arith, h.room, length-append (h.head ++ replicate gap 0) h.tail, length-append h.head (replicate gap 0), length-replicate {A = ℕ} gap 0))

-- the number of groups that a text spells
pub hex_value : (text groups : List ℕ) → IsColonHex text groups → from_be_bytes w128 (octets_of groups) ≡ number_from_digits 65536 groups
hex_value text groups h =
    let items = eight_items groups (length-groups text groups h) in
    rw items (groups_value _ _ _ _ _ _ _ _)

pub IsIpv4-unique : (text : List ℕ) (m n : ℕ) → IsIpv4 text m → IsIpv4 text n → m ≡ n
IsIpv4-unique text m n h k =
    let same = same_parts _ _ _ _ (sym (read_ipv4_complete text _ [] h.dotted (lit≤ tt)) ∙ read_ipv4_complete text _ [] k.dotted (lit≤ tt)) in
    h.value ∙ ap (number_from_digits 256) same.0 ∙ sym k.value

pub IsIpv6-unique : (text : List ℕ) (m n : ℕ) → IsIpv6 text m → IsIpv6 text n → m ≡ n
IsIpv6-unique text m n h k =
    let same = same_parts _ _ _ _ (sym (read_ipv6_complete text _ [] h.hex EndsGroups-nil) ∙ read_ipv6_complete text _ [] k.hex EndsGroups-nil) in
    h.value ∙ ap (number_from_digits 65536) same.0 ∙ sym k.value

pub IsAddrText-unique : (text : List ℕ) (a b : Addr) → IsAddrText text a → IsAddrText text b → a ≡ b
IsAddrText-unique text (V4 m) (V4 n) h k = ap V4 (IsIpv4-unique text m n h k)
IsAddrText-unique text (V6 m) (V6 n) h k = ap V6 (IsIpv6-unique text m n h k)
IsAddrText-unique text (V4 m) (V6 n) h k = absurd (IsDotted-not_colon_hex text _ _ h.dotted k.hex)
IsAddrText-unique text (V6 m) (V4 n) h k = absurd (IsDotted-not_colon_hex text _ _ k.dotted h.hex)
