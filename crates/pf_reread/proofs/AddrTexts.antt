-- What the text of an address or a prefix says is an address: a number of its family's bits.
use Rattle.std.proofs.Common.{◌≡◌, ℕ, zero, suc, ◌+◌, ◌-◌, ◌*◌, ◌^◌, ◌<◌, ◌≤◌, Bool, true, false, List, [], ◌∷◌, ◌++◌, length, replicate, refl, sym, ap, subst, ◌∙◌, arith, inl, inr, length-append}
use Rattle.std.specs.Prelude.{codes}
use Rattle.std.specs.Int.Digits.{AllBelowBase, number_from_digits}
use Rattle.std.specs.Net.Addr.{segments_of}
use Rattle.std.specs.Net.Grammar.{IsDotted, IsColonHex, IsGroup, IsGroupsAfter}
use Rattle.std.specs.Str.Parse.{digits_value}
use Rattle.std.proofs.Math.Nat.{pow-le-pow_right}
use Rattle.std.proofs.lemmas.Int.Digits.{digits_value-lt, number_lt}
use Rattle.std.proofs.lemmas.List.{length-replicate}
use Rattle.pf_addr.specs.Addr.{IsAddr, network}
use Rattle.pf_addr.specs.Grammar.{IsAddrText, IsIpv4, IsIpv6, IsNetworkText, Writes, zeros}
use Rattle.pf_addr.specs.NetworkLaws.{cleared_le}
use Rattle.pf_addr.specs.PrefixText.{IsMaskedText, IsPrefixText}
use Rattle.pf_addr.specs.declared.addr.Addr.{Addr}
use Rattle.pf_addr.specs.declared.addr.Addr.TheVariants.{V4, V6}
use Rattle.pf_addr.specs.declared.parse.Masked.{Masked}
use Rattle.pf_addr.specs.declared.prefix.Prefix.{Prefix}

-- ---- four numbers below 256

four_fit : (a b c d : ℕ) → (a < 256) × (b < 256) × (c < 256) × (d < 256) → number_from_digits 256 (a ∷ b ∷ c ∷ d ∷ []) < 2 ^ 32
four_fit a b c d fit = let one = fit.0 in let two = fit.1 in let three = fit.2 in let four = fit.3 in omega arith

dotted_fits : (text octets : List ℕ) → IsDotted text octets → number_from_digits 256 octets < 2 ^ 32
dotted_fits text octets is = subst (λ (list : List ℕ). number_from_digits 256 list < 2 ^ 32) (sym is.value) (four_fit is.a is.b is.c is.d is.fit)

ipv4_fits : (text : List ℕ) (n : ℕ) → IsIpv4 text n → n < 2 ^ 32
ipv4_fits text n is = subst (λ (m : ℕ). m < 2 ^ 32) (sym is.value) (dotted_fits text is.octets is.dotted)

-- ---- eight groups below 65536

group_fits : (text : List ℕ) (segment : ℕ) → IsGroup text segment → segment < 65536
group_fits text segment is =
    let below : digits_value 16 text < 16 ^ length text = digits_value-lt 16 text is.0.0.1 in
    let most : 16 ^ length text ≤ 16 ^ 4 = pow-le-pow_right {n = 16} (omega arith) {i = length text} {j = 4} is.1 in
    let same : digits_value 16 text ≡ segment = is.0.1 in
    omega arith

pairs_fit : (a b c d : ℕ) → (a < 256) × (b < 256) × (c < 256) × (d < 256) → AllBelowBase 65536 (segments_of (a ∷ b ∷ c ∷ d ∷ []))
pairs_fit a b c d fit =
    let one = fit.0 in let two = fit.1 in let three = fit.2 in let four = fit.3 in
    let first : a * 256 + b < 65536 = omega arith in
    let second : c * 256 + d < 65536 = omega arith in
    (first, (second, tt))

dotted_pairs_fit : (text octets : List ℕ) → IsDotted text octets → AllBelowBase 65536 (segments_of octets)
dotted_pairs_fit text octets is = subst (λ (list : List ℕ). AllBelowBase 65536 (segments_of list)) (sym is.value) (pairs_fit is.a is.b is.c is.d is.fit)

groups_fit : (ipv4 : Bool) (lead text segments : List ℕ) → IsGroupsAfter ipv4 lead text segments → AllBelowBase 65536 segments
groups_fit ipv4 lead text [] is = tt
groups_fit ipv4 lead text (segment ∷ segments) (inl (group, rest, spelled, is, more)) = (group_fits group segment is, groups_fit ipv4 (codes ":") rest segments more)
groups_fit ipv4 lead text (segment ∷ segments) (inr (last, octets, is, spelled, dotted, value)) =
    subst (AllBelowBase 65536) (sym value) (dotted_pairs_fit last octets dotted)

zeros_fit : (n : ℕ) → AllBelowBase 65536 (replicate n 0)
zeros_fit zero = tt
zeros_fit (suc n) = let none : 0 < 65536 = omega arith in (none, zeros_fit n)

both_fit : (front back : List ℕ) → AllBelowBase 65536 front → AllBelowBase 65536 back → AllBelowBase 65536 (front ++ back)
both_fit [] back first second = second
both_fit (segment ∷ front) back first second = (first.0, both_fit front back first.1 second)

hex_fits : (text groups : List ℕ) → IsColonHex text groups → AllBelowBase 65536 groups
hex_fits text groups (inl is) = groups_fit true [] text groups is.0
hex_fits text groups (inr is) =
    let gap = 8 - length is.head - length is.tail in
    subst (AllBelowBase 65536) (sym is.value)
    (both_fit (is.head ++ replicate gap 0) is.tail
    (both_fit is.head (replicate gap 0) (groups_fit false [] is.head_text is.head is.head_groups) (zeros_fit gap))
    (groups_fit true [] is.tail_text is.tail is.tail_groups))

eight_groups : (text groups : List ℕ) → IsColonHex text groups → length groups ≡ 8
eight_groups text groups (inl is) = is.1
eight_groups text groups (inr is) =
    let gap = 8 - length is.head - length is.tail in
    rw is.value (omega (arith, is.room, length-append (is.head ++ replicate gap 0) is.tail, length-append is.head (replicate gap 0), length-replicate {A = ℕ} gap 0))

whole_room : 65536 ^ 8 ≡ 2 ^ 128
whole_room = refl

ipv6_fits : (text : List ℕ) (n : ℕ) → IsIpv6 text n → n < 2 ^ 128
ipv6_fits text n is =
    let below : number_from_digits 65536 is.groups < 65536 ^ length is.groups = number_lt 65536 is.groups (hex_fits text is.groups is.hex) in
    let room : 65536 ^ length is.groups ≡ 2 ^ 128 = ap (λ (k : ℕ). 65536 ^ k) (eight_groups text is.groups is.hex) ∙ whole_room in
    subst (λ (m : ℕ). m < 2 ^ 128) (sym is.value) (subst (λ (m : ℕ). number_from_digits 65536 is.groups < m) room below)

-- ---- addresses, networks and prefixes

pub text_is_addr : (text : List ℕ) (addr : Addr) → IsAddrText text addr → IsAddr addr
text_is_addr text (V4 n) is = ipv4_fits text n is
text_is_addr text (V6 n) is = ipv6_fits text n is

network_text_is_addr : (text : List ℕ) (addr : Addr) → IsNetworkText text addr → IsAddr addr
network_text_is_addr text (V4 n) is = ipv4_fits (text ++ zeros is.missing) n is.filled
network_text_is_addr text (V6 n) is = ipv6_fits text n is

written_is_addr : (text : List ℕ) (addr : Addr) (bits : ℕ) → Writes text addr bits → IsAddr addr
written_is_addr text addr bits (inl is) = text_is_addr text addr is.0
written_is_addr text addr bits (inr is) = network_text_is_addr is.front addr is.address

network_is_addr : (addr : Addr) (len : ℕ) → IsAddr addr → IsAddr (network addr len)
network_is_addr (V4 n) len is = let less = cleared_le n (32 - len) in omega (arith, less, is)
network_is_addr (V6 n) len is = let less = cleared_le n (128 - len) in omega (arith, less, is)

pub prefix_is_addr : (text : List ℕ) (prefix : Prefix) → IsPrefixText text prefix → IsAddr prefix.addr
prefix_is_addr text prefix is = subst IsAddr (sym is.cleared) (network_is_addr is.addr prefix.len (written_is_addr text is.addr prefix.len is.writes))

-- an address with its mask
pub masked_is_addr : (text : List ℕ) (masked : Masked) → IsMaskedText text masked → IsAddr masked.addr
masked_is_addr text masked is = network_text_is_addr is.masked.front masked.addr is.masked.address

pub network_of_masked : (text : List ℕ) (masked : Masked) → IsMaskedText text masked → IsAddr masked.network.addr
network_of_masked text masked is = subst IsAddr (sym is.cleared) (network_is_addr masked.addr masked.network.len (masked_is_addr text masked is))
