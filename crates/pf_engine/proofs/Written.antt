-- Whether a text writes an address, a prefix or an address with its network is decided.
use Rattle.std.proofs.Common.{◌≡◌, ℕ, zero, suc, ◌≤◌, ◌⊎◌, List, [], ◌∷◌, ◌++◌, length, Option, Some, None, refl, sym, ap, subst, ◌∙◌, inl, inr, arith, lit≤}
use Rattle.std.proofs.lemmas.Bool.{cases_eq, cases_lt}
use Rattle.std.proofs.lemmas.List.{append-nil}
use Rattle.std.proofs.NetLemmas.Ipv4.{read_ipv4_complete, read_ipv4_sound}
use Rattle.std.proofs.NetLemmas.Ipv6.{EndsGroups-nil, read_ipv6_complete, read_ipv6_sound}
use Rattle.std.proofs.NetLemmas.Options.{same_parts}
use Rattle.std.specs.Int.Digits.{number_from_digits}
use Rattle.std.specs.Net.Grammar.{IsColonHex, IsDotted}
use Rattle.std.specs.Net.Reader.{read_ipv4, read_ipv6}
use Rattle.pf_base.specs.Decimal.{decimal_of}
use Rattle.pf_addr.specs.Addr.{network, width}
use Rattle.pf_addr.specs.Grammar.{IsAddrText, IsIpv4, IsIpv6, IsMask, IsMasked, IsNetworkText, IsShortIpv4, slash, zeros}
use Rattle.pf_addr.specs.NetworkLaws.{network-host_bits, network-width}
use Rattle.pf_addr.specs.PrefixText.{IsMaskedText, IsPrefixText}
use Rattle.pf_addr.specs.declared.addr.Addr.{Addr}
use Rattle.pf_addr.specs.declared.addr.Addr.TheVariants.{V4, V6}
use Rattle.pf_addr.specs.declared.prefix.Prefix.{Prefix}

-- something has the property, or nothing has
abbrev pub Decided : {A : Type 0} → (A → Type 0) → Type 0
Decided {A} P = ((a : A) × P a) ⊎ ((a : A) → P a → ⊥)

-- a property follows
pub decided_by : {A B : Type 0} {P : A → Type 0} {Q : B → Type 0} → ((a : A) → P a → (b : B) × Q b) → ((b : B) → Q b → (a : A) × P a) → Decided P → Decided Q
decided_by forth back (inl (a, is)) = inl (forth a is)
decided_by forth back (inr none) = inr (λ b is. (let from = back b is in none from.0 from.1))

-- ---- texts that a reader reads to their end

no_some : {A : Type 0} {Goal : Type 0} (x : A) → ◌≡◌ {A = Option A} None (Some x) → Goal
no_some x e = cc

more_than_none : {A : Type 0} {Goal : Type 0} (x : A) (xs : List A) → (x ∷ xs) ≡ [] → Goal
more_than_none x xs e = cc

module _ (Spells : List ℕ → List ℕ → Type 0) (read : List ℕ → Option (List ℕ × List ℕ))
    (sound : (text value rest : List ℕ) → read text ≡ Some (value, rest) → (front : List ℕ) × (text ≡ front ++ rest) × Spells front value)
    (complete : (text value : List ℕ) → Spells text value → read text ≡ Some (value, [])) where
  at_rest : (text value rest : List ℕ) → read text ≡ Some (value, rest) → Decided (Spells text)
  at_rest text value [] e = let (front, is, spells) = sound text value [] e in inl (value, subst (λ (t : List ℕ). Spells t value) (sym (is ∙ append-nil front)) spells)
  at_rest text value (byte ∷ rest) e = inr (λ other spells. more_than_none byte rest (same_parts value other (byte ∷ rest) [] (sym e ∙ complete text other spells)).1)

  read_or_not : (text : List ℕ) → Decided (Spells text)
  read_or_not text =
      elim (read text) as (λ r. read text ≡ r → Decided (Spells text)) [
        | None ↦ λ e. inr (λ value spells. no_some (value, []) (sym e ∙ complete text value spells))
        | Some part ↦ λ e. at_rest text part.0 part.1 e
      ] refl

dotted_or_not : (text : List ℕ) → Decided (IsDotted text)
dotted_or_not = read_or_not IsDotted read_ipv4 read_ipv4_sound
    (λ text octets h. subst (λ (t : List ℕ). read_ipv4 t ≡ Some (octets, [])) (append-nil text) (read_ipv4_complete text octets [] h (lit≤ tt)))

hex_or_not : (text : List ℕ) → Decided (IsColonHex text)
hex_or_not = read_or_not IsColonHex read_ipv6 read_ipv6_sound
    (λ text groups h. subst (λ (t : List ℕ). read_ipv6 t ≡ Some (groups, [])) (append-nil text) (read_ipv6_complete text groups [] h EndsGroups-nil))

ipv4_or_not : (text : List ℕ) → Decided (IsIpv4 text)
ipv4_or_not text =
    decided_by (λ octets dotted. (number_from_digits 256 octets, record { octets = octets; dotted = dotted; value = refl })) (λ n is. (is.octets, is.dotted)) (dotted_or_not text)

ipv6_or_not : (text : List ℕ) → Decided (IsIpv6 text)
ipv6_or_not text =
    decided_by (λ groups hex. (number_from_digits 65536 groups, record { groups = groups; hex = hex; value = refl })) (λ n is. (is.groups, is.hex)) (hex_or_not text)

-- ---- addresses

neither : (P : Addr → Type 0) → ((n : ℕ) → P (V4 n) → ⊥) → ((n : ℕ) → P (V6 n) → ⊥) → (a : Addr) → P a → ⊥
neither P none nor (V4 n) is = none n is
neither P none nor (V6 n) is = nor n is

either_family : (P : Addr → Type 0) → Decided (λ n. P (V4 n)) → Decided (λ n. P (V6 n)) → Decided P
either_family P (inl (n, is)) six = inl (V4 n, is)
either_family P (inr none) (inl (n, is)) = inl (V6 n, is)
either_family P (inr none) (inr nor) = inr (neither P none nor)

pub addr_or_not : (text : List ℕ) → Decided (IsAddrText text)
addr_or_not text = either_family (IsAddrText text) (ipv4_or_not text) (ipv6_or_not text)

-- ---- a network before a mask

record IsFilled (text : List ℕ) (most n : ℕ) : Type 0 where
  missing : ℕ
  few : missing ≤ most
  filled : IsIpv4 (text ++ zeros missing) n

one_less : (text : List ℕ) (most : ℕ) → ((n : ℕ) → IsFilled text most n → ⊥) → ((n : ℕ) → IsIpv4 (text ++ zeros (suc most)) n → ⊥) → (n : ℕ) → IsFilled text (suc most) n → ⊥
one_less text most none nor n is =
    elim (cases_lt is.missing (suc most)) [
      | inl less ↦ none n (record { missing = is.missing; few = omega (arith, less); filled = is.filled })
      | inr all ↦ (let same : is.missing ≡ suc most = omega (arith, is.few) in nor n (subst (λ (k : ℕ). IsIpv4 (text ++ zeros k) n) same is.filled))
    ]

filled_or_not : (text : List ℕ) (most : ℕ) → Decided (IsFilled text most)
filled_or_not text zero =
    decided_by (λ n is. (n, record { missing = 0; few = omega arith; filled = is }))
    (λ n is. (n, (let same : is.missing ≡ 0 = omega (arith, is.few) in subst (λ (k : ℕ). IsIpv4 (text ++ zeros k) n) same is.filled)))
    (ipv4_or_not (text ++ zeros 0))
filled_or_not text (suc most) =
    elim (filled_or_not text most) [
      | inl some ↦ inl (some.0, record { missing = some.1.missing; few = (let few = some.1.few in omega arith); filled = some.1.filled })
      | inr none ↦ elim (ipv4_or_not (text ++ zeros (suc most))) [
        | inl last ↦ inl (last.0, record { missing = suc most; few = omega arith; filled = last.1 })
        | inr nor ↦ inr (one_less text most none nor)
      ]
    ]

short_or_not : (text : List ℕ) → Decided (IsShortIpv4 text)
short_or_not text =
    decided_by (λ n is. (n, record { missing = is.missing; few = is.few; filled = is.filled })) (λ n is. (n, record { missing = is.missing; few = is.few; filled = is.filled })) (filled_or_not text 3)

-- one side of a pair is decided, and the other holds or not
with_bound : {A : Type 0} (P : A → Type 0) (size : A → ℕ) (n : ℕ) → ((a b : A) → size a ≡ size b) → Decided P → Decided (λ (a : A). P a × (n ≤ size a))
with_bound P size n alike (inr none) = inr (λ a is. none a is.0)
with_bound P size n alike (inl (a, is)) =
    elim (cases_lt (size a) n) [
      | inr fits ↦ inl (a, (is, fits))
      | inl over ↦ inr (λ b both. (let same = alike a b in let fits = both.1 in omega arith))
    ]

-- the network before a mask of so many bits
abbrev IsBefore : List ℕ → ℕ → Addr → Type 0
IsBefore text n a = IsNetworkText text a × (n ≤ width a)

before_or_not : (text : List ℕ) (n : ℕ) → Decided (IsBefore text n)
before_or_not text n =
    either_family (IsBefore text n) (with_bound (λ (m : ℕ). IsNetworkText text (V4 m)) (λ (m : ℕ). width (V4 m)) n (λ a b. refl) (short_or_not text))
    (with_bound (λ (m : ℕ). IsNetworkText text (V6 m)) (λ (m : ℕ). width (V6 m)) n (λ a b. refl) (ipv6_or_not text))

-- ---- texts that a slash cuts

record Bits : Type 0 where
  addr : Addr
  len : ℕ

record IsCut (P : List ℕ → List ℕ → Bits → Type 0) (text : List ℕ) (bits : Bits) : Type 0 where
  front : List ℕ
  behind : List ℕ
  spelled : text ≡ front ++ slash ∷ behind
  is : P front behind bits

same_head : (x y : ℕ) (xs ys : List ℕ) → x ∷ xs ≡ y ∷ ys → (x ≡ y) × (xs ≡ ys)
same_head x y xs ys e = (cc, cc)

module _ (byte : ℕ) (text : List ℕ) (P : List ℕ → List ℕ → Bits → Type 0) where
  abbrev Later : List ℕ → List ℕ → Bits → Type 0
  Later front behind bits = P (byte ∷ front) behind bits

  here_or_later : (bits : Bits) (front behind : List ℕ) → (byte ∷ text ≡ front ++ slash ∷ behind) → P front behind bits → ((byte ≡ slash) × P [] text bits) ⊎ IsCut Later text bits
  here_or_later bits [] behind e is = let same = same_head byte slash text behind e in inl (same.0, subst (λ (b : List ℕ). P [] b bits) (sym same.1) is)
  here_or_later bits (first ∷ front) behind e is =
      let same = same_head byte first text (front ++ slash ∷ behind) e in
      inr (record { front = front; behind = behind; spelled = same.1; is = subst (λ (b : ℕ). P (b ∷ front) behind bits) (sym same.0) is })

  later_is : (bits : Bits) → IsCut Later text bits → IsCut P (byte ∷ text) bits
  later_is bits cut = record { front = byte ∷ cut.front; behind = cut.behind; spelled = ap (λ (t : List ℕ). byte ∷ t) cut.spelled; is = cut.is }

  here_is : (bits : Bits) → byte ≡ slash → P [] text bits → IsCut P (byte ∷ text) bits
  here_is bits same is = record { front = []; behind = text; spelled = ap (λ (b : ℕ). b ∷ text) same; is = is }

  no_cut : ((bits : Bits) → IsCut Later text bits → ⊥) → ((byte ≡ slash) → (bits : Bits) → P [] text bits → ⊥) → (bits : Bits) → IsCut P (byte ∷ text) bits → ⊥
  no_cut none nor bits cut =
      elim (here_or_later bits cut.front cut.behind cut.spelled cut.is) [ inl here ↦ nor here.0 bits here.1 | inr later ↦ none bits later ]

not_empty : (front behind : List ℕ) → [] ≡ front ++ slash ∷ behind → ⊥
not_empty [] behind e = absurd cc
not_empty (byte ∷ front) behind e = absurd cc

cut_or_not : (P : List ℕ → List ℕ → Bits → Type 0) → ((front behind : List ℕ) → Decided (P front behind)) → (text : List ℕ) → Decided (IsCut P text)
cut_or_not P each [] = inr (λ bits cut. not_empty cut.front cut.behind cut.spelled)
cut_or_not P each (byte ∷ text) =
    elim (cut_or_not (Later byte text P) (λ front behind. each (byte ∷ front) behind) text) [
      | inl later ↦ inl (later.0, later_is byte text P later.0 later.1)
      | inr none ↦ elim (cases_eq byte slash) [
        | inr other ↦ inr (no_cut byte text P none (λ same. absurd (other same)))
        | inl same ↦ elim (each [] text) [
          | inl here ↦ inl (here.0, here_is byte text P here.0 same here.1)
          | inr nor ↦ inr (no_cut byte text P none (λ same. nor))
        ]
      ]
    ]

-- ---- masks

-- the network of an address, where it has so many bits
network_of : (a : Addr) (n : ℕ) → n ≤ width a → Prefix
network_of a n fits = record { addr = network a n; len = n; fits = rw (network-width a n) fits; no_host_bits = network-host_bits a n }

-- what stands before a slash and behind it writes an address and as many bits as it may have
abbrev WritesBits : List ℕ → List ℕ → Bits → Type 0
WritesBits front behind bits = IsBefore front bits.len bits.addr × IsMask behind bits.len

inside : (m n : ℕ) → ◌≡◌ {A = Option ℕ} (Some m) (Some n) → m ≡ n
inside m n e = cc

at_number : (front behind : List ℕ) (n : ℕ) → decimal_of 999 behind ≡ Some n → Decided (WritesBits front behind)
at_number front behind n e =
    elim (cases_lt 3 (length behind)) [
      | inl long ↦ inr (λ bits is. (let few = is.1.1 in omega arith))
      | inr few ↦
          decided_by (λ a is. (record { addr = a; len = n }, (is, (e, few))))
          (λ bits is. (bits.addr, subst (λ (m : ℕ). IsBefore front m bits.addr) (sym (inside n bits.len (sym e ∙ is.1.0))) is.0))
          (before_or_not front n)
    ]

bits_or_not : (front behind : List ℕ) → Decided (WritesBits front behind)
bits_or_not front behind =
    elim (decimal_of 999 behind) as (λ r. decimal_of 999 behind ≡ r → Decided (WritesBits front behind)) [
      | None ↦ λ e. inr (λ bits is. no_some bits.len (sym e ∙ is.1.0))
      | Some n ↦ λ e. at_number front behind n e
    ] refl

masked_is : (text : List ℕ) (bits : Bits) → IsCut WritesBits text bits → IsMasked text bits.addr bits.len
masked_is text bits cut = record { front = cut.front; digits = cut.behind; spelled = cut.spelled; address = cut.is.0.0; mask = cut.is.1 }

masked_from : (text : List ℕ) (a : Addr) (n : ℕ) → IsMasked text a n → n ≤ width a → IsCut WritesBits text (record { addr = a; len = n })
masked_from text a n is fits = record { front = is.front; behind = is.digits; spelled = is.spelled; is = ((is.address, fits), is.mask) }

-- an address with its network
pub masked_or_not : (text : List ℕ) → Decided (IsMaskedText text)
unfolding network_of
masked_or_not text =
    decided_by
    (λ bits cut. (record { addr = bits.addr; network = network_of bits.addr bits.len cut.is.0.1 }, record { masked = masked_is text bits cut; fits = cut.is.0.1; cleared = refl }))
    (λ m is. (record { addr = m.addr; len = m.network.len }, masked_from text m.addr m.network.len is.masked is.fits))
    (cut_or_not WritesBits bits_or_not text)

-- ---- prefixes

no_prefix : (text : List ℕ) → ((a : Addr) → IsAddrText text a → ⊥) → ((bits : Bits) → IsCut WritesBits text bits → ⊥) → (p : Prefix) → IsPrefixText text p → ⊥
no_prefix text none nor p is =
    elim is.writes [
      | inl alone ↦ none is.addr alone.0
      | inr masked ↦ nor (record { addr = is.addr; len = p.len }) (masked_from text is.addr p.len masked is.fits)
    ]

whole : (a : Addr) → width a ≤ width a
whole a = omega arith

pub prefix_or_not : (text : List ℕ) → Decided (IsPrefixText text)
unfolding network_of
prefix_or_not text =
    elim (addr_or_not text) [
      | inl alone ↦ inl (network_of alone.0 (width alone.0) (whole alone.0), record { addr = alone.0; writes = inl (alone.1, refl); fits = whole alone.0; cleared = refl })
      | inr none ↦ elim (cut_or_not WritesBits bits_or_not text) [
        | inl cut ↦ inl (network_of cut.0.addr cut.0.len cut.1.is.0.1, record { addr = cut.0.addr; writes = inr (masked_is text cut.0 cut.1); fits = cut.1.is.0.1; cleared = refl })
        | inr nor ↦ inr (no_prefix text none nor)
      ]
    ]
