-- The bytes of addresses, and that a text writes one address and one mask at most.
use Rattle.std.proofs.Common.{◌==◌, ◌&&◌, nat_le, if◌then◌else◌, ◌≡◌, ◌≢◌, ℕ, zero, suc, ◌+◌, ◌<◌, ◌≤◌, ◌^◌, Bool, true, false, List, [], ◌∷◌, ◌++◌, length, get_or, decimal, Option, Some, None, All, refl, sym, ap, subst, ◌∙◌, arith, inl, inr, length-append, append_assoc, lit<}
use Rattle.std.proofs.lemmas.List.{take_at, drop_at}
use Rattle.std.specs.Option.{MatchOption}
use Rattle.std.specs.Cmp.{first_so, second_so}
use Rattle.std.specs.List.{count_by, list_all}
use Rattle.std.specs.Char.{digit_value, is_ascii_digit}
use Rattle.std.specs.Str.Parse.{AllDigits}
use Rattle.std.specs.Net.Addr.{segments_of}
use Rattle.std.specs.Net.Grammar.{IsDotted, IsColonHex, IsGroupsAfter}
use Rattle.std.specs.Net.Text.{dotted_text}
use Rattle.std.proofs.NetLemmas.Alphabet.{IsDigitOrDot, All-ipv4_text}
use Rattle.std.proofs.lemmas.Bool.{ne_eqb}
use Rattle.std.proofs.lemmas.List.Elements.{All-nil, All-cons, All-head, All-tail, All-append, All-same, All-take, All-drop, All-weaker}
use Rattle.std.proofs.lemmas.List.Sums.{sum_by-append}
use Rattle.std.proofs.lemmas.Fmt.{decimal_is_IsNumeral, length-decimal-le}
use Rattle.pf_base.specs.Text.{is_nothing}
use Rattle.pf_base.specs.Decimal.{decimal_of, digits_after, is_decimal}
use Rattle.pf_addr.specs.declared.addr.Addr.{Addr}
use Rattle.pf_addr.specs.declared.addr.Addr.TheVariants.{V4, V6}
use Rattle.pf_addr.specs.Addr.{width}
use Rattle.pf_addr.specs.Grammar.{IsIpv4, IsIpv6, IsAddrText, zeros, IsShortIpv4, IsNetworkText, IsMask, slash, IsMasked, Writes}
use Rattle.pf_addr.proofs.Values.{IsIpv4-unique, IsIpv6-unique, IsAddrText-unique}

-- ---- no slash stands in an address

abbrev NotSlash : ℕ → Type 0
NotSlash b = b ≢ slash

four_below : (a b c d : ℕ) → (a < 256) × (b < 256) × (c < 256) × (d < 256) → (k : ℕ) → get_or (a ∷ b ∷ c ∷ d ∷ []) k 0 < 2 ^ 8
four_below a b c d h zero = h.0
four_below a b c d h (suc zero) = h.1
four_below a b c d h (suc (suc zero)) = h.2
four_below a b c d h (suc (suc (suc zero))) = h.3
four_below a b c d h (suc (suc (suc (suc k)))) = omega arith

digit_or_dot : (b : ℕ) → IsDigitOrDot b → NotSlash b
digit_or_dot b (inl h) = omega arith
digit_or_dot b (inr h) = omega arith

dotted_bytes : (text octets : List ℕ) → IsDotted text octets → All IsDigitOrDot text
dotted_bytes text octets h =
    All-same IsDigitOrDot _ _ h.spelled (All-ipv4_text (h.a ∷ h.b ∷ h.c ∷ h.d ∷ []) (four_below h.a h.b h.c h.d h.fit))

All-dotted : (text octets : List ℕ) → IsDotted text octets → All NotSlash text
All-dotted text octets h = All-weaker IsDigitOrDot NotSlash digit_or_dot text (dotted_bytes text octets h)

All-digits : (ds : List ℕ) → AllDigits 16 ds → All NotSlash ds
All-digits [] h = All-nil NotSlash
All-digits (c ∷ cs) h =
    let other : NotSlash c = λ e. let low = subst (λ (t : ℕ). digit_value t < 16) e h.0 in omega arith in
    All-cons NotSlash c cs other (All-digits cs h.1)

All-groups : (ipv4 : Bool) (lead text segments : List ℕ) → All NotSlash lead → IsGroupsAfter ipv4 lead text segments → All NotSlash text
All-groups ipv4 lead text [] before h = All-same NotSlash _ _ h (All-nil NotSlash)
All-groups ipv4 lead text (s ∷ segments) before (inl (group, rest, spelled, is_group, more)) =
    let colon : All NotSlash (58 ∷ []) = All-cons NotSlash 58 [] (omega arith) (All-nil NotSlash) in
    let later = All-groups ipv4 (58 ∷ []) rest segments colon more in
    All-same NotSlash _ _ spelled
    (All-append NotSlash (lead ++ group) rest (All-append NotSlash lead group before (All-digits group is_group.0.0.1)) later)
All-groups ipv4 lead text (s ∷ segments) before (inr (last, octets, is, spelled, dotted, value)) =
    All-same NotSlash _ _ spelled (All-append NotSlash lead last before (All-dotted last octets dotted))

All-hex : (text groups : List ℕ) → IsColonHex text groups → All NotSlash text
All-hex text groups (inl h) = All-groups true [] text groups (All-nil NotSlash) h.0
All-hex text groups (inr h) =
    let head = All-groups false [] h.head_text h.head (All-nil NotSlash) h.head_groups in
    let tail = All-groups true [] h.tail_text h.tail (All-nil NotSlash) h.tail_groups in
    let colons : All NotSlash (58 ∷ 58 ∷ []) = All-cons NotSlash 58 (58 ∷ []) (omega arith) (All-cons NotSlash 58 [] (omega arith) (All-nil NotSlash)) in
    All-same NotSlash _ _ h.spelled
    (All-append NotSlash (h.head_text ++ 58 ∷ 58 ∷ []) h.tail_text (All-append NotSlash h.head_text (58 ∷ 58 ∷ []) head colons) tail)

All-front : (P : ℕ → Type 0) (xs ys : List ℕ) → All P (xs ++ ys) → All P xs
All-front P xs ys h = All-same P _ _ (sym (take_at xs ys (length xs) refl)) (All-take P (length xs) (xs ++ ys) h)

pub All-addr : (text : List ℕ) (a : Addr) → IsAddrText text a → All NotSlash text
All-addr text (V4 n) h = All-dotted text h.octets h.dotted
All-addr text (V6 n) h = All-hex text h.groups h.hex

pub All-network : (text : List ℕ) (a : Addr) → IsNetworkText text a → All NotSlash text
All-network text (V4 n) h = All-front NotSlash text (zeros h.missing) (All-dotted _ _ h.filled.dotted)
All-network text (V6 n) h = All-hex text h.groups h.hex

-- a text is cut at its first slash in one way
pub same_cut : (xs ys us vs : List ℕ) → All NotSlash xs → All NotSlash us → xs ++ slash ∷ ys ≡ us ++ slash ∷ vs → (xs ≡ us) × (ys ≡ vs)
same_cut [] ys [] vs h k e = (refl, cc)
same_cut [] ys (u ∷ us) vs h k e =
    let first : u ≡ slash = cc in
    absurd (All-head NotSlash u us k first)
same_cut (x ∷ xs) ys [] vs h k e =
    let first : x ≡ slash = cc in
    absurd (All-head NotSlash x xs h first)
same_cut (x ∷ xs) ys (u ∷ us) vs h k e =
    let rest : xs ++ slash ∷ ys ≡ us ++ slash ∷ vs = cc in
    let first : x ≡ u = cc in
    let later = same_cut xs ys us vs (All-tail NotSlash x xs h) (All-tail NotSlash u us k) rest in
    (cc (first, later.0), later.1)

no_cut : (text xs ys : List ℕ) → All NotSlash text → text ≡ xs ++ slash ∷ ys → 0 < 0
no_cut text [] ys h e = absurd (All-head NotSlash slash ys (All-same NotSlash _ _ (sym e) h) refl)
no_cut [] (x ∷ xs) ys h e = absurd cc
no_cut (t ∷ text) (x ∷ xs) ys h e = no_cut text xs ys (All-tail NotSlash t text h) cc

-- a text with one slash is cut at it in one way
last_cut : (xs ys us vs : List ℕ) → All NotSlash xs → All NotSlash ys → xs ++ slash ∷ ys ≡ us ++ slash ∷ vs → (xs ≡ us) × (ys ≡ vs)
last_cut [] ys [] vs h k e = (refl, cc)
last_cut [] ys (u ∷ us) vs h k e = absurd (omega (arith, no_cut ys us vs k cc))
last_cut (x ∷ xs) ys [] vs h k e =
    let first : x ≡ slash = cc in
    absurd (All-head NotSlash x xs h first)
last_cut (x ∷ xs) ys (u ∷ us) vs h k e =
    let rest : xs ++ slash ∷ ys ≡ us ++ slash ∷ vs = cc in
    let first : x ≡ u = cc in
    let later = last_cut xs ys us vs (All-tail NotSlash x xs h) k rest in
    (cc (first, later.0), later.1)

-- no slash stands in a mask
when_some : (b : Bool) (x y : ℕ) → ◌≡◌ {A = Option ℕ} (if b then Some x else None) (Some y) → b ≡ true
when_some true x y e = refl
when_some false x y e = absurd cc

digits_bytes : (ds : List ℕ) → list_all is_ascii_digit ds ≡ true → All NotSlash ds
digits_bytes [] h = All-nil NotSlash
digits_bytes (d ∷ ds) h =
    let other : NotSlash d = λ e. let wrong : is_ascii_digit slash ≡ true = subst (λ (t : ℕ). is_ascii_digit t ≡ true) e (first_so _ _ h) in cc in
    All-cons NotSlash d ds other (digits_bytes ds (second_so _ _ h))

All-mask : (text : List ℕ) (n : ℕ) → IsMask text n → All NotSlash text
unfolding decimal_of
All-mask text n h =
    let both = first_so _ _ (when_some (is_decimal text && nat_le (digits_after 0 text) 999) (digits_after 0 text) n h.0) in
    digits_bytes text (second_so _ _ both)

-- ---- the dots of an IPv4 address

abbrev pub dot_count : List ℕ → ℕ
dot_count text = count_by (λ b. b == 46) text

dots-append : (xs ys : List ℕ) → dot_count (xs ++ ys) ≡ dot_count xs + dot_count ys
dots-append xs ys = sum_by-append _ xs ys

dots_none : (xs : List ℕ) → AllDigits 10 xs → dot_count xs ≡ 0
dots_none [] h = refl
dots_none (x ∷ xs) h =
    let other : x ≢ 46 = λ e. let low = subst (λ (t : ℕ). digit_value t < 10) e h.0 in omega arith in
    rw (ne_eqb x 46 other) (dots_none xs h.1)

dots-decimal : (n : ℕ) → n < 256 → dot_count (decimal n) ≡ 0
dots-decimal n h = dots_none (decimal n) (decimal_is_IsNumeral n (omega arith)).0.1

dots-dotted : (text octets : List ℕ) → IsDotted text octets → dot_count text ≡ 3
dots-dotted text octets h =
    let a = dots-decimal h.a h.fit.0 in
    let b = dots-decimal h.b h.fit.1 in
    let c = dots-decimal h.c h.fit.2 in
    let d = dots-decimal h.d h.fit.3 in
    let dot = 46 ∷ [] in
    let t1 = dots-append (decimal h.a) dot in
    let t2 = dots-append (decimal h.a ++ dot) (decimal h.b) in
    let t3 = dots-append (decimal h.a ++ dot ++ decimal h.b) dot in
    let t4 = dots-append (decimal h.a ++ dot ++ decimal h.b ++ dot) (decimal h.c) in
    let t5 = dots-append (decimal h.a ++ dot ++ decimal h.b ++ dot ++ decimal h.c) dot in
    let t6 = dots-append (decimal h.a ++ dot ++ decimal h.b ++ dot ++ decimal h.c ++ dot) (decimal h.d) in
    let sum : dot_count (dotted_text h.a h.b h.c h.d) ≡ 3 = omega (arith, t1, t2, t3, t4, t5, t6) in
    ap dot_count h.spelled ∙ sum

dots-zeros : (k : ℕ) → dot_count (zeros k) ≡ k
dots-zeros zero = refl
dots-zeros (suc k) =
    let both : dot_count (zeros (suc k)) ≡ 1 + k = dots-append (46 ∷ 48 ∷ []) (zeros k) ∙ ap (λ (t : ℕ). 1 + t) (dots-zeros k) in
    omega (arith, both)

-- a text lacks as many numbers as it lacks dots
pub missing_is : (text : List ℕ) (n : ℕ) (h : IsShortIpv4 text n) → dot_count text + h.missing ≡ 3
missing_is text n h =
    let whole = dots-dotted _ _ h.filled.dotted in
    let parts = dots-append text (zeros h.missing) in
    let back = dots-zeros h.missing in
    omega arith

pub length-short : (text : List ℕ) (n : ℕ) → IsShortIpv4 text n → length text ≤ 15
length-short text n h =
    let d = h.filled.dotted in
    let a = length-decimal-le 3 d.a (lit< tt) (omega (arith, d.fit.0)) (omega (arith, d.fit.0)) in
    let b = length-decimal-le 3 d.b (lit< tt) (omega (arith, d.fit.1)) (omega (arith, d.fit.1)) in
    let c = length-decimal-le 3 d.c (lit< tt) (omega (arith, d.fit.2)) (omega (arith, d.fit.2)) in
    let e = length-decimal-le 3 d.d (lit< tt) (omega (arith, d.fit.3)) (omega (arith, d.fit.3)) in
    let whole = ap length d.spelled in
    omega (arith, length-append {A = ℕ}, whole)

IsShortIpv4-unique : (text : List ℕ) (m n : ℕ) → IsShortIpv4 text m → IsShortIpv4 text n → m ≡ n
IsShortIpv4-unique text m n h k =
    let same : k.missing ≡ h.missing = omega (arith, missing_is text m h, missing_is text n k) in
    IsIpv4-unique (text ++ zeros h.missing) m n h.filled (subst (λ (t : ℕ). IsIpv4 (text ++ zeros t) n) same k.filled)

-- ---- the colons of an IPv6 address

-- a colon stands in each IPv6 address, and in no short IPv4 address
abbrev NotColon : ℕ → Type 0
NotColon b = b ≢ 58

digit_or_dot_colon : (b : ℕ) → IsDigitOrDot b → NotColon b
digit_or_dot_colon b (inl h) = omega arith
digit_or_dot_colon b (inr h) = omega arith

All-back : (xs ys : List ℕ) → All NotColon (xs ++ ys) → All NotColon ys
All-back xs ys h = All-same NotColon _ _ (sym (drop_at xs ys (length xs) refl)) (All-drop NotColon (length xs) (xs ++ ys) h)

no_colon_within : (xs ys text : List ℕ) → All NotColon text → text ≡ xs ++ 58 ∷ ys → 0 < 0
no_colon_within xs ys text h e =
    absurd (All-head NotColon 58 ys (All-back xs (58 ∷ ys) (All-same NotColon _ _ (sym e) h)) refl)

no_colon_after : (text segments : List ℕ) (s : ℕ) → All NotColon text → IsGroupsAfter true (58 ∷ []) text (s ∷ segments) → 0 < 0
no_colon_after text segments s h (inl (group, rest, spelled, is_group, more)) = no_colon_within [] (group ++ rest) text h spelled
no_colon_after text segments s h (inr (last, octets, is, spelled, dotted, value)) = no_colon_within [] last text h spelled

no_colon_groups : (text segments : List ℕ) → All NotColon text → IsGroupsAfter true [] text segments → length segments ≡ 8 → 0 < 0
no_colon_groups text [] h groups eight = absurd cc
no_colon_groups text (a ∷ []) h groups eight = absurd (omega arith)
no_colon_groups text (a ∷ b ∷ segments) h (inl (group, rest, spelled, is_group, more)) eight =
    let part : All NotColon rest = All-back group rest (All-same NotColon _ _ (sym spelled) h) in
    no_colon_after rest segments b part more
no_colon_groups text (a ∷ b ∷ segments) h (inr (last, octets, is, spelled, dotted, value)) eight =
    let two : length (a ∷ b ∷ segments) ≡ 2 = ap length (value ∙ ap segments_of dotted.value) in
    absurd (omega (arith, two, eight))

no_colon : (text groups : List ℕ) → All NotColon text → IsColonHex text groups → 0 < 0
no_colon text groups h (inl k) = no_colon_groups text groups h k.0 k.1
no_colon text groups h (inr k) =
    no_colon_within k.head_text (58 ∷ k.tail_text) text h (k.spelled ∙ append_assoc k.head_text (58 ∷ 58 ∷ []) k.tail_text)

not_both : (text : List ℕ) (m n : ℕ) → IsShortIpv4 text m → IsIpv6 text n → 0 < 0
not_both text m n h k =
    let all = All-weaker IsDigitOrDot NotColon digit_or_dot_colon _ (dotted_bytes _ _ h.filled.dotted) in
    no_colon text k.groups (All-front NotColon text (zeros h.missing) all) k.hex

pub IsNetworkText-unique : (text : List ℕ) (a b : Addr) → IsNetworkText text a → IsNetworkText text b → a ≡ b
IsNetworkText-unique text (V4 m) (V4 n) h k = ap V4 (IsShortIpv4-unique text m n h k)
IsNetworkText-unique text (V6 m) (V6 n) h k = ap V6 (IsIpv6-unique text m n h k)
IsNetworkText-unique text (V4 m) (V6 n) h k = absurd (omega (arith, not_both text m n h k))
IsNetworkText-unique text (V6 m) (V4 n) h k = absurd (omega (arith, not_both text n m k h))

-- ---- one address and one mask

same_mask : {m n : ℕ} → ◌≡◌ {A = Option ℕ} (Some m) (Some n) → m ≡ n
same_mask e = cc

pub Writes-unique : (text : List ℕ) (a b : Addr) (m n : ℕ) → Writes text a m → Writes text b n → (a ≡ b) × (m ≡ n)
Writes-unique text a b m n (inl h) (inl k) =
    let same = IsAddrText-unique text a b h.0 k.0 in
    (same, h.1 ∙ ap width same ∙ sym k.1)
Writes-unique text a b m n (inl h) (inr k) = absurd (omega (arith, no_cut text k.front k.digits (All-addr text a h.0) k.spelled))
Writes-unique text a b m n (inr h) (inl k) = absurd (omega (arith, no_cut text h.front h.digits (All-addr text b k.0) h.spelled))
Writes-unique text a b m n (inr h) (inr k) =
    let parts = same_cut h.front h.digits k.front k.digits (All-network _ a h.address) (All-network _ b k.address) (sym h.spelled ∙ k.spelled) in (
      IsNetworkText-unique h.front a b h.address (subst (λ (t : List ℕ). IsNetworkText t b) (sym parts.0) k.address),
      same_mask (sym h.mask.0 ∙ ap (decimal_of 999) parts.1 ∙ k.mask.0),
    )

-- two words with a slash between them are an address with a mask where the one is the address and the other the mask
pub masked_parts : (front digits : List ℕ) (a : Addr) (n : ℕ) → IsMasked (front ++ slash ∷ digits) a n → IsNetworkText front a × IsMask digits n
masked_parts front digits a n h =
    let parts = last_cut h.front h.digits front digits (All-network _ a h.address) (All-mask h.digits n h.mask) (sym h.spelled) in
    (subst (λ (t : List ℕ). IsNetworkText t a) parts.0 h.address, subst (λ (t : List ℕ). IsMask t n) parts.1 h.mask)

-- a text with a slash writes an address with a mask
pub writes_masked : (front digits : List ℕ) (a : Addr) (n : ℕ) → Writes (front ++ slash ∷ digits) a n → IsMasked (front ++ slash ∷ digits) a n
writes_masked front digits a n (inl h) = absurd (omega (arith, no_cut _ front digits (All-addr _ a h.0) refl))
writes_masked front digits a n (inr h) = h

-- a text with no slash has no mask
pub not_masked : (text : List ℕ) (a : Addr) (n : ℕ) → All NotSlash text → IsMasked text a n → 0 < 0
not_masked text a n all h = no_cut text h.front h.digits all h.spelled

-- what was read of a text that is no address alone
no_reading : (text : List ℕ) → ((a : Addr) → IsAddrText text a → ⊥) → ((a : Addr) (n : ℕ) → IsMasked text a n → ⊥) → (a : Addr) (n : ℕ) → Writes text a n → ⊥
no_reading text none no_mask a n (inl h) = none a h.0
no_reading text none no_mask a n (inr h) = no_mask a n h

pub written_from : (text : List ℕ) (r : Option (Addr × ℕ)) → ((a : Addr) → IsAddrText text a → ⊥) → MatchOption r ((a : Addr) (n : ℕ) → IsMasked text a n → ⊥) (λ x. IsMasked text x.0 x.1)
    → MatchOption r ((a : Addr) (n : ℕ) → Writes text a n → ⊥) (λ x. Writes text x.0 x.1)
written_from text None none h = no_reading text none h
written_from text (Some x) none h = inr h

-- no address is written by nothing
pub text_some : (text : List ℕ) (a : Addr) → IsAddrText text a → is_nothing text ≡ false
text_some [] (V4 n) h =
    absurd (omega (arith, dots-dotted [] h.octets h.dotted))
text_some [] (V6 n) h = absurd (omega (arith, no_colon [] h.groups (All-nil NotColon) h.hex))
text_some (b ∷ bytes) a h = refl
