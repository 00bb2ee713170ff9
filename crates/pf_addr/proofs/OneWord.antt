-- Printed addresses and prefixes are words of known bytes.
use Rattle.std.proofs.Common.{◌≡◌, ◌≢◌, ℕ, ◌≤◌, IsTrue, Bool, true, false, List, [], ◌∷◌, ◌++◌, decimal, All, refl, subst, arith, inl, inr, lit<, eq-eqb, ne_eqb}
use Rattle.std.specs.Char.{is_ascii_digit}
use Rattle.std.specs.List.{list_all}
use Rattle.std.proofs.lemmas.Bool.{cases_eq}
use Rattle.std.proofs.lemmas.Bool.Decides.{nat_tests}
use Rattle.std.proofs.lemmas.List.Elements.{All-append, All-cons, All-head, All-nil, All-tail, All-weaker}
use Rattle.std.proofs.lemmas.List.Splits.{slice_split_none}
use Rattle.std.proofs.lemmas.Fmt.{digits_decimal}
use Rattle.std.specs.Cmp.{first_so, second_so}
use Rattle.std.proofs.NetLemmas.Alphabet.{All-hex_groups_text, All-ipv4_text, IsDigitOrDot, IsHexOrColon}
use Rattle.pf_base.specs.Text.{fields_of, is_blank, is_nothing, is_space, words_of}
use Rattle.pf_addr.specs.declared.addr.Addr.{Addr}
use Rattle.pf_addr.specs.declared.addr.Addr.TheVariants.{V4, V6}
use Rattle.pf_addr.specs.declared.prefix.Prefix.{Prefix}
use Rattle.pf_addr.specs.Addr.{IsAddr, width}
use Rattle.pf_addr.specs.PrefixText.{prefix_text}
use Rattle.pf_addr.specs.Text.{addr_text}
use Rattle.pf_addr.specs.Words.{IsOneWord, is_addr_byte, is_prefix_byte}
use Rattle.pf_addr.specs.Grammar.{slash}
use Rattle.pf_addr.proofs.Digits.{last_digits-below}
use Rattle.pf_addr.proofs.Printed.{IsAddrText-addr_text, own}
use Rattle.pf_addr.proofs.Texts.{text_some}

abbrev IsAddrByte : ℕ → Type 0
IsAddrByte b = is_addr_byte b ≡ true

abbrev IsPrefixByte : ℕ → Type 0
IsPrefixByte b = is_prefix_byte b ≡ true

digit_or_dot : (b : ℕ) → IsDigitOrDot b → IsAddrByte b
digit_or_dot b (inl h) = grind (arith, nat_tests)
digit_or_dot b (inr h) = rw h refl

hex_or_colon : (b : ℕ) → IsHexOrColon b → IsAddrByte b
hex_or_colon b (inl h) = grind (arith, nat_tests)
hex_or_colon b (inr h) = grind (arith, nat_tests)

-- an address is printed in these bytes
All-addr_text : (a : Addr) → IsAddr a → All IsAddrByte (addr_text a)
All-addr_text (V4 n) h = All-weaker IsDigitOrDot IsAddrByte digit_or_dot _ (All-ipv4_text _ (last_digits-below 256 4 n (lit< tt)))
All-addr_text (V6 n) h = All-weaker IsHexOrColon IsAddrByte hex_or_colon _ (All-hex_groups_text _ (last_digits-below 65536 8 n (lit< tt)))

no_slash : (b : ℕ) → IsAddrByte b → IsPrefixByte b
no_slash b h = rw h refl

digit_byte : (b : ℕ) → is_ascii_digit b ≡ true → IsPrefixByte b
digit_byte b h = rw h refl

All-digits : (ds : List ℕ) → list_all is_ascii_digit ds ≡ true → All IsPrefixByte ds
All-digits [] h = All-nil IsPrefixByte
All-digits (d ∷ ds) h = All-cons IsPrefixByte d ds (digit_byte d (first_so _ _ h)) (All-digits ds (second_so _ _ h))

width_most : (a : Addr) → width a ≤ 128
width_most (V4 n) = omega arith
width_most (V6 n) = omega arith

-- a prefix in these and the slash
All-prefix_text : (p : Prefix) → IsAddr p.addr → All IsPrefixByte (prefix_text p)
All-prefix_text p h =
    let all = All-weaker IsAddrByte IsPrefixByte no_slash _ (All-addr_text p.addr h) in
    let before : All IsPrefixByte (slash ∷ []) = All-cons IsPrefixByte slash [] refl (All-nil IsPrefixByte) in
    let digits : list_all is_ascii_digit (decimal p.len) ≡ true = digits_decimal own p.len (omega (arith, p.fits, width_most p.addr)) in
    elim (cases_eq p.len (width p.addr)) [
      | inl full ↦ rw (eq-eqb p.len (width p.addr) full) all
      | inr part ↦
          rw (ne_eqb p.len (width p.addr) part)
          (All-append IsPrefixByte (addr_text p.addr ++ slash ∷ []) (decimal p.len) (All-append IsPrefixByte (addr_text p.addr) (slash ∷ []) all before) (All-digits _ digits))
    ]

-- ---- one word

-- a text of such bytes that isn't empty is one word
not_32 : (b : ℕ) → IsPrefixByte b → b ≢ 32
not_32 b h e = let wrong : is_prefix_byte 32 ≡ true = subst IsPrefixByte e h in cc

not_9 : (b : ℕ) → IsPrefixByte b → b ≢ 9
not_9 b h e = let wrong : is_prefix_byte 9 ≡ true = subst IsPrefixByte e h in cc

no_blank : (b : ℕ) → IsPrefixByte b → is_blank b ≡ false
no_blank b h = rw (ne_eqb b 32 (not_32 b h), ne_eqb b 9 (not_9 b h)) refl

no_space : (b : ℕ) → IsPrefixByte b → is_space b ≡ false
no_space b h = ne_eqb b 32 (not_32 b h)

one_word : (text : List ℕ) → All IsPrefixByte text → is_nothing text ≡ false → IsOneWord text
unfolding words_of fields_of
one_word text all some =
    let word = slice_split_none is_blank text (All-weaker IsPrefixByte (λ b. is_blank b ≡ false) no_blank text all) in
    let field = slice_split_none is_space text (All-weaker IsPrefixByte (λ b. is_space b ≡ false) no_space text all) in
    record { some = some; word = rw (word, some) refl; field = field }

some_addr : (a : Addr) → IsAddr a → is_nothing (addr_text a) ≡ false
some_addr a h = text_some (addr_text a) a (IsAddrText-addr_text a h)

some_front : (xs ys : List ℕ) → is_nothing xs ≡ false → is_nothing (xs ++ ys) ≡ false
some_front [] ys h = absurd cc
some_front (x ∷ xs) ys h = refl

some_prefix : (p : Prefix) → IsAddr p.addr → is_nothing (prefix_text p) ≡ false
some_prefix p h =
    let some = some_addr p.addr h in
    elim (cases_eq p.len (width p.addr)) [
      | inl full ↦ rw (eq-eqb p.len (width p.addr) full) some
      | inr part ↦ rw (ne_eqb p.len (width p.addr) part) (some_front (addr_text p.addr ++ slash ∷ []) (decimal p.len) (some_front (addr_text p.addr) (slash ∷ []) some))
    ]

list_all-from : (p : ℕ → Bool) (xs : List ℕ) → All (λ x. p x ≡ true) xs → list_all p xs ≡ true
list_all-from p [] h = refl
list_all-from p (x ∷ xs) h =
    let first : p x ≡ true = All-head (λ x. p x ≡ true) x xs h in
    let rest : list_all p xs ≡ true = list_all-from p xs (All-tail (λ x. p x ≡ true) x xs h) in
    rw (first, rest) refl

pub addr_bytes : (a : Addr) → IsAddr a → IsTrue (list_all is_addr_byte (addr_text a))
addr_bytes a h = list_all-from is_addr_byte _ (All-addr_text a h)

pub prefix_bytes : (p : Prefix) → IsAddr p.addr → IsTrue (list_all is_prefix_byte (prefix_text p))
prefix_bytes p h = list_all-from is_prefix_byte _ (All-prefix_text p h)

pub addr_word : (a : Addr) → IsAddr a → IsOneWord (addr_text a)
addr_word a h = one_word _ (All-weaker IsAddrByte IsPrefixByte no_slash _ (All-addr_text a h)) (some_addr a h)

pub prefix_word : (p : Prefix) → IsAddr p.addr → IsOneWord (prefix_text p)
prefix_word p h = one_word _ (All-prefix_text p h) (some_prefix p h)
