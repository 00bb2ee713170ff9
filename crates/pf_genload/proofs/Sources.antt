-- The source of a generated rule is a word, and with its mask a network; the addresses of a generated record are addresses.
use Rattle.std.proofs.Common.{◌≡◌, ℕ, ◌+◌, ◌-◌, ◌*◌, ◌/◌, ◌%◌, ◌^◌, ◌<◌, ◌≤◌, true, List, [], ◌∷◌, ◌++◌, refl, ap, sym, subst, ◌∙◌, append_assoc, arith, decimal}
use Rattle.std.specs.Prelude.{codes}
use Rattle.std.specs.List.{list_all}
use Rattle.std.specs.Char.{is_ascii_digit}
use Rattle.std.specs.Fmt.{digits}
use Rattle.std.specs.Net.Text.{ipv4_text}
use Rattle.pf_addr.specs.Addr.{IsAddr, width}
use Rattle.pf_addr.specs.Grammar.{IsAddrText}
use Rattle.pf_addr.specs.PrefixText.{IsPrefixText, prefix_text}
use Rattle.pf_addr.specs.Text.{addr_text, last_digits}
use Rattle.pf_addr.specs.declared.addr.Addr.{Addr}
use Rattle.pf_addr.specs.declared.addr.Addr.TheVariants.{V4}
use Rattle.pf_addr.specs.declared.prefix.Prefix.{Prefix}
use Rattle.pf_token.specs.Bytes.{class_of}
use Rattle.pf_genload.proofs.Glyphs.{all-append, is_line_byte, is_line_word, weaker}
use Rattle.pf_genload.proofs.Numbers.{all_digits, digit_in_line}

-- what stands behind its first byte, of `10.B.C.0`
abbrev pub source_behind : ℕ → ℕ → List ℕ
source_behind b c = 48 ∷ 46 ∷ (decimal b ++ 46 ∷ (decimal c ++ codes ".0"))

number_in_line : (n : ℕ) → n < 2 ^ 64 → list_all is_line_byte (decimal n) ≡ true
number_in_line n small = weaker is_ascii_digit is_line_byte digit_in_line (decimal n) (all_digits n small)

pub source_is_word : (b c : ℕ) → b < 256 → c < 256 → is_line_word (49 ∷ source_behind b c) ≡ true
unfolding class_of
source_is_word b c small_b small_c =
    all-append is_line_byte (decimal b) (46 ∷ (decimal c ++ codes ".0")) (number_in_line b (omega arith))
    (all-append is_line_byte (decimal c) (codes ".0") (number_in_line c (omega arith)) refl)

-- the number of 10.B.C.H
abbrev pub host_number : ℕ → ℕ → ℕ → ℕ
host_number b c h = ((10 * 256 + b) * 256 + c) * 256 + h

host_fits : (b c h : ℕ) → b < 256 → c < 256 → h < 256 → host_number b c h < 2 ^ 32
host_fits b c h small_b small_c small_h = omega arith

-- the network's number
abbrev pub network_number : ℕ → ℕ → ℕ
network_number b c = host_number b c 0

pub host_bits : (b c : ℕ) → network_number b c % 2 ^ (32 - 24) ≡ 0
host_bits b c = omega arith

pub mask_fits : (n : ℕ) → 24 ≤ width (V4 n)
mask_fits n = omega arith

abbrev pub network_of : ℕ → ℕ → Prefix
network_of b c = record { addr = V4 (network_number b c); len = 24; fits = mask_fits (network_number b c); no_host_bits = host_bits b c }

bytes_are : (b c h : ℕ) → b < 256 → c < 256 → h < 256 → last_digits 256 4 (host_number b c h) ≡ 10 ∷ b ∷ c ∷ h ∷ []
unfolding last_digits
bytes_are b c h small_b small_c small_h =
    let first : host_number b c h / 256 / 256 / 256 % 256 ≡ 10 = omega arith in
    let second : host_number b c h / 256 / 256 % 256 ≡ b = omega arith in
    let third : host_number b c h / 256 % 256 ≡ c = omega arith in
    let fourth : host_number b c h % 256 ≡ h = omega arith in
    rw (first, second, third, fourth) refl

from_left : (a dot b c d slash mask : List ℕ)
    → ((((((((a ++ dot) ++ b) ++ dot) ++ c) ++ dot) ++ d) ++ slash) ++ mask) ≡ a ++ (dot ++ (b ++ (dot ++ (c ++ (dot ++ (d ++ (slash ++ mask)))))))
from_left a dot b c d slash mask = simp append_assoc

from_right : (a dot b c last end : List ℕ) → (a ++ (dot ++ (b ++ (dot ++ (c ++ last))))) ++ end ≡ a ++ (dot ++ (b ++ (dot ++ (c ++ (last ++ end)))))
from_right a dot b c last end = simp append_assoc

text_is : (b c : ℕ) → (ipv4_text (10 ∷ b ∷ c ∷ 0 ∷ []) ++ codes "/") ++ codes "24" ≡ (49 ∷ source_behind b c) ++ 47 ∷ codes "24"
unfolding digits
text_is b c =
    from_left (decimal 10) (codes ".") (decimal b) (decimal c) (decimal 0) (codes "/") (codes "24")
    ∙ sym (from_right (codes "10") (codes ".") (decimal b) (decimal c) (codes ".0") (codes "/24"))

prefix_is : (b c : ℕ) → b < 256 → c < 256 → prefix_text (network_of b c) ≡ (49 ∷ source_behind b c) ++ 47 ∷ codes "24"
unfolding digits
prefix_is b c small_b small_c =
    ap (λ (bytes : List ℕ). (ipv4_text bytes ++ codes "/") ++ codes "24") (bytes_are b c 0 small_b small_c (omega arith)) ∙ text_is b c

-- what is printed of a prefix is a text of it
abbrev pub PrefixesReadBack : Type 0
PrefixesReadBack = (p : Prefix) → IsAddr p.addr → IsPrefixText (prefix_text p) p

pub source_is_network : PrefixesReadBack → (b c : ℕ) → b < 256 → c < 256 → IsPrefixText ((49 ∷ source_behind b c) ++ 47 ∷ codes "24") (network_of b c)
source_is_network back b c small_b small_c =
    subst (λ (text : List ℕ). IsPrefixText text (network_of b c)) (prefix_is b c small_b small_c) (back (network_of b c) (host_fits b c 0 small_b small_c (omega arith)))

-- ---- addresses

-- what is printed of an address is a text of it
abbrev pub AddressesReadBack : Type 0
AddressesReadBack = (a : Addr) → IsAddr a → IsAddrText (addr_text a) a

-- 10.B.C.H
abbrev pub host_text : ℕ → ℕ → ℕ → List ℕ
host_text b c h = codes "10." ++ (decimal b ++ (codes "." ++ (decimal c ++ (codes "." ++ decimal h))))

in_dots : (a dot b c d : List ℕ) → (((((a ++ dot) ++ b) ++ dot) ++ c) ++ dot) ++ d ≡ a ++ (dot ++ (b ++ (dot ++ (c ++ (dot ++ d)))))
in_dots a dot b c d = simp append_assoc

host_is : (b c h : ℕ) → b < 256 → c < 256 → h < 256 → addr_text (V4 (host_number b c h)) ≡ host_text b c h
unfolding digits
host_is b c h small_b small_c small_h =
    ap ipv4_text (bytes_are b c h small_b small_c small_h) ∙ in_dots (decimal 10) (codes ".") (decimal b) (decimal c) (decimal h)

pub host_is_address : AddressesReadBack → (b c h : ℕ) → b < 256 → c < 256 → h < 256 → IsAddrText (host_text b c h) (V4 (host_number b c h))
host_is_address back b c h small_b small_c small_h =
    subst (λ (text : List ℕ). IsAddrText text (V4 (host_number b c h))) (host_is b c h small_b small_c small_h)
    (back (V4 (host_number b c h)) (host_fits b c h small_b small_c small_h))

-- the number of 192.0.2.1
abbrev pub target_number : ℕ
target_number = 3221225985

target_fits : target_number < 2 ^ 32
target_fits = omega arith

target_is : addr_text (V4 target_number) ≡ codes "192.0.2.1"
unfolding last_digits digits
target_is = refl

pub target_is_address : AddressesReadBack → IsAddrText (codes "192.0.2.1") (V4 target_number)
target_is_address back = subst (λ (text : List ℕ). IsAddrText text (V4 target_number)) target_is (back (V4 target_number) target_fits)
