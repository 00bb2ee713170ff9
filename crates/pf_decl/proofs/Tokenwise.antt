-- Which words and names are spelled as one token.
use Rattle.std.proofs.Common.{◌≡◌, ℕ, ◌<◌, ◌≤◌, ◌^◌, Bool, true, false, List, [], ◌∷◌, length, Some, refl, arith, rules, le-leb, decimal}
use Rattle.std.specs.Prelude.{◌&&◌, ◌||◌, ◌==◌, not, nat_le, codes, if◌then◌else◌}
use Rattle.std.specs.Char.{is_ascii_digit}
use Rattle.std.specs.List.{list_all, list_any}
use Rattle.std.specs.Str.{bytes_eq}
use Rattle.std.proofs.lemmas.Bool.{agree_below, agree_below_at, and_from, and_parts, leb-true}
use Rattle.std.proofs.lemmas.Fmt.{decimal_nonempty, digits_decimal, digits_value-decimal}
use Rattle.std.proofs.lemmas.Str.Parse.{IsNumeralModel, numerals_by_fold}
use Rattle.pf_base.specs.Decimal.{digits_after, decimal_of}
use Rattle.pf_base.specs.Text.{is_nothing}
use Rattle.pf_parts.specs.NameText as names
use Rattle.pf_syntax.specs.Symbols.{bare, quoted}
use Rattle.pf_syntax.specs.Words.{is_name, is_quotable}
use Rattle.pf_token.specs.declared.byte.ByteClass.{ByteClass}
use Rattle.pf_token.specs.declared.byte.ByteClass.TheVariants.{Blank, Newline, Sign, Quote, Hash, Dollar, Plain, Bad}
use Rattle.pf_token.specs.Bytes.{class_of, is_word_byte, is_known}
use Rattle.pf_decl.specs.ReadBack.{is_file_name, is_string_byte}
use Rattle.pf_decl.proofs.Spelling.{IsSpelled, as_word, as_string, is_plain_in_string, weaker}

abbrev pub is_plain_class : ByteClass → Bool
is_plain_class Plain = true
is_plain_class Blank = false
is_plain_class Newline = false
is_plain_class Sign = false
is_plain_class Quote = false
is_plain_class Hash = false
is_plain_class Dollar = false
is_plain_class Bad = false

is_plain : (class : ByteClass) → is_plain_class class ≡ true → class ≡ Plain
is_plain Plain e = refl
is_plain Blank e = absurd (cc)
is_plain Newline e = absurd (cc)
is_plain Sign e = absurd (cc)
is_plain Quote e = absurd (cc)
is_plain Hash e = absurd (cc)
is_plain Dollar e = absurd (cc)
is_plain Bad e = absurd (cc)

-- a byte that passes one test passes another, where this holds of each byte of a table
abbrev implies : (ℕ → Bool) → (ℕ → Bool) → ℕ → Bool
implies test other byte = not (test byte) || other byte

implied : (a b : Bool) → (not a || b) ≡ true → a ≡ true → b ≡ true
implied true b e f = e
implied false b e f = absurd (cc)

in_table : (test other : ℕ → Bool) (byte : ℕ) → agree_below (implies test other) (λ _. true) 127 ≡ true → byte < 127 → test byte ≡ true → other byte ≡ true
in_table test other byte each below is = implied (test byte) (other byte) (agree_below_at (implies test other) (λ _. true) 127 byte each below) is

below_127 : (byte : ℕ) → names.is_word_byte byte ≡ true → byte < 127
below_127 byte e =
    let p = and_parts (nat_le 33 byte && nat_le byte 126) (not (list_any (λ other. byte == other) (34 ∷ 39 ∷ codes "#(){}<>!=/,"))) e in
    let q = and_parts (nat_le 33 byte) (nat_le byte 126) p.0 in
    let fits : byte ≤ 126 = leb-true byte 126 q.1 in omega arith

abbrev begins_word : ℕ → Bool
begins_word byte = names.is_word_byte byte && not (byte == 36)

abbrev is_plain_byte : ℕ → Bool
is_plain_byte byte = is_plain_class (class_of byte)

plain_table : agree_below (implies begins_word is_plain_byte) (λ _. true) 127 ≡ true
unfolding class_of
plain_table = refl

word_table : agree_below (implies names.is_word_byte is_word_byte) (λ _. true) 127 ≡ true
unfolding class_of
word_table = refl

digit_table : agree_below (implies is_ascii_digit begins_word) (λ _. true) 127 ≡ true
digit_table = refl

-- a byte of words
word_byte : (byte : ℕ) → names.is_word_byte byte ≡ true → is_word_byte byte ≡ true
word_byte byte e = in_table names.is_word_byte is_word_byte byte word_table (below_127 byte e) e

-- and one that uses no macro
plain_byte : (byte : ℕ) → begins_word byte ≡ true → class_of byte ≡ Plain
plain_byte byte e = is_plain (class_of byte) (in_table begins_word is_plain_byte byte plain_table (below_127 byte (and_parts _ _ e).0) e)

-- whether a text is a word that uses no macro
abbrev pub is_plain_word : List ℕ → Bool
is_plain_word [] = false
is_plain_word (first ∷ rest) = begins_word first && list_all names.is_word_byte (first ∷ rest)

pub word_spelled : (word : List ℕ) → is_plain_word word ≡ true → IsSpelled (bare word)
word_spelled [] e = absurd (cc)
word_spelled (first ∷ rest) e =
    let p = and_parts _ _ e in
    as_word (plain_byte first p.0) (weaker names.is_word_byte is_word_byte word_byte (first ∷ rest) p.1)

-- a name that is printed without quotes is a word
bare_spelled : (name : List ℕ) → is_name name ≡ true → names.is_bare name ≡ true → IsSpelled (bare name)
unfolding names.is_bare
bare_spelled [] named is = absurd (cc)
bare_spelled (first ∷ rest) named is =
    let p = and_parts (list_all names.is_word_byte (first ∷ rest) && not (names.begins_use (first ∷ rest))) (not (bytes_eq (first ∷ rest) (codes "any"))) is in
    let q = and_parts (list_all names.is_word_byte (first ∷ rest)) (not (names.begins_use (first ∷ rest))) p.0 in
    let r = and_parts (names.is_word_byte first) (list_all names.is_word_byte rest) q.0 in
    as_word (plain_byte first (and_from (names.is_word_byte first) (not (first == 36)) r.0 q.1))
    (weaker names.is_word_byte is_word_byte word_byte (first ∷ rest) q.0)

-- a name that a file can have is a string
string_byte : (byte : ℕ) → is_quotable byte ≡ true → is_string_byte byte ≡ true → is_plain_in_string byte ≡ true
string_byte byte named made =
    let p = and_parts (not (byte == 34)) (not (byte == 92)) named in
    let q = and_parts (is_known (class_of byte)) (not (byte == 10)) made in
    and_from (not (byte == 34)) (not (byte == 92) && not (byte == 10)) p.0 (and_from (not (byte == 92)) (not (byte == 10)) p.1 q.1)

string_bytes : (name : List ℕ) → list_all is_quotable name ≡ true → list_all is_string_byte name ≡ true → list_all is_plain_in_string name ≡ true
string_bytes [] named made = refl
string_bytes (byte ∷ name) named made =
    let p = and_parts _ _ named in
    let q = and_parts _ _ made in
    rw (string_byte byte p.0 q.0, string_bytes name p.1 q.1) refl

quoted_spelled : (name : List ℕ) → is_file_name name ≡ true → IsSpelled (quoted name)
quoted_spelled name is =
    let p = and_parts _ _ is in
    let q = and_parts _ _ p.0 in
    as_string (string_bytes name q.1 p.1) (weaker is_string_byte (λ byte. is_known (class_of byte)) (λ byte e. (and_parts _ _ e).0) name p.1)

pub name_spelled : (b : Bool) (name : List ℕ) → names.is_bare name ≡ b → is_file_name name ≡ true → IsSpelled (if b then bare name else quoted name)
name_spelled true name is made = bare_spelled name (and_parts _ _ made).0 is
name_spelled false name is made = quoted_spelled name made

-- a decimal number is a word, and is read as itself
own : IsNumeralModel (λ ds. list_all is_ascii_digit ds ≡ true) (digits_after 0)
own = numerals_by_fold _ (search rules) digits_after (search rules)

digit_byte : (byte : ℕ) → is_ascii_digit byte ≡ true → begins_word byte ≡ true
digit_byte byte e =
    let p = and_parts (nat_le 48 byte) (nat_le byte 57) e in
    let fits : byte ≤ 57 = leb-true byte 57 p.1 in in_table is_ascii_digit begins_word byte digit_table (omega arith) e

nonempty : (text : List ℕ) → 0 < length text → is_nothing text ≡ false
nonempty [] h = absurd (omega arith)
nonempty (b ∷ text) h = refl

digits_plain : (text : List ℕ) → 0 < length text → list_all is_ascii_digit text ≡ true → is_plain_word text ≡ true
digits_plain [] some each = absurd (omega arith)
digits_plain (first ∷ rest) some each =
    rw (digit_byte first (and_parts _ _ each).0) (weaker is_ascii_digit names.is_word_byte (λ byte e. (and_parts _ _ (digit_byte byte e)).0) (first ∷ rest) each)

pub number_plain : (n : ℕ) → n < 2 ^ 64 → is_plain_word (decimal n) ≡ true
number_plain n small = digits_plain (decimal n) (decimal_nonempty n small) (digits_decimal own n small)

pub decimal_of-decimal : (n : ℕ) → n ≤ 4294967295 → decimal_of 4294967295 (decimal n) ≡ Some n
unfolding decimal_of
decimal_of-decimal n fits =
    let small : n < 2 ^ 64 = omega arith in
    let some : is_nothing (decimal n) ≡ false = nonempty (decimal n) (decimal_nonempty n small) in
    let all : list_all is_ascii_digit (decimal n) ≡ true = digits_decimal own n small in
    let value : digits_after 0 (decimal n) ≡ n = digits_value-decimal own n small in
    rw (some, all, value, le-leb n 4294967295 fits) refl
