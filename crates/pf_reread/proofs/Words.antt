-- Names, numbers and other texts that are printed, as tokens.
use Rattle.std.proofs.Common.{◌≡◌, ℕ, ◌<◌, ◌≤◌, ◌^◌, Bool, true, false, List, [], ◌∷◌, length, Some, refl, arith, rules, le-leb, decimal}
use Rattle.std.specs.Prelude.{◌&&◌, ◌||◌, ◌==◌, not, nat_le, codes, if◌then◌else◌}
use Rattle.std.specs.Char.{is_ascii_digit}
use Rattle.std.specs.List.{list_all, list_any}
use Rattle.std.specs.Str.{bytes_eq}
use Rattle.std.proofs.lemmas.Bool.{agree_below, agree_below_at, and_from, and_parts, leb-true, not-true}
use Rattle.std.proofs.lemmas.Fmt.{decimal_nonempty, digits_decimal, digits_value-decimal, length-decimal-le}
use Rattle.std.proofs.lemmas.Str.Parse.{IsNumeralModel, numerals_by_fold}
use Rattle.pf_base.specs.Decimal.{digits_after, decimal_of, is_decimal}
use Rattle.pf_base.specs.Text.{is_nothing}
use Rattle.pf_decl.specs.ReadBack.{is_file_name, is_string_byte}
use Rattle.pf_parts.specs.NameText as names
use Rattle.pf_syntax.specs.Symbols.{Symbol, bare, quoted, is_mark, is_word}
use Rattle.pf_syntax.specs.Words.{in_range, is_name, is_quotable, name_of}
use Rattle.pf_token.specs.Bytes.{class_of, is_word_byte, is_known}
use Rattle.pf_reread.specs.TokenText.{is_known_byte, is_plain_class, is_plain_in_string, is_string_text, is_word_text}
use Rattle.pf_reread.proofs.Glyphs.{is_spelled, symbol_text, weaker}

-- a byte that passes one test passes another, where this holds of each byte of a table
abbrev pub implies : (ℕ → Bool) → (ℕ → Bool) → ℕ → Bool
implies test other byte = not (test byte) || other byte

implied : (a b : Bool) → (not a || b) ≡ true → a ≡ true → b ≡ true
implied true b e f = e
implied false b e f = absurd (cc)

pub in_table : (test other : ℕ → Bool) (byte : ℕ) → agree_below (implies test other) (λ _. true) 127 ≡ true → byte < 127 → test byte ≡ true → other byte ≡ true
in_table test other byte each below is = implied (test byte) (other byte) (agree_below_at (implies test other) (λ _. true) 127 byte each below) is

below_127 : (byte : ℕ) → names.is_word_byte byte ≡ true → byte < 127
below_127 byte e =
    let p = and_parts (nat_le 33 byte && nat_le byte 126) (not (list_any (λ other. byte == other) (34 ∷ 39 ∷ codes "#(){}<>!=/,"))) e in
    let q = and_parts (nat_le 33 byte) (nat_le byte 126) p.0 in
    let fits : byte ≤ 126 = leb-true byte 126 q.1 in omega arith

-- a byte of words, and one that uses no macro
abbrev pub begins_word : ℕ → Bool
begins_word byte = names.is_word_byte byte && not (byte == 36)

abbrev is_plain_byte : ℕ → Bool
is_plain_byte byte = is_plain_class (class_of byte)

plain_table : agree_below (implies begins_word is_plain_byte) (λ _. true) 127 ≡ true
unfolding class_of
plain_table = refl

word_table : agree_below (implies names.is_word_byte is_word_byte) (λ _. true) 127 ≡ true
unfolding class_of
word_table = refl

word_byte : (byte : ℕ) → names.is_word_byte byte ≡ true → is_word_byte byte ≡ true
word_byte byte e = in_table names.is_word_byte is_word_byte byte word_table (below_127 byte e) e

plain_byte : (byte : ℕ) → begins_word byte ≡ true → is_plain_class (class_of byte) ≡ true
plain_byte byte e = in_table begins_word is_plain_byte byte plain_table (below_127 byte (and_parts (names.is_word_byte byte) (not (byte == 36)) e).0) e

-- bytes of which each begins and makes words
pub word_of_bytes : (text : List ℕ) → is_nothing text ≡ false → list_all begins_word text ≡ true → is_word_text text ≡ true
word_of_bytes [] some each = absurd (cc)
word_of_bytes (first ∷ rest) some each =
    let p = and_parts (begins_word first) (list_all begins_word rest) each in
    and_from (is_plain_class (class_of first)) (list_all is_word_byte (first ∷ rest)) (plain_byte first p.0)
    (weaker begins_word is_word_byte (λ byte e. word_byte byte (and_parts (names.is_word_byte byte) (not (byte == 36)) e).0) (first ∷ rest) each)

-- a name that is printed without quotes is a word
bare_spelled : (name : List ℕ) → names.is_bare name ≡ true → is_nothing name ≡ false → is_word_text name ≡ true
unfolding names.is_bare
bare_spelled [] is some = absurd (cc)
bare_spelled (first ∷ rest) is some =
    let p = and_parts (list_all names.is_word_byte (first ∷ rest) && not (names.begins_use (first ∷ rest))) (not (bytes_eq (first ∷ rest) (codes "any"))) is in
    let q = and_parts (list_all names.is_word_byte (first ∷ rest)) (not (names.begins_use (first ∷ rest))) p.0 in
    let r = and_parts (names.is_word_byte first) (list_all names.is_word_byte rest) q.0 in
    and_from (is_plain_class (class_of first)) (list_all is_word_byte (first ∷ rest))
    (plain_byte first (and_from (names.is_word_byte first) (not (first == 36)) r.0 q.1))
    (weaker names.is_word_byte is_word_byte word_byte (first ∷ rest) q.0)

not_any : (name : List ℕ) → names.is_bare name ≡ true → bytes_eq name (codes "any") ≡ false
unfolding names.is_bare
not_any name is =
    let p = and_parts (list_all names.is_word_byte name && not (names.begins_use name)) (not (bytes_eq name (codes "any"))) is in
    not-true (bytes_eq name (codes "any")) p.1

-- a name that a file can have is a string
string_byte : (byte : ℕ) → is_quotable byte ≡ true → is_string_byte byte ≡ true → is_plain_in_string byte ≡ true
string_byte byte named made =
    let p = and_parts (not (byte == 34)) (not (byte == 92)) named in
    let q = and_parts (is_known (class_of byte)) (not (byte == 10)) made in
    and_from (not (byte == 34)) (not (byte == 92) && not (byte == 10)) p.0 (and_from (not (byte == 92)) (not (byte == 10)) p.1 q.1)

string_bytes : (name : List ℕ) → list_all is_quotable name ≡ true → list_all is_string_byte name ≡ true → list_all is_plain_in_string name ≡ true
string_bytes [] named made = refl
string_bytes (byte ∷ name) named made =
    let p = and_parts (is_quotable byte) (list_all is_quotable name) named in
    let q = and_parts (is_string_byte byte) (list_all is_string_byte name) made in
    and_from (is_plain_in_string byte) (list_all is_plain_in_string name) (string_byte byte p.0 q.0) (string_bytes name p.1 q.1)

abbrev pub has_room : List ℕ → Bool
has_room name = nat_le 1 (length name) && nat_le (length name) 63

pub quoted_spelled : (name : List ℕ) → is_file_name name ≡ true → is_string_text name ≡ true
quoted_spelled name is =
    let p = and_parts (is_name name) (list_all is_string_byte name) is in
    let q = and_parts (has_room name) (list_all is_quotable name) p.0 in
    and_from (list_all is_plain_in_string name) (list_all is_known_byte name) (string_bytes name q.1 p.1)
    (weaker is_string_byte is_known_byte (λ byte e. (and_parts (is_known (class_of byte)) (not (byte == 10)) e).0) name p.1)

some_name : (name : List ℕ) → is_name name ≡ true → is_nothing name ≡ false
some_name [] is = absurd (cc)
some_name (byte ∷ name) is = refl

-- a name as a word, where it can be one, or as a string
abbrev pub symbol_if : Bool → List ℕ → Symbol
symbol_if plain name = if plain then bare name else quoted name

abbrev pub name_symbol : List ℕ → Symbol
name_symbol name = symbol_if (names.is_bare name) name

name_text_if : (b : Bool) (name : List ℕ) → symbol_text (symbol_if b name) ≡ (if b then name else names.quoted name)
name_text_if true name = refl
name_text_if false name = refl

pub name_text-symbol : (name : List ℕ) → symbol_text (name_symbol name) ≡ names.name_text name
name_text-symbol name = name_text_if (names.is_bare name) name

name_spelled_if : (b : Bool) (name : List ℕ) → names.is_bare name ≡ b → is_file_name name ≡ true → is_spelled (symbol_if b name) ≡ true
name_spelled_if true name is made = bare_spelled name is (some_name name (and_parts (is_name name) (list_all is_string_byte name) made).0)
name_spelled_if false name is made = quoted_spelled name made

pub name_spelled : (name : List ℕ) → is_file_name name ≡ true → is_spelled (name_symbol name) ≡ true
name_spelled name made = name_spelled_if (names.is_bare name) name refl made

name_back_if : (b : Bool) (name : List ℕ) → is_name name ≡ true → name_of (symbol_if b name) ≡ Some name
unfolding name_of
name_back_if true name is = rw is refl
name_back_if false name is = rw is refl

pub name_back : (name : List ℕ) → is_file_name name ≡ true → name_of (name_symbol name) ≡ Some name
name_back name made = name_back_if (names.is_bare name) name (and_parts (is_name name) (list_all is_string_byte name) made).0

name_no_mark_if : (b : Bool) (name sign : List ℕ) → is_mark sign (symbol_if b name) ≡ false
name_no_mark_if true name sign = refl
name_no_mark_if false name sign = refl

pub name_no_mark : (name sign : List ℕ) → is_mark sign (name_symbol name) ≡ false
name_no_mark name sign = name_no_mark_if (names.is_bare name) name sign

name_not_any_if : (b : Bool) (name : List ℕ) → names.is_bare name ≡ b → is_word (codes "any") (symbol_if b name) ≡ false
name_not_any_if true name is = not_any name is
name_not_any_if false name is = refl

pub name_not_any : (name : List ℕ) → is_word (codes "any") (name_symbol name) ≡ false
name_not_any name = name_not_any_if (names.is_bare name) name refl

-- a decimal number is a word, and is read as itself
own : IsNumeralModel (λ ds. list_all is_ascii_digit ds ≡ true) (digits_after 0)
own = numerals_by_fold _ (search rules) digits_after (search rules)

digit_table : agree_below (implies is_ascii_digit begins_word) (λ _. true) 127 ≡ true
digit_table = refl

digit_byte : (byte : ℕ) → is_ascii_digit byte ≡ true → begins_word byte ≡ true
digit_byte byte e =
    let p = and_parts (nat_le 48 byte) (nat_le byte 57) e in
    let fits : byte ≤ 57 = leb-true byte 57 p.1 in in_table is_ascii_digit begins_word byte digit_table (omega arith) e

some_digits : (text : List ℕ) → 0 < length text → is_nothing text ≡ false
some_digits [] h = absurd (omega arith)
some_digits (b ∷ text) h = refl

pub all_digits : (n : ℕ) → n < 2 ^ 64 → list_all is_ascii_digit (decimal n) ≡ true
all_digits n small = digits_decimal own n small

pub number_some : (n : ℕ) → n < 2 ^ 64 → is_nothing (decimal n) ≡ false
number_some n small = some_digits (decimal n) (decimal_nonempty n small)

pub number_word : (n : ℕ) → n < 2 ^ 64 → is_word_text (decimal n) ≡ true
number_word n small = word_of_bytes (decimal n) (number_some n small) (weaker is_ascii_digit begins_word digit_byte (decimal n) (all_digits n small))

pub number_is_decimal : (n : ℕ) → n < 2 ^ 64 → is_decimal (decimal n) ≡ true
number_is_decimal n small = rw (number_some n small, all_digits n small) refl

pub decimal_of-decimal : (most n : ℕ) → n ≤ most → n < 2 ^ 64 → decimal_of most (decimal n) ≡ Some n
unfolding decimal_of
decimal_of-decimal most n fits small = rw (number_some n small, all_digits n small, digits_value-decimal own n small, le-leb n most fits) refl

pub in_range-decimal : (least most n : ℕ) → least ≤ n → n ≤ most → n < 2 ^ 64 → in_range least (decimal_of most (decimal n)) ≡ Some n
in_range-decimal least most n some fits small = rw (decimal_of-decimal most n fits small, le-leb least n some) refl

pub number_begins : (n : ℕ) → n < 2 ^ 64 → list_all begins_word (decimal n) ≡ true
number_begins n small = weaker is_ascii_digit begins_word digit_byte (decimal n) (all_digits n small)

name_table : agree_below (implies is_ascii_digit is_quotable) (λ _. true) 127 ≡ true
name_table = refl

digit_name : (byte : ℕ) → is_ascii_digit byte ≡ true → is_quotable byte ≡ true
digit_name byte e =
    let p = and_parts (nat_le 48 byte) (nat_le byte 57) e in
    let fits : byte ≤ 57 = leb-true byte 57 p.1 in in_table is_ascii_digit is_quotable byte name_table (omega arith) e

-- a number below 256 is a name
pub number_is_name : (n : ℕ) → n ≤ 255 → is_name (decimal n) ≡ true
number_is_name n fits =
    let small : n < 2 ^ 64 = omega arith in
    let long : length (decimal n) ≤ 3 = length-decimal-le 3 n (omega arith) (omega arith) small in
    let some : 0 < length (decimal n) = decimal_nonempty n small in
    and_from (has_room (decimal n)) (list_all is_quotable (decimal n))
    (and_from (nat_le 1 (length (decimal n))) (nat_le (length (decimal n)) 63) (le-leb 1 (length (decimal n)) (omega arith)) (le-leb (length (decimal n)) 63 (omega arith)))
    (weaker is_ascii_digit is_quotable digit_name (decimal n) (all_digits n small))
