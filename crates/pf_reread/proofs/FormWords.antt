-- What single words of a file say: names of a file, numbers in their ranges.
use Rattle.std.proofs.Common.{◌≡◌, ℕ, ◌+◌, ◌-◌, ◌*◌, ◌≤◌, Bool, true, false, List, [], ◌∷◌, take, drop, Option, Some, None, if◌then◌else◌, refl, subst, arith}
use Rattle.std.specs.Prelude.{◌&&◌, nat_le, codes}
use Rattle.std.specs.List.{list_all}
use Rattle.std.specs.Option.{option_and_then, option_or}
use Rattle.std.specs.Str.{bytes_eq}
use Rattle.std.proofs.lemmas.Bool.{and_from, and_parts, le-leb, leb-true}
use Rattle.std.proofs.lemmas.Option.{cond_some}
use Rattle.pf_base.specs.Decimal.{decimal_of, digits_after, is_decimal}
use Rattle.pf_decl.specs.ReadBack.{is_file_name, is_string_byte}
use Rattle.pf_form.specs.Settings.{digit_of, hex_of, hex_tos, prio, tos, tos_of, tos_words, two_digits}
use Rattle.pf_ops.specs.Words.{Entry, number_of}
use Rattle.pf_syntax.specs.Symbols.{Symbol, bare, quoted, mark, line_end}
use Rattle.pf_syntax.specs.Words.{Keyword, any_word, bare_text, is_name, meaning_in, name, name_of, name_where, number, word_as}
use Rattle.pf_syntax.specs.Words as words
use Rattle.pf_token.specs.declared.byte.ByteClass.{ByteClass}
use Rattle.pf_token.specs.declared.byte.ByteClass.TheVariants.{Blank, Newline, Sign, Quote, Hash, Dollar, Plain, Bad}
use Rattle.pf_token.specs.Bytes.{class_of, is_word_byte, makes_words}
use Rattle.pf_reread.specs.TokenText.{is_plain_class, is_word_text}
use Rattle.pf_reread.specs.Written.{in_range, is_byte, is_prio}
use Rattle.pf_reread.proofs.FileTokens.{good_byte, is_good_class}
use Rattle.pf_reread.proofs.Keeping.{HoldsIn, Keeps, is_read_symbol, one_keeps}

-- a value that passes a test
abbrev pub Passes : {A : Type 0} → (A → Bool) → A → Type 0
Passes test value = test value ≡ true

pub some_if : {A : Type 0} (b : Bool) (value other : A) → if b then Some value else None ≡ Some other → (b ≡ true) × (value ≡ other)
some_if b value other is = cond_some b value other is

pub of_some : {A : Type 0} (P : A → Type 0) (value other : A) → Some value ≡ Some other → P value → P other
of_some {A} P value other same holds = let Q : Option A → Type 0 = HoldsIn P in subst Q same holds

-- one of two readings, of which each gives values with this
pub either : {A : Type 0} (P : A → Type 0) (first second : Option A) (value : A) → ((one : A) → first ≡ Some one → P one) → ((one : A) → second ≡ Some one → P one)
    → option_or first second ≡ Some value → P value
either P None second value each other is = other value is
either P (Some one) second value each other is = each value is

-- ---- bytes and names

good_word_class : (class : ByteClass) → makes_words class ≡ true → is_good_class class ≡ true
good_word_class Blank e = absurd (cc)
good_word_class Newline e = absurd (cc)
good_word_class Sign e = absurd (cc)
good_word_class Quote e = absurd (cc)
good_word_class Hash e = absurd (cc)
good_word_class Dollar e = refl
good_word_class Plain e = refl
good_word_class Bad e = absurd (cc)

word_byte_string : (byte : ℕ) → is_word_byte byte ≡ true → is_string_byte byte ≡ true
word_byte_string byte is = good_byte byte (good_word_class (class_of byte) is)

word_bytes_string : (text : List ℕ) → list_all is_word_byte text ≡ true → list_all is_string_byte text ≡ true
word_bytes_string [] all = refl
word_bytes_string (byte ∷ text) all =
    let parts = and_parts (is_word_byte byte) (list_all is_word_byte text) all in
    and_from (is_string_byte byte) (list_all is_string_byte text) (word_byte_string byte parts.0) (word_bytes_string text parts.1)

-- the bytes of a word are bytes of strings
pub word_string : (text : List ℕ) → is_word_text text ≡ true → list_all is_string_byte text ≡ true
word_string [] is = absurd (cc)
word_string (byte ∷ text) is =
    word_bytes_string (byte ∷ text) (and_parts (is_plain_class (class_of byte)) (list_all is_word_byte (byte ∷ text)) is).1

name_if : (b : Bool) (text value : List ℕ) → is_name text ≡ b → name_where b text ≡ Some value → list_all is_string_byte text ≡ true → is_file_name value ≡ true
name_if true text value named same file = of_some (Passes is_file_name) text value same (and_from (is_name text) (list_all is_string_byte text) named file)
name_if false text value named same file = absurd (cc)

name_is : (symbol : Symbol) (value : List ℕ) → is_read_symbol symbol ≡ true → name_of symbol ≡ Some value → is_file_name value ≡ true
unfolding name_of
name_is (bare text) value file same = name_if (is_name text) text value refl same (word_string text file)
name_is (quoted text) value file same = name_if (is_name text) text value refl same file
name_is (mark text) value file same = absurd (cc)
name_is line_end value file same = absurd (cc)

pub name_keeps : Keeps (Passes is_file_name) name.derives
name_keeps = one_keeps name_is

word_is : (symbol : Symbol) (value : List ℕ) → is_read_symbol symbol ≡ true → bare_text symbol ≡ Some value → is_word_text value ≡ true
word_is (bare text) value file same = of_some (Passes is_word_text) text value same file
word_is (quoted text) value file same = absurd (cc)
word_is (mark text) value file same = absurd (cc)
word_is line_end value file same = absurd (cc)

pub word_keeps : Keeps (Passes is_word_text) any_word.derives
word_keeps = one_keeps word_is

-- ---- what a word means

means_is : {A : Type 0} (P : A → Type 0) (means : List ℕ → Option A) → ((text : List ℕ) (value : A) → means text ≡ Some value → P value)
    → (symbol : Symbol) (value : A) → is_read_symbol symbol ≡ true → option_and_then means (bare_text symbol) ≡ Some value → P value
means_is P means each (bare text) value file same = each text value same
means_is P means each (quoted text) value file same = absurd (cc)
means_is P means each (mark text) value file same = absurd (cc)
means_is P means each line_end value file same = absurd (cc)

pub means_keeps : {A : Type 0} (P : A → Type 0) (means : List ℕ → Option A) → ((text : List ℕ) (value : A) → means text ≡ Some value → P value) → Keeps P (word_as means).derives
means_keeps P means each = one_keeps (means_is P means each)

-- a decimal number is at most the greatest that is taken
pub decimal_fits : (most : ℕ) (text : List ℕ) (n : ℕ) → decimal_of most text ≡ Some n → nat_le n most ≡ true
unfolding decimal_of
decimal_fits most text n is =
    let parts = some_if (is_decimal text && nat_le (digits_after 0 text) most) (digits_after 0 text) n is in
    subst (λ (k : ℕ). nat_le k most ≡ true) parts.1 (and_parts (is_decimal text) (nat_le (digits_after 0 text) most) parts.0).1

number_in : (least most : ℕ) (read : Option ℕ) (n : ℕ) → ((k : ℕ) → read ≡ Some k → nat_le k most ≡ true) → words.in_range least read ≡ Some n → in_range least most n ≡ true
number_in least most None n fits is = absurd (cc)
number_in least most (Some k) n fits is =
    let parts = some_if (nat_le least k) k n is in
    subst (λ (m : ℕ). in_range least most m ≡ true) parts.1 (and_from (nat_le least k) (nat_le k most) parts.0 (fits k refl))

pub number_keeps : (least most : ℕ) → Keeps (Passes (in_range least most)) (number least most).derives
number_keeps least most =
    means_keeps (Passes (in_range least most)) (λ word. words.in_range least (decimal_of most word)) (λ text n. number_in least most (decimal_of most text) n (decimal_fits most text))

-- a number from 0 on
pub up_to_keeps : (most : ℕ) → Keeps (λ n. nat_le n most ≡ true) (number 0 most).derives
up_to_keeps most =
    means_keeps (λ n. nat_le n most ≡ true) (λ word. words.in_range 0 (decimal_of most word))
    (λ text n is. (and_parts (nat_le 0 n) (nat_le n most) (number_in 0 most (decimal_of most text) n (decimal_fits most text) is)).1)

row_if : {A : Type 0} (test : A → Bool) (b : Bool) (first : A) (others : Option A) (value : A) → test first ≡ true → (others ≡ Some value → test value ≡ true) → if b then Some first else others ≡ Some value → test value ≡ true
row_if test true first others value is rest same = of_some (Passes test) first value same is
row_if test false first others value is rest same = rest same

-- what a table says of a word
pub table_says : {A : Type 0} (test : A → Bool) (table : List (Keyword A)) (word : List ℕ) (value : A) → list_all (λ (row : Keyword A). test row.stands_for) table ≡ true
    → meaning_in table word ≡ Some value → test value ≡ true
table_says test [] word value all is = absurd (cc)
table_says {A} test (row ∷ table) word value all is =
    let parts = and_parts (test row.stands_for) (list_all (λ (other : Keyword A). test other.stands_for) table) all in
    row_if test (bytes_eq word row.word) row.stands_for (meaning_in table word) value parts.0 (table_says test table word value parts.1) is

-- the number of a word in a table of numbers
pub entry_says : (test : ℕ → Bool) (entries : List Entry) (word : List ℕ) (n : ℕ) → list_all (λ (entry : Entry). test entry.number) entries ≡ true → number_of entries word ≡ Some n → test n ≡ true
entry_says test [] word n all same = absurd (cc)
entry_says test (entry ∷ entries) word n all same =
    let parts = and_parts (test entry.number) (list_all (λ (other : Entry). test other.number) entries) all in
    row_if test (bytes_eq entry.word word) entry.number (number_of entries word) n parts.0 (entry_says test entries word n parts.1) same

-- ---- `tos` and `prio`

digit_fits : (byte n : ℕ) → digit_of byte ≡ Some n → n ≤ 15
digit_fits byte n is = by_decimal (nat_le 48 byte && nat_le byte 57) refl is
  where
    by_upper : (b : Bool) → (nat_le 65 byte && nat_le byte 70) ≡ b → if b then Some (byte - 55) else None ≡ Some n → n ≤ 15
    by_upper true test same =
        let parts = and_parts (nat_le 65 byte) (nat_le byte 70) test in
        let low : 65 ≤ byte = leb-true 65 byte parts.0 in
        let high : byte ≤ 70 = leb-true byte 70 parts.1 in
        of_some (λ k. k ≤ 15) (byte - 55) n same (omega arith)
    by_upper false test same = absurd (cc)

    by_lower : (b : Bool) → (nat_le 97 byte && nat_le byte 102) ≡ b
        → if b then Some (byte - 87) else (if nat_le 65 byte && nat_le byte 70 then Some (byte - 55) else None) ≡ Some n → n ≤ 15
    by_lower true test same =
        let parts = and_parts (nat_le 97 byte) (nat_le byte 102) test in
        let low : 97 ≤ byte = leb-true 97 byte parts.0 in
        let high : byte ≤ 102 = leb-true byte 102 parts.1 in
        of_some (λ k. k ≤ 15) (byte - 87) n same (omega arith)
    by_lower false test same = by_upper (nat_le 65 byte && nat_le byte 70) refl same

    by_decimal : (b : Bool) → (nat_le 48 byte && nat_le byte 57) ≡ b
        → if b then Some (byte - 48) else (if nat_le 97 byte && nat_le byte 102 then Some (byte - 87) else if nat_le 65 byte && nat_le byte 70 then Some (byte - 55) else None) ≡ Some n → n ≤ 15
    by_decimal true test same =
        let parts = and_parts (nat_le 48 byte) (nat_le byte 57) test in
        let low : 48 ≤ byte = leb-true 48 byte parts.0 in
        let high : byte ≤ 57 = leb-true byte 57 parts.1 in
        of_some (λ k. k ≤ 15) (byte - 48) n same (omega arith)
    by_decimal false test same = by_lower (nat_le 97 byte && nat_le byte 102) refl same

two_fit : (high low : Option ℕ) (n : ℕ) → ((k : ℕ) → high ≡ Some k → k ≤ 15) → ((k : ℕ) → low ≡ Some k → k ≤ 15) → two_digits high low ≡ Some n → is_byte n ≡ true
two_fit None low n first second is = absurd (cc)
two_fit (Some high) None n first second is = absurd (cc)
two_fit (Some high) (Some low) n first second is =
    let one : high ≤ 15 = first high refl in
    let two : low ≤ 15 = second low refl in
    of_some (Passes is_byte) (16 * high + low) n is (le-leb (16 * high + low) 255 (omega arith))

hex_fits : (text : List ℕ) (n : ℕ) → hex_of text ≡ Some n → is_byte n ≡ true
hex_fits [] n is = absurd (cc)
hex_fits (low ∷ []) n is = let few : n ≤ 15 = digit_fits low n is in le-leb n 255 (omega arith)
hex_fits (high ∷ low ∷ []) n is = two_fit (digit_of high) (digit_of low) n (digit_fits high) (digit_fits low) is
hex_fits (first ∷ second ∷ third ∷ rest) n is = absurd (cc)

hex_if : (b : Bool) (text : List ℕ) (n : ℕ) → if b then hex_of (drop 2 text) else None ≡ Some n → is_byte n ≡ true
hex_if true text n is = hex_fits (drop 2 text) n is
hex_if false text n is = absurd (cc)

tos_bytes : list_all (λ (row : Keyword ℕ). is_byte row.stands_for) tos_words ≡ true
unfolding tos_words
tos_bytes = refl

tos_fits : (text : List ℕ) (n : ℕ) → tos_of text ≡ Some n → is_byte n ≡ true
unfolding tos_of
tos_fits text n is =
    either (Passes is_byte) (decimal_of 255 text) (option_or (hex_tos text) (meaning_in tos_words text)) n (decimal_fits 255 text)
    (λ one. either (Passes is_byte) (hex_tos text) (meaning_in tos_words text) one (hex_if (bytes_eq (take 2 text) (codes "0x")) text) (λ other. table_says is_byte tos_words text other tos_bytes)) is

pub tos_keeps : Keeps (Passes is_byte) tos.derives
tos_keeps = means_keeps (Passes is_byte) tos_of tos_fits

pub prio_keeps : Keeps (Passes is_prio) prio.derives
prio_keeps = up_to_keeps 7
