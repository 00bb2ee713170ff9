-- A number that is written in a line is a word, and as a port it is itself.
use Rattle.std.proofs.Common.{◌≡◌, ℕ, ◌^◌, ◌<◌, ◌≤◌, Bool, true, false, List, [], ◌∷◌, Some, None, Ok, length, refl, ap, ◌∙◌, inl, inr, arith, decimal, rules, le-leb}
use Rattle.std.specs.Prelude.{◌&&◌, ◌||◌, ◌==◌, not, nat_le, position}
use Rattle.std.specs.Char.{is_ascii_digit}
use Rattle.std.specs.List.{list_all, prefix_len}
use Rattle.std.proofs.lemmas.Bool.{agree_below, agree_below_at, and_from, and_parts, cases_Bool, eqb-true, le-ltb, leb-true}
use Rattle.std.proofs.lemmas.Fmt.{decimal_nonempty, digits_decimal, digits_value-decimal}
use Rattle.std.proofs.lemmas.Str.Parse.{IsNumeralModel, numerals_by_fold}
use Rattle.pf_base.specs.Decimal.{decimal_of, digits_after}
use Rattle.pf_base.specs.Text.{is_nothing}
use Rattle.pf_host.specs.Facts.{HostFacts}
use Rattle.pf_ops.specs.Operator.{set_of}
use Rattle.pf_ops.specs.declared.operator.OpKind.TheVariants.{Equal}
use Rattle.pf_syntax.specs.Operators.{cut_at, op_item, word_op}
use Rattle.pf_token.specs.Bytes.{class_of}
use Rattle.pf_word.specs.Numbers.{port_of, port_test}
use Rattle.pf_word.specs.Words.{found}
use Rattle.pf_genload.proofs.Glyphs.{is_line_byte, is_line_word, is_plain_class, weaker}

own : IsNumeralModel (λ ds. list_all is_ascii_digit ds ≡ true) (digits_after 0)
own = numerals_by_fold _ (search rules) digits_after (search rules)

pub all_digits : (n : ℕ) → n < 2 ^ 64 → list_all is_ascii_digit (decimal n) ≡ true
all_digits n small = digits_decimal own n small

-- ---- digits are bytes of words

abbrev implies : (ℕ → Bool) → (ℕ → Bool) → ℕ → Bool
implies test other byte = not (test byte) || other byte

implied : (a b : Bool) → (not a || b) ≡ true → a ≡ true → b ≡ true
implied true b e f = e
implied false b e f = absurd (cc)

abbrev makes_word : ℕ → Bool
makes_word byte = is_plain_class (class_of byte) && is_line_byte byte

digit_table : agree_below (implies is_ascii_digit makes_word) (λ _. true) 58 ≡ true
unfolding class_of
digit_table = refl

digit_word : (byte : ℕ) → is_ascii_digit byte ≡ true → makes_word byte ≡ true
digit_word byte digit =
    let fits : byte ≤ 57 = leb-true byte 57 (and_parts (nat_le 48 byte) (nat_le byte 57) digit).1 in
    implied (is_ascii_digit byte) (makes_word byte) (agree_below_at (implies is_ascii_digit makes_word) (λ _. true) 58 byte digit_table (omega arith)) digit

pub digit_in_line : (byte : ℕ) → is_ascii_digit byte ≡ true → is_line_byte byte ≡ true
digit_in_line byte digit = (and_parts (is_plain_class (class_of byte)) (is_line_byte byte) (digit_word byte digit)).1

digits_are_word : (text : List ℕ) → is_nothing text ≡ false → list_all is_ascii_digit text ≡ true → is_line_word text ≡ true
digits_are_word [] some each = absurd (cc)
digits_are_word (first ∷ text) some each =
    let p = and_parts (is_ascii_digit first) (list_all is_ascii_digit text) each in
    and_from (is_plain_class (class_of first)) (list_all is_line_byte (first ∷ text)) (and_parts (is_plain_class (class_of first)) (is_line_byte first) (digit_word first p.0)).0
    (weaker is_ascii_digit is_line_byte digit_in_line (first ∷ text) each)

some_bytes : (text : List ℕ) → 0 < length text → is_nothing text ≡ false
some_bytes [] h = absurd (omega arith)
some_bytes (byte ∷ text) h = refl

number_some : (n : ℕ) → n < 2 ^ 64 → is_nothing (decimal n) ≡ false
number_some n small = some_bytes (decimal n) (decimal_nonempty n small)

pub number_is_word : (n : ℕ) → n < 2 ^ 64 → is_line_word (decimal n) ≡ true
number_is_word n small = digits_are_word (decimal n) (number_some n small) (all_digits n small)

-- ---- a port

pub decimal_back : (most n : ℕ) → n ≤ most → n < 2 ^ 64 → decimal_of most (decimal n) ≡ Some n
unfolding decimal_of
decimal_back most n fits small = rw (number_some n small, all_digits n small, digits_value-decimal own n small, le-leb n most fits) refl

abbrev is_colon : ℕ → Bool
is_colon byte = byte == 58

digit_no_colon : (byte : ℕ) → is_ascii_digit byte ≡ true → is_colon byte ≡ false
digit_no_colon byte digit = elim (cases_Bool (is_colon byte)) [
  | inl colon ↦
      let fits : byte ≤ 57 = leb-true byte 57 (and_parts (nat_le 48 byte) (nat_le byte 57) digit).1 in
      let same : byte ≡ 58 = eqb-true byte 58 colon in
      absurd (omega arith)
  | inr other ↦ other
]

no_colon_at : (text : List ℕ) → list_all is_ascii_digit text ≡ true → prefix_len (λ byte. not (is_colon byte)) text ≡ length text
no_colon_at [] each = refl
no_colon_at (byte ∷ text) each =
    let p = and_parts (is_ascii_digit byte) (list_all is_ascii_digit text) each in
    let rest = no_colon_at text p.1 in
    rw (digit_no_colon byte p.0) (omega (arith, rest))

no_colon : (text : List ℕ) → list_all is_ascii_digit text ≡ true → position is_colon text ≡ None
no_colon text each = rw (no_colon_at text each, le-ltb (length text) (length text) (omega arith)) refl

digits_op : (text : List ℕ) → list_all is_ascii_digit text ≡ true → word_op text ≡ op_item Equal text []
digits_op text each = ap (cut_at text) (no_colon text each)

port_back : (facts : HostFacts) (n : ℕ) → n ≤ 65535 → port_of facts (decimal n) (decimal n) ≡ Ok n
unfolding port_of
port_back facts n fits = rw (number_some n (omega arith), all_digits n (omega arith), decimal_back 65535 n fits (omega arith)) refl

pub number_is_port : (facts : HostFacts) (n : ℕ) → n ≤ 65535 → port_test facts (word_op (decimal n)) ≡ found (set_of 65535 Equal n 0)
number_is_port facts n fits = ap (port_test facts) (digits_op (decimal n) (all_digits n (omega arith))) ∙ rw (port_back facts n fits) refl
