-- The tokens of a text have only bytes that a string of a file can stand for.
use Rattle.std.proofs.Common.{◌≡◌, ℕ, Bool, true, false, List, [], ◌∷◌, Option, Some, None, refl, ap, sym, subst, inl, inr}
use Rattle.std.specs.Prelude.{◌||◌, ◌==◌, not, map}
use Rattle.std.specs.List.{list_all}
use Rattle.std.proofs.lemmas.Bool.{and_from, and_parts, cases_Bool, eqb-true, or_cases}
use Rattle.pf_token.specs.declared.byte.ByteClass.{ByteClass}
use Rattle.pf_token.specs.declared.byte.ByteClass.TheVariants.{Blank, Newline, Sign, Quote, Hash, Dollar, Plain, Bad}
use Rattle.pf_token.specs.declared.cell.Cell.{Cell}
use Rattle.pf_token.specs.declared.token.Lexeme.{Lexeme}
use Rattle.pf_token.specs.declared.token.Lexeme.TheVariants.{Token, Fault}
use Rattle.pf_token.specs.declared.token.Token.{Token as AnyToken}
use Rattle.pf_token.specs.Bytes.{class_of, is_word_byte, is_known, makes_words}
use Rattle.pf_token.specs.Cells.{bytes_of}
use Rattle.pf_token.specs.Pieces.{Piece, blank, comment, newline, sign, string, unterminated, word, bad, used, unnamed, undefined, nested, string_of, cut_off, is_escapable, Between, nothing, escaped, dropped, kept, Next, Reads}
use Rattle.pf_decl.specs.ReadBack.{are_file_tokens, is_file_token, is_string_byte}

abbrev is_file_lexeme : Lexeme → Bool
is_file_lexeme (Token token) = is_file_token token
is_file_lexeme (Fault fault) = true

abbrev is_good_class : ByteClass → Bool
is_good_class Blank = true
is_good_class Newline = false
is_good_class Sign = true
is_good_class Quote = true
is_good_class Hash = true
is_good_class Dollar = true
is_good_class Plain = true
is_good_class Bad = false

-- a byte of a known class other than a newline
known_class : (class : ByteClass) → is_good_class class ≡ true → is_known class ≡ true
known_class Blank e = refl
known_class Newline e = absurd (cc)
known_class Sign e = refl
known_class Quote e = refl
known_class Hash e = refl
known_class Dollar e = refl
known_class Plain e = refl
known_class Bad e = absurd (cc)

other_byte : (byte : ℕ) → is_good_class (class_of byte) ≡ true → not (byte == 10) ≡ true
unfolding class_of
other_byte byte e = elim (cases_Bool (byte == 10)) [
  | inl ten ↦
      let f : is_good_class (class_of 10) ≡ true = subst (λ b. is_good_class (class_of b) ≡ true) (eqb-true byte 10 ten) e in
      absurd (cc)
  | inr other ↦ rw other refl
]

good_byte : (byte : ℕ) → is_good_class (class_of byte) ≡ true → is_string_byte byte ≡ true
good_byte byte e = and_from (is_known (class_of byte)) (not (byte == 10)) (known_class (class_of byte) e) (other_byte byte e)

word_class : (class : ByteClass) → makes_words class ≡ true → is_good_class class ≡ true
word_class Plain e = refl
word_class Dollar e = refl
word_class Blank e = absurd (cc)
word_class Newline e = absurd (cc)
word_class Sign e = absurd (cc)
word_class Quote e = absurd (cc)
word_class Hash e = absurd (cc)
word_class Bad e = absurd (cc)

word_bytes : (cells : List Cell) → list_all (λ (cell : Cell). is_word_byte cell.byte) cells ≡ true → list_all is_string_byte (bytes_of cells) ≡ true
word_bytes [] each = refl
word_bytes (cell ∷ cells) each =
    let p = and_parts (is_word_byte cell.byte) (list_all (λ (one : Cell). is_word_byte one.byte) cells) each in
    and_from (is_string_byte cell.byte) (list_all is_string_byte (bytes_of cells)) (good_byte cell.byte (word_class (class_of cell.byte) p.0)) (word_bytes cells p.1)

-- the byte that a backslash stands before is a quote, a space or a tab
escaped_byte : (quote byte : ℕ) → is_string_byte quote ≡ true → is_escapable quote byte ≡ true → is_string_byte byte ≡ true
unfolding class_of
escaped_byte quote byte good is =
    elim (or_cases (byte == quote || byte == 32) (byte == 9) is) [
      | inl first ↦ elim (or_cases (byte == quote) (byte == 32) first) [
        | inl same ↦ subst (λ b. is_string_byte b ≡ true) (sym (eqb-true byte quote same)) good
        | inr space ↦ subst (λ b. is_string_byte b ≡ true) (sym (eqb-true byte 32 space)) refl
      ]
      | inr tab ↦ subst (λ b. is_string_byte b ≡ true) (sym (eqb-true byte 9 tab)) refl
    ]

string_bytes : (quote : ℕ) → is_string_byte quote ≡ true → (cells rest : List Cell) (text : List ℕ) (known : Bool) → Between quote cells rest text known → known ≡ true → list_all is_string_byte text ≡ true
string_bytes quote good cells rest text known nothing is = refl
string_bytes quote good cells rest text known (escaped {slash = slash} {cell = cell} {text = more} escape between) is =
    let p = and_parts (slash.byte == 92) (is_escapable quote cell.byte) escape in
    and_from (is_string_byte cell.byte) (list_all is_string_byte more) (escaped_byte quote cell.byte good p.1) (string_bytes quote good _ _ _ _ between is)
string_bytes quote good cells rest text known (dropped line between) is = string_bytes quote good _ _ _ _ between is
string_bytes quote good cells rest text known (kept {cell = cell} {text = more} {known = before} other line plain between) is =
    let p = and_parts (is_known (class_of cell.byte)) before is in
    and_from (is_string_byte cell.byte) (list_all is_string_byte more)
    (and_from (is_known (class_of cell.byte)) (not (cell.byte == 10)) p.0 (ap not line))
    (string_bytes quote good _ _ _ _ between p.1)

string_file : (known : Bool) (text : List ℕ) (opening : Cell) → (known ≡ true → list_all is_string_byte text ≡ true) → is_file_lexeme (string_of known text opening.place) ≡ true
string_file true text opening all = all refl
string_file false text opening all = refl

cut_file : (known : Bool) (opening : Cell) → is_file_lexeme (cut_off known opening.place) ≡ true
cut_file true opening = refl
cut_file false opening = refl

quote_good : (byte : ℕ) → class_of byte ≡ Quote → is_string_byte byte ≡ true
quote_good byte is = good_byte byte (ap is_good_class is)

abbrev OfLexeme : Option Lexeme → Type 0
OfLexeme None = Unit {0}
OfLexeme (Some lexeme) = is_file_lexeme lexeme ≡ true

piece_file : (values : List ℕ → Option (List ℕ)) (spelled rest after : List Cell) (found : Option Lexeme) → Piece values spelled rest found after → OfLexeme found
piece_file values spelled rest after found (blank is) = tt
piece_file values spelled rest after found (comment is run) = tt
piece_file values spelled rest after found (newline is) = refl
piece_file values spelled rest after found (sign {cell = cell} is) = and_from (is_string_byte cell.byte) true (good_byte cell.byte (ap is_good_class is)) refl
piece_file values spelled rest after found (string {opening = opening} {text = text} {known = known} is between closes) =
    string_file known text opening (string_bytes opening.byte (quote_good opening.byte is) _ _ _ _ between)
piece_file values spelled rest after found (unterminated {opening = opening} {known = known} is between) = cut_file known opening
piece_file values spelled rest after found (word {first = first} {cells = cells} is run) =
    and_from (is_string_byte first.byte) (list_all is_string_byte (bytes_of cells)) (good_byte first.byte (ap is_good_class is)) (word_bytes cells run.each)
piece_file values spelled rest after found (bad is) = refl
piece_file values spelled rest after found (used is run value plain) = tt
piece_file values spelled rest after found (unnamed is run none) = refl
piece_file values spelled rest after found (undefined is run value others) = refl
piece_file values spelled rest after found (nested is run value dollar others) = refl

next_file : (values : List ℕ → Option (List ℕ)) (cells after : List Cell) (lexeme : Lexeme) → Next values cells lexeme after → is_file_lexeme lexeme ≡ true
next_file values cells after lexeme (Next.here joined piece) = piece_file values _ _ _ _ piece
next_file values cells after lexeme (Next.passed joined piece next) = next_file values _ _ _ next

-- of the tokens of a text each is one that a file can have
pub read_file : (values : List ℕ → Option (List ℕ)) (cells : List Cell) (tokens : List AnyToken) → Reads values cells (map Token tokens) → are_file_tokens tokens ≡ true
read_file values cells [] reads = refl
read_file values cells (token ∷ tokens) (Reads.next first more) =
    and_from (is_file_token token) (are_file_tokens tokens) (next_file values _ _ (Token token) first) (read_file values _ tokens more)
