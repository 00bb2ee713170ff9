-- Words, strings and signs, each with a space before it or none, have themselves as tokens.
use Rattle.std.proofs.Common.{◌≡◌, ℕ, Bool, true, false, List, [], ◌∷◌, ◌++◌, Option, Some, refl, ap, sym, inl, inr, subst, ◌∙◌, append_assoc}
use Rattle.std.proofs.lemmas.Bool.{and_from, and_parts, and_right, eqb-true, not-true, cases_Bool}
use Rattle.std.specs.Prelude.{◌&&◌, ◌==◌, not, map}
use Rattle.std.specs.List.{list_all}
use Rattle.pf_base.specs.declared.fault.Place.{Place}
use Rattle.pf_syntax.specs.Symbols.{Symbol, bare, quoted, mark, line_end, symbol_of, symbols as symbols_of_tokens}
use Rattle.pf_token.specs.declared.byte.ByteClass.{ByteClass}
use Rattle.pf_token.specs.declared.byte.ByteClass.TheVariants.{Blank, Newline, Sign, Quote, Hash, Dollar, Plain, Bad}
use Rattle.pf_token.specs.declared.cell.Cell.{Cell}
use Rattle.pf_token.specs.declared.token.Lexeme.{Lexeme}
use Rattle.pf_token.specs.declared.token.Lexeme.TheVariants as lexemes
use Rattle.pf_token.specs.declared.token.Token.{Token}
use Rattle.pf_token.specs.declared.token.TokenKind.TheVariants as kinds
use Rattle.pf_token.specs.Bytes.{class_of, is_word_byte, is_known}
use Rattle.pf_token.specs.Cells.{bytes_of, cells_at, cells_from, stops}
use Rattle.pf_reread.specs.TokenText.{is_known_byte, is_plain_class, is_plain_in_string, is_string_text, is_word_text}
use Rattle.pf_token.specs.Pieces.{Piece, blank, sign, string, word, token, string_of, is_escape, Between, nothing, kept, Next, NoMore, Reads}

abbrev pub cell : Place → ℕ → Cell
cell place byte = record { byte = byte; place = place }

-- a text without a newline has no continued line
abbrev pub has_no_newline : List ℕ → Bool
has_no_newline = list_all (λ byte. not (byte == 10))

pub cells_plain : (place : Place) (text : List ℕ) → has_no_newline text ≡ true → cells_from place text ≡ cells_at place text
unfolding cells_from
cells_plain place [] e = refl
cells_plain place (byte ∷ []) e = refl
cells_plain place (byte ∷ next ∷ rest) e =
    let p = and_parts _ _ e in
    let q = and_parts _ _ p.1 in
    let this : (byte == 10) ≡ false = not-true _ p.0 in
    let that : (next == 10) ≡ false = not-true _ q.0 in
    rw (and_right (byte == 92) (next == 10) that, this) (ap (λ cells. cell place byte ∷ cells) (cells_plain place (next ∷ rest) p.1))

bytes-cells : (place : Place) (text : List ℕ) → bytes_of (cells_at place text) ≡ text
bytes-cells place [] = refl
bytes-cells place (byte ∷ rest) = ap (λ bytes. byte ∷ bytes) (bytes-cells place rest)

cells-append : (place : Place) (front back : List ℕ) → cells_at place (front ++ back) ≡ cells_at place front ++ cells_at place back
cells-append place [] back = refl
cells-append place (byte ∷ front) back = ap (λ cells. cell place byte ∷ cells) (cells-append place front back)

all_cells : (test : ℕ → Bool) (place : Place) (text : List ℕ) → list_all test text ≡ true → list_all (λ (one : Cell). test one.byte) (cells_at place text) ≡ true
all_cells test place [] e = refl
all_cells test place (byte ∷ rest) e =
    let p = and_parts _ _ e in
    ap (λ b. b && list_all (λ (one : Cell). test one.byte) (cells_at place rest)) p.0 ∙ all_cells test place rest p.1

-- a space in front changes no token
behind_space : (values : List ℕ → Option (List ℕ)) (place : Place) (cells : List Cell) (lexemes : List Lexeme)
    → Reads values cells lexemes → Reads values (cell place 32 ∷ cells) lexemes
unfolding class_of
behind_space values place cells [] (Reads.ended none) = Reads.ended (NoMore.passed {spelled = cell place 32 ∷ []} {rest = cells} {next = cells} refl (blank refl) none)
behind_space values place cells (lexeme ∷ lexemes) (Reads.next first more) =
    Reads.next (Next.passed {spelled = cell place 32 ∷ []} {rest = cells} {next = cells} refl (blank refl) first) more

-- a word
word_next : (values : List ℕ → Option (List ℕ)) (place : Place) (first : ℕ) (text rest : List ℕ)
    → class_of first ≡ Plain → list_all is_word_byte text ≡ true → stops is_word_byte (cells_at place rest) ≡ true
    → Next values (cells_at place (first ∷ (text ++ rest))) (token kinds.Word (first ∷ text) place) (cells_at place rest)
word_next values place first text rest plain each ends =
    let here : Next values (cells_at place (first ∷ (text ++ rest))) (token kinds.Word (first ∷ bytes_of (cells_at place text)) place) (cells_at place rest) =
    Next.here {spelled = cell place first ∷ cells_at place text} {rest = cells_at place rest}
    (ap (λ cells. cell place first ∷ cells) (cells-append place text rest))
    (word plain (record { each = all_cells is_word_byte place text each; ends = ends })) in
    subst (λ bytes. Next values (cells_at place (first ∷ (text ++ rest))) (token kinds.Word (first ∷ bytes) place) (cells_at place rest)) (bytes-cells place text) here

no_escape : (first : Cell) (cells : List Cell) → (first.byte == 92) ≡ false → is_escape 34 (first ∷ cells) ≡ false
no_escape first [] e = refl
no_escape first (next ∷ cells) e = rw e refl

between_quotes : (place : Place) (text : List ℕ) (rest : List Cell) → list_all is_plain_in_string text ≡ true
    → Between 34 (cells_at place text) rest text (list_all (λ byte. is_known (class_of byte)) text)
between_quotes place [] rest e = nothing
between_quotes place (byte ∷ text) rest e =
    let p = and_parts _ _ e in
    let q = and_parts _ _ p.0 in
    let r = and_parts _ _ q.1 in
    kept (not-true _ q.0) (not-true _ r.1) (no_escape (cell place byte) (cells_at place text ++ rest) (not-true _ r.0)) (between_quotes place text rest p.1)

-- a string in double quotes
string_next : (values : List ℕ → Option (List ℕ)) (place : Place) (text rest : List ℕ)
    → list_all is_plain_in_string text ≡ true → list_all (λ byte. is_known (class_of byte)) text ≡ true
    → Next values (cells_at place ((34 ∷ text ++ 34 ∷ []) ++ rest)) (token kinds.Quoted text place) (cells_at place rest)
unfolding class_of
string_next values place text rest plain known =
    let one : Piece values (cell place 34 ∷ (cells_at place text ++ cell place 34 ∷ [])) (cells_at place rest)
    (Some (string_of (list_all (λ byte. is_known (class_of byte)) text) text place)) (cells_at place rest) =
    string {opening = cell place 34} {closing = cell place 34} refl (between_quotes place text (cell place 34 ∷ cells_at place rest) plain) refl in
    Next.here {spelled = cell place 34 ∷ (cells_at place text ++ cell place 34 ∷ [])} {rest = cells_at place rest}
    (ap (λ cells. cell place 34 ∷ cells) (cells-append place (text ++ 34 ∷ []) rest ∙ ap (λ cells. cells ++ cells_at place rest) (cells-append place text (34 ∷ []))))
    (subst (λ b. Piece values (cell place 34 ∷ (cells_at place text ++ cell place 34 ∷ [])) (cells_at place rest) (Some (string_of b text place)) (cells_at place rest)) known one)

-- a sign
sign_next : (values : List ℕ → Option (List ℕ)) (place : Place) (byte : ℕ) (rest : List ℕ)
    → class_of byte ≡ Sign → Next values (cells_at place (byte ∷ rest)) (token kinds.Sign (byte ∷ []) place) (cells_at place rest)
sign_next values place byte rest is = Next.here {spelled = cell place byte ∷ []} {rest = cells_at place rest} refl (sign is)

-- a word or a string, or a sign, with a space before it or close behind what stands before it
pub data Glyph : Type 0 where
  apart : Symbol → Glyph
  close : Symbol → Glyph
  sign_apart : ℕ → Glyph
  sign_close : ℕ → Glyph

-- as it is spelled
abbrev pub symbol_text : Symbol → List ℕ
symbol_text (bare text) = text
symbol_text (quoted text) = 34 ∷ text ++ 34 ∷ []
symbol_text (mark text) = text
symbol_text line_end = 10 ∷ []

abbrev pub glyph_text : Glyph → List ℕ
glyph_text (apart symbol) = 32 ∷ symbol_text symbol
glyph_text (close symbol) = symbol_text symbol
glyph_text (sign_apart byte) = 32 ∷ byte ∷ []
glyph_text (sign_close byte) = byte ∷ []

abbrev pub spelled : List Glyph → List ℕ
spelled [] = []
spelled (glyph ∷ glyphs) = glyph_text glyph ++ spelled glyphs

abbrev pub symbol_in : Glyph → Symbol
symbol_in (apart symbol) = symbol
symbol_in (close symbol) = symbol
symbol_in (sign_apart byte) = mark (byte ∷ [])
symbol_in (sign_close byte) = mark (byte ∷ [])

abbrev pub said : List Glyph → List Symbol
said [] = []
said (glyph ∷ glyphs) = symbol_in glyph ∷ said glyphs

abbrev pub is_sign_class : ByteClass → Bool
is_sign_class Sign = true
is_sign_class Plain = false
is_sign_class Blank = false
is_sign_class Newline = false
is_sign_class Quote = false
is_sign_class Hash = false
is_sign_class Dollar = false
is_sign_class Bad = false

abbrev pub is_spelled : Symbol → Bool
is_spelled (bare text) = is_word_text text
is_spelled (quoted text) = is_string_text text
is_spelled (mark text) = false
is_spelled line_end = false

-- no word goes on here
abbrev pub ends_word : List Glyph → Bool
ends_word [] = true
ends_word (apart symbol ∷ glyphs) = true
ends_word (close symbol ∷ glyphs) = false
ends_word (sign_apart byte ∷ glyphs) = true
ends_word (sign_close byte ∷ glyphs) = is_sign_class (class_of byte)

abbrev pub are_spelled : List Glyph → Bool
are_spelled [] = true
are_spelled (apart symbol ∷ glyphs) = is_spelled symbol && (ends_word glyphs && are_spelled glyphs)
are_spelled (close symbol ∷ glyphs) = is_spelled symbol && (ends_word glyphs && are_spelled glyphs)
are_spelled (sign_apart byte ∷ glyphs) = is_sign_class (class_of byte) && are_spelled glyphs
are_spelled (sign_close byte ∷ glyphs) = is_sign_class (class_of byte) && are_spelled glyphs

abbrev pub token_of : Place → Symbol → Token
token_of place (bare text) = record { kind = kinds.Word; text = text; place = place }
token_of place (quoted text) = record { kind = kinds.Quoted; text = text; place = place }
token_of place (mark text) = record { kind = kinds.Sign; text = text; place = place }
token_of place line_end = record { kind = kinds.Newline; text = []; place = place }

is_plain : (class : ByteClass) → is_plain_class class ≡ true → class ≡ Plain
is_plain Plain e = refl
is_plain Blank e = absurd (cc)
is_plain Newline e = absurd (cc)
is_plain Sign e = absurd (cc)
is_plain Quote e = absurd (cc)
is_plain Hash e = absurd (cc)
is_plain Dollar e = absurd (cc)
is_plain Bad e = absurd (cc)

is_sign : (class : ByteClass) → is_sign_class class ≡ true → class ≡ Sign
is_sign Sign e = refl
is_sign Plain e = absurd (cc)
is_sign Blank e = absurd (cc)
is_sign Newline e = absurd (cc)
is_sign Quote e = absurd (cc)
is_sign Hash e = absurd (cc)
is_sign Dollar e = absurd (cc)
is_sign Bad e = absurd (cc)

symbol_next : (values : List ℕ → Option (List ℕ)) (place : Place) (symbol : Symbol) (rest : List ℕ)
    → is_spelled symbol ≡ true → stops is_word_byte (cells_at place rest) ≡ true
    → Next values (cells_at place (symbol_text symbol ++ rest)) (lexemes.Token (token_of place symbol)) (cells_at place rest)
symbol_next values place (mark text) rest is ends = absurd (cc)
symbol_next values place line_end rest is ends = absurd (cc)
symbol_next values place (bare []) rest is ends = absurd (cc)
symbol_next values place (bare (first ∷ text)) rest is ends =
    let p = and_parts (is_plain_class (class_of first)) (list_all is_word_byte (first ∷ text)) is in
    word_next values place first text rest (is_plain (class_of first) p.0) (and_parts (is_word_byte first) (list_all is_word_byte text) p.1).1 ends
symbol_next values place (quoted text) rest is ends =
    let p = and_parts (list_all is_plain_in_string text) (list_all is_known_byte text) is in
    string_next values place text rest p.0 p.1

sign_no_word : (byte : ℕ) → class_of byte ≡ Sign → not (is_word_byte byte) ≡ true
sign_no_word byte is = rw is refl

-- behind a word comes no byte of words
stops_there : (place : Place) (glyphs : List Glyph) → ends_word glyphs ≡ true → stops is_word_byte (cells_at place (spelled glyphs)) ≡ true
unfolding class_of
stops_there place [] ends = refl
stops_there place (apart symbol ∷ glyphs) ends = refl
stops_there place (close symbol ∷ glyphs) ends = absurd (cc)
stops_there place (sign_apart byte ∷ glyphs) ends = refl
stops_there place (sign_close byte ∷ glyphs) ends = sign_no_word byte (is_sign (class_of byte) ends)

pub all_read : (values : List ℕ → Option (List ℕ)) (place : Place) (glyphs : List Glyph) → are_spelled glyphs ≡ true
    → Reads values (cells_at place (spelled glyphs)) (map lexemes.Token (map (token_of place) (said glyphs)))
all_read values place [] are = Reads.ended NoMore.ended
all_read values place (apart symbol ∷ glyphs) are =
    let p = and_parts (is_spelled symbol) (ends_word glyphs && are_spelled glyphs) are in
    let q = and_parts (ends_word glyphs) (are_spelled glyphs) p.1 in
    behind_space values place _ _ (Reads.next (symbol_next values place symbol (spelled glyphs) p.0 (stops_there place glyphs q.0)) (all_read values place glyphs q.1))
all_read values place (close symbol ∷ glyphs) are =
    let p = and_parts (is_spelled symbol) (ends_word glyphs && are_spelled glyphs) are in
    let q = and_parts (ends_word glyphs) (are_spelled glyphs) p.1 in
    Reads.next (symbol_next values place symbol (spelled glyphs) p.0 (stops_there place glyphs q.0)) (all_read values place glyphs q.1)
all_read values place (sign_apart byte ∷ glyphs) are =
    let p = and_parts (is_sign_class (class_of byte)) (are_spelled glyphs) are in
    behind_space values place _ _ (Reads.next (sign_next values place byte (spelled glyphs) (is_sign (class_of byte) p.0)) (all_read values place glyphs p.1))
all_read values place (sign_close byte ∷ glyphs) are =
    let p = and_parts (is_sign_class (class_of byte)) (are_spelled glyphs) are in
    Reads.next (sign_next values place byte (spelled glyphs) (is_sign (class_of byte) p.0)) (all_read values place glyphs p.1)

symbol_back : (place : Place) (symbol : Symbol) → symbol_of (token_of place symbol) ≡ symbol
symbol_back place (bare text) = refl
symbol_back place (quoted text) = refl
symbol_back place (mark text) = refl
symbol_back place line_end = refl

pub symbols-tokens : (place : Place) (symbols : List Symbol) → symbols_of_tokens (map (token_of place) symbols) ≡ symbols
symbols-tokens place [] = refl
symbols-tokens place (symbol ∷ rest) = cc (symbol_back place symbol, symbols-tokens place rest)

byte_of_word : (byte : ℕ) → is_word_byte byte ≡ true → not (byte == 10) ≡ true
unfolding class_of
byte_of_word byte e = elim (cases_Bool (byte == 10)) [
  | inl ten ↦
      let f : is_word_byte 10 ≡ true = subst (λ b. is_word_byte b ≡ true) (eqb-true byte 10 ten) e in
      absurd (cc)
  | inr other ↦ rw other refl
]

byte_of_sign : (byte : ℕ) → is_sign_class (class_of byte) ≡ true → not (byte == 10) ≡ true
unfolding class_of
byte_of_sign byte e = elim (cases_Bool (byte == 10)) [
  | inl ten ↦
      let f : is_sign_class (class_of 10) ≡ true = subst (λ b. is_sign_class (class_of b) ≡ true) (eqb-true byte 10 ten) e in
      absurd (cc)
  | inr other ↦ rw other refl
]

byte_of_string : (byte : ℕ) → is_plain_in_string byte ≡ true → not (byte == 10) ≡ true
byte_of_string byte e = (and_parts _ _ (and_parts _ _ e).1).1

-- what each byte of a text passes, each passes that is less
pub weaker : (test other : ℕ → Bool) → ((byte : ℕ) → test byte ≡ true → other byte ≡ true) → (text : List ℕ) → list_all test text ≡ true → list_all other text ≡ true
weaker test other each [] e = refl
weaker test other each (byte ∷ text) e =
    let p = and_parts _ _ e in
    ap (λ b. b && list_all other text) (each byte p.0) ∙ weaker test other each text p.1

pub all-append : (test : ℕ → Bool) (front back : List ℕ) → list_all test front ≡ true → list_all test back ≡ true → list_all test (front ++ back) ≡ true
all-append test [] back e f = f
all-append test (byte ∷ front) back e f =
    let p = and_parts _ _ e in
    ap (λ b. b && list_all test (front ++ back)) p.0 ∙ all-append test front back p.1 f

symbol_no_newline : (symbol : Symbol) → is_spelled symbol ≡ true → has_no_newline (symbol_text symbol) ≡ true
symbol_no_newline (mark text) is = absurd (cc)
symbol_no_newline line_end is = absurd (cc)
symbol_no_newline (bare []) is = absurd (cc)
symbol_no_newline (bare (first ∷ text)) is =
    weaker is_word_byte (λ byte. not (byte == 10)) byte_of_word (first ∷ text) (and_parts (is_plain_class (class_of first)) (list_all is_word_byte (first ∷ text)) is).1
symbol_no_newline (quoted text) is =
    all-append (λ byte. not (byte == 10)) text (34 ∷ [])
    (weaker is_plain_in_string (λ byte. not (byte == 10)) byte_of_string text (and_parts (list_all is_plain_in_string text) (list_all is_known_byte text) is).0) refl

pub no_newlines : (glyphs : List Glyph) → are_spelled glyphs ≡ true → has_no_newline (spelled glyphs) ≡ true
no_newlines [] are = refl
no_newlines (apart symbol ∷ glyphs) are =
    let p = and_parts (is_spelled symbol) (ends_word glyphs && are_spelled glyphs) are in
    all-append (λ byte. not (byte == 10)) (symbol_text symbol) (spelled glyphs) (symbol_no_newline symbol p.0) (no_newlines glyphs (and_parts (ends_word glyphs) (are_spelled glyphs) p.1).1)
no_newlines (close symbol ∷ glyphs) are =
    let p = and_parts (is_spelled symbol) (ends_word glyphs && are_spelled glyphs) are in
    all-append (λ byte. not (byte == 10)) (symbol_text symbol) (spelled glyphs) (symbol_no_newline symbol p.0) (no_newlines glyphs (and_parts (ends_word glyphs) (are_spelled glyphs) p.1).1)
no_newlines (sign_apart byte ∷ glyphs) are =
    let p = and_parts (is_sign_class (class_of byte)) (are_spelled glyphs) are in
    and_from (not (byte == 10)) (has_no_newline (spelled glyphs)) (byte_of_sign byte p.0) (no_newlines glyphs p.1)
no_newlines (sign_close byte ∷ glyphs) are =
    let p = and_parts (is_sign_class (class_of byte)) (are_spelled glyphs) are in
    and_from (not (byte == 10)) (has_no_newline (spelled glyphs)) (byte_of_sign byte p.0) (no_newlines glyphs p.1)

-- glyphs in a row
pub spelled-append : (front back : List Glyph) → spelled (front ++ back) ≡ spelled front ++ spelled back
spelled-append [] back = refl
spelled-append (glyph ∷ front) back =
    ap (λ text. glyph_text glyph ++ text) (spelled-append front back) ∙ sym (append_assoc (glyph_text glyph) (spelled front) (spelled back))

pub said-append : (front back : List Glyph) → said (front ++ back) ≡ said front ++ said back
said-append [] back = refl
said-append (glyph ∷ front) back = ap (λ symbols. symbol_in glyph ∷ symbols) (said-append front back)

pub ends-append : (front back : List Glyph) → ends_word front ≡ true → ends_word back ≡ true → ends_word (front ++ back) ≡ true
ends-append [] back e f = f
ends-append (apart symbol ∷ front) back e f = refl
ends-append (close symbol ∷ front) back e f = absurd (cc)
ends-append (sign_apart byte ∷ front) back e f = refl
ends-append (sign_close byte ∷ front) back e f = e

pub are-append : (front back : List Glyph) → are_spelled front ≡ true → are_spelled back ≡ true → ends_word back ≡ true → are_spelled (front ++ back) ≡ true
are-append [] back are more ends = more
are-append (apart symbol ∷ front) back are more ends =
    let p = and_parts (is_spelled symbol) (ends_word front && are_spelled front) are in
    let q = and_parts (ends_word front) (are_spelled front) p.1 in
    and_from (is_spelled symbol) (ends_word (front ++ back) && are_spelled (front ++ back)) p.0
    (and_from (ends_word (front ++ back)) (are_spelled (front ++ back)) (ends-append front back q.0 ends) (are-append front back q.1 more ends))
are-append (close symbol ∷ front) back are more ends =
    let p = and_parts (is_spelled symbol) (ends_word front && are_spelled front) are in
    let q = and_parts (ends_word front) (are_spelled front) p.1 in
    and_from (is_spelled symbol) (ends_word (front ++ back) && are_spelled (front ++ back)) p.0
    (and_from (ends_word (front ++ back)) (are_spelled (front ++ back)) (ends-append front back q.0 ends) (are-append front back q.1 more ends))
are-append (sign_apart byte ∷ front) back are more ends =
    let p = and_parts (is_sign_class (class_of byte)) (are_spelled front) are in
    and_from (is_sign_class (class_of byte)) (are_spelled (front ++ back)) p.0 (are-append front back p.1 more ends)
are-append (sign_close byte ∷ front) back are more ends =
    let p = and_parts (is_sign_class (class_of byte)) (are_spelled front) are in
    and_from (is_sign_class (class_of byte)) (are_spelled (front ++ back)) p.0 (are-append front back p.1 more ends)
