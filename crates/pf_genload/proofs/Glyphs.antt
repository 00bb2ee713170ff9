-- A line of words, each behind a space or not, and slashes is one statement, whose tokens are these.
use Rattle.std.proofs.Common.{◌≡◌, ℕ, ◌+◌, ◌≤◌, Bool, true, false, List, [], ◌∷◌, ◌++◌, Option, refl, ap, sym, subst, ◌∙◌, append_assoc, arith, length, length-append}
use Rattle.std.specs.Prelude.{◌&&◌, ◌==◌, not, map}
use Rattle.std.specs.List.{list_all}
use Rattle.std.proofs.lemmas.Bool.{and_from, and_parts, not-true}
use Rattle.std.proofs.lemmas.List.{append-nil}
use Rattle.std.proofs.lemmas.List.Sums.{fold-append}
use Rattle.pf_base.specs.declared.fault.Place.{Place}
use Rattle.pf_token.specs.declared.byte.ByteClass.{ByteClass}
use Rattle.pf_token.specs.declared.byte.ByteClass.TheVariants.{Blank, Newline, Sign, Quote, Hash, Dollar, Plain, Bad}
use Rattle.pf_token.specs.declared.cell.Cell.{Cell}
use Rattle.pf_token.specs.declared.token.Lexeme.{Lexeme}
use Rattle.pf_token.specs.declared.token.Lexeme.TheVariants as lexemes
use Rattle.pf_token.specs.declared.token.Token.{Token}
use Rattle.pf_token.specs.declared.token.TokenKind.TheVariants as kinds
use Rattle.pf_token.specs.Bytes.{class_of, is_word_byte}
use Rattle.pf_token.specs.Cells.{below, bytes_of, cells_at, cells_from, stops}
use Rattle.pf_token.specs.Kinds.{is_sign}
use Rattle.pf_token.specs.Pieces.{blank, newline, sign, word, token, Next}
use Rattle.pf_lexer.specs.declared.statement.Close.TheVariants.{Line}
use Rattle.pf_lexer.specs.Statements.{begins_anchor, depth_of, Ends, at_newline, taken, IsTaken, most_tokens}

-- a word behind a space, a word close behind what stands before it, or a slash
pub data Glyph : Type 0 where
  apart : List ℕ → Glyph
  close : List ℕ → Glyph
  slash : Glyph

-- as it is spelled
abbrev pub glyph_text : Glyph → List ℕ
glyph_text (apart text) = 32 ∷ text
glyph_text (close text) = text
glyph_text slash = 47 ∷ []

abbrev pub spelled : List Glyph → List ℕ
spelled [] = []
spelled (glyph ∷ glyphs) = glyph_text glyph ++ spelled glyphs

-- its token
abbrev pub token_of : Place → Glyph → Token
token_of place (apart text) = record { kind = kinds.Word; text = text; place = place }
token_of place (close text) = record { kind = kinds.Word; text = text; place = place }
token_of place slash = record { kind = kinds.Sign; text = 47 ∷ []; place = place }

abbrev pub lexeme_of : Place → Glyph → Lexeme
lexeme_of place glyph = lexemes.Token (token_of place glyph)

abbrev pub lexemes_of : Place → List Glyph → List Lexeme
lexemes_of place glyphs = map (lexeme_of place) glyphs

abbrev pub is_plain_class : ByteClass → Bool
is_plain_class Plain = true
is_plain_class Blank = false
is_plain_class Newline = false
is_plain_class Sign = false
is_plain_class Quote = false
is_plain_class Hash = false
is_plain_class Dollar = false
is_plain_class Bad = false

-- neither a newline nor the backslash that may stand before one
abbrev pub is_single : ℕ → Bool
is_single byte = not (byte == 10) && not (byte == 92)

-- a byte of words that continues no line
abbrev pub is_line_byte : ℕ → Bool
is_line_byte byte = is_word_byte byte && is_single byte

abbrev pub is_line_word : List ℕ → Bool
is_line_word [] = false
is_line_word (first ∷ text) = is_plain_class (class_of first) && list_all is_line_byte (first ∷ text)

-- no word goes on here
abbrev pub ends_word : List Glyph → Bool
ends_word [] = true
ends_word (apart text ∷ glyphs) = true
ends_word (close text ∷ glyphs) = false
ends_word (slash ∷ glyphs) = true

abbrev pub are_spelled : List Glyph → Bool
are_spelled [] = true
are_spelled (apart text ∷ glyphs) = is_line_word text && (ends_word glyphs && are_spelled glyphs)
are_spelled (close text ∷ glyphs) = is_line_word text && (ends_word glyphs && are_spelled glyphs)
are_spelled (slash ∷ glyphs) = are_spelled glyphs

abbrev pub cell : Place → ℕ → Cell
cell place byte = record { byte = byte; place = place }

-- ---- cells of a line

single_cell : (place : Place) (byte : ℕ) (bytes : List ℕ) → is_single byte ≡ true → cells_from place (byte ∷ bytes) ≡ cell place byte ∷ cells_from place bytes
unfolding cells_from
single_cell place byte [] is = refl
single_cell place byte (next ∷ bytes) is =
    let p = and_parts (not (byte == 10)) (not (byte == 92)) is in
    rw (not-true (byte == 92) p.1, not-true (byte == 10) p.0) refl

line_cells : (place : Place) (text bytes : List ℕ) → list_all is_single text ≡ true → cells_from place (text ++ bytes) ≡ cells_at place text ++ cells_from place bytes
line_cells place [] bytes each = refl
line_cells place (byte ∷ text) bytes each =
    let p = and_parts (is_single byte) (list_all is_single text) each in
    single_cell place byte (text ++ bytes) p.0 ∙ ap (λ (cells : List Cell). cell place byte ∷ cells) (line_cells place text bytes p.1)

newline_cell : (place : Place) (bytes : List ℕ) → cells_from place (10 ∷ bytes) ≡ cell place 10 ∷ cells_from (below place) bytes
unfolding cells_from
newline_cell place [] = refl
newline_cell place (next ∷ bytes) = refl

-- what each byte of a text passes, each passes that is less
pub weaker : (test other : ℕ → Bool) → ((byte : ℕ) → test byte ≡ true → other byte ≡ true) → (text : List ℕ) → list_all test text ≡ true → list_all other text ≡ true
weaker test other each [] e = refl
weaker test other each (byte ∷ text) e =
    let p = and_parts (test byte) (list_all test text) e in
    and_from (other byte) (list_all other text) (each byte p.0) (weaker test other each text p.1)

pub all-append : (test : ℕ → Bool) (front back : List ℕ) → list_all test front ≡ true → list_all test back ≡ true → list_all test (front ++ back) ≡ true
all-append test [] back e f = f
all-append test (byte ∷ front) back e f =
    let p = and_parts (test byte) (list_all test front) e in
    and_from (test byte) (list_all test (front ++ back)) p.0 (all-append test front back p.1 f)

single_of_line : (byte : ℕ) → is_line_byte byte ≡ true → is_single byte ≡ true
single_of_line byte e = (and_parts (is_word_byte byte) (is_single byte) e).1

word_of_line : (byte : ℕ) → is_line_byte byte ≡ true → is_word_byte byte ≡ true
word_of_line byte e = (and_parts (is_word_byte byte) (is_single byte) e).0

word_singles : (text : List ℕ) → is_line_word text ≡ true → list_all is_single text ≡ true
word_singles [] is = absurd (cc)
word_singles (first ∷ text) is =
    weaker is_line_byte is_single single_of_line (first ∷ text) (and_parts (is_plain_class (class_of first)) (list_all is_line_byte (first ∷ text)) is).1

pub spelled_singles : (glyphs : List Glyph) → are_spelled glyphs ≡ true → list_all is_single (spelled glyphs) ≡ true
spelled_singles [] are = refl
spelled_singles (apart text ∷ glyphs) are =
    let p = and_parts (is_line_word text) (ends_word glyphs && are_spelled glyphs) are in
    all-append is_single text (spelled glyphs) (word_singles text p.0) (spelled_singles glyphs (and_parts (ends_word glyphs) (are_spelled glyphs) p.1).1)
spelled_singles (close text ∷ glyphs) are =
    let p = and_parts (is_line_word text) (ends_word glyphs && are_spelled glyphs) are in
    all-append is_single text (spelled glyphs) (word_singles text p.0) (spelled_singles glyphs (and_parts (ends_word glyphs) (are_spelled glyphs) p.1).1)
spelled_singles (slash ∷ glyphs) are = spelled_singles glyphs are

-- ---- tokens of a line

-- what is left of a line, and the cells behind it
abbrev pub rest_of : Place → List Glyph → List Cell → List Cell
rest_of place glyphs after = cells_at place (spelled glyphs) ++ cell place 10 ∷ after

cells-append : (place : Place) (front back : List ℕ) → cells_at place (front ++ back) ≡ cells_at place front ++ cells_at place back
cells-append place [] back = refl
cells-append place (byte ∷ front) back = ap (λ (cells : List Cell). cell place byte ∷ cells) (cells-append place front back)

bytes-cells : (place : Place) (text : List ℕ) → bytes_of (cells_at place text) ≡ text
bytes-cells place [] = refl
bytes-cells place (byte ∷ text) = ap (λ (bytes : List ℕ). byte ∷ bytes) (bytes-cells place text)

all_cells : (test : ℕ → Bool) (place : Place) (text : List ℕ) → list_all test text ≡ true → list_all (λ (one : Cell). test one.byte) (cells_at place text) ≡ true
all_cells test place [] e = refl
all_cells test place (byte ∷ text) e =
    let p = and_parts (test byte) (list_all test text) e in
    and_from (test byte) (list_all (λ (one : Cell). test one.byte) (cells_at place text)) p.0 (all_cells test place text p.1)

is_plain : (class : ByteClass) → is_plain_class class ≡ true → class ≡ Plain
is_plain Plain e = refl
is_plain Blank e = absurd (cc)
is_plain Newline e = absurd (cc)
is_plain Sign e = absurd (cc)
is_plain Quote e = absurd (cc)
is_plain Hash e = absurd (cc)
is_plain Dollar e = absurd (cc)
is_plain Bad e = absurd (cc)

stops_there : (place : Place) (glyphs : List Glyph) (after : List Cell) → ends_word glyphs ≡ true → stops is_word_byte (rest_of place glyphs after) ≡ true
unfolding class_of
stops_there place [] after ends = refl
stops_there place (apart text ∷ glyphs) after ends = refl
stops_there place (close text ∷ glyphs) after ends = absurd (cc)
stops_there place (slash ∷ glyphs) after ends = refl

word_next : (values : List ℕ → Option (List ℕ)) (place : Place) (text : List ℕ) (rest : List Cell)
    → is_line_word text ≡ true → stops is_word_byte rest ≡ true
    → Next values (cells_at place text ++ rest) (token kinds.Word text place) rest
word_next values place [] rest is ends = absurd (cc)
word_next values place (first ∷ text) rest is ends =
    let p = and_parts (is_plain_class (class_of first)) (list_all is_line_byte (first ∷ text)) is in
    let q = and_parts (is_line_byte first) (list_all is_line_byte text) p.1 in
    let here : Next values (cell place first ∷ (cells_at place text ++ rest)) (token kinds.Word (first ∷ bytes_of (cells_at place text)) place) rest =
    Next.here {spelled = cell place first ∷ cells_at place text} {rest = rest} refl
    (word (is_plain (class_of first) p.0) (record { each = all_cells is_word_byte place text (weaker is_line_byte is_word_byte word_of_line text q.1); ends = ends })) in
    subst (λ (bytes : List ℕ). Next values (cell place first ∷ (cells_at place text ++ rest)) (token kinds.Word (first ∷ bytes) place) rest) (bytes-cells place text) here

behind_space : (values : List ℕ → Option (List ℕ)) (place : Place) (cells after : List Cell) (lexeme : Lexeme)
    → Next values cells lexeme after → Next values (cell place 32 ∷ cells) lexeme after
unfolding class_of
behind_space values place cells after lexeme next = Next.passed {spelled = cell place 32 ∷ []} {rest = cells} {next = cells} refl (blank refl) next

-- a word's cells and those behind it
word_cells : (place : Place) (text : List ℕ) (glyphs : List Glyph) (after : List Cell)
    → cells_at place (text ++ spelled glyphs) ++ cell place 10 ∷ after ≡ cells_at place text ++ rest_of place glyphs after
word_cells place text glyphs after =
    ap (λ (cells : List Cell). cells ++ cell place 10 ∷ after) (cells-append place text (spelled glyphs))
    ∙ append_assoc (cells_at place text) (cells_at place (spelled glyphs)) (cell place 10 ∷ after)

close_next : (values : List ℕ → Option (List ℕ)) (place : Place) (text : List ℕ) (glyphs : List Glyph) (after : List Cell)
    → is_line_word text ≡ true → ends_word glyphs ≡ true → Next values (rest_of place (close text ∷ glyphs) after) (token kinds.Word text place) (rest_of place glyphs after)
close_next values place text glyphs after is ends =
    subst (λ (cells : List Cell). Next values cells (token kinds.Word text place) (rest_of place glyphs after)) (sym (word_cells place text glyphs after))
    (word_next values place text (rest_of place glyphs after) is (stops_there place glyphs after ends))

glyph_next : (values : List ℕ → Option (List ℕ)) (place : Place) (glyph : Glyph) (glyphs : List Glyph) (after : List Cell)
    → are_spelled (glyph ∷ glyphs) ≡ true → Next values (rest_of place (glyph ∷ glyphs) after) (lexeme_of place glyph) (rest_of place glyphs after)
unfolding class_of
glyph_next values place (apart text) glyphs after are =
    let p = and_parts (is_line_word text) (ends_word glyphs && are_spelled glyphs) are in
    behind_space values place (rest_of place (close text ∷ glyphs) after) (rest_of place glyphs after) (token kinds.Word text place)
    (close_next values place text glyphs after p.0 (and_parts (ends_word glyphs) (are_spelled glyphs) p.1).0)
glyph_next values place (close text) glyphs after are =
    let p = and_parts (is_line_word text) (ends_word glyphs && are_spelled glyphs) are in
    close_next values place text glyphs after p.0 (and_parts (ends_word glyphs) (are_spelled glyphs) p.1).0
glyph_next values place slash glyphs after are = Next.here {spelled = cell place 47 ∷ []} {rest = rest_of place glyphs after} refl (sign refl)

spelled_behind : (glyph : Glyph) (glyphs : List Glyph) → are_spelled (glyph ∷ glyphs) ≡ true → are_spelled glyphs ≡ true
spelled_behind (apart text) glyphs are =
    (and_parts (ends_word glyphs) (are_spelled glyphs) (and_parts (is_line_word text) (ends_word glyphs && are_spelled glyphs) are).1).1
spelled_behind (close text) glyphs are =
    (and_parts (ends_word glyphs) (are_spelled glyphs) (and_parts (is_line_word text) (ends_word glyphs && are_spelled glyphs) are).1).1
spelled_behind slash glyphs are = are

both_false : (one : Bool) → (one && false) ≡ true → ⊥
both_false true is = cc
both_false false is = cc

-- no glyph is a brace or a newline
no_brace : (place : Place) (glyph : Glyph) → is_sign 123 (lexeme_of place glyph) ≡ false
no_brace place (apart text) = refl
no_brace place (close text) = refl
no_brace place slash = refl

is_taken : (values : List ℕ → Option (List ℕ)) (place : Place) (before : List Lexeme) (glyph : Glyph) (glyphs : List Glyph) (after : List Cell)
    → are_spelled (glyph ∷ glyphs) ≡ true → IsTaken values before (rest_of place (glyph ∷ glyphs) after) (lexeme_of place glyph) (rest_of place glyphs after)
is_taken values place before (apart text) glyphs after are =
    record { comes = glyph_next values place (apart text) glyphs after are; no_newline = refl; no_body = λ body. absurd (both_false (begins_anchor before) body) }
is_taken values place before (close text) glyphs after are =
    record { comes = glyph_next values place (close text) glyphs after are; no_newline = refl; no_body = λ body. absurd (both_false (begins_anchor before) body) }
is_taken values place before slash glyphs after are =
    record { comes = glyph_next values place slash glyphs after are; no_newline = refl; no_body = λ body. absurd (both_false (begins_anchor before) body) }

same_depth : (place : Place) (before : List Lexeme) (glyph : Glyph) → depth_of (before ++ lexeme_of place glyph ∷ []) ≡ depth_of before
same_depth place before (apart text) = fold-append _ 0 before (lexeme_of place (apart text) ∷ [])
same_depth place before (close text) = fold-append _ 0 before (lexeme_of place (close text) ∷ [])
same_depth place before slash = fold-append _ 0 before (lexeme_of place slash ∷ [])

-- the statement ends at the newline, with all its tokens
line_ends : (values : List ℕ → Option (List ℕ)) (place : Place) (before : List Lexeme) (glyphs : List Glyph) (after : List Cell)
    → are_spelled glyphs ≡ true → depth_of before ≡ 0 → length before + length glyphs ≤ most_tokens
    → Ends values before (rest_of place glyphs after) (before ++ lexemes_of place glyphs) Line after
unfolding class_of
line_ends values place before [] after are depth few =
    subst (λ (all : List Lexeme). Ends values before (cell place 10 ∷ after) all Line after) (sym (append-nil before))
    (at_newline {newline = token kinds.Newline [] place} (Next.here {spelled = cell place 10 ∷ []} {rest = after} refl (newline refl)) refl depth)
line_ends values place before (glyph ∷ glyphs) after are depth few =
    let more : length (before ++ lexeme_of place glyph ∷ []) ≡ length before + 1 = length-append before (lexeme_of place glyph ∷ []) in
    let fits : length (before ++ lexeme_of place glyph ∷ []) + length glyphs ≤ most_tokens = omega arith in
    subst (λ (all : List Lexeme). Ends values before (rest_of place (glyph ∷ glyphs) after) all Line after) (append_assoc before (lexeme_of place glyph ∷ []) (lexemes_of place glyphs))
    (taken (is_taken values place before glyph glyphs after are) (omega arith)
    (line_ends values place (before ++ lexeme_of place glyph ∷ []) glyphs after (spelled_behind glyph glyphs are) (same_depth place before glyph ∙ depth) fits))

-- a line's text and a newline
abbrev pub line_of : List Glyph → List ℕ
line_of glyphs = spelled glyphs ++ 10 ∷ []

line_front : (place : Place) (glyphs : List Glyph) (bytes : List ℕ) → are_spelled glyphs ≡ true
    → cells_from place (line_of glyphs ++ bytes) ≡ rest_of place glyphs (cells_from (below place) bytes)
line_front place glyphs bytes are =
    ap (cells_from place) (append_assoc (spelled glyphs) (10 ∷ []) bytes)
    ∙ line_cells place (spelled glyphs) (10 ∷ bytes) (spelled_singles glyphs are)
    ∙ ap (λ (cells : List Cell). cells_at place (spelled glyphs) ++ cells) (newline_cell place bytes)

pub line_statement : (values : List ℕ → Option (List ℕ)) (place : Place) (glyphs : List Glyph) (bytes : List ℕ)
    → are_spelled glyphs ≡ true → length glyphs ≤ most_tokens
    → Ends values [] (cells_from place (line_of glyphs ++ bytes)) (lexemes_of place glyphs) Line (cells_from (below place) bytes)
line_statement values place glyphs bytes are few =
    subst (λ (cells : List Cell). Ends values [] cells (lexemes_of place glyphs) Line (cells_from (below place) bytes)) (sym (line_front place glyphs bytes are))
    (line_ends values place [] glyphs (cells_from (below place) bytes) are refl (omega arith))
