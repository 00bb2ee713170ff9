-- Words and strings with a space between them, as they are spelled, have themselves as tokens.
use Rattle.std.proofs.Common.{◌≡◌, ℕ, Bool, true, false, List, [], ◌∷◌, ◌++◌, Option, Some, refl, ap, inl, inr, subst, ◌∙◌}
use Rattle.std.proofs.lemmas.Bool.{and_parts, and_right, eqb-true, not-true, cases_Bool}
use Rattle.std.proofs.lemmas.List.{append-nil}
use Rattle.std.specs.Prelude.{◌&&◌, ◌==◌, not, map}
use Rattle.std.specs.List.{list_all}
use Rattle.pf_base.specs.declared.fault.Place.{Place}
use Rattle.pf_token.specs.declared.byte.ByteClass.TheVariants.{Plain}
use Rattle.pf_token.specs.declared.cell.Cell.{Cell}
use Rattle.pf_syntax.specs.Symbols.{Symbol, bare, quoted, mark, line_end, symbol_of, symbols as symbols_of_tokens}
use Rattle.pf_token.specs.declared.token.Lexeme.{Lexeme}
use Rattle.pf_token.specs.declared.token.Lexeme.TheVariants as lexemes
use Rattle.pf_token.specs.declared.token.Token.{Token}
use Rattle.pf_token.specs.declared.token.TokenKind.TheVariants as kinds
use Rattle.pf_token.specs.Bytes.{class_of, is_word_byte, is_known}
use Rattle.pf_token.specs.Cells.{bytes_of, cells_at, cells_from, stops}
use Rattle.pf_token.specs.Pieces.{Piece, blank, string, word, token, string_of, is_escape, Between, nothing, kept, Next, NoMore, Reads}

abbrev pub cell : Place → ℕ → Cell
cell place byte = record { byte = byte; place = place }

-- a text without a newline has no continued line
abbrev pub has_no_newline : List ℕ → Bool
has_no_newline = list_all (λ byte. not (byte == 10))

pub cells_plain : (place : Place) (text : List ℕ) → has_no_newline text ≡ true → cells_from place text ≡ cells_at place text
unfolding cells_from
cells_plain place [] e = refl
cells_plain place (byte ∷ []) e = refl
cells_plain place (byte ∷ next ∷ rest) e =
    let p = and_parts _ _ e in
    let q = and_parts _ _ p.1 in
    let this : (byte == 10) ≡ false = not-true _ p.0 in
    let that : (next == 10) ≡ false = not-true _ q.0 in
    rw (and_right (byte == 92) (next == 10) that, this) (ap (λ cells. cell place byte ∷ cells) (cells_plain place (next ∷ rest) p.1))

pub bytes-cells : (place : Place) (text : List ℕ) → bytes_of (cells_at place text) ≡ text
bytes-cells place [] = refl
bytes-cells place (byte ∷ rest) = ap (λ bytes. byte ∷ bytes) (bytes-cells place rest)

pub cells-append : (place : Place) (front back : List ℕ) → cells_at place (front ++ back) ≡ cells_at place front ++ cells_at place back
cells-append place [] back = refl
cells-append place (byte ∷ front) back = ap (λ cells. cell place byte ∷ cells) (cells-append place front back)

all_cells : (test : ℕ → Bool) (place : Place) (text : List ℕ) → list_all test text ≡ true → list_all (λ (one : Cell). test one.byte) (cells_at place text) ≡ true
all_cells test place [] e = refl
all_cells test place (byte ∷ rest) e =
    let p = and_parts _ _ e in
    ap (λ b. b && list_all (λ (one : Cell). test one.byte) (cells_at place rest)) p.0 ∙ all_cells test place rest p.1

-- a space in front changes no token
pub behind_space : (values : List ℕ → Option (List ℕ)) (place : Place) (cells : List Cell) (lexemes : List Lexeme)
    → Reads values cells lexemes → Reads values (cell place 32 ∷ cells) lexemes
unfolding class_of
behind_space values place cells [] (Reads.ended none) = Reads.ended (NoMore.passed {spelled = cell place 32 ∷ []} {rest = cells} {next = cells} refl (blank refl) none)
behind_space values place cells (lexeme ∷ lexemes) (Reads.next first more) =
    Reads.next (Next.passed {spelled = cell place 32 ∷ []} {rest = cells} {next = cells} refl (blank refl) first) more

-- a word
pub word_next : (values : List ℕ → Option (List ℕ)) (place : Place) (first : ℕ) (text rest : List ℕ)
    → class_of first ≡ Plain → list_all is_word_byte text ≡ true → stops is_word_byte (cells_at place rest) ≡ true
    → Next values (cells_at place (first ∷ (text ++ rest))) (token kinds.Word (first ∷ text) place) (cells_at place rest)
word_next values place first text rest plain each ends =
    let here : Next values (cells_at place (first ∷ (text ++ rest))) (token kinds.Word (first ∷ bytes_of (cells_at place text)) place) (cells_at place rest) =
    Next.here {spelled = cell place first ∷ cells_at place text} {rest = cells_at place rest}
    (ap (λ cells. cell place first ∷ cells) (cells-append place text rest))
    (word plain (record { each = all_cells is_word_byte place text each; ends = ends })) in
    subst (λ bytes. Next values (cells_at place (first ∷ (text ++ rest))) (token kinds.Word (first ∷ bytes) place) (cells_at place rest)) (bytes-cells place text) here

-- a byte of a string that stands for itself
abbrev pub is_plain_in_string : ℕ → Bool
is_plain_in_string byte = not (byte == 34) && (not (byte == 92) && not (byte == 10))

no_escape : (first : Cell) (cells : List Cell) → (first.byte == 92) ≡ false → is_escape 34 (first ∷ cells) ≡ false
no_escape first [] e = refl
no_escape first (next ∷ cells) e = rw e refl

pub between_quotes : (place : Place) (text : List ℕ) (rest : List Cell) → list_all is_plain_in_string text ≡ true
    → Between 34 (cells_at place text) rest text (list_all (λ byte. is_known (class_of byte)) text)
between_quotes place [] rest e = nothing
between_quotes place (byte ∷ text) rest e =
    let p = and_parts _ _ e in
    let q = and_parts _ _ p.0 in
    let r = and_parts _ _ q.1 in
    kept (not-true _ q.0) (not-true _ r.1) (no_escape (cell place byte) (cells_at place text ++ rest) (not-true _ r.0)) (between_quotes place text rest p.1)

-- a string in double quotes
pub string_next : (values : List ℕ → Option (List ℕ)) (place : Place) (text rest : List ℕ)
    → list_all is_plain_in_string text ≡ true → list_all (λ byte. is_known (class_of byte)) text ≡ true
    → Next values (cells_at place ((34 ∷ text ++ 34 ∷ []) ++ rest)) (token kinds.Quoted text place) (cells_at place rest)
unfolding class_of
string_next values place text rest plain known =
    let one : Piece values (cell place 34 ∷ (cells_at place text ++ cell place 34 ∷ [])) (cells_at place rest)
    (Some (string_of (list_all (λ byte. is_known (class_of byte)) text) text place)) (cells_at place rest) =
    string {opening = cell place 34} {closing = cell place 34} refl (between_quotes place text (cell place 34 ∷ cells_at place rest) plain) refl in
    Next.here {spelled = cell place 34 ∷ (cells_at place text ++ cell place 34 ∷ [])} {rest = cells_at place rest}
    (ap (λ cells. cell place 34 ∷ cells) (cells-append place (text ++ 34 ∷ []) rest ∙ ap (λ cells. cells ++ cells_at place rest) (cells-append place text (34 ∷ []))))
    (subst (λ b. Piece values (cell place 34 ∷ (cells_at place text ++ cell place 34 ∷ [])) (cells_at place rest) (Some (string_of b text place)) (cells_at place rest)) known one)

-- as it is spelled
abbrev pub symbol_text : Symbol → List ℕ
symbol_text (bare text) = text
symbol_text (quoted text) = 34 ∷ text ++ 34 ∷ []
symbol_text (mark text) = text
symbol_text line_end = 10 ∷ []

-- with a space between them
abbrev pub spelled : List Symbol → List ℕ
spelled [] = []
spelled (symbol ∷ []) = symbol_text symbol
spelled (symbol ∷ next ∷ rest) = symbol_text symbol ++ 32 ∷ spelled (next ∷ rest)

abbrev pub token_of : Place → Symbol → Token
token_of place (bare text) = record { kind = kinds.Word; text = text; place = place }
token_of place (quoted text) = record { kind = kinds.Quoted; text = text; place = place }
token_of place (mark text) = record { kind = kinds.Sign; text = text; place = place }
token_of place line_end = record { kind = kinds.Newline; text = []; place = place }

-- a word or a string that is spelled so
pub data IsSpelled : Symbol → Type 0 where
  as_word : {first : ℕ} {text : List ℕ} → class_of first ≡ Plain → list_all is_word_byte (first ∷ text) ≡ true → IsSpelled (bare (first ∷ text))
  as_string : {text : List ℕ} → list_all is_plain_in_string text ≡ true → list_all (λ byte. is_known (class_of byte)) text ≡ true → IsSpelled (quoted text)

pub data AreSpelled : List Symbol → Type 0 where
  no_more : AreSpelled []
  and_more : {symbol : Symbol} {symbols : List Symbol} → IsSpelled symbol → AreSpelled symbols → AreSpelled (symbol ∷ symbols)

pub symbol_next : (values : List ℕ → Option (List ℕ)) (place : Place) (symbol : Symbol) (rest : List ℕ)
    → IsSpelled symbol → stops is_word_byte (cells_at place rest) ≡ true
    → Next values (cells_at place (symbol_text symbol ++ rest)) (lexemes.Token (token_of place symbol)) (cells_at place rest)
symbol_next values place (bare []) rest is ends = elim is [ ]
symbol_next values place (mark sign) rest is ends = elim is [ ]
symbol_next values place line_end rest is ends = elim is [ ]
symbol_next values place (bare (first ∷ text)) rest (as_word plain each) ends = word_next values place first text rest plain (and_parts _ _ each).1 ends
symbol_next values place (quoted text) rest (as_string plain known) ends = string_next values place text rest plain known

pub all_read : (values : List ℕ → Option (List ℕ)) (place : Place) (symbols : List Symbol)
    → AreSpelled symbols → Reads values (cells_at place (spelled symbols)) (map lexemes.Token (map (token_of place) symbols))
unfolding class_of
all_read values place [] are = Reads.ended NoMore.ended
all_read values place (symbol ∷ []) (and_more is others) =
    Reads.next (subst (λ text. Next values (cells_at place text) (lexemes.Token (token_of place symbol)) []) (append-nil (symbol_text symbol)) (symbol_next values place symbol [] is refl))
    (Reads.ended NoMore.ended)
all_read values place (symbol ∷ next ∷ rest) (and_more is others) =
    Reads.next (symbol_next values place symbol (32 ∷ spelled (next ∷ rest)) is refl)
    (behind_space values place _ _ (all_read values place (next ∷ rest) others))

symbol_back : (place : Place) (symbol : Symbol) → symbol_of (token_of place symbol) ≡ symbol
symbol_back place (bare text) = refl
symbol_back place (quoted text) = refl
symbol_back place (mark text) = refl
symbol_back place line_end = refl

pub symbols-tokens : (place : Place) (symbols : List Symbol) → symbols_of_tokens (map (token_of place) symbols) ≡ symbols
symbols-tokens place [] = refl
symbols-tokens place (symbol ∷ rest) = cc (symbol_back place symbol, symbols-tokens place rest)

byte_of_word : (byte : ℕ) → is_word_byte byte ≡ true → not (byte == 10) ≡ true
unfolding class_of
byte_of_word byte e = elim (cases_Bool (byte == 10)) [
  | inl ten ↦
      let f : is_word_byte 10 ≡ true = subst (λ b. is_word_byte b ≡ true) (eqb-true byte 10 ten) e in
      absurd (cc)
  | inr other ↦ rw other refl
]

byte_of_string : (byte : ℕ) → is_plain_in_string byte ≡ true → not (byte == 10) ≡ true
byte_of_string byte e = (and_parts _ _ (and_parts _ _ e).1).1

-- what each byte of a text passes, each passes that is less
pub weaker : (test other : ℕ → Bool) → ((byte : ℕ) → test byte ≡ true → other byte ≡ true) → (text : List ℕ) → list_all test text ≡ true → list_all other text ≡ true
weaker test other each [] e = refl
weaker test other each (byte ∷ text) e =
    let p = and_parts _ _ e in
    ap (λ b. b && list_all other text) (each byte p.0) ∙ weaker test other each text p.1

all-append : (test : ℕ → Bool) (front back : List ℕ) → list_all test front ≡ true → list_all test back ≡ true → list_all test (front ++ back) ≡ true
all-append test [] back e f = f
all-append test (byte ∷ front) back e f =
    let p = and_parts _ _ e in
    ap (λ b. b && list_all test (front ++ back)) p.0 ∙ all-append test front back p.1 f

symbol_no_newline : (symbol : Symbol) → IsSpelled symbol → has_no_newline (symbol_text symbol) ≡ true
symbol_no_newline (mark sign) is = elim is [ ]
symbol_no_newline line_end is = elim is [ ]
symbol_no_newline (bare []) is = elim is [ ]
symbol_no_newline (bare (first ∷ text)) (as_word plain each) = weaker is_word_byte (λ byte. not (byte == 10)) byte_of_word (first ∷ text) each
symbol_no_newline (quoted text) (as_string plain known) =
    all-append (λ byte. not (byte == 10)) text (34 ∷ []) (weaker is_plain_in_string (λ byte. not (byte == 10)) byte_of_string text plain) refl

pub no_newlines : (symbols : List Symbol) → AreSpelled symbols → has_no_newline (spelled symbols) ≡ true
no_newlines [] are = refl
no_newlines (symbol ∷ []) (and_more is others) = symbol_no_newline symbol is
no_newlines (symbol ∷ next ∷ rest) (and_more is others) =
    all-append (λ byte. not (byte == 10)) (symbol_text symbol) (32 ∷ spelled (next ∷ rest)) (symbol_no_newline symbol is) (no_newlines (next ∷ rest) others)
