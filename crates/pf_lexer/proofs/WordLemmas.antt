-- Each word of a statement has a byte.
use Rattle.std.proofs.Common.{◌≡◌, ℕ, Bool, true, false, List, [], ◌∷◌, ◌++◌, Option, Some, None, length, refl, ◌∙◌, arith}
use Rattle.std.specs.List.{list_all}
use Rattle.std.proofs.lemmas.Bool.{and_from, and_parts, le-leb}
use Rattle.std.proofs.lemmas.List.Folds.{list_all-append}
use Rattle.pf_base.specs.declared.fault.Place.{Place}
use Rattle.pf_token.specs.declared.cell.Cell.{Cell}
use Rattle.pf_token.specs.declared.token.Lexeme.{Lexeme}
use Rattle.pf_token.specs.declared.token.Lexeme.TheVariants.{Token, Fault}
use Rattle.pf_token.specs.Cells.{bytes_of}
use Rattle.pf_token.specs.Macros.{Table}
use Rattle.pf_token.specs.Pieces.{Next, Piece, cut_off, string_of}
use Rattle.pf_lexer.specs.declared.deed.Deed.{Deed}
use Rattle.pf_lexer.specs.declared.deed.Deed.TheVariants as deeds
use Rattle.pf_lexer.specs.declared.statement.Close.{Close}
use Rattle.pf_lexer.specs.Deeds.{Does, tokens_in}
use Rattle.pf_lexer.specs.Statements.{Ends, at_end, at_newline, skipped, at_body, too_long, taken}
use Rattle.pf_lexer.specs.Words.{token_has_bytes, tokens_have_bytes}

abbrev has_bytes : Lexeme → Bool
has_bytes (Token token) = token_has_bytes token
has_bytes (Fault fault) = true

abbrev have_bytes : List Lexeme → Bool
have_bytes lexemes = list_all has_bytes lexemes

abbrev SomeHasBytes : Option Lexeme → Type 0
SomeHasBytes None = Unit {0}
SomeHasBytes (Some lexeme) = has_bytes lexeme ≡ true

string_full : (known : Bool) (text : List ℕ) (place : Place) → has_bytes (string_of known text place) ≡ true
string_full true text place = refl
string_full false text place = refl

cut_off_full : (known : Bool) (place : Place) → has_bytes (cut_off known place) ≡ true
cut_off_full true place = refl
cut_off_full false place = refl

module _ (values : List ℕ → Option (List ℕ)) where
  -- a word begins with a byte
  piece_full : {spelled rest after : List Cell} {found : Option Lexeme} → Piece values spelled rest found after → SomeHasBytes found
  piece_full (Piece.blank is) = tt
  piece_full (Piece.comment is run) = tt
  piece_full (Piece.newline is) = refl
  piece_full (Piece.sign is) = refl
  piece_full (Piece.string {opening = opening} {text = text} {known = known} is between closed) = string_full known text opening.place
  piece_full (Piece.unterminated {opening = opening} {known = known} is between) = cut_off_full known opening.place
  piece_full (Piece.word {first = first} {cells = cells} is run) = le-leb 1 (length (first.byte ∷ bytes_of cells)) (omega arith)
  piece_full (Piece.bad is) = refl
  piece_full (Piece.used is run value plain) = tt
  piece_full (Piece.unnamed is run stop) = refl
  piece_full (Piece.undefined is run none more) = refl
  piece_full (Piece.nested is run value dollar more) = refl

  next_full : {cells after : List Cell} {lexeme : Lexeme} → Next values cells lexeme after → has_bytes lexeme ≡ true
  next_full (Next.here is piece) = piece_full piece
  next_full (Next.passed is piece more) = next_full more

  more_full : (before : List Lexeme) (lexeme : Lexeme) → have_bytes before ≡ true → has_bytes lexeme ≡ true → have_bytes (before ++ lexeme ∷ []) ≡ true
  more_full before lexeme e f = list_all-append has_bytes before (lexeme ∷ []) ∙ and_from (have_bytes before) (have_bytes (lexeme ∷ [])) e (and_from (has_bytes lexeme) true f refl)

  ends_full : {before lexemes : List Lexeme} {cells after : List Cell} {close : Close} → Ends values before cells lexemes close after → have_bytes before ≡ true → have_bytes lexemes ≡ true
  ends_full (at_end none) e = e
  ends_full (at_newline next is depth) e = e
  ends_full (skipped next is depth ends) e = ends_full ends e
  ends_full (at_body anchor next sign follows is) e = e
  ends_full (too_long {before = before} {lexeme = lexeme} token many) e = more_full before lexeme e (next_full token.comes)
  ends_full (taken {before = before} {lexeme = lexeme} token few ends) e = ends_full ends (more_full before lexeme e (next_full token.comes))

tokens_full : (lexemes : List Lexeme) → have_bytes lexemes ≡ true → tokens_have_bytes (tokens_in lexemes) ≡ true
tokens_full [] e = refl
tokens_full (Token token ∷ rest) e =
    let parts = and_parts (token_has_bytes token) (have_bytes rest) e in and_from (token_has_bytes token) (tokens_have_bytes (tokens_in rest)) parts.0 (tokens_full rest parts.1)
tokens_full (Fault fault ∷ rest) e = tokens_full rest (and_parts true (have_bytes rest) e).1

abbrev DeedHasBytes : Deed → Type 0
DeedHasBytes deeds.Nothing = Unit {0}
DeedHasBytes (deeds.Hands statement) = tokens_have_bytes statement.tokens ≡ true
DeedHasBytes (deeds.Includes name) = Unit {0}
DeedHasBytes deeds.Ends = Unit {0}
DeedHasBytes (deeds.Fails fault) = Unit {0}

-- each word of what a statement hands out has a byte
pub does_full : {includes : ℕ} {macros changed : Table} {cells after : List Cell} {deed : Deed} → Does includes macros cells deed changed after → DeedHasBytes deed
does_full (Does.nothing one) = tt
does_full (Does.defines one none is) = tt
does_full (Does.names one none is) = tt
does_full (Does.hands {lexemes = lexemes} one none is other some) = tokens_full lexemes (ends_full _ one refl)
does_full (Does.ends one) = tt
does_full (Does.fails one is) = tt
