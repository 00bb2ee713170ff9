-- A token stands in a file of the cells that it comes from, and so do the cells behind it.
use Rattle.std.proofs.Common.{◌≡◌, ℕ, Bool, true, false, List, [], ◌∷◌, ◌++◌, Option, Some, None, refl, ap, sym, ◌∙◌}
use Rattle.std.specs.Prelude.{nat_lt}
use Rattle.std.proofs.lemmas.Bool.{and_parts, and_from}
use Rattle.pf_base.specs.declared.fault.Place.{Place}
use Rattle.pf_token.specs.declared.cell.Cell.{Cell}
use Rattle.pf_token.specs.declared.token.Lexeme.{Lexeme}
use Rattle.pf_token.specs.Cells.{are_in, cells_at}
use Rattle.pf_token.specs.Kinds.{place_of}
use Rattle.pf_token.specs.Pieces.{Piece, blank, comment, newline, sign, string, unterminated, word, bad, used, unnamed, undefined, nested, Next, StaysIn, string_of, cut_off}

module _ (count : ℕ) where
  -- of two lists the second, and the first
  back_in : (a b : List Cell) → are_in count (a ++ b) ≡ true → are_in count b ≡ true
  back_in [] b e = e
  back_in (cell ∷ a) b e = back_in a b (and_parts (nat_lt cell.place.file count) (are_in count (a ++ b)) e).1

  first_in : (cell : Cell) (cells : List Cell) → are_in count (cell ∷ cells) ≡ true → nat_lt cell.place.file count ≡ true
  first_in cell cells e = (and_parts (nat_lt cell.place.file count) (are_in count cells) e).0

  -- a value that is put in stands at its `$`
  value_in : (place : Place) (value : List ℕ) (rest : List Cell) → nat_lt place.file count ≡ true → are_in count rest ≡ true → are_in count (cells_at place value ++ rest) ≡ true
  value_in place [] rest e r = r
  value_in place (byte ∷ value) rest e r = and_from (nat_lt place.file count) (are_in count (cells_at place value ++ rest)) e (value_in place value rest e r)

  string_place : (known : Bool) (text : List ℕ) (place : Place) → place_of (string_of known text place) ≡ place
  string_place true text place = refl
  string_place false text place = refl

  cut_place : (known : Bool) (place : Place) → place_of (cut_off known place) ≡ place
  cut_place true place = refl
  cut_place false place = refl

  abbrev FoundIn : Option Lexeme → Type 0
  FoundIn None = Unit {0}
  FoundIn (Some lexeme) = nat_lt (place_of lexeme).file count ≡ true

  module _ (values : List ℕ → Option (List ℕ)) where
    piece_in : {spelled rest after : List Cell} {found : Option Lexeme} → Piece values spelled rest found after → are_in count (spelled ++ rest) ≡ true → FoundIn found × (are_in count after ≡ true)
    piece_in (blank {cell = cell} {rest = rest} is) e = (tt, back_in (cell ∷ []) rest e)
    piece_in (comment {hash = hash} {cells = cells} {rest = rest} is run) e = (tt, back_in (hash ∷ cells) rest e)
    piece_in (newline {cell = cell} {rest = rest} is) e = (first_in cell rest e, back_in (cell ∷ []) rest e)
    piece_in (sign {cell = cell} {rest = rest} is) e = (first_in cell rest e, back_in (cell ∷ []) rest e)
    piece_in (string {opening = opening} {closing = closing} {cells = cells} {rest = rest} {text = text} {known = known} is between closes) e =
        (ap (λ (p : Place). nat_lt p.file count) (string_place known text opening.place) ∙ first_in opening ((cells ++ closing ∷ []) ++ rest) e, back_in (opening ∷ (cells ++ closing ∷ [])) rest e)
    piece_in (unterminated {opening = opening} {cells = cells} {text = text} {known = known} is between) e =
        (ap (λ (p : Place). nat_lt p.file count) (cut_place known opening.place) ∙ first_in opening (cells ++ []) e, refl)
    piece_in (word {first = first} {cells = cells} {rest = rest} is run) e = (first_in first (cells ++ rest) e, back_in (first ∷ cells) rest e)
    piece_in (bad {cell = cell} {rest = rest} is) e = (first_in cell rest e, back_in (cell ∷ []) rest e)
    piece_in (used {dollar = dollar} {first = first} {name = name} {rest = rest} {value = value} is run stands plain) e =
        (tt, value_in dollar.place value rest (first_in dollar ((first ∷ name) ++ rest) e) (back_in (dollar ∷ first ∷ name) rest e))
    piece_in (unnamed {dollar = dollar} {cells = cells} {rest = rest} is run none) e = (first_in dollar (cells ++ rest) e, back_in (dollar ∷ cells) rest e)
    piece_in (undefined {dollar = dollar} {first = first} {name = name} {others = others} {rest = rest} is run stands more) e =
        (first_in dollar ((first ∷ (name ++ others)) ++ rest) e, back_in (dollar ∷ first ∷ (name ++ others)) rest e)
    piece_in (nested {dollar = dollar} {first = first} {name = name} {others = others} {rest = rest} is run stands has more) e =
        (first_in dollar ((first ∷ (name ++ others)) ++ rest) e, back_in (dollar ∷ first ∷ (name ++ others)) rest e)

    pub next_in : {cells after : List Cell} {lexeme : Lexeme} → Next values cells lexeme after → are_in count cells ≡ true → StaysIn count lexeme after
    next_in (Next.here joined piece) e =
        let found = piece_in piece (ap (are_in count) (sym joined) ∙ e) in
        record { lexeme_in = found.0; after_in = found.1 }
    next_in (Next.passed joined piece more) e = next_in more (piece_in piece (ap (are_in count) (sym joined) ∙ e)).1
