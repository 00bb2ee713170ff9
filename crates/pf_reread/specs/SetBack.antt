-- The text of a set of numbers, read as what stands behind `port`, `user` and `group`.
use Rattle.std.specs.Prelude.{ℕ, List, [], ◌∷◌, map, Option}
use Rattle.pf_base.specs.declared.fault.Place.{Place}
use Rattle.pf_syntax.specs.Lists.{list_of}
use Rattle.pf_syntax.specs.Operators.{op}
use Rattle.pf_syntax.specs.Symbols.{symbols}
use Rattle.pf_syntax.specs.declared.form.OpItem.{OpItem}
use Rattle.pf_token.specs.Cells.{cells_from}
use Rattle.pf_token.specs.Pieces.{Reads}
use Rattle.pf_token.specs.declared.token.Lexeme.TheVariants as lexemes
use Rattle.pf_token.specs.declared.token.Token.{Token}

-- the text, at this place of a file and with these macros, has tokens that are one operator of which this holds
pub record ReadsAsTest (values : List ℕ → Option (List ℕ)) (place : Place) (text : List ℕ) (Means : OpItem → Type 0) : Type 0 where
  pub tokens : List Token
  pub spelled : Reads values (cells_from place text) (map lexemes.Token tokens)
  pub item : OpItem
  pub read : (list_of op).derives (symbols tokens) (item ∷ []) []
  pub means : Means item
