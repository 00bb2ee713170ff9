-- That something comes next of any cells, and how much is left behind it.
use Rattle.std.specs.Prelude.{ℕ, ◌+◌, ◌<◌, ◌≤◌, ◌⊎◌, ◌==◌, List, [], ◌∷◌, Option, length, if◌then◌else◌}
use Rattle.pf_token.specs.declared.cell.Cell.{Cell}
use Rattle.pf_token.specs.declared.token.Lexeme.{Lexeme}
use Rattle.pf_token.specs.Pieces.{Next, NoMore, Reads}

-- of two pairs of numbers the first is less: its first number is, or that is no greater and its second number is less
abbrev pub IsBelow : ℕ → ℕ → ℕ → ℕ → Type 0
IsBelow a b c d = (a < c) ⊎ ((a ≤ c) × (b < d))

-- each descent from a pair of numbers ends
pub data Descends : ℕ → ℕ → Type 0 where
  below : {c d : ℕ} → ((a b : ℕ) → IsBelow a b c d → Descends a b) → Descends c d

-- how many `$` are left, in the place of each of which a value may be put
abbrev pub dollars : List Cell → ℕ
dollars [] = 0
dollars (cell ∷ cells) = (if cell.byte == 36 then 1 else 0) + dollars cells

-- less is left: fewer `$`, or no more of them and fewer cells
abbrev pub IsLess : List Cell → List Cell → Type 0
IsLess after cells = IsBelow (dollars after) (length after) (dollars cells) (length cells)

-- What comes next of the cells: a token, with less left behind it, or nothing any more.
pub data Comes (values : List ℕ → Option (List ℕ)) (cells : List Cell) : Type 0 where
  one : {lexeme : Lexeme} {after : List Cell} → Next values cells lexeme after → IsLess after cells → Comes values cells
  none : NoMore values cells → Comes values cells

-- The cells have tokens.
pub record HasTokens (values : List ℕ → Option (List ℕ)) (cells : List Cell) : Type 0 where
  pub lexemes : List Lexeme
  pub reads : Reads values cells lexemes
