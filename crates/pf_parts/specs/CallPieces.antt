-- Pieces of a call's text as they are printed one behind the other.
use Rattle.std.specs.Prelude.{ℕ, Bool, true, List, [], ◌∷◌, ◌++◌, if◌then◌else◌, codes}

-- a piece, with a `/` before it where some piece stands in front
abbrev pub piece_text : Bool → List ℕ → List ℕ
piece_text some piece = (if some then codes "/" else []) ++ piece

abbrev pub pieces_text : Bool → List (List ℕ) → List ℕ
pieces_text some [] = []
pieces_text some (piece ∷ pieces) = piece_text some piece ++ pieces_text true pieces

-- whether some piece stands in front of what follows these
abbrev pub some_behind : Bool → List (List ℕ) → Bool
some_behind some [] = some
some_behind some (piece ∷ pieces) = true
