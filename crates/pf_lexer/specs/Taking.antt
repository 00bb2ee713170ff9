-- How the code goes through a statement, token by token. proofs/ has how this leads to its end in specs/Statements.
use Rattle.std.specs.Prelude.{◌≡◌, ℕ, ◌+◌, ◌≤◌, Bool, true, false, List, [], ◌∷◌, ◌++◌, Option, Some, None, MatchOption, length}
use Rattle.pf_token.specs.declared.cell.Cell.{Cell}
use Rattle.pf_lexer.specs.declared.statement.Close.{Close}
use Rattle.pf_lexer.specs.declared.statement.Close.TheVariants.{End, Line, Body, Long}
use Rattle.pf_lexer.specs.declared.statement.Turn.{Turn}
use Rattle.pf_lexer.specs.declared.statement.Turn.TheVariants.{Closed, Seen}
use Rattle.pf_token.specs.declared.token.Lexeme.{Lexeme}
use Rattle.pf_token.specs.Kinds.{is_newline, text_of}
use Rattle.pf_token.specs.Pieces.{Next, NoMore}
use Rattle.pf_token.specs.Reading.{weight}
use Rattle.pf_lexer.specs.Statements.{Ends, most_tokens}

-- what is left behind a statement: of one that is too long nothing more is read
abbrev pub rest_after : Close → List Cell → List Cell
rest_after End cells = cells
rest_after Line cells = cells
rest_after Body cells = cells
rest_after Long cells = []

-- the token in view, or none at the end
abbrev pub Views : (List ℕ → Option (List ℕ)) → List Cell → Option Lexeme → List Cell → Type 0
Views values cells view after = MatchOption view (NoMore values cells × (after ≡ [])) (λ lexeme. Next values cells lexeme after)

-- The statement goes on: it begins with `now`, the token in view comes next, and where it ends so, it ends so from before.
pub record GoesOn (values : List ℕ → Option (List ℕ)) (before now : List Lexeme) (cells : List Cell) (view : Option Lexeme) (after : List Cell) : Type 0 where
  pub next : List Cell
  pub views : Views values next view after
  pub goes : (lexemes : List Lexeme) (close : Close) (rest : List Cell) → Ends values now next lexemes close rest → Ends values before cells lexemes close rest

-- what a token makes of a statement
abbrev pub TurnsTo : (List ℕ → Option (List ℕ)) → List Lexeme → List Lexeme → List Cell → Turn → List Cell → Type 0
TurnsTo values before now cells (Closed close) after = Ends values before cells now close (rest_after close after)
TurnsTo values before now cells (Seen view) after = GoesOn values before now cells view after

-- the same, wherever the token came from
abbrev pub IsTurn : (List ℕ → Option (List ℕ)) → List Lexeme → List Lexeme → Lexeme → List Cell → Turn → List Cell → Type 0
IsTurn values before now lexeme cells turn after = (start : List Cell) → Next values start lexeme cells → TurnsTo values before now start turn after

-- the weight of what is left with the token in view
abbrev pub view_weight : Option Lexeme → List Cell → ℕ
view_weight None cells = weight cells
view_weight (Some lexeme) cells = weight cells + 1

abbrev pub IsLightTurn : Turn → List Cell → List Cell → Type 0
IsLightTurn (Closed close) old new = weight new ≤ weight old
IsLightTurn (Seen view) old new = view_weight view new ≤ weight old

abbrev pub is_newline_view : Option Lexeme → Bool
is_newline_view None = false
is_newline_view (Some lexeme) = is_newline lexeme

-- nothing is left: the statement has no token, and the end of the file ends it
abbrev pub is_over : List Lexeme → Close → Bool
is_over [] End = true
is_over [] Line = false
is_over [] Body = false
is_over [] Long = false
is_over (first ∷ rest) close = false

-- a statement that goes on has no more tokens than it may have
abbrev pub KeepsFew : Turn → List Lexeme → Type 0
KeepsFew (Closed close) lexemes = Unit {0}
KeepsFew (Seen view) lexemes = length lexemes ≤ most_tokens

-- the texts of a value behind its first, each behind a space
abbrev pub spaced : List Lexeme → List ℕ
spaced [] = []
spaced (lexeme ∷ lexemes) = (32 ∷ text_of lexeme) ++ spaced lexemes
