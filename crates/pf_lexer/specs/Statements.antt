-- How tokens make statements. pf.conf(5), its introduction and ANCHORS
use Rattle.std.specs.Prelude.{◌≡◌, ℕ, ◌+◌, ◌-◌, ◌<◌, Bool, true, false, ◌&&◌, List, [], ◌∷◌, ◌++◌, Option, length, fold, codes, if◌then◌else◌}
use Rattle.pf_token.specs.declared.cell.Cell.{Cell}
use Rattle.pf_lexer.specs.declared.statement.Close.{Close}
use Rattle.pf_lexer.specs.declared.statement.Close.TheVariants.{End, Line, Body, Long}
use Rattle.pf_token.specs.declared.token.Lexeme.{Lexeme}
use Rattle.pf_token.specs.Kinds.{is_bare, is_newline, is_sign}
use Rattle.pf_token.specs.Pieces.{Next, NoMore}

-- `anchor` is the first token
abbrev pub begins_anchor : List Lexeme → Bool
begins_anchor [] = false
begins_anchor (first ∷ rest) = is_bare (codes "anchor") first

-- how many list braces are open behind one more token: a `}` where none is open closes nothing
abbrev pub depth_after : ℕ → Lexeme → ℕ
depth_after depth lexeme = if is_sign 123 lexeme then depth + 1 else (if is_sign 125 lexeme then depth - 1 else depth)

-- how many list braces are open behind these tokens
abbrev pub depth_of : List Lexeme → ℕ
depth_of lexemes = fold depth_after 0 lexemes

-- the most tokens of a statement
abbrev pub most_tokens : ℕ
most_tokens = 16384

-- the next token is no newline
abbrev pub NoNewline : (List ℕ → Option (List ℕ)) → List Cell → Type 0
NoNewline values cells = (lexeme : Lexeme) (after : List Cell) → Next values cells lexeme after → is_newline lexeme ≡ false

-- A token of a statement that begins with these: it is no newline, and it opens no body, which a `{` does where the
-- statement begins with the word `anchor` and a newline comes next.
pub record IsTaken (values : List ℕ → Option (List ℕ)) (before : List Lexeme) (cells : List Cell) (lexeme : Lexeme) (next : List Cell) : Type 0 where
  pub comes : Next values cells lexeme next
  pub no_newline : is_newline lexeme ≡ false
  pub no_body : (begins_anchor before && is_sign 123 lexeme) ≡ true → NoNewline values next

-- The end of a statement that begins with the tokens `before`: all its tokens, what ends it, and the cells behind it.
pub data Ends (values : List ℕ → Option (List ℕ)) : List Lexeme → List Cell → List Lexeme → Close → List Cell → Type 0 where
  -- the end of the file ends it
  at_end : {before : List Lexeme} {cells : List Cell}
      → NoMore values cells
      → Ends values before cells before End []
  -- a newline ends it, except inside list braces, where it is skipped
  at_newline : {before : List Lexeme} {cells after : List Cell} {newline : Lexeme}
      → Next values cells newline after
      → is_newline newline ≡ true
      → depth_of before ≡ 0
      → Ends values before cells before Line after
  skipped : {before lexemes : List Lexeme} {cells next after : List Cell} {newline : Lexeme} {close : Close}
      → Next values cells newline next
      → is_newline newline ≡ true
      → 0 < depth_of before
      → Ends values before next lexemes close after
      → Ends values before cells lexemes close after
  -- in a statement that begins with the word `anchor`, a `{` with a newline next to it opens a body and ends it
  at_body : {before : List Lexeme} {cells next after : List Cell} {brace newline : Lexeme}
      → begins_anchor before ≡ true
      → Next values cells brace next
      → is_sign 123 brace ≡ true
      → Next values next newline after
      → is_newline newline ≡ true
      → Ends values before cells before Body after
  -- no more than the first token over the most is looked at
  too_long : {before : List Lexeme} {cells next : List Cell} {lexeme : Lexeme}
      → IsTaken values before cells lexeme next
      → length before ≡ most_tokens
      → Ends values before cells (before ++ lexeme ∷ []) Long []
  taken : {before lexemes : List Lexeme} {cells next after : List Cell} {lexeme : Lexeme} {close : Close}
      → IsTaken values before cells lexeme next
      → length before < most_tokens
      → Ends values (before ++ lexeme ∷ []) next lexemes close after
      → Ends values before cells lexemes close after

-- a statement at the front of the cells
abbrev pub IsStatement : (List ℕ → Option (List ℕ)) → List Cell → List Lexeme → Close → List Cell → Type 0
IsStatement values cells lexemes close after = Ends values [] cells lexemes close after
