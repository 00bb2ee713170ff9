-- How a text is cut: into lines at newlines, into words at blanks, into fields at single spaces.
use Rattle.std.specs.Prelude.{◌≡◌, ℕ, Bool, true, false, ◌||◌, not, ◌==◌, List, [], ◌∷◌, ◌++◌, filter}
use Rattle.std.specs.List.{slice_split, list_all}

abbrev pub is_newline : ℕ → Bool
is_newline byte = byte == 10

abbrev pub is_space : ℕ → Bool
is_space byte = byte == 32

-- a space or a tab
abbrev pub is_blank : ℕ → Bool
is_blank byte = byte == 32 || byte == 9

abbrev pub is_nothing : List ℕ → Bool
is_nothing [] = true
is_nothing (byte ∷ bytes) = false

-- all parts but the last
abbrev pub but_last : {X : Type 0} → List X → List X
but_last [] = []
but_last (part ∷ []) = []
but_last (part ∷ next ∷ parts) = part ∷ but_last (next ∷ parts)

-- the last part
abbrev pub last_part : {X : Type 0} → List (List X) → List X
last_part [] = []
last_part (part ∷ []) = part
last_part (part ∷ next ∷ parts) = last_part (next ∷ parts)

-- the lines that a newline ends, without it
unfoldable pub whole_lines : List ℕ → List (List ℕ)
whole_lines text = but_last (slice_split is_newline text)

-- what stands behind the last newline
unfoldable pub unfinished : List ℕ → List ℕ
unfinished text = last_part (slice_split is_newline text)

-- bytes behind the last newline make one more line; where there are none, there is no line
abbrev pub line_of_rest : List ℕ → List (List ℕ)
line_of_rest [] = []
line_of_rest (byte ∷ bytes) = (byte ∷ bytes) ∷ []

-- the lines of a whole text
unfoldable pub lines_of : List ℕ → List (List ℕ)
lines_of text = whole_lines text ++ line_of_rest (unfinished text)

-- the words between blanks
unfoldable pub words_of : List ℕ → List (List ℕ)
words_of text = filter (λ word. not (is_nothing word)) (slice_split is_blank text)

-- the fields between single spaces: two spaces have an empty one between them
unfoldable pub fields_of : List ℕ → List (List ℕ)
fields_of text = slice_split is_space text

-- no newline stands in it
abbrev pub IsOneLine : List ℕ → Type 0
IsOneLine bytes = list_all (λ byte. not (is_newline byte)) bytes ≡ true

-- a first line and the rest behind its newline: with any bytes of that line that came before
pub record CutsLine (text line rest : List ℕ) : Type 0 where
  pub joined : text ≡ line ++ 10 ∷ rest
  pub one : IsOneLine line
  pub whole : (before : List ℕ) → IsOneLine before → whole_lines (before ++ text) ≡ (before ++ line) ∷ whole_lines rest
  pub behind : (before : List ℕ) → IsOneLine before → unfinished (before ++ text) ≡ unfinished rest

-- no newline in it, also behind bytes of a line that came before
pub record EndsNoLine (text : List ℕ) : Type 0 where
  pub one : IsOneLine text
  pub whole : (before : List ℕ) → IsOneLine before → whole_lines (before ++ text) ≡ []
  pub behind : (before : List ℕ) → IsOneLine before → unfinished (before ++ text) ≡ before ++ text

-- a text that goes on: its lines so far, and those of what stood unfinished with what follows
pub record LinesGoOn (text more : List ℕ) : Type 0 where
  pub whole : whole_lines (text ++ more) ≡ whole_lines text ++ whole_lines (unfinished text ++ more)
  pub behind : unfinished (text ++ more) ≡ unfinished (unfinished text ++ more)
  pub one : IsOneLine (unfinished text)

-- the first word of a text and what stands behind it
abbrev pub CutsWord : List ℕ → List ℕ → List ℕ → Type 0
CutsWord text word rest = words_of text ≡ word ∷ words_of rest
