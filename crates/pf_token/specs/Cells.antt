-- The bytes of a text with their places, once continued lines are joined. pf.conf(5), its introduction
use Rattle.std.specs.Prelude.{◌≡◌, ℕ, Bool, true, false, ◌+◌, ◌-◌, ◌^◌, ◌<◌, ◌≤◌, ◌&&◌, ◌==◌, not, List, [], ◌∷◌, Option, Some, None, length, drop, map, nat_lt, if◌then◌else◌}
use Rattle.std.specs.List.{list_all, list_any}
use Rattle.pf_base.specs.declared.fault.Place.{Place}
use Rattle.pf_token.specs.declared.cell.Cell.{Cell}

-- the place one line further down
abbrev pub below : Place → Place
below place = record place { line = place.line + 1 }

-- where the byte after this one stands
abbrev pub place_after : Place → ℕ → Place
place_after place byte = if byte == 10 then below place else place

-- A backslash right before a newline is taken out with the newline, also in comments and quotes. The line still counts.
unfoldable pub cells_from : Place → List ℕ → List Cell
cells_from place [] = []
cells_from place (byte ∷ []) = record { byte = byte; place = place } ∷ []
cells_from place (byte ∷ next ∷ rest) =
    if (byte == 92) && (next == 10) then cells_from (below place) rest
    else record { byte = byte; place = place } ∷ cells_from (place_after place byte) (next ∷ rest)

-- the bytes of a macro's value, all at the place where the macro is used
abbrev pub cells_at : Place → List ℕ → List Cell
cells_at place value = map (λ byte. record { byte = byte; place = place }) value

abbrev pub bytes_of : List Cell → List ℕ
bytes_of cells = map (λ cell. cell.byte) cells

-- the cells begin with none that passes the test
abbrev pub stops : (ℕ → Bool) → List Cell → Bool
stops test [] = true
stops test (cell ∷ cells) = not (test cell.byte)

-- the next cell
abbrev pub first_cell : List Cell → Option Cell
first_cell [] = None
first_cell (cell ∷ cells) = Some cell

-- a backslash and a newline come first
abbrev pub is_continued : List ℕ → Bool
is_continued [] = false
is_continued (byte ∷ []) = false
is_continued (byte ∷ next ∷ rest) = (byte == 92) && (next == 10)

-- the bytes from a place in the text on can be counted in lines
pub record CountsLines (text : List ℕ) (at line : ℕ) : Type 0 where
  pub in_text : at ≤ length text
  pub few : line + (length text - at) < 2 ^ 32

-- where reading stands in a text: at no continuation
pub record StandsIn (text : List ℕ) (at line : ℕ) : Type 0 where
  pub counts : CountsLines text at line
  pub past : is_continued (drop at text) ≡ false

-- a `$` stands in the value
abbrev pub has_dollar : List ℕ → Bool
has_dollar value = list_any (λ byte. byte == 36) value

-- what is left of a value in use: it has no `$`
pub record IsValueRest (value : List ℕ) (at : ℕ) : Type 0 where
  pub in_value : at ≤ length value
  pub plain : has_dollar (drop at value) ≡ false

-- the cells stand in files whose numbers are below this
abbrev pub are_in : ℕ → List Cell → Bool
are_in count cells = list_all (λ cell. nat_lt cell.place.file count) cells
