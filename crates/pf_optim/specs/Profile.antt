-- Profiles: how often each rule of a ruleset was used (pf.conf(5), "set ruleset-optimization profile"). A profile is a text
-- of lines `PATH PLACE COUNT`, which single spaces separate. Empty lines and those that begin with `#` are passed over.
use Rattle.std.specs.Prelude.{◌≡◌, ℕ, ◌+◌, ◌≤◌, Bool, true, false, not, ◌&&◌, ◌==◌, ◌⊎◌, List, [], ◌∷◌, ◌++◌, length, map, Some}
use Rattle.std.specs.List.{AllZip, filter, find, list_any, range_with_len}
use Rattle.std.specs.Option.{option_map_or}
use Rattle.pf_base.specs.Decimal.{decimal_of}
use Rattle.pf_base.specs.Equality.{lists, numbers}
use Rattle.pf_base.specs.Path.{IsPathText}
use Rattle.pf_base.specs.Text.{fields_of, lines_of}
use Rattle.pf_optim.specs.declared.rows.Row.{Row}

-- the greatest place and the greatest count
abbrev pub most : ℕ
most = 4294967295

-- an empty line, or one that begins with `#`
abbrev pub is_passed_over : List ℕ → Bool
is_passed_over [] = true
is_passed_over (byte ∷ bytes) = byte == 35

-- three words tell of a row: a path, whose names may begin with `_`, a place from 1 on, and a count; leading zeros may stand
pub record TellOf (path place count : List ℕ) (row : Row) : Type 0 where
  pub named : IsPathText true row.path path
  pub placed : decimal_of most place ≡ Some row.place
  pub from_one : 1 ≤ row.place
  pub counted : decimal_of most count ≡ Some row.count

-- a line says a row: it has three words between single spaces, which tell of it
pub record Says (line : List ℕ) (row : Row) : Type 0 where
  pub path : List ℕ
  pub place : List ℕ
  pub count : List ℕ
  pub words : fields_of line ≡ path ∷ (place ∷ (count ∷ []))
  pub tells : TellOf path place count row

-- the lines that say something
abbrev pub said_lines : List (List ℕ) → List (List ℕ)
said_lines lines = filter (λ line. not (is_passed_over line)) lines

-- the row is about this place of this ruleset
abbrev pub is_about : List (List ℕ) → ℕ → Row → Bool
is_about path place row = (lists (lists numbers)).same path row.path && place == row.place

-- some row is about the same place of the same ruleset
abbrev pub is_told : List Row → Row → Bool
is_told rows row = list_any (is_about row.path row.place) rows

-- no row is about what one before it is about
abbrev pub AreApart : List Row → Type 0
AreApart [] = Unit {0}
AreApart (row ∷ rows) = (is_told rows row ≡ false) × AreApart rows

-- these lines say these rows
pub record SayRows (lines : List (List ℕ)) (rows : List Row) : Type 0 where
  pub said : AllZip Says (said_lines lines) rows
  pub apart : AreApart rows

-- the text is a profile with these rows
abbrev pub IsProfileText : List ℕ → List Row → Type 0
IsProfileText text rows = SayRows (lines_of text) rows

-- the line says a row about what one of these rows is about
pub record SaysAgain (rows : List Row) (line : List ℕ) : Type 0 where
  pub row : Row
  pub says : Says line row
  pub told : is_told rows row ≡ true

-- after lines that say these rows, a line has a fault: it isn't passed over, and says no row, or one about what a row before
-- it is about
pub record HasFault (rows : List Row) (line : List ℕ) : Type 0 where
  pub said : is_passed_over line ≡ false
  pub fault : ((row : Row) → Says line row → ⊥) ⊎ SaysAgain rows line

-- The line with this number, from 1, is the first with a fault: those before it say some rows. Every line counts.
pub record IsFaultAt (text : List ℕ) (number : ℕ) : Type 0 where
  pub before : List (List ℕ)
  pub line : List ℕ
  pub behind : List (List ℕ)
  pub is : lines_of text ≡ before ++ line ∷ behind
  pub counted : number ≡ length before + 1
  pub rows : List Row
  pub sound : SayRows before rows
  pub fault : HasFault rows line

-- the count of a place of a ruleset; one that no row is about counts 0
abbrev pub weight_at : List Row → List (List ℕ) → ℕ → ℕ
weight_at rows path place = option_map_or (λ row. row.count) (find (is_about path place) rows) 0

-- the weights of a ruleset with this many rules
abbrev pub weights_of : List Row → List (List ℕ) → ℕ → List ℕ
weights_of rows path count = map (weight_at rows path) (range_with_len 1 count)
