-- Paths of rulesets: names separated by `/` (pf.conf(5), Anchors).
use Rattle.std.specs.Prelude.{◌≡◌, ℕ, ◌+◌, ◌≤◌, Bool, true, false, not, ◌&&◌, ◌||◌, ◌==◌, nat_lt, nat_le, if◌then◌else◌, List, [], ◌∷◌, ◌++◌, length, codes, Option, Some, None, Result, Ok, Err}
use Rattle.std.specs.Str.{bytes_eq}
use Rattle.std.specs.List.{list_all, join_with_byte, position, slice_split}
use Rattle.std.specs.Option.{option_or, option_map}
use Rattle.pf_base.specs.Name.{is_plain_byte}
use Rattle.pf_base.specs.Text.{is_nothing}
use Rattle.pf_base.specs.declared.path_fault.PathFault.{PathFault}
use Rattle.pf_base.specs.declared.path_fault.PathFault.TheVariants.{Empty, BadByte, Reserved, TooLong, TooDeep}

abbrev pub is_slash : ℕ → Bool
is_slash byte = byte == 47

-- `.` and `..` are no names
unfoldable pub is_dots : List ℕ → Bool
is_dots name = bytes_eq name (codes ".") || bytes_eq name (codes "..")

-- whether a name may stand in a path
unfoldable pub is_path_name : List ℕ → Bool
is_path_name name = list_all is_plain_byte name && not (is_dots name)

-- names that begin with `_` are those of anchors without a name
unfoldable pub is_reserved : List ℕ → Bool
is_reserved [] = false
is_reserved (byte ∷ bytes) = byte == 95

-- the text of a path: `/` for the main ruleset, else its names with `/` between them
unfoldable pub path_text : List (List ℕ) → List ℕ
path_text [] = codes "/"
path_text (name ∷ names) = join_with_byte 47 (name ∷ names)

-- a name that a text may have: 1 to 63 bytes, and reserved only where any name may stand
unfoldable pub is_written_name : Bool → List ℕ → Bool
is_written_name any name =
    nat_lt 0 (length name) && nat_le (length name) 63 && is_path_name name && (any || not (is_reserved name))

-- the names that a path has
pub record IsPath (names : List (List ℕ)) : Type 0 where
  pub few : length names ≤ 8
  pub named : list_all (is_written_name true) names ≡ true

-- a text is that of a path with these names
pub record IsPathText (any : Bool) (names : List (List ℕ)) (text : List ℕ) : Type 0 where
  pub written : text ≡ path_text names
  pub few : length names ≤ 8
  pub named : list_all (is_written_name any) names ≡ true

-- the first byte that no name has, by its position in the text, for a name that begins at `start`
unfoldable pub bad_byte : ℕ → List ℕ → Option PathFault
bad_byte start name =
    if is_dots name then Some (BadByte start)
    else option_map (λ i. BadByte (start + i)) (position (λ byte. not (is_plain_byte byte)) name)

-- the fault of a name that begins at a position of the text, where it has one
unfoldable pub name_fault : Bool → ℕ → List ℕ → Option PathFault
name_fault any start name =
    option_or (if is_nothing name then Some Empty else None)
    (option_or (bad_byte start name)
    (option_or (if not any && is_reserved name then Some Reserved else None)
    (if nat_lt 63 (length name) then Some (TooLong (length name)) else None)))

-- of names in a row the first fault from left to right
abbrev pub names_fault : Bool → ℕ → List (List ℕ) → Option PathFault
names_fault any start [] = None
names_fault any start (name ∷ names) =
    option_or (name_fault any start name) (names_fault any (start + length name + 1) names)

-- names without a fault are a path where there are no more than 8
unfoldable pub path_of_names : Option PathFault → List (List ℕ) → Result (List (List ℕ)) PathFault
path_of_names (Some fault) names = Err fault
path_of_names None names = if nat_lt 8 (length names) then Err (TooDeep (length names)) else Ok names

-- a name that is kept where it has no fault
abbrev pub checked_name : Option PathFault → List ℕ → Result (List ℕ) PathFault
checked_name (Some fault) name = Err fault
checked_name None name = Ok name

-- the names of what stands behind a name: none at the text's end
abbrev pub names_behind : Option (List ℕ) → List (List ℕ)
names_behind None = []
names_behind (Some rest) = slice_split is_slash rest

-- how many bytes stand behind a name, with the `/` before them
abbrev pub bytes_behind : Option (List ℕ) → ℕ
bytes_behind None = 0
bytes_behind (Some rest) = length rest + 1

-- what a text is read as: with `any` the names that begin with `_` may stand too
unfoldable pub read_path : Bool → List ℕ → Result (List (List ℕ)) PathFault
read_path any text =
    if bytes_eq text (codes "/") then Ok []
    else path_of_names (names_fault any 0 (slice_split is_slash text)) (slice_split is_slash text)

-- the names of a path below another, one after the other
unfoldable pub joined_path : List (List ℕ) → List (List ℕ) → Result (List (List ℕ)) PathFault
joined_path path below =
    if nat_lt 8 (length path + length below) then Err (TooDeep (length path + length below)) else Ok (path ++ below)

-- the path with this name added last, where there is one
unfoldable pub child_path : List (List ℕ) → List ℕ → Option (List (List ℕ))
child_path path name = if nat_lt (length path) 8 && is_path_name name then Some (path ++ name ∷ []) else None
