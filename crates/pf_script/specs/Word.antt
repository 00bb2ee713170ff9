-- What single words of a script line say. Blanks are spaces and tabs.
use Rattle.std.specs.Prelude.{ℕ, Bool, false, ◌&&◌, ◌||◌, ◌==◌, List, [], ◌∷◌, length, Option, Some, None, codes, nat_le, if◌then◌else◌}
use Rattle.std.specs.List.{list_all}
use Rattle.std.specs.Result.{result_ok}
use Rattle.std.specs.Str.{bytes_eq}
use Rattle.pf_base.specs.Path.{read_path}
use Rattle.pf_base.specs.Text.{is_blank}
use Rattle.pf_base.specs.declared.kind.Level.{Level}
use Rattle.pf_base.specs.declared.kind.Level.TheVariants as level
use Rattle.pf_token.specs.Bytes.{is_name_byte}
use Rattle.pf_token.specs.declared.macros.Define.{Define}

-- the bytes that a line may have: 32 to 126 and the tab
abbrev pub is_plain : ℕ → Bool
is_plain byte = (nat_le 32 byte && nat_le byte 126) || byte == 9

-- the text behind its blanks
abbrev pub behind_blanks : List ℕ → List ℕ
behind_blanks [] = []
behind_blanks (byte ∷ text) = if is_blank byte then behind_blanks text else byte ∷ text

-- the text behind a word that it begins with
abbrev pub behind_word : List ℕ → List ℕ
behind_word [] = []
behind_word (byte ∷ text) = if is_blank byte then byte ∷ text else behind_word text

abbrev pub begins_with_dash : List ℕ → Bool
begins_with_dash [] = false
begins_with_dash (byte ∷ bytes) = byte == 45

-- the name of a file: a word that doesn't begin with `-`
abbrev pub file_of : List ℕ → Option (List ℕ)
file_of word = if begins_with_dash word then None else Some word

-- the bytes of a name: 1 to 63
abbrev pub is_short : List ℕ → Bool
is_short word = nat_le 1 (length word) && nat_le (length word) 63

-- a table goes by any word of at most 63 bytes
abbrev pub table_of : List ℕ → Option (List ℕ)
table_of word = if is_short word then Some word else None

-- a session's name has letters, digits, `_` and `-`
abbrev pub is_session_byte : ℕ → Bool
is_session_byte byte = is_name_byte byte || byte == 45

abbrev pub session_of : List ℕ → Option (List ℕ)
session_of word = if list_all is_session_byte word && is_short word then Some word else None

-- how far rulesets are optimised (pf.conf(5), set ruleset-optimization)
unfoldable pub level_of : List ℕ → Option Level
level_of word =
    if bytes_eq word (codes "none") then Some level.None
    else if bytes_eq word (codes "basic") then Some level.Basic
    else if bytes_eq word (codes "profile") then Some level.Profile
    else None

-- the path of a ruleset; where any name may stand, also one that begins with `_`
abbrev pub path_of : Bool → List ℕ → Option (List (List ℕ))
path_of any word = result_ok (read_path any word)

-- the first `=` of a word parts a macro's name from its value
abbrev pub name_in : List ℕ → List ℕ
name_in [] = []
name_in (byte ∷ bytes) = if byte == 61 then [] else byte ∷ name_in bytes

-- what stands behind the first `=`; None where there is none
abbrev pub value_in : List ℕ → Option (List ℕ)
value_in [] = None
value_in (byte ∷ bytes) = if byte == 61 then Some bytes else value_in bytes

-- a macro's value may have this many bytes
abbrev pub most_value : ℕ
most_value = 8192

-- a macro's name has letters, digits and `_`
abbrev pub is_macro_name : List ℕ → Bool
is_macro_name name = list_all is_name_byte name && is_short name

abbrev pub defined : List ℕ → Option (List ℕ) → Option Define
defined name None = None
defined name (Some value) =
    if is_macro_name name && nat_le (length value) most_value then Some (record { name = name; value = value }) else None

-- the macro of a word NAME=VALUE, of which VALUE may be empty (pfctl(8), -D)
abbrev pub define_of : List ℕ → Option Define
define_of word = defined (name_in word) (value_in word)
