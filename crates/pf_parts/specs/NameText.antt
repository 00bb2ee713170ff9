-- How a name is printed.
use Rattle.std.specs.Prelude.{ℕ, Bool, false, ◌&&◌, not, ◌==◌, nat_le, List, [], ◌∷◌, ◌++◌, if◌then◌else◌, codes}
use Rattle.std.specs.List.{list_all, list_any}
use Rattle.std.specs.Str.{bytes_eq}

-- A byte of the words of a configuration (pf.conf(5), its introduction): from 33 to 126, and no sign, no `#` and
-- neither of the quotes.
abbrev pub is_word_byte : ℕ → Bool
is_word_byte byte = nat_le 33 byte && nat_le byte 126 && not (list_any (λ other. byte == other) (34 ∷ 39 ∷ codes "#(){}<>!=/,"))

-- it begins with `$`, as the use of a macro does
abbrev pub begins_use : List ℕ → Bool
begins_use [] = false
begins_use (byte ∷ bytes) = byte == 36

-- A name that is read back as itself without quotes: a word that uses no macro, and not the keyword `any`.
unfoldable pub is_bare : List ℕ → Bool
is_bare name = list_all is_word_byte name && not (begins_use name) && not (bytes_eq name (codes "any"))

-- in double quotes
abbrev pub quoted : List ℕ → List ℕ
quoted text = 34 ∷ text ++ 34 ∷ []

abbrev pub name_text : List ℕ → List ℕ
name_text name = if is_bare name then name else quoted name
