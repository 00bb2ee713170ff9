-- Texts of parts, each of which may be left out.
use Rattle.std.specs.Prelude.{ℕ, Bool, List, [], ◌++◌, Option, Some, None, is_some, if◌then◌else◌, codes, decimal}
use Rattle.std.specs.List.{filter_map, join_by, list_any}
use Rattle.std.specs.Option.{option_map}

-- those that stand, with this between them
abbrev pub joined : List ℕ → List (Option (List ℕ)) → List ℕ
joined between parts = join_by (λ part. part) between (filter_map (λ part. part) parts)

-- a part with a space before it, where it stands
abbrev pub spaced : Option (List ℕ) → List ℕ
spaced None = []
spaced (Some part) = codes " " ++ part

-- in brackets those that stand, where one does
abbrev pub in_brackets : List (Option (List ℕ)) → Option (List ℕ)
in_brackets parts = if list_any is_some parts then Some (codes "(" ++ joined (codes ", ") parts ++ codes ")") else None

-- a word that stands where the test holds
abbrev pub word_if : Bool → List ℕ → Option (List ℕ)
word_if stands word = if stands then Some word else None

-- a word with a number, where there is one
abbrev pub with_number : List ℕ → Option ℕ → Option (List ℕ)
with_number word number = option_map (λ n. word ++ codes " " ++ decimal n) number

-- a word with one text, or with two in brackets
abbrev pub with_pair : List ℕ → List ℕ → Option (List ℕ) → List ℕ
with_pair word first None = word ++ codes " " ++ first
with_pair word first (Some second) = word ++ codes " (" ++ first ++ codes ", " ++ second ++ codes ")"
