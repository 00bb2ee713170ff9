-- The tables of keywords as the code has them.
use Rattle.std.specs.Prelude.{ℕ, Bool, false, is_some, List, [], ◌∷◌, map, Option, None}
use Rattle.std.specs.Option.{option_and_then}
use Rattle.pf_syntax.specs.Symbols.{Symbol, Symbols, bare, quoted, mark, line_end, next_is}
use Rattle.pf_syntax.specs.Words.{Keyword, bare_text, meaning_in}
use Rattle.pf_syntax.specs.declared.keyword.Key.{Key}

abbrev pub keys_of : {K : Type 0} → List (Key K) → List (Keyword K)
keys_of {K} = map (λ (row : Key K). record { word = row.0.now; stands_for = row.1 })

-- the word without quotes that stands next
abbrev pub next_word : Symbols → Option (List ℕ)
next_word [] = None
next_word (symbol ∷ rest) = bare_text symbol

-- what stands behind the next symbol
abbrev pub behind : Symbols → Symbols
behind [] = []
behind (symbol ∷ rest) = rest
