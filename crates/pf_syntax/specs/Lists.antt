-- Lists and brackets (pf.conf(5), GRAMMAR): one item or items in braces, each with a comma behind it or not; and items in
-- brackets with a comma between them or not. Lists don't nest, and no comma stands before a `)`.
use Rattle.std.specs.Prelude.{ℕ, Bool, List, [], ◌∷◌, ◌++◌, codes}
use Rattle.pf_syntax.specs.Symbols.{Symbols, next_is, is_mark}
use Rattle.pf_syntax.specs.Grammar.{Grammar, ◌>>=◌, give, sign, on_sign, until}
use Rattle.pf_syntax.specs.Words.{perhaps_sign}

abbrev pub at_sign : List ℕ → Symbols → Bool
at_sign text = next_is (is_mark text)

-- `item [","]`
abbrev pub with_comma : {A : Type 0} → Grammar A → Grammar A
with_comma item = do
  value ← item
  comma ← perhaps_sign (codes ",")
  give value

-- `item [","]` behind the items before it
abbrev pub more_step : {A : Type 0} → Grammar A → List A → Grammar (List A)
more_step item items = do
  next ← with_comma item
  give (items ++ next ∷ [])

-- `{ item [","] }`, up to a `}`, behind the items before them
abbrev pub more_items : {A : Type 0} → Grammar A → List A → Grammar (List A)
more_items item = until (at_sign (codes "}")) (more_step item)

-- `"{" item [","] { item [","] } "}"`, behind the opening brace
abbrev pub braced : {A : Type 0} → Grammar A → Grammar (List A)
braced item = do
  first ← with_comma item
  items ← more_items item (first ∷ [])
  closed ← sign (codes "}")
  give items

-- a list of items: one item, or one or more in braces
abbrev pub list_of : {A : Type 0} → Grammar A → Grammar (List A)
list_of item = on_sign (codes "{") (braced item) (do
  only ← item
  give (only ∷ []))

-- `[","] part`
abbrev pub behind_comma : {A : Type 0} → (A → Grammar A) → A → Grammar A
behind_comma part before = do
  comma ← perhaps_sign (codes ",")
  part before

-- `"(" part { [","] part } ")"`, each laid on the value so far
abbrev pub in_brackets : {A : Type 0} → (A → Grammar A) → A → Grammar A
in_brackets part none = do
  opened ← sign (codes "(")
  first ← part none
  last ← until (at_sign (codes ")")) (behind_comma part) first
  closed ← sign (codes ")")
  give last
