-- `table` (pf.conf(5), GRAMMAR, `table-rule`, and TABLES).
use Rattle.std.specs.Prelude.{ℕ, Bool, true, false, not, List, [], ◌∷◌, ◌++◌, Option, Some, None, codes}
use Rattle.pf_syntax.specs.Symbols.{Symbols, is_end, is_mark, next_are}
use Rattle.pf_syntax.specs.Grammar.{Grammar, ◌>>=◌, give, sign, on_sign, until, where_next}
use Rattle.pf_syntax.specs.Hosts.{table_name}
use Rattle.pf_syntax.specs.Lists.{at_sign, list_of}
use Rattle.pf_syntax.specs.Words.{Keyword, key, keyword, any_word, name, only_where, perhaps_sign}
use Rattle.pf_decl.specs.declared.form.TableForm.{TableForm}
use Rattle.pf_decl.specs.declared.form.TableItem.{TableItem}
use Rattle.pf_decl.specs.declared.keyword.TableWord.{TableWord}
use Rattle.pf_decl.specs.declared.keyword.TableWord.TheVariants.{Persist, Const, Counters, File}

-- a table of which only the name is known
abbrev pub blank_table : List ℕ → TableForm
blank_table name = record { name = name; persist = false; constant = false; counters = false; items = None; files = [] }

-- `["/" word]`
unfoldable pub mask : Grammar (Option (List ℕ))
mask = on_sign (codes "/") (do
  bits ← any_word
  give (Some bits)) (give None)

-- `["!"] word ["/" word]`
unfoldable pub entry : Grammar TableItem
entry = do
  negated ← perhaps_sign (codes "!")
  word ← any_word
  bits ← mask
  give (record { negated = negated; word = word; mask = bits })

-- `{ }`
abbrev pub at_no_entry : Symbols → Bool
at_no_entry = next_are (is_mark (codes "{")) (is_mark (codes "}"))

-- `"{" {entry [","]} "}"`: entries in braces, or none
unfoldable pub entries : Grammar (List TableItem)
entries = where_next at_no_entry (do
  opened ← sign (codes "{")
  closed ← sign (codes "}")
  give []) (list_of entry)

-- the entries of braces, behind those of the braces before
abbrev pub joined : Option (List TableItem) → List TableItem → List TableItem
joined None more = more
joined (Some items) more = items ++ more

abbrev pub braces : TableForm → Grammar TableForm
braces before = do
  more ← entries
  give (record before { items = Some (joined before.items more) })

-- the name of a file
abbrev pub file : Grammar (List ℕ)
file = name

unfoldable pub table_words : List (Keyword TableWord)
table_words =
    key (codes "persist") Persist ∷ key (codes "const") Const ∷ key (codes "counters") Counters ∷ key (codes "file") File ∷ []

-- what stands behind a keyword: each but `file` stands once
unfoldable pub table_behind : TableWord → TableForm → Grammar TableForm
table_behind Persist before = do
  once ← only_where (not before.persist)
  give (record before { persist = true })
table_behind Const before = do
  once ← only_where (not before.constant)
  give (record before { constant = true })
table_behind Counters before = do
  once ← only_where (not before.counters)
  give (record before { counters = true })
table_behind File before = do
  one ← file
  give (record before { files = before.files ++ one ∷ [] })

abbrev pub table_option : TableForm → Grammar TableForm
table_option before = do
  which ← keyword table_words
  table_behind which before

-- braces, or a keyword and what stands behind it
unfoldable pub table_part : TableForm → Grammar TableForm
table_part before = where_next (at_sign (codes "{")) (braces before) (table_option before)

-- `"<" word ">" {topt}` behind `table`
unfoldable pub table : Grammar TableForm
table = do
  opened ← sign (codes "<")
  name ← table_name
  until is_end table_part (blank_table name)
