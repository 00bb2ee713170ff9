-- Words that have at least one byte: those of the tokens, and those of the entries in a table's braces.
use Rattle.std.specs.Prelude.{ℕ, Bool, true, nat_le, List, [], length, Option, Some, None}
use Rattle.std.specs.List.{list_all}
use Rattle.pf_syntax.specs.Symbols.{Symbol, Symbols, bare, quoted, mark, line_end}
use Rattle.pf_decl.specs.declared.form.TableForm.{TableForm}
use Rattle.pf_decl.specs.declared.form.TableItem.{TableItem}

abbrev pub has_bytes : List ℕ → Bool
has_bytes word = nat_le 1 (length word)

-- a word without quotes has a byte
abbrev pub symbol_has_bytes : Symbol → Bool
symbol_has_bytes (bare text) = has_bytes text
symbol_has_bytes (quoted text) = true
symbol_has_bytes (mark text) = true
symbol_has_bytes line_end = true

abbrev pub symbols_have_bytes : Symbols → Bool
symbols_have_bytes symbols = list_all symbol_has_bytes symbols

abbrev pub entry_has_bytes : TableItem → Bool
entry_has_bytes entry = has_bytes entry.word

-- the word behind `/`, where one stands
abbrev pub text_has_bytes : Option (List ℕ) → Bool
text_has_bytes None = true
text_has_bytes (Some text) = has_bytes text

abbrev pub mask_has_bytes : TableItem → Bool
mask_has_bytes entry = text_has_bytes entry.mask

-- the entries of all braces: none where no braces stand
abbrev pub entries_in : Option (List TableItem) → List TableItem
entries_in None = []
entries_in (Some entries) = entries

abbrev pub entries_of : TableForm → List TableItem
entries_of table = entries_in table.items
