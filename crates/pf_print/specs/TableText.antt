-- How a table is printed with its entries (pf.conf(5), TABLES and GRAMMAR, `table-rule`).
use Rattle.std.specs.Prelude.{ℕ, List, [], ◌∷◌, ◌++◌, Some, codes}
use Rattle.std.specs.List.{join_by}
use Rattle.pf_addr.specs.PrefixText.{prefix_text}
use Rattle.pf_parts.specs.Parts.{word_if}
use Rattle.pf_shelf.specs.declared.decl.TableFlags.{TableFlags}
use Rattle.pf_table.specs.declared.entry.Entry.{Entry}
use Rattle.pf_print.specs.HostText.{text_if}
use Rattle.pf_print.specs.RuleText.{parts_text}

-- a negated one has a `!` before it
abbrev pub entry_text : Entry → List ℕ
entry_text entry = text_if entry.negated (codes "! ") ++ prefix_text entry.prefix

-- in braces with commas between them
unfoldable pub entries_text : List Entry → List ℕ
entries_text [] = codes "{ }"
entries_text (entry ∷ entries) = codes "{ " ++ join_by entry_text (codes ", ") (entry ∷ entries) ++ codes " }"

-- the name, the flags that are set, and the entries
unfoldable pub table_text : List ℕ → TableFlags → List Entry → List ℕ
table_text name flags entries = codes "table <" ++ name ++ codes ">" ++ parts_text (
    word_if flags.persist (codes "persist")
    ∷ word_if flags.constant (codes "const")
    ∷ word_if flags.counters (codes "counters")
    ∷ Some (entries_text entries)
    ∷ [])
