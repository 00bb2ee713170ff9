-- The lines of the declared tables of a ruleset, by their names in byte order.
use Rattle.std.specs.Prelude.{ℕ, List, Option, map}
use Rattle.std.specs.FinMap as finite
use Rattle.std.specs.Option.{option_map}
use Rattle.pf_print.specs.TableText.{table_text}
use Rattle.pf_shelf.specs.Shelf.{Tables}
use Rattle.pf_shelf.specs.declared.decl.Shelved.{Shelved}
use Rattle.pf_table.specs.Table.{entries_of}

-- a table's line: its name, its flags and its entries
abbrev pub declared_line : List ℕ → Shelved → List ℕ
declared_line name shelved = table_text name shelved.flags (entries_of shelved.table)

abbrev pub declared_lines : Tables → List (List ℕ)
declared_lines tables = map (λ (table : List ℕ × Shelved). declared_line table.0 table.1) (finite.entries tables)

-- the line of the table of this name, where there is one
abbrev pub line_at : Tables → List ℕ → Option (List ℕ)
line_at tables name = option_map (declared_line name) (finite.get tables name)
