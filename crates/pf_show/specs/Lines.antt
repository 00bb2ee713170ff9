-- Lines of a reply: of each item one, with a newline behind it.
use Rattle.std.specs.Prelude.{ℕ, List, [], ◌∷◌, ◌++◌, codes, decimal, false}
use Rattle.std.specs.List.{flat_map}
use Rattle.pf_auto.specs.declared.merging.AutoTable.{AutoTable}
use Rattle.pf_decl.specs.declared.form.OptionLine.{OptionLine}
use Rattle.pf_print.specs.TableText.{table_text}
use Rattle.pf_shelf.specs.declared.decl.TableFlags.{TableFlags}

-- the bytes of lines
abbrev pub lines_text : List (List ℕ) → List ℕ
lines_text lines = flat_map (λ line. line ++ 10 ∷ []) lines

-- the lines of items
abbrev pub shown_by : {A : Type 0} → (A → List ℕ) → List A → List ℕ
shown_by line items = flat_map (λ item. line item ++ 10 ∷ []) items

-- a setting's line was made where it was read
abbrev pub option_line : OptionLine → List ℕ
option_line setting = setting.text

-- the tables that the optimiser made have these names, and no flags
abbrev pub automatic_name : ℕ → List ℕ
automatic_name number = codes "__automatic_" ++ decimal number

abbrev pub no_flags : TableFlags
no_flags = record { persist = false; constant = false; counters = false }

abbrev pub automatic_line : AutoTable → List ℕ
automatic_line table = table_text (automatic_name table.number) no_flags table.entries
