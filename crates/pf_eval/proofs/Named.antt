-- The table that a rule names: its own ruleset's, else the main one's.
use Rattle.std.proofs.Common.{◌≡◌, ℕ, List, [], Option, Some, None, refl, sym, ap, ◌∙◌}
use Rattle.std.specs.FinMap as fin
use Rattle.std.specs.Option.{option_map, option_map_or, option_or}
use Rattle.pf_eval.specs.Rulesets.{entries_named, tables_in}
use Rattle.pf_shelf.specs.Shelf.{Tables, name_cmp}
use Rattle.pf_shelf.specs.declared.decl.Shelved.{Shelved}
use Rattle.pf_table.specs.Table.{Signs, entries_of}
use Rattle.pf_table.specs.declared.entry.Entry.{Entry}

abbrev entries_in : Option Shelved → Option Shelved → List Entry
entries_in own main = option_map_or (λ (found : Shelved). entries_of found.table) (option_or own main) []

table_is : (one : Shelved) (table : Signs) → Some one.table ≡ Some table → one.table ≡ table
table_is one table e = cc

own_first : (own main : Option Shelved) (table : Signs) → Some table ≡ option_map (λ (found : Shelved). found.table) own → entries_in own main ≡ entries_of table
own_first None main table e = absurd cc
own_first (Some found) main table e = ap entries_of (table_is found table (sym e))

main_next : (own main : Option Shelved) → None ≡ option_map (λ (found : Shelved). found.table) own → entries_in own main ≡ option_map_or (λ (found : Shelved). entries_of found.table) main []
main_next None main e = refl
main_next (Some found) main e = absurd cc

main_there : (main : Option Shelved) (table : Signs) → Some table ≡ option_map (λ (found : Shelved). found.table) main → option_map_or (λ (found : Shelved). entries_of found.table) main [] ≡ entries_of table
main_there None table e = absurd cc
main_there (Some found) table e = ap entries_of (table_is found table (sym e))

none_there : (main : Option Shelved) → None ≡ option_map (λ (found : Shelved). found.table) main → option_map_or (λ (found : Shelved). entries_of found.table) main [] ≡ []
none_there None e = refl
none_there (Some found) e = absurd cc

-- its own
pub named_own : (own main : Tables) (name : List ℕ) (table : Signs) → Some table ≡ option_map (λ (found : Shelved). found.table) (fin.get own name) → entries_named own main name ≡ entries_of table
named_own own main name table e = own_first (fin.get own name) (fin.get main name) table e

-- the main ruleset's
pub named_main : (own main : Tables) (name : List ℕ) (table : Signs) → None ≡ option_map (λ (found : Shelved). found.table) (fin.get own name) → Some table ≡ option_map (λ (found : Shelved). found.table) (fin.get main name) → entries_named own main name ≡ entries_of table
named_main own main name table none e =
    main_next (fin.get own name) (fin.get main name) none ∙ main_there (fin.get main name) table e

-- none
pub named_nowhere : (own main : Tables) (name : List ℕ) → None ≡ option_map (λ (found : Shelved). found.table) (fin.get own name) → None ≡ option_map (λ (found : Shelved). found.table) (fin.get main name) → entries_named own main name ≡ []
named_nowhere own main name none e = main_next (fin.get own name) (fin.get main name) none ∙ none_there (fin.get main name) e

-- where there is no main ruleset
pub named_without_main : (own : Tables) (name : List ℕ) → None ≡ option_map (λ (found : Shelved). found.table) (fin.get own name) → entries_named own (tables_in None) name ≡ []
named_without_main own name none =
    named_nowhere own (tables_in None) name none (ap (option_map (λ (found : Shelved). found.table)) (sym (fin.get-empty name_cmp name)))
