-- The declared tables of a ruleset (pf.conf(5), TABLES).
use Rattle.std.specs.Prelude.{ℕ, ◌+◌, Bool, List, [], ◌∷◌, refl}
use Rattle.std.specs.Coded.{Coded, code_by, coded×, coded_list, coded_ℕ, coded_bool}
use Rattle.std.specs.FinMap as finite
use Rattle.std.specs.declared.cmp.Ordering.{Ordering}
use Rattle.std.specs.Ordering.{nat_cmp}
use Rattle.std.specs.Cmp.Lexicographic.{slice_cmp}
use Rattle.pf_table.specs.Table.{Signs, signs_code}
use Rattle.pf_shelf.specs.declared.decl.Shelved.{Shelved}

-- names in byte order
abbrev pub name_cmp : List ℕ → List ℕ → Ordering
name_cmp = slice_cmp nat_cmp

-- the tables by their names
abbrev pub Tables : Type 0
Tables = finite.FinMap name_cmp Shelved

-- a table with its flags is stored as the three flags and the signs of its prefixes
abbrev pub shelved_code : Coded Shelved
shelved_code =
    code_by ((Bool × (Bool × Bool)) × Signs) (coded× (coded× coded_bool (coded× coded_bool coded_bool)) signs_code)
    (λ s. ((s.flags.persist, (s.flags.constant, s.flags.counters)), s.table))
    (λ p. record { flags = record { persist = p.0.0; constant = p.0.1.0; counters = p.0.1.1 }; table = p.1 })
    (λ _. refl)

abbrev pub tables_code : Coded Tables
tables_code = finite.code (coded_list coded_ℕ) shelved_code

-- the number of entries of a list of tables
abbrev pub entries_in : List (List ℕ × Shelved) → ℕ
entries_in [] = 0
entries_in (t ∷ rest) = finite.len t.1.table + entries_in rest

-- the number of entries of all tables
abbrev pub total : Tables → ℕ
total tables = entries_in (finite.entries tables)
