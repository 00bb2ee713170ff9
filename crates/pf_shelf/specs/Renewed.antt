-- The tables that a load leaves (pf.conf(5), TABLES; pfctl(8), -f).
use Rattle.std.specs.Prelude.{ℕ, Bool, List, ◌++◌, map, Option, Some, None, is_some, if◌then◌else◌}
use Rattle.std.specs.List.{filter}
use Rattle.std.specs.FinMap as finite
use Rattle.pf_table.specs.Table.{Signs, table_of}
use Rattle.pf_shelf.specs.declared.decl.TableFlags.{TableFlags}
use Rattle.pf_shelf.specs.declared.decl.TableDecl.{TableDecl}
use Rattle.pf_shelf.specs.declared.decl.Shelved.{Shelved}
use Rattle.pf_shelf.specs.Shelf.{Tables}

abbrev pub flags_of : TableDecl → TableFlags
flags_of decl = record { persist = decl.persist; constant = decl.constant; counters = decl.counters }

-- the entries that stand under a name, none where there is no such table
abbrev pub standing : Option Shelved → Signs
standing None = finite.empty
standing (Some found) = found.table

-- a declared table with its name: with braces or a file it has the entries of these alone, else those that stand there
abbrev pub declared : Tables → TableDecl → List ℕ × Shelved
declared tables decl = (decl.name, record { flags = flags_of decl; table = if decl.filled then table_of decl.entries else standing (finite.get tables decl.name) })

abbrev pub persists : List ℕ × Shelved → Bool
persists t = t.1.flags.persist

-- the declared tables, and of those that stand the others with the persist flag
abbrev pub renewed : Tables → List TableDecl → Tables
renewed tables decls = finite.from_entries (map (declared tables) decls ++ filter persists (finite.entries tables))

-- the tables with one more, where they have none of its name
abbrev pub put_where_new : Tables → List ℕ → Shelved → Tables
put_where_new tables name shelved = if is_some (finite.get tables name) then tables else finite.insert tables name shelved

-- the same of a table that has the persist flag
abbrev pub put_kept : Tables → List ℕ → Shelved → Tables
put_kept tables name shelved = if shelved.flags.persist then put_where_new tables name shelved else tables
