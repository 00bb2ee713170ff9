-- What a command makes of one table, and what it is told (pfctl(8), Tables).
use Rattle.std.specs.Prelude.{◌≡◌, ℕ, Bool, false, not, ◌&&◌, ◌||◌, List, [], ◌∷◌, ◌++◌, length, Option, Some, None, Result, Ok, Err, is_some, take, nat_lt, if◌then◌else◌}
use Rattle.std.specs.List.{filter}
use Rattle.std.specs.FinMap as finite
use Rattle.pf_addr.specs.declared.prefix.Prefix.{Prefix}
use Rattle.pf_addr.specs.PrefixOrder.{prefix_eq}
use Rattle.pf_table.specs.declared.entry.Entry.{Entry}
use Rattle.pf_table.specs.Table.{Signs, table_of, entries_of, is_sign}
use Rattle.pf_shelf.specs.declared.decl.Shelved.{Shelved}
use Rattle.pf_shelf.specs.declared.change.ChangeKind.{ChangeKind}
use Rattle.pf_shelf.specs.declared.change.ChangeKind.TheVariants.{Add, Delete, Replace, Flush}
use Rattle.pf_shelf.specs.declared.change.Counts.{Counts}
use Rattle.pf_shelf.specs.declared.change.TableFault.{TableFault}
use Rattle.pf_shelf.specs.declared.change.TableFault.TheVariants.{Missing, Const, Full}
use Rattle.pf_shelf.specs.Shelf.{Tables}

-- whether the table has the entry, with its sign
abbrev pub has_entry : Signs → Entry → Bool
has_entry signs e = is_sign (finite.get signs e.prefix) e.negated

-- whether a word is the entry of this prefix with this sign
abbrev pub is_named : List Entry → Prefix → Option Bool → Bool
is_named [] p sign = false
is_named (w ∷ words) p sign = (prefix_eq p w.prefix && is_sign sign w.negated) || is_named words p sign

-- The table after a change. Words are taken from the left: to add a prefix that is there changes nothing, whatever its sign,
-- and to delete one with the other sign changes nothing.
abbrev pub changed : ChangeKind → List Entry → Signs → Signs
changed Add words signs = table_of (entries_of signs ++ words)
changed Delete words signs = finite.retain_keys signs (λ p. not (is_named words p (finite.get signs p)))
changed Replace words signs = table_of words
changed Flush words signs = finite.empty

-- the entries that the others lack, also where they have the prefix with the other sign
abbrev pub lacking : Signs → Signs → List Entry
lacking signs others = filter (λ e. not (has_entry others e)) (entries_of signs)

-- what is told of a change, of whatever kind: the entries that are new, and those that are gone
abbrev pub counts : Signs → Signs → Counts
counts old new = record { added = length (lacking new old); deleted = length (lacking old new) }

-- where the table would have more entries than there is room for, it isn't changed
abbrev pub fitted : Signs → Signs → ℕ → Result Counts TableFault
fitted old new room = if nat_lt room (finite.len new) then Err (Full (finite.len new)) else Ok (counts old new)

-- the answer to a change, where there is memory
abbrev pub answer : Option Shelved → ChangeKind → List Entry → ℕ → Result Counts TableFault
answer None kind words room = Err Missing
answer (Some found) kind words room = if found.flags.constant then Err Const else fitted found.table (changed kind words found.table) room

-- whether it is there and constant
abbrev pub is_const : Option Shelved → Bool
is_const None = false
is_const (Some found) = found.flags.constant

-- the tables with the table of this name changed
abbrev pub with_change : Tables → List ℕ → ChangeKind → List Entry → Option Shelved → Tables
with_change tables name kind words None = tables
with_change tables name kind words (Some found) = finite.insert tables name (record found { table = changed kind words found.table })

abbrev pub changed_at : Tables → List ℕ → ChangeKind → List Entry → Tables
changed_at tables name kind words = with_change tables name kind words (finite.get tables name)

-- the entries that the others have too
abbrev pub having : Signs → Signs → List Entry
having signs others = filter (has_entry others) (entries_of signs)

-- whether the table has no entry of the word's prefix
abbrev pub is_fresh : Signs → Entry → Bool
is_fresh signs e = not (is_some (finite.get signs e.prefix))

-- the table with the first so many of the words added
pub record HasFront (old : Signs) (words : List Entry) (new : Signs) : Type 0 where
  pub count : ℕ
  pub is : new ≡ table_of (entries_of old ++ take count words)
