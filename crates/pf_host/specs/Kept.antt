-- How addresses are kept: each with its name, and whether it is the first of its family of its interface.
use Rattle.std.specs.Prelude.{◌≡◌, ℕ, Bool, true, ◌&&◌, ◌||◌, not, List, filter, map}
use Rattle.std.specs.List.{list_all, list_any}
use Rattle.std.specs.Str.{bytes_eq}
use Rattle.pf_addr.specs.Prefix.{contains}
use Rattle.pf_addr.specs.declared.addr.Addr.{Addr}
use Rattle.pf_addr.specs.declared.ifaces.DynIf.{DynIf}
use Rattle.pf_addr.specs.declared.parse.Masked.{Masked}
use Rattle.pf_host.specs.declared.entry.Entry.{Entry}
use Rattle.pf_host.specs.declared.row.Row.{Row}
use Rattle.pf_host.specs.Addresses.{addresses_listed, first_of_each, prefix_listed}
use Rattle.pf_host.specs.Rows.{is_listed}

-- the address of an entry
abbrev pub shown : Row Entry → Row Masked
shown row = record { name = row.name; value = row.value.address }

abbrev pub is_first : Row Entry → Bool
is_first row = row.value.first

-- the entry is asked for: with `first` only the first ones
abbrev pub is_chosen : Bool → Entry → Bool
is_chosen first entry = not first || entry.first

-- the first ones are marked, and each name is listed
pub record AreKept (rows : List (Row Entry)) (ifaces : List (List ℕ)) : Type 0 where
  pub firsts : map shown (filter is_first rows) ≡ first_of_each (map shown rows)
  pub listed : list_all (λ row. is_listed ifaces row.name) rows ≡ true

-- the address is one that is asked for of this interface
abbrev pub holds_own : List (Row Masked) → DynIf → Addr → List ℕ → Bool
holds_own rows what addr iface =
    list_any (λ row. bytes_eq row.name iface && contains (prefix_listed what.network row.value) addr) (addresses_listed what.first rows)
