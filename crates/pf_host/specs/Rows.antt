-- Lists of names with what each stands for.
use Rattle.std.specs.Prelude.{ℕ, List, [], Bool, filter, map}
use Rattle.std.specs.BTreeMap.{is_at}
use Rattle.std.specs.Cmp.Lexicographic.{slice_cmp}
use Rattle.std.specs.List.{list_any}
use Rattle.std.specs.Map.{lookup}
use Rattle.std.specs.Option.{unwrap_or}
use Rattle.std.specs.Ordering.{nat_cmp}
use Rattle.std.specs.Str.{bytes_eq}
use Rattle.pf_host.specs.declared.row.Row.{Row}

-- what the rows with this name stand for, in their order
abbrev pub values_of : {T : Type 0} → List (Row T) → List ℕ → List T
values_of rows name = map (λ row. row.value) (filter (λ row. bytes_eq row.name name) rows)

-- the name has a row
abbrev pub has_row : {T : Type 0} → List (Row T) → List ℕ → Bool
has_row rows name = list_any (λ row. bytes_eq row.name name) rows

-- the name is one of these
abbrev pub is_listed : List (List ℕ) → List ℕ → Bool
is_listed names name = list_any (λ known. bytes_eq known name) names

-- the name is one of an ordered set
abbrev pub is_key : List (List ℕ) → List ℕ → Bool
is_key keys name = list_any (is_at (slice_cmp nat_cmp name)) keys

-- the values that an ordered map has at a name, none where it has no entry
abbrev pub values_at : {T : Type 0} → List (List ℕ × List T) → List ℕ → List T
values_at entries name = unwrap_or (lookup (is_at (slice_cmp nat_cmp name)) entries) []
