-- Paths that begin with a path, and the names of the children there.
use Rattle.std.specs.Prelude.{ℕ, Bool, true, false, ◌&&◌, List, [], ◌∷◌, find, map, Option, Some, None, if◌then◌else◌}
use Rattle.std.specs.Ordering.{is_lt}
use Rattle.std.specs.Option.{option_map_or}
use Rattle.std.specs.List.{filter_map}
use Rattle.std.specs.Str.{bytes_eq}
use Rattle.std.specs.FinMap as fin
use Rattle.pf_base.specs.Path.{is_reserved}
use Rattle.pf_tree.specs.Order.{name_cmp, path_cmp}

-- whether a path begins with another one
abbrev pub begins : List (List ℕ) → List (List ℕ) → Bool
begins names [] = true
begins [] (name ∷ path) = false
begins (first ∷ names) (name ∷ path) = bytes_eq first name && begins names path

-- the name behind a path that another path begins with
abbrev pub name_behind : List (List ℕ) → List (List ℕ) → Option (List ℕ)
name_behind [] [] = None
name_behind [] (name ∷ names) = Some name
name_behind (first ∷ path) [] = None
name_behind (first ∷ path) (name ∷ names) = if bytes_eq first name then name_behind path names else None

-- whether a path stands at or below a child of another whose name begins with `_`
abbrev pub is_nameless_below : List (List ℕ) → List (List ℕ) → Bool
is_nameless_below path at = option_map_or is_reserved (name_behind path at) false

-- names in byte order, each once
abbrev pub in_byte_order : List (List ℕ) → List (List ℕ)
in_byte_order names = fin.keys (fin.from_entries {R = name_cmp} (map (λ name. (name, tt {0})) names))

-- the child names of a path: the names that stand behind it in paths of the map
abbrev pub child_names : {P : Type 0} → fin.FinMap path_cmp P → List (List ℕ) → List (List ℕ)
child_names payloads path = in_byte_order (filter_map (name_behind path) (fin.keys payloads))

-- whether a name stands behind another in byte order; every name where there is none
abbrev pub is_after : Option (List ℕ) → List ℕ → Bool
is_after None name = true
is_after (Some last) name = is_lt (name_cmp last name)

-- the first child name behind the given one
abbrev pub next_name : {P : Type 0} → fin.FinMap path_cmp P → List (List ℕ) → Option (List ℕ) → Option (List ℕ)
next_name payloads path after = find (is_after after) (child_names payloads path)
