-- A map of paths, made of what stands at a node itself and of the maps of its children.
use Rattle.std.specs.Prelude.{ℕ, List, [], ◌∷◌, ◌++◌, map, Option, Some, None}
use Rattle.std.specs.List.{flat_map}
use Rattle.std.specs.FinMap as fin
use Rattle.pf_tree.specs.Order.{path_cmp}

module _ {X : Type 0} where
  -- what stands at the path without names
  abbrev pub own_entry : Option X → List (List (List ℕ) × X)
  own_entry None = []
  own_entry (Some x) = ([], x) ∷ []

  -- entries by the paths from the parent of the node that has them: its name stands in front
  abbrev pub entries_under : List ℕ → List (List (List ℕ) × X) → List (List (List ℕ) × X)
  entries_under name entries = map (λ e. (name ∷ e.0, e.1)) entries

module _ {X B : Type 0} (map_of : B → fin.FinMap path_cmp X) where
  -- the entries at and below a child
  abbrev pub entries_below : List ℕ × B → List (List (List ℕ) × X)
  entries_below child = entries_under child.0 (fin.entries (map_of child.1))

  -- what stands at the node itself and, by their names in front, at and below its children
  abbrev pub grown : Option X → List (List ℕ × B) → fin.FinMap path_cmp X
  grown own children = fin.from_entries (own_entry own ++ flat_map entries_below children)
