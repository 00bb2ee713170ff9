-- Places added to those to which calls lead.
use Rattle.std.specs.Prelude.{◌≡◌, ℕ, ◌<◌, ◌⊎◌, false, List, [], ◌∷◌, ◌++◌, length, Contains, slice_index_or}
use Rattle.pf_base.specs.Path.{is_reserved}
use Rattle.pf_calls.specs.declared.row.CallRow.{CallRow}
use Rattle.pf_calls.specs.Calls.{graph_of}
use Rattle.pf_calls.specs.Numbered.{path_at}

-- a path is a child of another that a wildcard leads to
pub record IsChild (at path : List (List ℕ)) : Type 0 where
  pub name : List ℕ
  pub is : path ≡ at ++ name ∷ []
  pub named : is_reserved name ≡ false

-- to the old places those of the paths that are called have come
pub record Reaches (rows : List CallRow) (old : List ℕ) (paths : List (List (List ℕ))) (new : List ℕ) : Type 0 where
  pub kept : (j : ℕ) → Contains old j → Contains new j
  pub within : (j : ℕ) → Contains new j → Contains old j ⊎ ((j < length rows) × Contains paths (path_at rows j))
  pub all : (j : ℕ) → j < length rows → Contains paths (path_at rows j) → Contains new j

-- the places to which the calls of each of the first rows lead
pub record IsLinked (rows : List CallRow) (count : ℕ) (links : List (List ℕ)) : Type 0 where
  pub long : length links ≡ count
  pub each : (i : ℕ) → i < count → Reaches rows [] ((graph_of rows).steps (path_at rows i)) (slice_index_or links i [])
