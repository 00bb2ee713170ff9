-- The rows by their places, and the places to which their calls lead.
use Rattle.std.specs.Prelude.{◌≡◌, ℕ, ◌<◌, Bool, true, false, List, [], length, map, Contains, Option, Some, None, nat_lt, slice_index_or}
use Rattle.std.specs.List.{list_all}
use Rattle.pf_calls.specs.declared.row.CallRow.{CallRow}
use Rattle.pf_calls.specs.declared.row.CallFault.{CallFault}
use Rattle.pf_calls.specs.declared.row.CallFault.TheVariants.{Cycle, Deep}
use Rattle.pf_tree.specs.Order.{path_cmp}
use Rattle.pf_calls.specs.Graph.{Graph, IsStep, IsShallow, IsDeep, IsFirstOnCycle}
use Rattle.pf_calls.specs.GraphLaws.{is_within}
use Rattle.pf_calls.specs.Calls.{graph_of, paths_of}

-- the graph of numbers, each with those to which it leads
abbrev pub numbered : List (List ℕ) → Graph ℕ
numbered links = record { has = λ i. nat_lt i (length links); steps = λ i. slice_index_or links i [] }

abbrev pub path_at : List CallRow → ℕ → List (List ℕ)
path_at rows i = slice_index_or (paths_of rows) i []

-- a graph stands for another: each of its points has the name of one of the other's, and steps lead alike inside both
pub record IsCopy {A B : Type 0} (g : Graph A) (h : Graph B) (name : A → B) : Type 0 where
  pub inside : (a : A) → g.has a ≡ true → h.has (name a) ≡ true
  pub named : (b : B) → h.has b ≡ true → (a : A) × (g.has a ≡ true) × (name a ≡ b)
  pub apart : (a c : A) → g.has a ≡ true → g.has c ≡ true → name a ≡ name c → a ≡ c
  pub forth : (a c : A) → IsStep g a c → (g.has c ≡ true) × IsStep h (name a) (name c)
  pub back : (a : A) (d : B) → g.has a ≡ true → IsStep h (name a) d → h.has d ≡ true → (c : A) × IsStep g a c × (name c ≡ d)

-- the numbers that the links name are those of rows
pub record IsInside (links : List (List ℕ)) : Type 0 where
  pub below : (i j : ℕ) → Contains (slice_index_or links i []) j → j < length links

-- a place whose rank is over so much
pub record IsOver (links : List (List ℕ)) (rank : ℕ) : Type 0 where
  pub place : ℕ
  pub inside : place < length links
  pub over : is_within (numbered links) rank place ≡ false

-- the greatest rank of all places
pub record IsDepth (links : List (List ℕ)) (depth : ℕ) : Type 0 where
  pub all : (i : ℕ) → i < length links → is_within (numbered links) depth i ≡ true
  pub least : (before : ℕ) → before < depth → IsOver links before

-- where there is none, some rank is over the number of all
abbrev pub IsDepthOf : List (List ℕ) → Option ℕ → Type 0
IsDepthOf links None = IsOver links (length links)
IsDepthOf links (Some depth) = IsDepth links depth

-- which places have a rank of one more at most, where it is told of which it is at most so much
abbrev pub next_round : List (List ℕ) → List Bool → List Bool
next_round links within = map (list_all (λ place. slice_index_or within place false)) links

-- the places whose rank is at most so much
pub record IsRound (links : List (List ℕ)) (rank : ℕ) (within : List Bool) : Type 0 where
  pub long : length within ≡ length links
  pub each : (i : ℕ) → i < length links → slice_index_or within i false ≡ is_within (numbered links) rank i

-- the row of a path
pub record IsPlace (rows : List CallRow) (path : List (List ℕ)) (place : ℕ) : Type 0 where
  pub inside : place < length rows
  pub here : path_at rows place ≡ path

abbrev pub IsPlaceOf : List CallRow → List (List ℕ) → Option ℕ → Type 0
IsPlaceOf rows path None = (i : ℕ) → i < length rows → path_at rows i ≡ path → ⊥
IsPlaceOf rows path (Some place) = IsPlace rows path place

-- the answer about the calls of these rows
abbrev pub IsFault : List CallRow → Option CallFault → Type 0
IsFault rows None = IsShallow (graph_of rows) 64
IsFault rows (Some (Cycle path)) = IsFirstOnCycle (graph_of rows) path_cmp path
IsFault rows (Some (Deep depth)) = (64 < depth) × IsDeep (graph_of rows) depth
