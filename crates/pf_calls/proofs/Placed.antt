-- Rows whose paths ascend: each path has one place, and a binary search finds it.
use Rattle.std.proofs.Common.{◌≡◌, ℕ, ◌+◌, ◌-◌, ◌<◌, ◌≤◌, ◌⊎◌, true, false, List, [], length, refl, sym, ap, ◌∙◌, inl, inr, arith, Result, Ok, Err}
use Rattle.std.specs.Prelude.{Contains, slice_index_or}
use Rattle.std.specs.declared.cmp.Ordering.{Ordering}
use Rattle.std.specs.declared.cmp.Ordering.TheVariants.{Less, Equal, Greater}
use Rattle.std.specs.Ordering.{is_lt, ordering_index, ordering_reverse}
use Rattle.std.specs.Cmp.{tied_itself}
use Rattle.std.specs.Result.{result_ok}
use Rattle.std.specs.List.Sorted.{IsBinarySearchResult, IsNonDecreasingBy, IsSearchInRange, IsStrictlySortedBy}
use Rattle.std.proofs.lemmas.Bool.{cases_lt, false≢true}
use Rattle.std.proofs.lemmas.Map.Keys.{Less-from_sorted, sorted_from_all_adjacent}
use Rattle.std.proofs.lemmas.List.{get_or-map, get_or_default, length-map}
use Rattle.std.proofs.lemmas.List.Sorted.{searchable_from_sorted}
use Rattle.pf_tree.specs.Order.{path_cmp}
use Rattle.pf_tree.specs.GrownLaws.{path_same, path_total}
use Rattle.pf_calls.specs.declared.row.CallRow.{CallRow}
use Rattle.pf_calls.specs.Calls.{path_of, paths_of}
use Rattle.pf_calls.specs.Numbered.{IsPlaceOf, path_at}

pub as_many : (rows : List CallRow) → length (paths_of rows) ≡ length rows
as_many rows = length-map rows path_of

-- the path of a row
pub path_here : (rows : List CallRow) (i : ℕ) (row : CallRow) → i < length rows → row ≡ slice_index_or rows i row → path_at rows i ≡ row.path
path_here rows i row lt is = get_or-map path_of rows i row [] lt ∙ ap path_of (sym is)

pub among_paths : (rows : List CallRow) (i : ℕ) → i < length rows → Contains (paths_of rows) (path_at rows i)
among_paths rows i lt =
    let many = as_many rows in
    (i, omega arith, get_or_default (paths_of rows) i (path_at rows i) [] (omega arith))

pub record PlaceOf (rows : List CallRow) (path : List (List ℕ)) : Type 0 where
  pub place : ℕ
  pub inside : place < length rows
  pub here : path_at rows place ≡ path

pub placed : (rows : List CallRow) (path : List (List ℕ)) → Contains (paths_of rows) path → PlaceOf rows path
placed rows path (k, lt, e) =
    let many = as_many rows in
    record { place = k; inside = omega arith; here = get_or_default (paths_of rows) k [] path lt ∙ e }

pub ascending : (rows : List CallRow) → IsStrictlySortedBy path_cmp (paths_of rows) → (i j : ℕ) → i < j → j < length rows → path_cmp (path_at rows i) (path_at rows j) ≡ Less
ascending rows sorted i j lt inside = let many = as_many rows in Less-from_sorted path_cmp (paths_of rows) i j [] sorted lt (omega arith)

not_less : (p q : List (List ℕ)) → path_cmp p q ≡ Less → p ≡ q → ⊥
not_less p q less same = let tied = tied_itself path_total q in let both = sym (ap (λ x. path_cmp x q) same) ∙ less in let apart : Equal ≡ Less = sym tied ∙ both in cc

pub three : (i j : ℕ) → (i < j) ⊎ ((j < i) ⊎ (i ≡ j))
three i j = elim (cases_lt i j) [ inl below ↦ inl below | inr not_below ↦ elim (cases_lt j i) [ inl above ↦ inr (inl above) | inr not_above ↦ inr (inr (omega arith)) ] ]

pub one_place : (rows : List CallRow) → IsStrictlySortedBy path_cmp (paths_of rows) → (i j : ℕ) → i < length rows → j < length rows → path_at rows i ≡ path_at rows j → i ≡ j
one_place rows sorted i j first second same =
    elim (three i j) [
      | inl below ↦ absurd (not_less (path_at rows i) (path_at rows j) (ascending rows sorted i j below second) same)
      | inr other ↦ elim other [
        | inl above ↦ absurd (not_less (path_at rows j) (path_at rows i) (ascending rows sorted j i above first) (sym same))
        | inr equal ↦ equal
      ]
    ]

turned : (r s : Ordering) → s ≡ ordering_reverse r → r ≡ Less → is_lt s ≡ false
turned r s e less = ap is_lt (e ∙ ap ordering_reverse less)

-- the rows may be searched by halves
pub searchable : (rows : List CallRow) (path : List (List ℕ)) → IsStrictlySortedBy path_cmp (paths_of rows) → IsNonDecreasingBy (λ row. ordering_index (path_cmp (path_of row) path)) rows
searchable rows path sorted =
    searchable_from_sorted path_total path_of rows path (λ k d low high.
    let less = ascending rows sorted k (k + 1) (omega arith) high in
    let first = get_or-map path_of rows k d [] (omega arith) in
    let second = get_or-map path_of rows (k + 1) d [] high in
    turned (path_cmp (path_of (slice_index_or rows k d)) (path_of (slice_index_or rows (k + 1) d))) _ (path_total.antisymm (path_of (slice_index_or rows (k + 1) d)) (path_of (slice_index_or rows k d))) ((λ i. path_cmp (sym first i) (sym second i)) ∙ less))

is_path : (p q : List (List ℕ)) → path_cmp p q ≡ Equal → p ≡ q
is_path p q e = path_same p q e

no_row : CallRow
no_row = record { path = []; calls = [] }

untold : (o : Ordering) (p q : List (List ℕ)) → path_cmp p q ≡ o → p ≡ q → o ≡ Equal
untold o p q e same = sym e ∙ ap (λ x. path_cmp x q) same ∙ tied_itself path_total q

-- what a search by halves tells of a path
pub place_told : (rows : List CallRow) (path : List (List ℕ)) (result : Result ℕ ℕ) → IsStrictlySortedBy path_cmp (paths_of rows) → IsSearchInRange result (length rows) → IsBinarySearchResult (λ (row : CallRow). path_cmp row.path path) rows result → IsPlaceOf rows path (result_ok result)
place_told rows path (Ok i) sorted range told = record { inside = range; here = get_or-map path_of rows i no_row [] range ∙ is_path _ path (told no_row) }
place_told rows path (Err i) sorted range told = λ j lt same.
    let split = told (searchable rows path sorted) in
    let here = sym (get_or-map path_of rows j no_row [] lt) ∙ same in
    elim (cases_lt j i) [
      | inl below ↦ (let none = untold Less (path_of (slice_index_or rows j no_row)) path (split.0 j no_row (omega arith) below) here in cc)
      | inr above ↦ (let none = untold Greater (path_of (slice_index_or rows j no_row)) path (split.1 j no_row above lt) here in cc)
    ]

-- two rows next to one another
pub neighbours : (rows : List CallRow) (place : ℕ) (first second : CallRow) → 1 ≤ place → place < length rows → first ≡ slice_index_or rows (place - 1) first → second ≡ slice_index_or rows place second → path_cmp (path_at rows (place - 1)) (path_at rows place) ≡ path_cmp first.path second.path
neighbours rows place first second some inside one two = λ i. path_cmp (path_here rows (place - 1) first (omega arith) one i) (path_here rows place second inside two i)

is_less : (o : Ordering) → is_lt o ≡ true → o ≡ Less
is_less Less h = refl
is_less Equal h = absurd (false≢true h)
is_less Greater h = absurd (false≢true h)

abbrev pub AscendBelow : List CallRow → ℕ → Type 0
AscendBelow rows place = (k : ℕ) → k + 1 < place → path_cmp (path_at rows k) (path_at rows (k + 1)) ≡ Less

pub ascend_more : (rows : List CallRow) (place : ℕ) → 1 ≤ place → AscendBelow rows place → is_lt (path_cmp (path_at rows (place - 1)) (path_at rows place)) ≡ true → AscendBelow rows (place + 1)
ascend_more rows place some below less = λ k lt.
    elim (cases_lt (k + 1) place) [
      | inl before ↦ below k before
      | inr here ↦
          let first : place - 1 ≡ k = omega arith in
          let second : place ≡ k + 1 = omega arith in
          (λ i. path_cmp (path_at rows (sym first i)) (path_at rows (sym second i))) ∙ is_less _ less
    ]

pub all_ascend : (rows : List CallRow) (place : ℕ) → length rows ≤ place → AscendBelow rows place → IsStrictlySortedBy path_cmp (paths_of rows)
all_ascend rows place long below = sorted_from_all_adjacent path_total (paths_of rows) [] (λ k lt. below k (let many = as_many rows in omega arith))

pub one_falls : (rows : List CallRow) (place : ℕ) → 1 ≤ place → place < length rows → is_lt (path_cmp (path_at rows (place - 1)) (path_at rows place)) ≡ false → IsStrictlySortedBy path_cmp (paths_of rows) → ⊥
one_falls rows place some inside off sorted = false≢true (sym off ∙ ap is_lt (ascending rows sorted (place - 1) place (omega arith) inside))
