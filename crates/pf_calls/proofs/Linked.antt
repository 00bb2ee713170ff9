-- The links of all rows are the call graph by places.
use Rattle.std.proofs.Common.{◌≡◌, ℕ, zero, suc, ◌+◌, ◌<◌, true, false, List, [], ◌∷◌, ◌++◌, length, length-append, refl, sym, ap, ◌∙◌, subst, inl, inr, arith, if◌then◌else◌}
use Rattle.std.specs.Prelude.{Contains, slice_index_or, nat_lt}
use Rattle.std.specs.List.{flat_map}
use Rattle.std.specs.Cmp.{IsEquivalence}
use Rattle.std.specs.Cmp.Lexicographic.{lists_equiv, nat_list_eq_equiv}
use Rattle.std.specs.List.Sorted.{IsStrictlySortedBy}
use Rattle.std.proofs.lemmas.Map.Made.{is_member-Decides}
use Rattle.std.proofs.lemmas.Bool.{cases_lt, ltb-true, lt-ltb}
use Rattle.std.proofs.Math.ListN.{get_or-append, get_or-eq_default}
use Rattle.std.proofs.Math.Seq.{get_or-append_seam}
use Rattle.pf_parts.specs.declared.call.Call.{Call}
use Rattle.pf_tree.specs.Order.{path_cmp}
use Rattle.pf_calls.specs.declared.row.CallRow.{CallRow}
use Rattle.pf_calls.specs.Graph.{IsListed}
use Rattle.pf_calls.specs.GraphLaws.{none_in}
use Rattle.pf_calls.specs.CallLaws.{paths_decide}
use Rattle.pf_calls.specs.Calls.{call_graph, called, calls_at, graph_of, path_eq, path_of, paths_of}
use Rattle.pf_calls.specs.Numbered.{IsCopy, IsInside, numbered, path_at}
use Rattle.pf_calls.specs.Links.{IsLinked, Reaches}
use Rattle.pf_calls.proofs.Reached.{below_or_here}
use Rattle.pf_calls.proofs.Placed.{among_paths, one_place, path_here, placed}

pub paths_equivalent : IsEquivalence path_eq
paths_equivalent = lists_equiv nat_list_eq_equiv

pub has_row : (rows : List CallRow) (i : ℕ) → i < length rows → (graph_of rows).has (path_at rows i) ≡ true
has_row rows i lt = (is_member-Decides paths_decide (paths_of rows) (path_at rows i)).1 (among_paths rows i lt)

pub is_row : (rows : List CallRow) (p : List (List ℕ)) → (graph_of rows).has p ≡ true → Contains (paths_of rows) p
is_row rows p h = (is_member-Decides paths_decide (paths_of rows) p).0 h

-- a map's paths are all that its call graph has
pub paths_listed : (paths : List (List (List ℕ))) (calls : List (List ℕ) → List Call) → IsListed (call_graph paths calls) paths
paths_listed paths calls = record { all = λ p h. (is_member-Decides paths_decide paths p).0 h }

other_path : (p q : List (List ℕ)) → (p ≡ q → ⊥) → path_eq p q ≡ false
other_path p q apart = elim (path_eq p q) as (λ b. path_eq p q ≡ b → b ≡ false) [ true ↦ λ e. absurd (apart ((paths_decide p q).0 e)) | false ↦ λ e. refl ] refl

apart_below : (first : CallRow) (rows : List CallRow) → ((i j : ℕ) → i < length (first ∷ rows) → j < length (first ∷ rows) → path_at (first ∷ rows) i ≡ path_at (first ∷ rows) j → i ≡ j) → (i j : ℕ) → i < length rows → j < length rows → path_at rows i ≡ path_at rows j → i ≡ j
apart_below first rows apart i j one two same = let up = apart (suc i) (suc j) (omega arith) (omega arith) same in omega arith

-- the calls at a row's path are the row's
pub calls_here : (rows : List CallRow) → ((i j : ℕ) → i < length rows → j < length rows → path_at rows i ≡ path_at rows j → i ≡ j) → (i : ℕ) (row : CallRow) → i < length rows → row ≡ slice_index_or rows i row → calls_at rows row.path ≡ row.calls
calls_here [] apart i row lt is = absurd (omega arith)
calls_here (first ∷ rows) apart zero row lt is =
    ap (λ b. if b then first.calls else calls_at rows row.path) ((paths_decide row.path first.path).1 (ap path_of is))
    ∙ ap (λ (r : CallRow). r.calls) (sym is)
calls_here (first ∷ rows) apart (suc i) row lt is =
    let below : i < length rows = omega arith in
    let here = path_here rows i row below is in
    ap (λ b. if b then first.calls else calls_at rows row.path)
    (other_path row.path first.path (λ same. let none = apart (suc i) 0 lt (omega arith) (here ∙ same) in omega arith))
    ∙ calls_here rows (apart_below first rows apart) i row below is

below_true : (i n : ℕ) → nat_lt i n ≡ true → i < n
below_true i n h = ltb-true i n h

true_below : (i n : ℕ) → i < n → nat_lt i n ≡ true
true_below i n lt = lt-ltb i n lt

pub links_more : (rows : List CallRow) → IsStrictlySortedBy path_cmp (paths_of rows) → (i : ℕ) (row : CallRow) (links : List (List ℕ)) (found : List ℕ) → i < length rows → row ≡ slice_index_or rows i row → IsLinked rows i links → Reaches rows [] (flat_map (called (paths_of rows) row.path) row.calls) found → IsLinked rows (i + 1) (links ++ found ∷ [])
links_more rows sorted i row links found lt is linked reaches = record {
  long = (let many = linked.long in let more = length-append links (found ∷ []) in omega arith);
  each = λ j below. elim (below_or_here j i below) [
    | inl before ↦ subst (Reaches rows [] ((graph_of rows).steps (path_at rows j))) (sym (get_or-append links (found ∷ []) [] j (let many = linked.long in omega arith))) (linked.each j before)
    | inr here ↦
        let path = path_here rows i row lt is in
        let calls = calls_here rows (one_place rows sorted) i row lt is in
        let steps : (graph_of rows).steps (path_at rows i) ≡ flat_map (called (paths_of rows) row.path) row.calls =
        ap (λ p. flat_map (called (paths_of rows) p) (calls_at rows p)) path ∙ ap (flat_map (called (paths_of rows) row.path)) calls in
        let last : slice_index_or (links ++ found ∷ []) i [] ≡ found = subst (λ (n : ℕ). slice_index_or (links ++ found ∷ []) n [] ≡ found) linked.long (get_or-append_seam links found [] []) in
        subst (λ (j : ℕ). Reaches rows [] ((graph_of rows).steps (path_at rows j)) (slice_index_or (links ++ found ∷ []) j [])) here
        (subst (λ ps. Reaches rows [] ps (slice_index_or (links ++ found ∷ []) i [])) (sym steps) (subst (Reaches rows [] (flat_map (called (paths_of rows) row.path) row.calls)) (sym last) reaches))
  ];
}

led_inside : (rows : List CallRow) (links : List (List ℕ)) → IsLinked rows (length rows) links → (i j : ℕ) → i < length rows → Contains (slice_index_or links i []) j → (j < length rows) × Contains ((graph_of rows).steps (path_at rows i)) (path_at rows j)
led_inside rows links linked i j lt h = elim ((linked.each i lt).within j h) [ inl none ↦ absurd (none_in j none) | inr led ↦ led ]

pub links_inside : (rows : List CallRow) (links : List (List ℕ)) → IsLinked rows (length rows) links → IsInside links
links_inside rows links linked = record {
  below = λ i j h. elim (cases_lt i (length rows)) [
    | inl lt ↦ (let led = led_inside rows links linked i j lt h in let many = linked.long in omega arith)
    | inr past ↦ absurd (none_in j (subst (λ l. Contains l j) (get_or-eq_default links [] (let many = linked.long in omega arith)) h))
  ];
}

pub links_copy : (rows : List CallRow) → IsStrictlySortedBy path_cmp (paths_of rows) → (links : List (List ℕ)) → IsLinked rows (length rows) links → IsCopy (numbered links) (graph_of rows) (path_at rows)
links_copy rows sorted links linked =
    let many = linked.long in
    let has : (a : ℕ) → (numbered links).has a ≡ true → a < length rows = λ a h. (let lt = below_true a (length links) h in omega arith) in
    let there : (a : ℕ) → a < length rows → (numbered links).has a ≡ true = λ a lt. true_below a (length links) (omega arith) in
    record {
      inside = λ a h. has_row rows a (has a h);
      named = λ b h. (let place = placed rows b (is_row rows b h) in (place.place, there place.place place.inside, place.here));
      apart = λ a c h k same. one_place rows sorted a c (has a h) (has c k) same;
      forth = λ a c step. (
          let lt = has a step.inside in
          let led = led_inside rows links linked a c lt step.leads in
          (there c led.0, record { inside = has_row rows a lt; leads = led.1 }));
      back = λ a d h step other. (
          let place = placed rows d (is_row rows d other) in
          let lt = has a h in
          let led = (linked.each a lt).all place.place place.inside (subst (Contains ((graph_of rows).steps (path_at rows a))) (sym place.here) step.leads) in
          (place.place, record { inside = h; leads = led }, place.here));
    }
