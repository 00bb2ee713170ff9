-- Places added to links, call by call.
use Rattle.std.proofs.Common.{◌≡◌, ℕ, ◌+◌, ◌<◌, ◌≤◌, ◌⊎◌, List, [], ◌∷◌, ◌++◌, length, take, sym, ap, ◌∙◌, subst, inl, inr, arith, Some, false}
use Rattle.std.specs.Prelude.{Contains, slice_index_or}
use Rattle.std.specs.List.{flat_map}
use Rattle.std.proofs.lemmas.Bool.{cases_lt}
use Rattle.std.proofs.lemmas.List.{take_more, append-nil}
use Rattle.std.proofs.lemmas.Grind.{flat_map-append}
use Rattle.std.proofs.lemmas.List.Elements.{Contains-append_left, Contains-append_right, Contains-append_cases}
use Rattle.pf_parts.specs.declared.call.Call.{Call}
use Rattle.pf_parts.specs.CallTarget.{target_of}
use Rattle.pf_calls.specs.declared.row.CallRow.{CallRow}
use Rattle.pf_calls.specs.GraphLaws.{none_in, now_in, in_cons}
use Rattle.pf_calls.specs.Calls.{called, children_of, led_to, paths_of}
use Rattle.pf_calls.specs.Numbered.{path_at, IsPlace}
use Rattle.pf_calls.specs.Links.{IsChild, Reaches}
use Rattle.pf_calls.proofs.Children.{children_are, are_children}
use Rattle.pf_calls.proofs.Placed.{among_paths}

pub reaches_more : (rows : List CallRow) (a b c : List ℕ) (ps qs : List (List (List ℕ))) → Reaches rows a ps b → Reaches rows b qs c → Reaches rows a (ps ++ qs) c
reaches_more rows a b c ps qs first second = record {
  kept = λ j h. second.kept j (first.kept j h);
  within = λ j h. elim (second.within j h) [
    | inl old ↦ elim (first.within j old) [ inl older ↦ inl older | inr led ↦ inr (led.0, Contains-append_left ps qs (path_at rows j) led.1) ]
    | inr led ↦ inr (led.0, Contains-append_right ps qs (path_at rows j) led.1)
  ];
  all = λ j lt h. elim (Contains-append_cases ps qs (path_at rows j) h) [ inl led ↦ second.kept j (first.all j lt led) | inr led ↦ second.all j lt led ];
}

-- the calls of a row, one after the other
pub reaches_next : {X : Type 0} (rows : List CallRow) (f : X → List (List (List ℕ))) (calls : List X) (i : ℕ) (call : X) (a b c : List ℕ) → i < length calls → call ≡ slice_index_or calls i call → Reaches rows a (flat_map f (take i calls)) b → Reaches rows b (f call) c → Reaches rows a (flat_map f (take (i + 1) calls)) c
reaches_next rows f calls i call a b c lt is first second =
    let more = take_more calls i call lt in
    let front = ap (flat_map f) (more ∙ ap (λ x. take i calls ++ x ∷ []) (sym is)) ∙ flat_map-append f (take i calls) (call ∷ []) in
    let one = append-nil (f call) in
    subst (λ ps. Reaches rows a ps c) (sym (front ∙ ap (λ qs. flat_map f (take i calls) ++ qs) one)) (reaches_more rows a b c (flat_map f (take i calls)) (f call) first second)

-- the place of a path that one row has
pub reaches_place : (rows : List CallRow) (links : List ℕ) (path : List (List ℕ)) (place : ℕ) → ((i j : ℕ) → i < length rows → j < length rows → path_at rows i ≡ path_at rows j → i ≡ j) → IsPlace rows path place → Reaches rows links (path ∷ []) (links ++ place ∷ [])
reaches_place rows links path place apart here = record {
  kept = λ j h. Contains-append_left links (place ∷ []) j h;
  within = λ j h. elim (Contains-append_cases links (place ∷ []) j h) [
    | inl old ↦ inl old
    | inr new ↦ elim (in_cons place [] j new) [
      | inl same ↦ inr (subst (λ (j : ℕ). (j < length rows) × Contains (path ∷ []) (path_at rows j)) same (here.inside, subst (Contains (path ∷ [])) (sym here.here) (now_in path [])))
      | inr later ↦ absurd (none_in j later)
    ]
  ];
  all = λ j lt h. elim (in_cons path [] (path_at rows j) h) [
    | inl same ↦ Contains-append_right links (place ∷ []) j (subst (λ (j : ℕ). Contains (place ∷ []) j) (apart place j here.inside lt (here.here ∙ same)) (now_in place []))
    | inr later ↦ absurd (none_in (path_at rows j) later)
  ];
}

-- a call that is no wildcard leads to its target
pub as_called : (rows : List CallRow) (at : List (List ℕ)) (call : Call) (target : List (List ℕ)) (links new : List ℕ) → Some target ≡ target_of call at → call.children ≡ false → Reaches rows links (target ∷ []) new → Reaches rows links (called (paths_of rows) at call) new
as_called rows at call target links new found single reaches =
    subst (λ ps. Reaches rows links ps new) (λ i. led_to (paths_of rows) (sym single i) (found i)) reaches

-- the children among the first rows
pub record ReachesFront (rows : List CallRow) (old : List ℕ) (at : List (List ℕ)) (count : ℕ) (new : List ℕ) : Type 0 where
  pub kept : (j : ℕ) → Contains old j → Contains new j
  pub within : (j : ℕ) → Contains new j → Contains old j ⊎ ((j < length rows) × IsChild at (path_at rows j))
  pub all : (j : ℕ) → j < count → IsChild at (path_at rows j) → Contains new j

pub below_or_here : (j i : ℕ) → j < i + 1 → (j < i) ⊎ (i ≡ j)
below_or_here j i lt = elim (cases_lt j i) [ inl below ↦ inl below | inr above ↦ inr (omega arith) ]

pub front_passed : (rows : List CallRow) (old : List ℕ) (at : List (List ℕ)) (i : ℕ) (new : List ℕ) → ReachesFront rows old at i new → (IsChild at (path_at rows i) → ⊥) → ReachesFront rows old at (i + 1) new
front_passed rows old at i new front none = record {
  kept = front.kept;
  within = front.within;
  all = λ j lt child. elim (below_or_here j i lt) [ inl below ↦ front.all j below child | inr here ↦ absurd (none (subst (λ (j : ℕ). IsChild at (path_at rows j)) (sym here) child)) ];
}

pub front_taken : (rows : List CallRow) (old : List ℕ) (at : List (List ℕ)) (i : ℕ) (new : List ℕ) → i < length rows → ReachesFront rows old at i new → IsChild at (path_at rows i) → ReachesFront rows old at (i + 1) (new ++ i ∷ [])
front_taken rows old at i new inside front child = record {
  kept = λ j h. Contains-append_left new (i ∷ []) j (front.kept j h);
  within = λ j h. elim (Contains-append_cases new (i ∷ []) j h) [
    | inl before ↦ front.within j before
    | inr last ↦ elim (in_cons i [] j last) [
      | inl same ↦ inr (subst (λ (j : ℕ). (j < length rows) × IsChild at (path_at rows j)) same (inside, child))
      | inr later ↦ absurd (none_in j later)
    ]
  ];
  all = λ j lt other. elim (below_or_here j i lt) [
    | inl below ↦ Contains-append_left new (i ∷ []) j (front.all j below other)
    | inr here ↦ Contains-append_right new (i ∷ []) j (subst (λ (j : ℕ). Contains (i ∷ []) j) here (now_in i []))
  ];
}

pub front_all : (rows : List CallRow) (old : List ℕ) (at : List (List ℕ)) (count : ℕ) (new : List ℕ) → length rows ≤ count → ReachesFront rows old at count new → Reaches rows old (children_of (paths_of rows) at) new
front_all rows old at count new long front = record {
  kept = front.kept;
  within = λ j h. elim (front.within j h) [ inl old ↦ inl old | inr led ↦ inr (led.0, are_children (paths_of rows) at (path_at rows j) led.1 (among_paths rows j led.0)) ];
  all = λ j lt h. front.all j (omega arith) (children_are (paths_of rows) at (path_at rows j) h);
}
