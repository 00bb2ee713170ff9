-- What is found in a map that is made of a node and its children, and in which order its entries stand.
use Rattle.std.specs.Prelude.{◌≡◌, ℕ, ◌+◌, ◌≤◌, Bool, true, false, ◌&&◌, List, [], ◌∷◌, ◌++◌, map, length, Option, Some, None, cond, T, refl}
use Rattle.std.proofs.Common.{sym, ap, subst, ◌∙◌, arith, length-append}
use Rattle.std.specs.declared.cmp.Ordering.{Ordering}
use Rattle.std.specs.declared.cmp.Ordering.TheVariants.{Less, Equal, Greater}
use Rattle.std.specs.Ordering.{eq_by_cmp, is_eq, is_lt, ordering_then}
use Rattle.std.specs.Cmp.{IsTotalOrder, tied_itself}
use Rattle.std.specs.Cmp.Lexicographic.{lists_total, nat_list_cmp_total}
use Rattle.std.specs.List.{AllByRecursion, flat_map}
use Rattle.std.specs.List.Sorted.{IsStrictlySortedBy}
use Rattle.std.specs.Map.{lookup, keys_of}
use Rattle.std.specs.Option.{option_or, option_and_then}
use Rattle.std.specs.BTreeMap.{is_at}
use Rattle.std.specs.FinMap as fin
use Rattle.std.specs.FinMap.{FinMap, IsAntisymmetric, slice_cmp-IsAntisymmetric, nat_cmp-IsAntisymmetric, find, is_sorted}
use Rattle.std.specs.FinMap.Entries.{below_all}
use denote.Param.Weighed.{most}
use Rattle.pf_tree.specs.Order.{name_cmp, path_cmp}
use Rattle.pf_tree.specs.Grown.{own_entry, entries_under, entries_below, grown}

pub name_total : IsTotalOrder name_cmp
name_total = nat_list_cmp_total

pub path_total : IsTotalOrder path_cmp
path_total = lists_total nat_list_cmp_total

-- names that tie are one name, and so are paths
pub name_same : IsAntisymmetric name_cmp
name_same = slice_cmp-IsAntisymmetric nat_cmp-IsAntisymmetric

pub path_same : IsAntisymmetric path_cmp
path_same = slice_cmp-IsAntisymmetric name_same

module _ {K X : Type 0} (R : K → K → Ordering) where
  -- the first of two lists that has a key decides
  find-append : (q : K) (xs ys : List (K × X)) → find R q (xs ++ ys) ≡ option_or (find R q xs) (find R q ys)
  find-append q [] ys = refl
  find-append q (e ∷ xs) ys =
      ap (cond (eq_by_cmp R q e.0) (Some e.1)) (find-append q xs ys)
      ∙ elim (eq_by_cmp R q e.0) as (λ b. cond b (Some e.1) (option_or (find R q xs) (find R q ys)) ≡ option_or (cond b (Some e.1) (find R q xs)) (find R q ys)) [ true ↦ refl | false ↦ refl ]

  below_all-append : (x : K) (xs ys : List (K × X)) → below_all R x xs ≡ true → below_all R x ys ≡ true → below_all R x (xs ++ ys) ≡ true
  below_all-append x [] ys h k = k
  below_all-append x (e ∷ xs) ys h k =
      elim (is_lt (R x e.0)) as (λ b. (b && below_all R x xs) ≡ true → (b && below_all R x (xs ++ ys)) ≡ true) [ true ↦ λ h. below_all-append x xs ys h k | false ↦ λ h. h ] h

  -- each key of the first list stands below all of the second
  abbrev EachBelow : List (K × X) → List (K × X) → Type 0
  EachBelow [] ys = Unit {0}
  EachBelow (e ∷ xs) ys = (below_all R e.0 ys ≡ true) × EachBelow xs ys

  sorted-append : (xs ys : List (K × X)) → is_sorted R xs ≡ true → is_sorted R ys ≡ true → EachBelow xs ys → is_sorted R (xs ++ ys) ≡ true
  sorted-append [] ys h k each = k
  sorted-append (e ∷ xs) ys h k each =
      elim (below_all R e.0 xs) as (λ b. below_all R e.0 xs ≡ b → (b && is_sorted R xs) ≡ true → (below_all R e.0 (xs ++ ys) && is_sorted R (xs ++ ys)) ≡ true) [
        | true ↦ λ below h. rw (below_all-append e.0 xs ys below each.0, sorted-append xs ys h k each.1) refl
        | false ↦ λ below h. cc
      ] refl h

module _ {X : Type 0} where
  find_under : (name : List ℕ) (es : List (List (List ℕ) × X)) (first : List ℕ) (rest : List (List ℕ)) → find path_cmp (first ∷ rest) (entries_under name es) ≡ cond (eq_by_cmp name_cmp first name) (find path_cmp rest es) None
  find_under name [] first rest = elim (eq_by_cmp name_cmp first name) as (λ b. ◌≡◌ {A = Option X} None (cond b None None)) [ true ↦ refl | false ↦ refl ]
  find_under name (e ∷ es) first rest =
      ap (cond (is_eq (ordering_then (name_cmp first name) (path_cmp rest e.0))) (Some e.1)) (find_under name es first rest)
      ∙ elim (name_cmp first name) as (λ o. cond (is_eq (ordering_then o (path_cmp rest e.0))) (Some e.1) (cond (is_eq o) (find path_cmp rest es) None) ≡ cond (is_eq o) (cond (is_eq (path_cmp rest e.0)) (Some e.1) (find path_cmp rest es)) None) [ Less ↦ refl | Equal ↦ refl | Greater ↦ refl ]

  own_under : (name : List ℕ) (es : List (List (List ℕ) × X)) → find path_cmp [] (entries_under name es) ≡ None
  own_under name [] = refl
  own_under name (e ∷ es) = own_under name es

  under_below : (name : List ℕ) (path : List (List ℕ)) (es : List (List (List ℕ) × X)) → below_all path_cmp path es ≡ true → below_all path_cmp (name ∷ path) (entries_under name es) ≡ true
  under_below name path [] h = refl
  under_below name path (e ∷ es) h =
      rw (tied_itself name_total name)
      (elim (is_lt (path_cmp path e.0)) as (λ b. (b && below_all path_cmp path es) ≡ true → (b && below_all path_cmp (name ∷ path) (entries_under name es)) ≡ true) [ true ↦ under_below name path es | false ↦ λ h. h ] h)

  under_sorted : (name : List ℕ) (es : List (List (List ℕ) × X)) → is_sorted path_cmp es ≡ true → is_sorted path_cmp (entries_under name es) ≡ true
  under_sorted name [] h = refl
  under_sorted name (e ∷ es) h =
      elim (below_all path_cmp e.0 es) as (λ b. below_all path_cmp e.0 es ≡ b → (b && is_sorted path_cmp es) ≡ true → (below_all path_cmp (name ∷ e.0) (entries_under name es) && is_sorted path_cmp (entries_under name es)) ≡ true) [
        | true ↦ λ below h. rw (under_below name e.0 es below, under_sorted name es h) refl
        | false ↦ λ below h. cc
      ] refl h

  -- a name stands before another, and so do all paths that begin with it
  apart : (first name : List ℕ) (path : List (List ℕ)) (es : List (List (List ℕ) × X)) → name_cmp first name ≡ Less → below_all path_cmp (first ∷ path) (entries_under name es) ≡ true
  apart first name path [] less = refl
  apart first name path (e ∷ es) less = rw (less, apart first name path es less) refl

  pub length-under : (name : List ℕ) (es : List (List (List ℕ) × X)) → length (entries_under name es) ≡ length es
  length-under name [] = refl
  length-under name (e ∷ es) = let e = length-under name es in omega arith

module _ {X B : Type 0} (map_of : B → FinMap path_cmp X) where
  own_children : (children : List (List ℕ × B)) → find path_cmp [] (flat_map (entries_below map_of) children) ≡ None
  own_children [] = refl
  own_children (c ∷ children) =
      find-append path_cmp [] (entries_below map_of c) (flat_map (entries_below map_of) children)
      ∙ rw (own_under c.0 (fin.entries (map_of c.1))) (own_children children)

  -- a name before all others is none of them
  pub missed : (first : List ℕ) (children : List (List ℕ × B)) → AllByRecursion (λ y. name_cmp first y ≡ Less) (keys_of children) → lookup (is_at (name_cmp first)) children ≡ None
  missed first [] h = refl
  missed first (c ∷ children) h = rw h.0 (missed first children h.1)

  -- what is found in a child, where there is one of this name
  abbrev found_in : List (List ℕ) → Option B → Option X
  found_in path child = option_and_then (λ c. fin.get (map_of c) path) child

  or_none : (x : Option X) → option_or x None ≡ x
  or_none None = refl
  or_none (Some x) = refl

  find_children : (children : List (List ℕ × B)) → IsStrictlySortedBy name_cmp (keys_of children) → (first : List ℕ) (rest : List (List ℕ)) → find path_cmp (first ∷ rest) (flat_map (entries_below map_of) children) ≡ found_in rest (lookup (is_at (name_cmp first)) children)
  unfolding IsStrictlySortedBy
  find_children [] h first rest = refl
  find_children (c ∷ children) h first rest =
      find-append path_cmp (first ∷ rest) (entries_below map_of c) (flat_map (entries_below map_of) children)
      ∙ ap (λ x. option_or x (find path_cmp (first ∷ rest) (flat_map (entries_below map_of) children))) (find_under c.0 (fin.entries (map_of c.1)) first rest)
      ∙ ap (option_or (cond (eq_by_cmp name_cmp first c.0) (find path_cmp rest (fin.entries (map_of c.1))) None)) (find_children children h.1 first rest)
      ∙ elim (name_cmp first c.0) as (λ o. name_cmp first c.0 ≡ o → option_or (cond (is_eq o) (find path_cmp rest (fin.entries (map_of c.1))) None) (found_in rest (lookup (is_at (name_cmp first)) children)) ≡ found_in rest (cond (is_eq o) (Some c.1) (lookup (is_at (name_cmp first)) children))) [
        | Less ↦ λ o. refl
        | Greater ↦ λ o. refl
        | Equal ↦ λ o.
            let same = name_same first c.0 o in
            let none = missed first children (subst (λ x. AllByRecursion (λ y. name_cmp x y ≡ Less) (keys_of children)) (sym same) h.0) in
            rw none (or_none _ ∙ sym (fin.get-entries (map_of c.1) rest))
      ] refl

  find_own : (own : Option X) (first : List ℕ) (rest : List (List ℕ)) → find path_cmp (first ∷ rest) (own_entry own) ≡ None
  find_own None first rest = refl
  find_own (Some x) first rest = refl

  own_found : (own : Option X) → find path_cmp [] (own_entry own) ≡ own
  own_found None = refl
  own_found (Some x) = refl

  -- at the path without names stands what stands at the node itself
  pub grown_own : (own : Option X) (children : List (List ℕ × B)) → fin.get (grown map_of own children) [] ≡ own
  grown_own own children =
      fin.get-from_entries path_total (own_entry own ++ flat_map (entries_below map_of) children) []
      ∙ find-append path_cmp [] (own_entry own) (flat_map (entries_below map_of) children)
      ∙ rw (own_found own, own_children children) (or_none own)

  -- at a path with names, what stands in the child of the first name at the rest
  pub grown_below : (own : Option X) (children : List (List ℕ × B)) → IsStrictlySortedBy name_cmp (keys_of children) → (first : List ℕ) (rest : List (List ℕ)) → fin.get (grown map_of own children) (first ∷ rest) ≡ option_and_then (λ c. fin.get (map_of c) rest) (lookup (is_at (name_cmp first)) children)
  grown_below own children h first rest =
      fin.get-from_entries path_total (own_entry own ++ flat_map (entries_below map_of) children) (first ∷ rest)
      ∙ find-append path_cmp (first ∷ rest) (own_entry own) (flat_map (entries_below map_of) children)
      ∙ rw (find_own own first rest) (find_children children h first rest)

  -- ---- the order of the entries
  apart_children : (first : List ℕ) (path : List (List ℕ)) (children : List (List ℕ × B)) → AllByRecursion (λ y. name_cmp first y ≡ Less) (keys_of children) → below_all path_cmp (first ∷ path) (flat_map (entries_below map_of) children) ≡ true
  apart_children first path [] h = refl
  apart_children first path (c ∷ children) h = below_all-append path_cmp (first ∷ path) (entries_below map_of c) (flat_map (entries_below map_of) children) (apart first c.0 path (fin.entries (map_of c.1)) h.0) (apart_children first path children h.1)

  each_apart : (first : List ℕ) (es : List (List (List ℕ) × X)) (children : List (List ℕ × B)) → AllByRecursion (λ y. name_cmp first y ≡ Less) (keys_of children) → EachBelow path_cmp (entries_under first es) (flat_map (entries_below map_of) children)
  each_apart first [] children h = tt
  each_apart first (e ∷ es) children h = (apart_children first e.0 children h, each_apart first es children h)

  is_true : (b : Bool) → T b → b ≡ true
  is_true true h = refl
  is_true false h = absurd h

  children_sorted : (children : List (List ℕ × B)) → IsStrictlySortedBy name_cmp (keys_of children) → is_sorted path_cmp (flat_map (entries_below map_of) children) ≡ true
  unfolding IsStrictlySortedBy
  children_sorted [] h = refl
  children_sorted (c ∷ children) h =
      sorted-append path_cmp (entries_below map_of c) (flat_map (entries_below map_of) children)
      (under_sorted c.0 (fin.entries (map_of c.1)) (is_true _ (fin.entries_sorted (map_of c.1))))
      (children_sorted children h.1)
      (each_apart c.0 (fin.entries (map_of c.1)) children h.0)

  under_own : (name : List ℕ) (es : List (List (List ℕ) × X)) → below_all path_cmp [] (entries_under name es) ≡ true
  under_own name [] = refl
  under_own name (e ∷ es) = under_own name es

  children_after : (children : List (List ℕ × B)) → below_all path_cmp [] (flat_map (entries_below map_of) children) ≡ true
  children_after [] = refl
  children_after (c ∷ children) = below_all-append path_cmp [] (entries_below map_of c) (flat_map (entries_below map_of) children) (under_own c.0 (fin.entries (map_of c.1))) (children_after children)

  grown_sorted : (own : Option X) (children : List (List ℕ × B)) → IsStrictlySortedBy name_cmp (keys_of children) → is_sorted path_cmp (own_entry own ++ flat_map (entries_below map_of) children) ≡ true
  grown_sorted None children h = children_sorted children h
  grown_sorted (Some x) children h = rw (children_after children, children_sorted children h) refl

  -- the entries stand in path order: the node's own, then those of its children by their names
  pub grown_entries : (own : Option X) (children : List (List ℕ × B)) → IsStrictlySortedBy name_cmp (keys_of children) → fin.entries (grown map_of own children) ≡ own_entry own ++ flat_map (entries_below map_of) children
  grown_entries own children h =
      let all = own_entry own ++ flat_map (entries_below map_of) children in
      let sorted = subst T (sym (grown_sorted own children h)) tt in
      ap fin.entries (fin.same_map path_total path_same (grown map_of own children) (fin.from_sorted {R = path_cmp} all) (λ q. fin.get-from_entries path_total all q ∙ sym (fin.get-from_sorted path_cmp all q sorted)))
      ∙ fin.entries-from_sorted path_cmp all sorted

  most_children : (children : List (List ℕ × B)) → most (λ b. fin.len (map_of b) + 1) (map (λ e. e.1) children) ≤ length (flat_map (entries_below map_of) children) + 1
  most_children [] = omega arith
  most_children (c ∷ children) =
      let more = most_children children in
      let own = length-under c.0 (fin.entries (map_of c.1)) in
      let len = fin.len-entries (map_of c.1) in
      let both = length-append (entries_below map_of c) (flat_map (entries_below map_of) children) in
      omega arith

  -- a node has more entries than any of its children, where something stands at the node itself
  pub most_grown : (x : X) (children : List (List ℕ × B)) → IsStrictlySortedBy name_cmp (keys_of children) → most (λ b. fin.len (map_of b) + 1) (map (λ e. e.1) children) ≤ fin.len (grown map_of (Some x) children)
  most_grown x children h =
      let more = most_children children in
      let len = fin.len-entries (grown map_of (Some x) children) in
      let all = ap length (grown_entries (Some x) children h) in
      omega arith

-- two maps with the same at each path are one
pub same_everywhere : {X : Type 0} (m n : FinMap path_cmp X) → fin.get m [] ≡ fin.get n [] → ((first : List ℕ) (rest : List (List ℕ)) → fin.get m (first ∷ rest) ≡ fin.get n (first ∷ rest)) → m ≡ n
same_everywhere {X} m n own below = fin.same_map path_total path_same m n each where
  each : (q : List (List ℕ)) → fin.get m q ≡ fin.get n q
  each [] = own
  each (first ∷ rest) = below first rest
