-- The entries of a map by paths whose values are told by those of another.
use Rattle.std.proofs.Common.{◌≡◌, ℕ, ◌+◌, Bool, true, false, cond, T, List, [], ◌∷◌, map, length, Option, Some, None, refl, sym, ap, subst, ◌∙◌}
use Rattle.std.specs.Prelude.{◌&&◌}
use Rattle.std.specs.Option.{option_map}
use Rattle.std.specs.Ordering.{eq_by_cmp, is_lt}
use Rattle.std.specs.FinMap as fin
use Rattle.std.specs.FinMap.{FinMap, find, is_sorted}
use Rattle.std.specs.FinMap.Entries.{below_all}
use Rattle.pf_tree.specs.Order.{path_cmp}
use Rattle.pf_state.proofs.Found.{same_maps}

module _ {X Y : Type 0} (f : X → Y) where
  abbrev pub over : List (List (List ℕ) × X) → List (List (List ℕ) × Y)
  over entries = map (λ e. (e.0, f e.1)) entries

  below_same : (x : List (List ℕ)) (es : List (List (List ℕ) × X)) → below_all path_cmp x (over es) ≡ below_all path_cmp x es
  below_same x [] = refl
  below_same x (e ∷ es) = ap (λ b. is_lt (path_cmp x e.0) && b) (below_same x es)

  sorted_same : (es : List (List (List ℕ) × X)) → is_sorted path_cmp (over es) ≡ is_sorted path_cmp es
  sorted_same [] = refl
  sorted_same (e ∷ es) = λ i. below_same e.0 es i && sorted_same es i

  chosen : (b : Bool) (x : X) (o : Option X) → cond b (Some (f x)) (option_map f o) ≡ option_map f (cond b (Some x) o)
  chosen true x o = refl
  chosen false x o = refl

  find_same : (q : List (List ℕ)) (es : List (List (List ℕ) × X)) → find path_cmp q (over es) ≡ option_map f (find path_cmp q es)
  find_same q [] = refl
  find_same q (e ∷ es) = ap (cond (eq_by_cmp path_cmp q e.0) (Some (f e.1))) (find_same q es) ∙ chosen (eq_by_cmp path_cmp q e.0) e.1 (find path_cmp q es)

  module _ (m : FinMap path_cmp X) (n : FinMap path_cmp Y) (each : (q : List (List ℕ)) → fin.get n q ≡ option_map f (fin.get m q)) where
    rises : T (is_sorted path_cmp (over (fin.entries m)))
    rises = subst T (sym (sorted_same (fin.entries m))) (fin.entries_sorted m)

    told : (q : List (List ℕ)) → fin.get n q ≡ fin.get (fin.from_sorted {R = path_cmp} (over (fin.entries m))) q
    told q =
        each q ∙ ap (option_map f) (fin.get-entries m q)
        ∙ sym (find_same q (fin.entries m))
        ∙ sym (fin.get-from_sorted path_cmp (over (fin.entries m)) q rises)

    pub entries_over : fin.entries n ≡ over (fin.entries m)
    entries_over = ap fin.entries (same_maps n (fin.from_sorted {R = path_cmp} (over (fin.entries m))) told) ∙ fin.entries-from_sorted path_cmp (over (fin.entries m)) rises
