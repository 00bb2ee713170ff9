-- Sums over the values of a map: one value is changed, and they are found by their keys.
use Rattle.std.proofs.Common.{length, ◌≡◌, ℕ, ◌+◌, ◌≤◌, Bool, true, false, T, List, [], ◌∷◌, map, Option, Some, None, refl, sym, ap, ◌∙◌, arith}
use Rattle.std.specs.Prelude.{cond, ◌&&◌}
use Rattle.std.specs.List.{sum_by}
use Rattle.std.specs.FinMap as finite
use Rattle.std.specs.FinMap.{FinMap, IsAntisymmetric, find, is_sorted, entries-insert, entries_sorted, get-entries, get-insert, get-remove, same_map}
use Rattle.std.specs.FinMap.Entries.{below_all, by_order, put}
use Rattle.std.specs.declared.cmp.Ordering.{Ordering}
use Rattle.std.specs.declared.cmp.Ordering.TheVariants.{Less, Equal, Greater}
use Rattle.std.specs.Ordering.{eq_by_cmp, is_eq, is_lt}
use Rattle.std.specs.Cmp.{IsTotalOrder, eq_by_cmp_equiv, tied_itself}
use Rattle.std.proofs.lemmas.List.Sums.{sum_by-cons}
use Rattle.pf_shelf.specs.Shelf.{entries_in, name_cmp, total}
use Rattle.pf_shelf.specs.declared.decl.Shelved.{Shelved}
use Rattle.pf_state.specs.Rulesets.{Rulesets, count_entries, tables_in}
use Rattle.pf_tree.specs.GrownLaws.{path_same, path_total}
use Rattle.pf_tree.specs.Order.{path_cmp}

module _ {K X : Type 0} (f : X → ℕ) where
  -- the sum of the values of entries
  abbrev pub sum_of : List (K × X) → ℕ
  sum_of [] = 0
  sum_of (e ∷ es) = f e.1 + sum_of es

  pub sum_of_values : (es : List (K × X)) → sum_by f (map (λ e. e.1) es) ≡ sum_of es
  sum_of_values [] = refl
  sum_of_values (e ∷ es) = sum_by-cons f e.1 (map (λ e. e.1) es) ∙ ap (λ n. f e.1 + n) (sum_of_values es)

module _ {K X : Type 0} {R : K → K → Ordering} (order : IsTotalOrder R) (same : IsAntisymmetric R) (f : X → ℕ) where
  none_some : (v : X) → None ≡ Some v → ⊥
  none_some v e = Prim.cc

  put_new : (k : K) (v : X) (es : List (K × X)) → find R k es ≡ None → sum_of f (put R k v es) ≡ f v + sum_of f es
  put_new k v [] h = refl
  put_new k v (e ∷ es) h = from (put_new k v es) (R k e.0) h
    where
      from : (find R k es ≡ None → sum_of f (put R k v es) ≡ f v + sum_of f es) → (r : Ordering) → cond (is_eq r) (Some e.1) (find R k es) ≡ None → sum_of f (by_order r ((k, v) ∷ e ∷ es) ((e.0, v) ∷ es) (e ∷ put R k v es)) ≡ f v + sum_of f (e ∷ es)
      from more Less h = refl
      from more Equal h = absurd (none_some e.1 (sym h))
      from more Greater h = let rest : sum_of f (put R k v es) ≡ f v + sum_of f es = more h in omega arith

  abbrev pub sum_in : FinMap R X → ℕ
  sum_in m = sum_of f (finite.entries m)

  sum_new : (m : FinMap R X) (k : K) (v : X) → finite.get m k ≡ None → sum_in (finite.insert m k v) ≡ f v + sum_in m
  sum_new m k v h = ap (sum_of f) (entries-insert order m k v) ∙ put_new k v (finite.entries m) (sym (get-entries m k) ∙ h)

  module _ (m : FinMap R X) (k : K) (x : X) (found : finite.get m k ≡ Some x) where
    rest : FinMap R X
    rest = finite.remove m k

    gone : finite.get rest k ≡ None
    unfolding rest
    gone = get-remove order m k k ∙ ap (λ r. cond (is_eq r) None (finite.get m k)) (tied_itself order k)

    again : (v : X) → finite.insert rest k v ≡ finite.insert m k v
    unfolding rest
    again v = same_map order same _ _ (λ q.
        get-insert order rest k v q ∙ ap (λ (y : Option X). cond (eq_by_cmp R q k) (Some v) y) (get-remove order m k q)
        ∙ once (eq_by_cmp R q k) (finite.get m q) v ∙ sym (get-insert order m k v q))
      where
        once : (b : Bool) (y : Option X) (v : X) → cond b (Some v) (cond b None y) ≡ cond b (Some v) y
        once true y v = refl
        once false y v = refl

    -- what is found, put there once more
    pub insert_same : finite.insert m k x ≡ m
    insert_same = same_map order same _ _ (λ q. get-insert order m k x q ∙ from q (R q k) refl)
      where
        from : (q : K) (r : Ordering) → R q k ≡ r → cond (is_eq r) (Some x) (finite.get m q) ≡ finite.get m q
        from q Less e = refl
        from q Equal e = sym found ∙ ap (finite.get m) (sym (same q k e))
        from q Greater e = refl

    sum_rest : sum_in m ≡ f x + sum_in rest
    sum_rest = ap sum_in (sym insert_same ∙ sym (again x)) ∙ sum_new rest k x gone

    -- one value is changed
    pub sum_changed : (v : X) → sum_in (finite.insert m k v) + f x ≡ sum_in m + f v
    sum_changed v =
        let before : sum_in m ≡ f x + sum_in rest = sum_rest in
        let after : sum_in (finite.insert m k v) ≡ f v + sum_in rest = ap sum_in (sym (again v)) ∙ sum_new rest k v gone in
        omega arith

    pub found_within : f x ≤ sum_in m
    found_within = let before : sum_in m ≡ f x + sum_in rest = sum_rest in omega arith

lower : (r : Ordering) → T (is_lt r) → is_eq r ≡ false
lower Less h = refl
lower Equal h = absurd h
lower Greater h = absurd h

first : (a b : Bool) → T (a && b) → T a
first true b h = tt
first false b h = h

second : (a b : Bool) → T (a && b) → T b
second true b h = h
second false b h = absurd h

module _ {X : Type 0} where
  passed : (e : List (List ℕ) × X) (es : List (List (List ℕ) × X)) (s : List (List ℕ) × X) → T (is_lt (path_cmp e.0 s.0)) → find path_cmp s.0 (e ∷ es) ≡ find path_cmp s.0 es
  passed e es s h = ap (λ b. cond b (Some e.1) (find path_cmp s.0 es)) ((eq_by_cmp_equiv path_total).symm s.0 e.0 ∙ lower (path_cmp e.0 s.0) h)

  -- the sum of what is told of the values found by the keys is that of the values
  passed_sum : (g : Option X → ℕ) (e : List (List ℕ) × X) (es sub : List (List (List ℕ) × X)) → T (below_all path_cmp e.0 sub) → sum_by (λ path. g (find path_cmp path (e ∷ es))) (map (λ s. s.0) sub) ≡ sum_by (λ path. g (find path_cmp path es)) (map (λ s. s.0) sub)
  passed_sum g e es [] h = refl
  passed_sum g e es (s ∷ sub) h =
      sum_by-cons (λ path. g (find path_cmp path (e ∷ es))) s.0 (map (λ s. s.0) sub)
      ∙ (λ i. g (passed e es s (first _ _ h) i) + passed_sum g e es sub (second _ _ h) i)
      ∙ sym (sum_by-cons (λ path. g (find path_cmp path es)) s.0 (map (λ s. s.0) sub))

  pub found_sum : (g : Option X → ℕ) (es : List (List (List ℕ) × X)) → T (is_sorted path_cmp es) → sum_by (λ path. g (find path_cmp path es)) (map (λ s. s.0) es) ≡ sum_by (λ x. g (Some x)) (map (λ s. s.1) es)
  found_sum g [] h = refl
  found_sum g (e ∷ es) h =
      sum_by-cons (λ path. g (find path_cmp path (e ∷ es))) e.0 (map (λ s. s.0) es)
      ∙ (λ i. g (cond (is_eq (tied_itself path_total e.0 i)) (Some e.1) (find path_cmp e.0 es)) + (passed_sum g e es es (first _ _ h) ∙ found_sum g es (second _ _ h)) i)
      ∙ sym (sum_by-cons (λ x. g (Some x)) e.1 (map (λ s. s.1) es))

-- the entries of all tables, counted path by path
pub counted_by_paths : (rulesets : Rulesets) → sum_by (λ path. total (tables_in (finite.get rulesets path))) (finite.keys rulesets) ≡ count_entries rulesets
counted_by_paths rulesets =
    same_sum (λ path. ap (λ node. total (tables_in node)) (get-entries rulesets path)) (finite.keys rulesets)
    ∙ found_sum (λ node. total (tables_in node)) (finite.entries rulesets) (entries_sorted rulesets)
  where
    same_sum : {f g : List (List ℕ) → ℕ} → ((path : List (List ℕ)) → f path ≡ g path) → (paths : List (List (List ℕ))) → sum_by f paths ≡ sum_by g paths
    same_sum same [] = refl
    same_sum {f = f} {g = g} same (path ∷ paths) = sum_by-cons f path paths ∙ (λ i. same path i + same_sum same paths i) ∙ sym (sum_by-cons g path paths)

no_entries : (es : List (List ℕ × Shelved)) → length es ≡ 0 → entries_in es ≡ 0
no_entries [] h = refl
no_entries (e ∷ es) h = absurd (omega arith)

-- where there is no table there is no entry
pub total_none : total finite.empty ≡ 0
total_none = no_entries (finite.entries finite.empty) (sym (finite.len-entries finite.empty) ∙ finite.len-empty name_cmp Shelved)
