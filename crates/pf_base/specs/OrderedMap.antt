-- An ordered map of the program, seen as a finite map: what is found in it, and what a change makes of it.
use Rattle.std.specs.Prelude.{◌≡◌, true, List, [], ◌∷◌, Some, None, cond, length, map, T, refl}
use Rattle.std.proofs.Common.{sym, ap, subst, ◌∙◌}
use Rattle.std.specs.declared.cmp.Ordering.{Ordering}
use Rattle.std.specs.declared.cmp.Ordering.TheVariants.{Less}
use Rattle.std.specs.Ordering.{eq_by_cmp}
use Rattle.std.specs.Cmp.{IsTotalOrder, eq_by_cmp_equiv}
use Rattle.std.specs.List.{AllByRecursion}
use Rattle.std.specs.List.Sorted.{IsStrictlySortedBy}
use Rattle.std.specs.Map.{lookup}
use Rattle.std.specs.BTreeMap as tree
use Rattle.std.specs.BTreeMap.{BTreeMap, IsOrdered, Updates, btree_map_len, is_at}
use Rattle.std.specs.FinMap as finite
use Rattle.std.specs.FinMap.Entries.{below_all}
use Rattle.std.specs.FinMap.{FinMap, IsAntisymmetric, find, is_sorted, from_entries, from_sorted, entries, len}

-- the finite map of a map's entries
abbrev pub map_of : {K X : Type 0} (R : K → K → Ordering) → BTreeMap K X → FinMap R X
map_of R m = from_entries {R = R} m.entries

-- What the clauses of an ordered map, whose keys stand in the order R, say of its finite map.
pub record MapLaws {K : Type 0} (R : K → K → Ordering) (X : Type 0) : Type 0 where
  -- a look-up finds what the finite map has
  pub found : (m : BTreeMap K X) (q : K) → finite.get (map_of R m) q ≡ tree.get R m q
  -- a change at one key that leaves a value there
  pub inserted : (old new : BTreeMap K X) (k : K) (x : X) → Updates R old new k (Some x) → map_of R new ≡ finite.insert (map_of R old) k x
  -- a change at one key that leaves nothing there
  pub removed : (old new : BTreeMap K X) (k : K) → Updates R old new k None → map_of R new ≡ finite.remove (map_of R old) k
  -- the entries in the order of the keys, and their number
  pub listed : (m : BTreeMap K X) → IsOrdered R m → entries (map_of R m) ≡ m.entries
  pub counted : (m : BTreeMap K X) → IsOrdered R m → len (map_of R m) ≡ btree_map_len m

module _ {K X : Type 0} (R : K → K → Ordering) where
  find_is : (es : List (K × X)) (q : K) → find R q es ≡ lookup (is_at (R q)) es
  find_is [] q = refl
  find_is (e ∷ es) q = ap (cond (is_at (R q) e.0) (Some e.1)) (find_is es q)

  below_is : (x : K) (es : List (K × X)) → AllByRecursion (λ y. R x y ≡ Less) (map (λ e. e.0) es) → below_all R x es ≡ true
  below_is x [] h = refl
  below_is x (e ∷ es) h = rw (h.0, below_is x es h.1) refl

  sorted_is : (es : List (K × X)) → IsStrictlySortedBy R (map (λ e. e.0) es) → is_sorted R es ≡ true
  unfolding IsStrictlySortedBy
  sorted_is [] h = refl
  sorted_is (e ∷ es) h = rw (below_is e.0 es h.0, sorted_is es h.1) refl

module _ {K X : Type 0} {R : K → K → Ordering} (order : IsTotalOrder R) where
  get_is : (m : BTreeMap K X) (q : K) → finite.get (map_of R m) q ≡ tree.get R m q
  get_is m q = finite.get-from_entries order m.entries q ∙ find_is R m.entries q

  module _ (same : IsAntisymmetric R) where
    inserted_is : (old new : BTreeMap K X) (k : K) (x : X) → Updates R old new k (Some x) → map_of R new ≡ finite.insert (map_of R old) k x
    inserted_is old new k x change =
        finite.same_map order same _ _ (λ q.
        get_is new q ∙ change.0 q
        ∙ ap (λ b. cond b (Some x) (tree.get R old q)) ((eq_by_cmp_equiv order).symm k q)
        ∙ sym (finite.get-insert order (map_of R old) k x q ∙ ap (cond (eq_by_cmp R q k) (Some x)) (get_is old q)))

    removed_is : (old new : BTreeMap K X) (k : K) → Updates R old new k None → map_of R new ≡ finite.remove (map_of R old) k
    removed_is old new k change =
        finite.same_map order same _ _ (λ q.
        get_is new q ∙ change.0 q
        ∙ ap (λ b. cond b None (tree.get R old q)) ((eq_by_cmp_equiv order).symm k q)
        ∙ sym (finite.get-remove order (map_of R old) k q ∙ ap (cond (eq_by_cmp R q k) None) (get_is old q)))

    listed_is : (m : BTreeMap K X) → IsOrdered R m → entries (map_of R m) ≡ m.entries
    listed_is m h =
        let sorted = subst T (sym (sorted_is R m.entries h)) tt in
        ap entries (finite.same_map order same (map_of R m) (from_sorted {R = R} m.entries) (λ q. finite.get-from_entries order m.entries q ∙ sym (finite.get-from_sorted R m.entries q sorted)))
        ∙ finite.entries-from_sorted R m.entries sorted

-- they hold for every key and value, where keys that tie are one key
pub map_laws_hold : {K : Type 0} {R : K → K → Ordering} → IsTotalOrder R → IsAntisymmetric R → (X : Type 0) → MapLaws R X
map_laws_hold order same X = record {
  found = get_is order;
  inserted = inserted_is order same;
  removed = removed_is order same;
  listed = listed_is order same;
  counted = λ m h. finite.len-entries _ ∙ ap length (listed_is order same m h);
}
