-- The number of entries of all tables, where one of them changes.
use Rattle.std.proofs.Common.{length, ◌≡◌, ℕ, ◌+◌, ◌≤◌, Bool, true, false, List, [], ◌∷◌, Option, Some, None, refl, sym, ap, ◌∙◌, arith}
use Rattle.std.specs.Prelude.{cond}
use Rattle.std.specs.FinMap as finite
use Rattle.std.specs.FinMap.{IsAntisymmetric, find, len-empty, len-entries, entries-insert, get-entries, get-insert, get-remove, same_map, slice_cmp-IsAntisymmetric, nat_cmp-IsAntisymmetric}
use Rattle.std.specs.FinMap.Entries.{by_order, put}
use Rattle.std.specs.declared.cmp.Ordering.{Ordering}
use Rattle.std.specs.declared.cmp.Ordering.TheVariants.{Less, Equal, Greater}
use Rattle.std.specs.Ordering.{eq_by_cmp, is_eq}
use Rattle.std.specs.Cmp.{IsTotalOrder, tied_itself}
use Rattle.std.specs.Cmp.Lexicographic.{nat_list_cmp_total}
use Rattle.pf_shelf.specs.declared.decl.Shelved.{Shelved}
use Rattle.pf_shelf.specs.Shelf.{Tables, entries_in, name_cmp, total}
use Rattle.pf_shelf.proofs.Maps.{none_is_some}

pub names_tie : IsAntisymmetric name_cmp
names_tie = slice_cmp-IsAntisymmetric nat_cmp-IsAntisymmetric

pub names_total : IsTotalOrder name_cmp
names_total = nat_list_cmp_total

put_new : (k : List ℕ) (v : Shelved) (es : List (List ℕ × Shelved)) → find name_cmp k es ≡ None → entries_in (put name_cmp k v es) ≡ finite.len v.table + entries_in es
put_new k v [] h = refl
put_new k v (e ∷ es) h = from (put_new k v es) (name_cmp k e.0) h
  where
    from : (find name_cmp k es ≡ None → entries_in (put name_cmp k v es) ≡ finite.len v.table + entries_in es) → (r : Ordering) → cond (is_eq r) (Some e.1) (find name_cmp k es) ≡ None → entries_in (by_order r ((k, v) ∷ e ∷ es) ((e.0, v) ∷ es) (e ∷ put name_cmp k v es)) ≡ finite.len v.table + entries_in (e ∷ es)
    from more Less h = refl
    from more Equal h = absurd (none_is_some e.1 (sym h))
    from more Greater h = let rest : entries_in (put name_cmp k v es) ≡ finite.len v.table + entries_in es = more h in omega arith

-- a table under a new name
pub total_new : (m : Tables) (k : List ℕ) (v : Shelved) → finite.get m k ≡ None → total (finite.insert m k v) ≡ finite.len v.table + total m
total_new m k v h = ap entries_in (entries-insert names_total m k v) ∙ put_new k v (finite.entries m) (sym (get-entries m k) ∙ h)

module _ (m : Tables) (k : List ℕ) (x : Shelved) (found : finite.get m k ≡ Some x) where
  rest : Tables
  rest = finite.remove m k

  gone : finite.get rest k ≡ None
  unfolding rest
  gone = get-remove names_total m k k ∙ ap (λ r. cond (is_eq r) None (finite.get m k)) (tied_itself names_total k)

  again : (v : Shelved) → finite.insert rest k v ≡ finite.insert m k v
  unfolding rest
  again v = same_map names_total names_tie _ _ (λ q.
      get-insert names_total rest k v q ∙ ap (λ (y : Option Shelved). cond (eq_by_cmp name_cmp q k) (Some v) y) (get-remove names_total m k q)
      ∙ once (eq_by_cmp name_cmp q k) (finite.get m q) v ∙ sym (get-insert names_total m k v q))
    where
      once : (b : Bool) (y : Option Shelved) (v : Shelved) → cond b (Some v) (cond b None y) ≡ cond b (Some v) y
      once true y v = refl
      once false y v = refl

  -- what is found, put there once more
  pub insert_same : finite.insert m k x ≡ m
  insert_same = same_map names_total names_tie _ _ (λ q. get-insert names_total m k x q ∙ from q (name_cmp q k) refl)
    where
      from : (q : List ℕ) (r : Ordering) → name_cmp q k ≡ r → cond (is_eq r) (Some x) (finite.get m q) ≡ finite.get m q
      from q Less e = refl
      from q Equal e = sym found ∙ ap (finite.get m) (sym (names_tie q k e))
      from q Greater e = refl

  total_rest : total m ≡ finite.len x.table + total rest
  total_rest = ap total (sym insert_same ∙ sym (again x)) ∙ total_new rest k x gone

  pub total_changed : (v : Shelved) → total (finite.insert m k v) + finite.len x.table ≡ total m + finite.len v.table
  total_changed v =
      let before : total m ≡ finite.len x.table + total rest = total_rest in
      let after : total (finite.insert m k v) ≡ finite.len v.table + total rest = ap total (sym (again v)) ∙ total_new rest k v gone in
      omega arith

  pub found_fits : finite.len x.table ≤ total m
  found_fits = let before : total m ≡ finite.len x.table + total rest = total_rest in omega arith

no_entries : (es : List (List ℕ × Shelved)) → length es ≡ 0 → entries_in es ≡ 0
no_entries [] h = refl
no_entries (e ∷ es) h = absurd (omega arith)

pub total_none : total finite.empty ≡ 0
total_none = no_entries (finite.entries finite.empty) (sym (len-entries finite.empty) ∙ len-empty name_cmp Shelved)
