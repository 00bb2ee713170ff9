-- The tables of a shelf, one of them changed, and those that a load leaves.
use Rattle.std.proofs.Common.{◌≡◌, ℕ, ◌+◌, Bool, true, false, List, [], ◌∷◌, ◌++◌, Option, Some, None, Result, Ok, Err, refl, sym, ap, ◌∙◌, subst, arith, append_assoc, append-nil}
use Rattle.std.specs.Prelude.{cond, is_some, IsSome, OnErr}
use Rattle.std.specs.List.{filter}
use Rattle.std.specs.Option.{option_or}
use Rattle.std.specs.FinMap as finite
use Rattle.std.specs.FinMap.{find, from_entries, get-entries, get-from_entries, same_map}
use Rattle.pf_table.specs.Table.{Signs}
use Rattle.pf_table.specs.Pushed.{entries_back, found_or, from_entries_more}
use Rattle.pf_shelf.specs.declared.decl.Shelved.{Shelved}
use Rattle.pf_shelf.specs.Shelf.{Tables, name_cmp, total}
use Rattle.pf_shelf.specs.Renewed.{persists, put_kept, put_where_new}
use Rattle.pf_shelf.proofs.Signed.{filter_push}
use Rattle.pf_shelf.proofs.Totals.{insert_same, names_tie, names_total, total_changed, total_new}

-- what holds anyway holds of an error
pub on_err : {A E Q : Type 0} (r : Result A E) → Q → OnErr r Q
on_err (Ok x) q = tt
on_err (Err e) q = q

pub is_found : {T : Type 0} (v : T) {o : Option T} → Some v ≡ o → IsSome o
is_found v e = subst IsSome e refl

pub none_of : {T : Type 0} (o : Option T) → is_some o ≡ false → o ≡ None
none_of None e = refl
none_of (Some x) e = absurd (cc)

-- a table whose entries stay
pub put_back : (m new : Tables) (k : List ℕ) (x w : Shelved) → finite.get m k ≡ Some x → w ≡ x → new ≡ finite.insert m k w → new ≡ m
put_back m new k x w found same is = is ∙ ap (λ (t : Shelved). finite.insert m k t) same ∙ insert_same m k x found

abbrev pub with_signs : Shelved → Signs → Shelved
with_signs x signs = record { flags = x.flags; table = signs }

pub same_signs : (x : Shelved) (signs : Signs) → signs ≡ x.table → with_signs x signs ≡ x
same_signs x signs e = ap (with_signs x) e

pub sum_changed : (m new : Tables) (k : List ℕ) (x w : Shelved) (sum before after others : ℕ) → finite.get m k ≡ Some x → new ≡ finite.insert m k w → sum ≡ total m → before ≡ finite.len x.table → after ≡ finite.len w.table → others + before ≡ sum → others + after ≡ total new
sum_changed m new k x w sum before after others found is s b a o =
    let h : total (finite.insert m k w) + finite.len x.table ≡ total m + finite.len w.table = total_changed m k x found w in
    let n : total new ≡ total (finite.insert m k w) = ap total is in
    omega arith

pub sum_put : (m new : Tables) (k : List ℕ) (w : Shelved) (sum old len : ℕ) → finite.get m k ≡ None → new ≡ finite.insert m k w → old ≡ total m → len ≡ finite.len w.table → sum ≡ old + len → sum ≡ total new
sum_put m new k w sum old len none is o l s =
    let h : total (finite.insert m k w) ≡ finite.len w.table + total m = total_new m k w none in
    let n : total new ≡ total (finite.insert m k w) = ap total is in
    omega arith

-- the tables of a list that begins with those of a shelf
pub entries_none : (m : Tables) → m ≡ from_entries {R = name_cmp} (finite.entries m ++ [])
entries_none m = sym (ap (λ (es : List (List ℕ × Shelved)). from_entries {R = name_cmp} es) (append-nil (finite.entries m)) ∙ entries_back name_cmp names_total names_tie m)

pub kept_more : (base ys : List (List ℕ × Shelved)) (k : List ℕ) (v : Shelved) → put_kept (from_entries (base ++ filter persists ys)) k v ≡ from_entries {R = name_cmp} (base ++ filter persists (ys ++ (k, v) ∷ []))
kept_more base ys k v =
    from v.flags.persist
    ∙ sym (ap (λ (es : List (List ℕ × Shelved)). from_entries {R = name_cmp} (base ++ es)) (filter_push persists ys (k, v)))
  where
    from : (b : Bool) → cond b (put_where_new (from_entries (base ++ filter persists ys)) k v) (from_entries (base ++ filter persists ys)) ≡ from_entries {R = name_cmp} (base ++ (filter persists ys ++ cond b ((k, v) ∷ []) []))
    from true = sym (ap (λ (es : List (List ℕ × Shelved)). from_entries {R = name_cmp} es) (sym (append_assoc base (filter persists ys) ((k, v) ∷ []))) ∙ from_entries_more name_cmp names_total names_tie (base ++ filter persists ys) k v)
    from false = sym (ap (λ (es : List (List ℕ × Shelved)). from_entries {R = name_cmp} (base ++ es)) (append-nil (filter persists ys)))

pub one_more : (base : List (List ℕ × Shelved)) (k : List ℕ) (v : Shelved) → put_where_new (from_entries base) k v ≡ from_entries {R = name_cmp} (base ++ (k, v) ∷ [])
one_more base k v = sym (from_entries_more name_cmp names_total names_tie base k v)

pub from_front : (xs ys : List (List ℕ × Shelved)) → from_entries {R = name_cmp} (finite.entries (from_entries {R = name_cmp} xs) ++ ys) ≡ from_entries (xs ++ ys)
from_front xs ys = same_map names_total names_tie _ _ (λ q.
    get-from_entries names_total (finite.entries (from_entries {R = name_cmp} xs) ++ ys) q
    ∙ found_or name_cmp (finite.entries (from_entries {R = name_cmp} xs)) ys q
    ∙ ap (λ (x : Option Shelved). option_or x (find name_cmp q ys)) (sym (get-entries (from_entries {R = name_cmp} xs) q) ∙ get-from_entries names_total xs q)
    ∙ sym (get-from_entries names_total (xs ++ ys) q ∙ found_or name_cmp xs ys q))
