-- The values of a name, in the rows and in an ordered map beside them.
use Rattle.std.proofs.Common.{◌≡◌, ℕ, suc, Bool, true, false, not, cond, ◌||◌, ◌==◌, length, List, [], ◌∷◌, ◌++◌, Option, Some, filter, map, refl, sym, ap, ◌∙◌, subst, if◌then◌else◌}
use Rattle.std.specs.BTreeMap.{is_at}
use Rattle.std.specs.Cmp.Lexicographic.{slice_cmp}
use Rattle.std.specs.Map.{lookup}
use Rattle.std.specs.Option.{IsSome, unwrap_or}
use Rattle.std.specs.Ordering.{is_eq, nat_cmp}
use Rattle.std.specs.Str.{bytes_eq}
use Rattle.std.proofs.lemmas.Bool.Decides.{nat_tests}
use Rattle.std.proofs.lemmas.Cmp.{same_from_slice_cmp}
use Rattle.std.proofs.lemmas.List.{append-nil}
use Rattle.std.proofs.lemmas.List.Folds.{list_any-append}
use Rattle.std.proofs.lemmas.Map.Steps.{set_value_same}
use Rattle.std.proofs.lemmas.Slice.Eq.{bytes_eq-Decides}
use Rattle.std.specs.Map.{set_value}
use Rattle.std.specs.Result.{OnErr, OnOk}
use Rattle.std.proofs.lemmas.Bool.{or_left, or_right}
use Rattle.std.proofs.Common.{Result, Ok, Err, arith}
use Rattle.pf_host.specs.declared.row.Row.{Row}
use Rattle.pf_host.specs.Rows.{has_row, is_key, is_listed, values_at, values_of}

-- the order of names tells equal ones
same_test : (a b : List ℕ) → is_eq (slice_cmp nat_cmp a b) ≡ bytes_eq a b
same_test a b = same_from_slice_cmp nat_cmp is_eq bytes_eq refl (λ _ _. refl) (λ _ _. refl) (λ x y xs ys o h. grind (arith, nat_tests)) a b (slice_cmp nat_cmp a b) refl

not_zero : (n : ℕ) → not (suc n == 0) ≡ true
not_zero n = grind (arith, nat_tests)

-- a name has a row where it has values
pub has_values : {T : Type 0} (rows : List (Row T)) (name : List ℕ) → not (length (values_of rows name) == 0) ≡ has_row rows name
has_values [] name = refl
has_values (row ∷ rows) name =
    elim (bytes_eq row.name name) as (λ b. not (length (map (λ r. r.value) (cond b (row ∷ filter (λ r. bytes_eq r.name name) rows) (filter (λ r. bytes_eq r.name name) rows))) == 0) ≡ (b || has_row rows name)) [
      | true ↦ not_zero (length (map (λ r. r.value) (filter (λ r. bytes_eq r.name name) rows)))
      | false ↦ has_values rows name
    ]

one_kept : {T : Type 0} (b : Bool) (name other : List ℕ) (value : T) (old : List (List ℕ × List T)) → (b ≡ true → name ≡ other) → unwrap_or (cond b (Some (values_at old name ++ value ∷ [])) (lookup (is_at (slice_cmp nat_cmp other)) old)) [] ≡ values_at old other ++ (if b then value ∷ [] else [])
one_kept true name other value old same = ap (λ n. values_at old n ++ value ∷ []) (same refl)
one_kept false name other value old same = sym (append-nil (values_at old other))

-- one value more of a name
pub kept : {T : Type 0} (old new : List (List ℕ × List T)) (name : List ℕ) (value : T) (w : List T)
    → ((q : List ℕ) → lookup (is_at (slice_cmp nat_cmp q)) new ≡ cond (is_at (slice_cmp nat_cmp name) q) (Some w) (lookup (is_at (slice_cmp nat_cmp q)) old))
    → w ≡ values_at old name ++ value ∷ []
    → (q : List ℕ) → values_at new q ≡ values_at old q ++ (if bytes_eq name q then value ∷ [] else [])
kept old new name value w updates is q =
    ap (λ o. unwrap_or o []) (updates q)
    ∙ (ap (λ b. unwrap_or (cond b (Some w) (lookup (is_at (slice_cmp nat_cmp q)) old)) []) (same_test name q)
    ∙ (ap (λ v. unwrap_or (cond (bytes_eq name q) (Some v) (lookup (is_at (slice_cmp nat_cmp q)) old)) []) is
    ∙ one_kept (bytes_eq name q) name q value old (bytes_eq-Decides name q).0))

-- a value written back changes nothing
pub same_kept : {T : Type 0} (old new : List (List ℕ × List T)) (name : List ℕ) (w v : List T) → new ≡ set_value (is_at (slice_cmp nat_cmp name)) old w → w ≡ v → Some v ≡ lookup (is_at (slice_cmp nat_cmp name)) old → (q : List ℕ) → values_at new q ≡ values_at old q
same_kept old new name w v is same found q =
    ap (λ entries. values_at entries q) (is ∙ set_value_same (is_at (slice_cmp nat_cmp name)) old w (sym found ∙ ap Some (sym same)))

-- what holds anyway holds of an error
pub on_err : {A E Q : Type 0} (r : Result A E) → Q → OnErr r Q
on_err (Ok x) q = tt
on_err (Err x) q = q

pub is_found : {T : Type 0} (v : T) {o : Option T} → Some v ≡ o → IsSome o
is_found v e = subst IsSome e refl

or_last : (b a : Bool) → cond b true a ≡ (a || (b || false))
or_last true true = refl
or_last true false = refl
or_last false true = refl
or_last false false = refl

-- one name more in the set and in the list
pub name_kept : (old new names : List (List ℕ)) (name : List ℕ) → ((q : List ℕ) → is_key new q ≡ cond (is_at (slice_cmp nat_cmp name) q) true (is_key old q)) → ((q : List ℕ) → is_key old q ≡ is_listed names q) → (q : List ℕ) → is_key new q ≡ is_listed (names ++ name ∷ []) q
name_kept old new names name updates same q =
    updates q
    ∙ (ap (λ b. cond b true (is_key old q)) (same_test name q)
    ∙ (ap (λ a. cond (bytes_eq name q) true a) (same q)
    ∙ (or_last (bytes_eq name q) (is_listed names q) ∙ sym (list_any-append (λ known. bytes_eq known q) names (name ∷ [])))))

-- a name that was added is listed
pub listed_last : {A E : Type 0} (r : Result A E) (old new : List (List ℕ)) (name : List ℕ) → OnOk r (new ≡ old ++ name ∷ []) → OnOk r (is_listed new name ≡ true)
listed_last (Ok x) old new name e =
    rw e (list_any-append (λ known. bytes_eq known name) old (name ∷ []) ∙ or_right (is_listed old name) _ (or_left (bytes_eq name name) false ((bytes_eq-Decides name name).1 refl)))
listed_last (Err x) old new name e = tt
