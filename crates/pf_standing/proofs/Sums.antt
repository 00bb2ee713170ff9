-- Sums over the values of a map: where it has a value more or one less, and where none is more than another's at the same key.
use Rattle.std.proofs.Common.{◌≡◌, ℕ, suc, ◌+◌, ◌≤◌, Bool, true, false, T, List, [], ◌∷◌, length, map, Option, Some, None, refl, sym, ap, ◌∙◌, arith}
use Rattle.std.specs.Prelude.{cond, ◌&&◌}
use Rattle.std.specs.List.{sum_by}
use Rattle.std.specs.FinMap as finite
use Rattle.std.specs.FinMap.{FinMap, IsAntisymmetric, find, is_sorted, entries-insert, entries_sorted, get-entries, get-insert, get-remove, same_map}
use Rattle.std.specs.FinMap.Entries.{below_all, by_order, put}
use Rattle.std.specs.declared.cmp.Ordering.{Ordering}
use Rattle.std.specs.declared.cmp.Ordering.TheVariants.{Less, Equal, Greater}
use Rattle.std.specs.Ordering.{eq_by_cmp, is_eq, is_lt}
use Rattle.std.specs.Cmp.{IsTotalOrder, tied_itself}
use Rattle.std.proofs.lemmas.List.Sums.{sum_by-cons}

module _ {K X : Type 0} (f : X → ℕ) where
  -- the sum of the values of entries
  abbrev sum_of : List (K × X) → ℕ
  sum_of [] = 0
  sum_of (e ∷ es) = f e.1 + sum_of es

  sum_of_values : (es : List (K × X)) → sum_by f (map (λ e. e.1) es) ≡ sum_of es
  sum_of_values [] = refl
  sum_of_values (e ∷ es) = sum_by-cons f e.1 (map (λ e. e.1) es) ∙ ap (λ n. f e.1 + n) (sum_of_values es)

module _ {K X : Type 0} {R : K → K → Ordering} (order : IsTotalOrder R) (same : IsAntisymmetric R) (f : X → ℕ) where
  none_some : (v : X) → None ≡ Some v → ⊥
  none_some v e = Prim.cc

  put_new : (k : K) (v : X) (es : List (K × X)) → find R k es ≡ None → sum_of f (put R k v es) ≡ f v + sum_of f es
  put_new k v [] h = refl
  put_new k v (e ∷ es) h = from (put_new k v es) (R k e.0) h
    where
      from : (find R k es ≡ None → sum_of f (put R k v es) ≡ f v + sum_of f es) → (r : Ordering) → cond (is_eq r) (Some e.1) (find R k es) ≡ None → sum_of f (by_order r ((k, v) ∷ e ∷ es) ((e.0, v) ∷ es) (e ∷ put R k v es)) ≡ f v + sum_of f (e ∷ es)
      from more Less h = refl
      from more Equal h = absurd (none_some e.1 (sym h))
      from more Greater h = let rest : sum_of f (put R k v es) ≡ f v + sum_of f es = more h in omega arith

  abbrev sum_in : FinMap R X → ℕ
  sum_in m = sum_of f (finite.entries m)

  sum_new : (m : FinMap R X) (k : K) (v : X) → finite.get m k ≡ None → sum_in (finite.insert m k v) ≡ f v + sum_in m
  sum_new m k v h = ap (sum_of f) (entries-insert order m k v) ∙ put_new k v (finite.entries m) (sym (get-entries m k) ∙ h)

  module _ (m : FinMap R X) (k : K) (x : X) (found : finite.get m k ≡ Some x) where
    rest : FinMap R X
    rest = finite.remove m k

    gone : finite.get rest k ≡ None
    unfolding rest
    gone = get-remove order m k k ∙ ap (λ r. cond (is_eq r) None (finite.get m k)) (tied_itself order k)

    whole : finite.insert rest k x ≡ m
    unfolding rest
    whole = same_map order same _ _ (λ q. get-insert order rest k x q ∙ ap (λ (y : Option X). cond (eq_by_cmp R q k) (Some x) y) (get-remove order m k q) ∙ from q (R q k) refl)
      where
        from : (q : K) (r : Ordering) → R q k ≡ r → cond (is_eq r) (Some x) (cond (is_eq r) None (finite.get m q)) ≡ finite.get m q
        from q Less e = refl
        from q Equal e = sym found ∙ ap (finite.get m) (sym (same q k e))
        from q Greater e = refl

    -- the value of a key, and the others
    sum_rest : sum_in m ≡ f x + sum_in (finite.remove m k)
    unfolding rest
    sum_rest = ap sum_in (sym whole) ∙ sum_new rest k x gone

  first : (a b : Bool) → T (a && b) → T a
  first true b h = tt
  first false b h = h

  second : (a b : Bool) → T (a && b) → T b
  second true b h = h
  second false b h = absurd h

  lower : (r : Ordering) → T (is_lt r) → is_eq r ≡ false
  lower Less h = refl
  lower Equal h = absurd h
  lower Greater h = absurd h

  -- a key that stands before all isn't found
  find_before : (k : K) (es : List (K × X)) → T (below_all R k es) → find R k es ≡ None
  find_before k [] h = refl
  find_before k (e ∷ es) h = ap (λ b. cond b (Some e.1) (find R k es)) (lower (R k e.0) (first _ _ h)) ∙ find_before k es (second _ _ h)

  -- a value and one that is no less
  pub record HasMore (m : FinMap R X) (q : K) (v : X) : Type 0 where
    pub other : X
    pub there : finite.get m q ≡ Some other
    pub more : f v ≤ f other

  -- of each entry the map has one that is no less
  AllMore : List (K × X) → FinMap R X → Type 0
  AllMore es m = (q : K) (v : X) → find R q es ≡ Some v → HasMore m q v

  fewer : (es : List (K × X)) (m : FinMap R X) → T (is_sorted R es) → ((q : K) (v : X) → find R q es ≡ Some v → HasMore m q v) → sum_of f es ≤ sum_in m
  fewer [] m sorted h = omega arith
  fewer (e ∷ es) m sorted h =
      let has : HasMore m e.0 e.1 = h e.0 e.1 (ap (λ r. cond (is_eq r) (Some e.1) (find R e.0 es)) (tied_itself order e.0)) in
      let whole : sum_in m ≡ f has.other + sum_in (finite.remove m e.0) = sum_rest m e.0 has.other has.there in
      let more = has.more in
      let behind : sum_of f es ≤ sum_in (finite.remove m e.0) = fewer es (finite.remove m e.0) (second (below_all R e.0 es) (is_sorted R es) sorted) (λ q v found. later q v found (R q e.0) refl) in
      omega arith
    where
      later : (q : K) (v : X) → find R q es ≡ Some v → (r : Ordering) → R q e.0 ≡ r → HasMore (finite.remove m e.0) q v
      later q v found Equal tied = absurd (none_some v (sym (ap (λ k. find R k es) (same q e.0 tied) ∙ find_before e.0 es (first _ _ sorted)) ∙ found))
      later q v found Less tied =
          let has : HasMore m q v = h q v (ap (λ r. cond (is_eq r) (Some e.1) (find R q es)) tied ∙ found) in
          record { other = has.other; there = get-remove order m e.0 q ∙ ap (λ r. cond (is_eq r) None (finite.get m q)) tied ∙ has.there; more = has.more }
      later q v found Greater tied =
          let has : HasMore m q v = h q v (ap (λ r. cond (is_eq r) (Some e.1) (find R q es)) tied ∙ found) in
          record { other = has.other; there = get-remove order m e.0 q ∙ ap (λ r. cond (is_eq r) None (finite.get m q)) tied ∙ has.there; more = has.more }

  -- a map of which each value is no more than that of another has no greater sum
  pub sum_fewer : (less m : FinMap R X) → ((q : K) (v : X) → finite.get less q ≡ Some v → HasMore m q v) → sum_by f (finite.values less) ≤ sum_by f (finite.values m)
  sum_fewer less m h =
      let one : sum_by f (finite.values less) ≡ sum_in less = sum_of_values f (finite.entries less) in
      let two : sum_by f (finite.values m) ≡ sum_in m = sum_of_values f (finite.entries m) in
      let three : sum_in less ≤ sum_in m = fewer (finite.entries less) m (entries_sorted less) (λ q v found. h q v (get-entries less q ∙ found)) in
      omega arith

  -- the sum with a value more
  pub sum_more : (m : FinMap R X) (k : K) (v : X) → finite.get m k ≡ None → sum_by f (finite.values (finite.insert m k v)) ≡ f v + sum_by f (finite.values m)
  sum_more m k v h =
      sum_of_values f (finite.entries (finite.insert m k v)) ∙ sum_new m k v h ∙ ap (λ n. f v + n) (sym (sum_of_values f (finite.entries m)))

  -- the sum without a value
  pub sum_less : (m : FinMap R X) (k : K) → sum_by f (finite.values (finite.remove m k)) ≤ sum_by f (finite.values m)
  sum_less m k = sum_fewer (finite.remove m k) m (λ q v found. from q v (eq_by_cmp R q k) (sym (get-remove order m k q) ∙ found))
    where
      from : (q : K) (v : X) (b : Bool) → cond b None (finite.get m q) ≡ Some v → HasMore m q v
      from q v true e = absurd (none_some v e)
      from q v false e = record { other = v; there = e; more = omega arith }

-- ---- how many values there are

none_of : {A : Type 0} (items : List A) → length items ≡ 0 → items ≡ []
none_of [] e = refl
none_of (item ∷ items) e = absurd (omega arith)

no_entries : {K : Type 0} (X : Type 0) (R : K → K → Ordering) → finite.entries (finite.empty {X = X} {R = R}) ≡ []
no_entries X R = none_of (finite.entries (finite.empty {X = X} {R = R})) (sym (finite.len-entries (finite.empty {X = X} {R = R})) ∙ finite.len-empty R X)

pub empty_sum : {K X : Type 0} (R : K → K → Ordering) (f : X → ℕ) → sum_by f (finite.values (finite.empty {X = X} {R = R})) ≡ 0
empty_sum {K = K} {X = X} R f = ap (λ (es : List (K × X)). sum_by f (map (λ e. e.1) es)) (no_entries X R)

abbrev pub one : {X : Type 0} → X → ℕ
one value = 1

one_and : (n m : ℕ) → n ≡ m → 1 + n ≡ suc m
one_and n m e = omega arith

ones : {K X : Type 0} (es : List (K × X)) → sum_by one (map (λ e. e.1) es) ≡ length es
ones [] = refl
ones (e ∷ es) = sum_by-cons one e.1 (map (λ e. e.1) es) ∙ one_and _ _ (ones es)

-- each value counts once
pub counted : {K X : Type 0} {R : K → K → Ordering} (m : FinMap R X) → sum_by one (finite.values m) ≡ finite.len m
counted m = ones (finite.entries m) ∙ sym (finite.len-entries m)
