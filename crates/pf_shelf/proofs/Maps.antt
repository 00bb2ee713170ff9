-- Finite maps and the lists of their entries.
use Rattle.std.proofs.Common.{◌≡◌, Bool, true, false, ◌&&◌, List, [], ◌∷◌, Option, Some, None, refl, sym, ap, ◌∙◌}
use Rattle.std.specs.Prelude.{cond}
use Rattle.std.specs.List.{filter}
use lib.Dec.{T}
use Rattle.std.specs.FinMap as finite
use Rattle.std.specs.FinMap.{FinMap, IsAntisymmetric, find, is_sorted, get-entries}
use Rattle.std.specs.FinMap.Entries.{below_all}
use Rattle.std.specs.declared.cmp.Ordering.{Ordering}
use Rattle.std.specs.declared.cmp.Ordering.TheVariants.{Less, Equal, Greater}
use Rattle.std.specs.Ordering.{eq_by_cmp, is_eq, is_lt}
use Rattle.std.specs.Cmp.{IsTotalOrder, tied_itself}

first : (a b : Bool) → T (a && b) → T a
first true b h = tt
first false b h = absurd h

second : (a b : Bool) → T (a && b) → T b
second true b h = h
second false b h = absurd h

tie : (r : Ordering) → is_eq r ≡ true → r ≡ Equal
tie Less e = absurd (cc)
tie Equal e = refl
tie Greater e = absurd (cc)

pub none_is_some : {X : Type 0} (x : X) → ◌≡◌ {A = Option X} None (Some x) → ⊥
none_is_some x e = cc

module _ {K X : Type 0} {R : K → K → Ordering} (o : IsTotalOrder R) (same : IsAntisymmetric R) where
  none_below : (x : K) (es : List (K × X)) → T (below_all R x es) → find R x es ≡ None
  none_below x [] h = refl
  none_below x (e ∷ es) h = from (none_below x es) (R x e.0) h
    where
      from : (T (below_all R x es) → find R x es ≡ None) → (r : Ordering) → T (is_lt r && below_all R x es) → cond (is_eq r) (Some e.1) (find R x es) ≡ None
      from rest Less h = rest h
      from rest Equal h = absurd h
      from rest Greater h = absurd h

  -- a key that is found in the rest isn't the first
  not_first : (e : K × X) (es : List (K × X)) (q : K) (x : X) → T (below_all R e.0 es) → find R q es ≡ Some x → eq_by_cmp R q e.0 ≡ false
  not_first e es q x h f = from (eq_by_cmp R q e.0) refl
    where
      from : (b : Bool) → eq_by_cmp R q e.0 ≡ b → b ≡ false
      from false t = refl
      from true t = absurd (none_is_some x (sym (none_below e.0 es h) ∙ ap (λ k. find R k es) (sym (same q e.0 (tie (R q e.0) t))) ∙ f))

  found_first : (e : K × X) (es : List (K × X)) → find R e.0 (e ∷ es) ≡ Some e.1
  found_first e es = ap (λ r. cond (is_eq r) (Some e.1) (find R e.0 es)) (tied_itself o e.0)

  -- two tests that agree on the entries of a map
  filter_same : (p r : K × X → Bool) (es : List (K × X)) → T (is_sorted R es) → ((q : K) (x : X) → find R q es ≡ Some x → p (q, x) ≡ r (q, x)) → filter p es ≡ filter r es
  filter_same p r [] s h = refl
  filter_same p r (e ∷ es) s h =
      let rest : filter p es ≡ filter r es = filter_same p r es (second _ _ s) (λ q x f. h q x (ap (λ b. cond b (Some e.1) (find R q es)) (not_first e es q x (first _ _ s) f) ∙ f)) in
      let head : p e ≡ r e = h e.0 e.1 (found_first e es) in
      ap (λ b. cond b (e ∷ filter p es) (filter p es)) head ∙ ap (λ l. cond (r e) (e ∷ l) l) rest

  pub entries_filter_same : (p r : K × X → Bool) (m : FinMap R X) → ((q : K) (x : X) → finite.get m q ≡ Some x → p (q, x) ≡ r (q, x)) → filter p (finite.entries m) ≡ filter r (finite.entries m)
  entries_filter_same p r m h = filter_same p r (finite.entries m) (finite.entries_sorted m) (λ q x f. h q x (get-entries m q ∙ f))
