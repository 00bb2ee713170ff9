-- Distinct values in the order of their first appearance, found from the first to the last.
use Rattle.std.proofs.Common.{◌≡◌, cond, Bool, true, false, not, ◌||◌, List, [], ◌∷◌, ◌++◌, Option, refl, sym, ap, ◌∙◌, subst, append-nil}
use Rattle.std.proofs.lemmas.Bool.{false≢true}
use Rattle.std.specs.List.{filter, list_any}
use Rattle.pf_base.specs.Equality.{options}
use Rattle.pf_order.specs.Order.{distinct}
use Rattle.pf_rule.specs.Equal.{skip_values}
use Rattle.pf_rule.specs.declared.field.FieldValue.{FieldValue}

abbrev same : Option FieldValue → Option FieldValue → Bool
same = (options skip_values).same

-- a value behind others: they stay as they are where it is among them
abbrev pub with_value : Option FieldValue → List (Option FieldValue) → List (Option FieldValue)
with_value value values = cond (list_any (same value) values) values (values ++ value ∷ [])

same_is : (a b : Option FieldValue) → same a b ≡ true → a ≡ b
same_is a b = ((options skip_values).decides a b).0

same_itself : (a : Option FieldValue) → same a a ≡ true
same_itself a = ((options skip_values).decides a a).1 refl

filter_append : {X : Type 0} (test : X → Bool) (xs ys : List X) → filter test (xs ++ ys) ≡ filter test xs ++ filter test ys
filter_append test [] ys = refl
filter_append test (x ∷ xs) ys = cases (test x) (filter_append test xs ys)
  where
    cases : (b : Bool) → filter test (xs ++ ys) ≡ filter test xs ++ filter test ys → cond b (x ∷ filter test (xs ++ ys)) (filter test (xs ++ ys)) ≡ cond b (x ∷ filter test xs) (filter test xs) ++ filter test ys
    cases true e = ap (λ t. x ∷ t) e
    cases false e = e

-- a value that differs from another is among values exactly where it is among those without the other
among_others : (x value : Option FieldValue) (values : List (Option FieldValue)) → same value x ≡ false → list_any (same value) (filter (λ other. not (same x other)) values) ≡ list_any (same value) values
among_others x value [] d = refl
among_others x value (v ∷ vs) d = cases (same x v) refl (among_others x value vs d)
  where
    cases : (b : Bool) → same x v ≡ b → list_any (same value) (filter (λ other. not (same x other)) vs) ≡ list_any (same value) vs → list_any (same value) (cond (not b) (v ∷ filter (λ other. not (same x other)) vs) (filter (λ other. not (same x other)) vs)) ≡ (same value v || list_any (same value) vs)
    cases true e h = h ∙ ap (λ t. t || list_any (same value) vs) (sym (ap (same value) (sym (same_is x v e)) ∙ d))
    cases false e h = ap (λ t. same value v || t) h

same_turned : (a b : Option FieldValue) → same a b ≡ same b a
same_turned a b = both (same a b) (same b a) (λ h. back a b (same_is a b h)) (λ h. back b a (same_is b a h))
  where
    back : (u v : Option FieldValue) → u ≡ v → same v u ≡ true
    back u v e = subst (λ (t : Option FieldValue). same t u ≡ true) e (same_itself u)

    both : (p q : Bool) → (p ≡ true → q ≡ true) → (q ≡ true → p ≡ true) → p ≡ q
    both true q f g = sym (f refl)
    both false true f g = absurd (false≢true (g refl))
    both false false f g = refl

pub distinct_more : (values : List (Option FieldValue)) (value : Option FieldValue) → distinct (values ++ value ∷ []) ≡ with_value value (distinct values)
distinct_more [] value = refl
distinct_more (x ∷ values) value =
    ap (λ t. x ∷ filter (λ other. not (same x other)) t) (distinct_more values value)
    ∙ left (list_any (same value) (distinct values))
    ∙ ap (λ (b : Bool). x ∷ cond (list_any (same value) (distinct values)) (filter (λ other. not (same x other)) (distinct values)) (filter (λ other. not (same x other)) (distinct values) ++ cond (not b) (value ∷ []) [])) (same_turned x value)
    ∙ joined (list_any (same value) (distinct values)) (same value x) (list_any (same value) (filter (λ other. not (same x other)) (distinct values))) (filter (λ other. not (same x other)) (distinct values))
    (λ e. among_others x value (distinct values) e)
  where
    left : (a : Bool) → x ∷ filter (λ other. not (same x other)) (cond a (distinct values) (distinct values ++ value ∷ [])) ≡ x ∷ cond a (filter (λ other. not (same x other)) (distinct values)) (filter (λ other. not (same x other)) (distinct values) ++ cond (not (same x value)) (value ∷ []) [])
    left true = refl
    left false = ap (λ t. x ∷ t) (filter_append (λ other. not (same x other)) (distinct values) (value ∷ []))

    joined : (a b c : Bool) (rest : List (Option FieldValue)) → (b ≡ false → c ≡ a) → x ∷ cond a rest (rest ++ cond (not b) (value ∷ []) []) ≡ cond (b || c) (x ∷ rest) (x ∷ (rest ++ value ∷ []))
    joined true true c rest h = refl
    joined false true c rest h = ap (λ t. x ∷ t) (append-nil rest)
    joined true false c rest h = ap (λ (t : Bool). cond t (x ∷ rest) (x ∷ (rest ++ value ∷ []))) (sym (h refl))
    joined false false c rest h = ap (λ (t : Bool). cond t (x ∷ rest) (x ∷ (rest ++ value ∷ []))) (sym (h refl))
