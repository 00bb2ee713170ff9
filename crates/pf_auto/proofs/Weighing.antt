-- What is left of a list, where the first of each large group stands for its group, weighs what the list weighs.
use Rattle.std.proofs.Common.{◌≡◌, ℕ, ◌+◌, cond, Bool, true, false, not, ◌&&◌, ◌||◌, nat_le, List, [], ◌∷◌, ◌++◌, length, refl, sym, ap, ◌∙◌, ◌⊎◌, inl, inr, arith, append-nil, append_assoc}
use Rattle.std.proofs.lemmas.Bool.{cases_Bool, false≢true}
use Rattle.std.proofs.lemmas.List.Elements.{filter_agree}
use Rattle.std.proofs.lemmas.List.Filters.{sum_by-filter_both}
use Rattle.std.proofs.lemmas.List.Folds.{list_any-append}
use Rattle.std.proofs.lemmas.List.Sums.{sum_by-cons}
use Rattle.std.specs.List.{filter, sum_by}
use Rattle.pf_auto.proofs.Leading.{Grouping, has_mate, is_many, left_weighs, mates_of, same_front, same_mates, some_of_length}

-- the weights of the items that stay, and those of the large groups of which none stands in front
abbrev stay_weight : {X : Type 0} → (X → X → Bool) → (X → ℕ) → List X → List X → ℕ
stay_weight mates weight all items = sum_by weight (filter (λ y. not (is_many mates all y)) items)

abbrev is_ahead : {X : Type 0} → (X → X → Bool) → List X → List X → X → Bool
is_ahead mates all front y = is_many mates all y && not (has_mate mates front y)

abbrev lead_weight : {X : Type 0} → (X → X → Bool) → (X → ℕ) → List X → List X → ℕ
lead_weight mates weight all front = sum_by weight (filter (is_ahead mates all front) all)

filter_none : {X : Type 0} (xs : List X) → filter (λ _. false) xs ≡ []
filter_none [] = refl
filter_none (x ∷ xs) = filter_none xs

-- an item passes the one of two tests, or else what both others say of it is one
Splits : {X : Type 0} → (X → Bool) → (X → Bool) → (X → Bool) → X → Type 0
Splits q m r y = ((m y ≡ true) × (q y ≡ true) × (r y ≡ false)) ⊎ ((m y ≡ false) × (q y ≡ r y))

split_sum : {X : Type 0} (weight : X → ℕ) (q m r : X → Bool) → ((y : X) → Splits q m r y) → (xs : List X) → sum_by weight (filter q xs) ≡ sum_by weight (filter m xs) + sum_by weight (filter r xs)
unfolding Splits
split_sum weight q m r s [] = refl
split_sum weight q m r s (x ∷ xs) =
    let rest = split_sum weight q m r s xs in
    elim (s x) [
      | inl h ↦
          let e : sum_by weight (filter q (x ∷ xs)) ≡ weight x + sum_by weight (filter q xs) = ap (λ b. sum_by weight (cond b (x ∷ filter q xs) (filter q xs))) h.1 ∙ sum_by-cons weight x (filter q xs) in
          let k : sum_by weight (filter m (x ∷ xs)) ≡ weight x + sum_by weight (filter m xs) = ap (λ b. sum_by weight (cond b (x ∷ filter m xs) (filter m xs))) h.0 ∙ sum_by-cons weight x (filter m xs) in
          let l : sum_by weight (filter r (x ∷ xs)) ≡ sum_by weight (filter r xs) = ap (λ b. sum_by weight (cond b (x ∷ filter r xs) (filter r xs))) h.2 in
          joined (weight x) _ _ _ _ _ _ e k l rest
      | inr h ↦
          let k : sum_by weight (filter m (x ∷ xs)) ≡ sum_by weight (filter m xs) = ap (λ b. sum_by weight (cond b (x ∷ filter m xs) (filter m xs))) h.0 in
          elim (cases_Bool (r x)) [
            | inl t ↦
                let e : sum_by weight (filter q (x ∷ xs)) ≡ weight x + sum_by weight (filter q xs) = ap (λ b. sum_by weight (cond b (x ∷ filter q xs) (filter q xs))) (h.1 ∙ t) ∙ sum_by-cons weight x (filter q xs) in
                let l : sum_by weight (filter r (x ∷ xs)) ≡ weight x + sum_by weight (filter r xs) = ap (λ b. sum_by weight (cond b (x ∷ filter r xs) (filter r xs))) t ∙ sum_by-cons weight x (filter r xs) in
                joined_right (weight x) _ _ _ _ _ _ e k l rest
            | inr f ↦
                let e : sum_by weight (filter q (x ∷ xs)) ≡ sum_by weight (filter q xs) = ap (λ b. sum_by weight (cond b (x ∷ filter q xs) (filter q xs))) (h.1 ∙ f) in
                let l : sum_by weight (filter r (x ∷ xs)) ≡ sum_by weight (filter r xs) = ap (λ b. sum_by weight (cond b (x ∷ filter r xs) (filter r xs))) f in
                joined_none _ _ _ _ _ _ e k l rest
          ]
    ]
  where
    joined : (w a b c q m r : ℕ) → a ≡ w + q → b ≡ w + m → c ≡ r → q ≡ m + r → a ≡ b + c
    joined w a b c q m r e k l h = omega arith

    joined_right : (w a b c q m r : ℕ) → a ≡ w + q → b ≡ m → c ≡ w + r → q ≡ m + r → a ≡ b + c
    joined_right w a b c q m r e k l h = omega arith

    joined_none : (a b c q m r : ℕ) → a ≡ q → b ≡ m → c ≡ r → q ≡ m + r → a ≡ b + c
    joined_none a b c q m r e k l h = omega arith

-- which groups are ahead once one item more stands in front
ahead_more : {X : Type 0} (mates : X → X → Bool) (all front : List X) (x y : X) → is_ahead mates all (front ++ x ∷ []) y ≡ (is_many mates all y && not (has_mate mates front y || (mates x y || false)))
ahead_more mates all front x y = ap (λ t. is_many mates all y && not t) (list_any-append (λ z. mates z y) front (x ∷ []))

no_change : (many mate one : Bool) → one ≡ false → (many && not mate) ≡ (many && not (mate || (one || false)))
no_change many true one e = refl
no_change many false one e = ap (λ t. many && not (t || false)) (sym e)

not_many : (many mate one : Bool) → many ≡ false → (many && not mate) ≡ (many && not (mate || (one || false)))
not_many many mate one e = ap (λ t. t && not mate) e ∙ ap (λ t. t && not (mate || (one || false))) (sym e)

has_one : (many mate one : Bool) → mate ≡ true → (many && not mate) ≡ (many && not (mate || (one || false)))
has_one many true one e = refl
has_one many false one e = absurd (false≢true e)

-- an item that stays, or one whose group is in front, leaves the groups that are ahead
ahead_same : {X : Type 0} (mates : X → X → Bool) → Grouping mates → (all front : List X) (x : X) → (is_many mates all x ≡ false) ⊎ (has_mate mates front x ≡ true) → (y : X) → is_ahead mates all front y ≡ is_ahead mates all (front ++ x ∷ []) y
ahead_same mates g all front x why y =
    elim (cases_Bool (mates x y)) [
      | inr f ↦ no_change (is_many mates all y) (has_mate mates front y) (mates x y) f
      | inl e ↦ elim why [
        | inl few ↦ not_many (is_many mates all y) (has_mate mates front y) (mates x y) (ap (λ (t : List _). nat_le 6 (length t)) (sym (same_mates mates g all x y e)) ∙ few)
        | inr has ↦ has_one (is_many mates all y) (has_mate mates front y) (mates x y) (sym (same_front mates g front x y e) ∙ has)
      ]
    ]
    ∙ sym (ahead_more mates all front x y)

-- the first of a large group takes its group away from those that are ahead
taken : (many mate one : Bool) → one ≡ true → many ≡ true → mate ≡ false → ((many && not mate) ≡ true) × ((many && not (mate || (one || false))) ≡ false)
taken true false true e h k = (refl, refl)
taken true true one e h k = absurd (false≢true (sym k))
taken false mate one e h k = absurd (false≢true h)
taken true false false e h k = absurd (false≢true e)

ahead_splits : {X : Type 0} (mates : X → X → Bool) → Grouping mates → (all front : List X) (x : X) → is_many mates all x ≡ true → has_mate mates front x ≡ false → (y : X) → Splits (is_ahead mates all front) (λ z. mates z x) (is_ahead mates all (front ++ x ∷ [])) y
unfolding Splits
ahead_splits mates g all front x many none y =
    elim (cases_Bool (mates y x)) [
      | inl e ↦
          let turned = g.turned x y ∙ e in
          let t = taken (is_many mates all y) (has_mate mates front y) (mates x y) turned
          (ap (λ (t : List _). nat_le 6 (length t)) (sym (same_mates mates g all x y turned)) ∙ many)
          (sym (same_front mates g front x y turned) ∙ none) in
          inl (e, t.0, ahead_more mates all front x y ∙ t.1)
      | inr f ↦ inr (f, no_change (is_many mates all y) (has_mate mates front y) (mates x y) (g.turned x y ∙ f) ∙ sym (ahead_more mates all front x y))
    ]

-- no group is ahead once all stand in front
none_ahead : {X : Type 0} (mates : X → X → Bool) (weight : X → ℕ) (all : List X) → lead_weight mates weight all all ≡ 0
none_ahead mates weight all =
    ap (sum_by weight) (filter_agree (is_ahead mates all all) (λ _. false) gone all ∙ filter_none all)
  where
    nothing : (b : Bool) → (b && false) ≡ false
    nothing true = refl
    nothing false = refl

    gone : (y : _) → is_ahead mates all all y ≡ false
    gone y = elim (cases_Bool (is_many mates all y)) [
      | inl e ↦ ap (λ t. is_many mates all y && not t) (some_of_length (λ z. mates z y) all e) ∙ nothing (is_many mates all y)
      | inr f ↦ ap (λ t. t && not (has_mate mates all y)) f
    ]

no_more : (n : ℕ) → n ≡ 0 → 0 ≡ 0 + n
no_more n h = omega arith

left_is : {X : Type 0} (mates : X → X → Bool) → Grouping mates → (weight : X → ℕ) (all front items : List X) → front ++ items ≡ all → left_weighs mates weight all front items ≡ stay_weight mates weight all items + lead_weight mates weight all front
left_is mates g weight all front [] e =
    no_more (lead_weight mates weight all front) (ap (λ t. lead_weight mates weight all t) (sym (append-nil front) ∙ e) ∙ none_ahead mates weight all)
left_is mates g weight all front (x ∷ xs) e =
    let rest = left_is mates g weight all (front ++ x ∷ []) xs (append_assoc front (x ∷ []) xs ∙ e) in
    elim (cases_Bool (is_many mates all x)) [
      | inr few ↦
          let here = ap (λ b. cond b (cond (has_mate mates front x) 0 (sum_by weight (mates_of mates all x))) (weight x)) few in
          let stay = ap (λ b. sum_by weight (cond (not b) (x ∷ filter (λ y. not (is_many mates all y)) xs) (filter (λ y. not (is_many mates all y)) xs))) few ∙ sum_by-cons weight x (filter (λ y. not (is_many mates all y)) xs) in
          let ahead = ap (sum_by weight) (filter_agree (is_ahead mates all front) (is_ahead mates all (front ++ x ∷ [])) (ahead_same mates g all front x (inl few)) all) in
          one_stays (weight x) _ _ _ _ _ _ here rest stay ahead
      | inl many ↦
          let stay = ap (λ b. sum_by weight (cond (not b) (x ∷ filter (λ y. not (is_many mates all y)) xs) (filter (λ y. not (is_many mates all y)) xs))) many in
          elim (cases_Bool (has_mate mates front x)) [
            | inl has ↦
                let here = ap (λ b. cond b (cond (has_mate mates front x) 0 (sum_by weight (mates_of mates all x))) (weight x)) many ∙ ap (λ b. cond b 0 (sum_by weight (mates_of mates all x))) has in
                let ahead = ap (sum_by weight) (filter_agree (is_ahead mates all front) (is_ahead mates all (front ++ x ∷ [])) (ahead_same mates g all front x (inr has)) all) in
                one_goes _ _ _ _ _ _ here rest stay ahead
            | inr none ↦
                let here = ap (λ b. cond b (cond (has_mate mates front x) 0 (sum_by weight (mates_of mates all x))) (weight x)) many ∙ ap (λ b. cond b 0 (sum_by weight (mates_of mates all x))) none in
                let ahead = split_sum weight (is_ahead mates all front) (λ z. mates z x) (is_ahead mates all (front ++ x ∷ [])) (ahead_splits mates g all front x many none) all in
                one_leads (sum_by weight (mates_of mates all x)) _ _ _ _ _ _ here rest stay ahead
          ]
    ]
  where
    one_stays : (w a b s t l m : ℕ) → a ≡ w → b ≡ s + m → t ≡ w + s → l ≡ m → a + b ≡ t + l
    one_stays w a b s t l m e h k i = omega arith

    one_goes : (a b s t l m : ℕ) → a ≡ 0 → b ≡ s + m → t ≡ s → l ≡ m → a + b ≡ t + l
    one_goes a b s t l m e h k i = omega arith

    one_leads : (w a b s t l m : ℕ) → a ≡ w → b ≡ s + m → t ≡ s → l ≡ w + m → a + b ≡ t + l
    one_leads w a b s t l m e h k i = omega arith

pub left_weighs_same : {X : Type 0} (mates : X → X → Bool) → Grouping mates → (weight : X → ℕ) (all : List X) → left_weighs mates weight all [] all ≡ sum_by weight all
left_weighs_same mates g weight all =
    left_is mates g weight all [] all refl
    ∙ together _ _ _ _ (ap (sum_by weight) (filter_agree (is_ahead mates all []) (is_many mates all) (λ y. and_true (is_many mates all y)) all)) (sum_by-filter_both (is_many mates all) (λ y. not (is_many mates all y)) (λ _. refl) weight all)
  where
    and_true : (b : Bool) → (b && true) ≡ b
    and_true true = refl
    and_true false = refl

    together : (s l m t : ℕ) → l ≡ m → m + s ≡ t → s + l ≡ t
    together s l m t e h = omega arith
