-- The weight of a dropped rule goes to the place of the first kept rule that covers it.
use Rattle.std.proofs.Common.{◌≡◌, ℕ, suc, ◌+◌, ◌<◌, ◌≤◌, cond, Bool, true, false, not, List, [], ◌∷◌, ◌++◌, map, sum, length, get_or, set, drop, refl, sym, ap, ◌∙◌, subst, append-nil, append_assoc, arith}
use Rattle.std.proofs.lemmas.List.{at_drop_more, drop_all}
use Rattle.std.proofs.lemmas.List.FromFn.{get_or-enumerate_from, length-enumerate_from}
use Rattle.std.proofs.lemmas.Slice.Zip.{get_or-zip, length-zip}
use Rattle.std.proofs.lemmas.List.Sums.{sum_by-cons}
use Rattle.std.specs.List.{filter, fold, position_or_len, zip}
use Rattle.pf_rule.specs.declared.rule.Rule.{Rule}
use Rattle.pf_cover.specs.Cover.{covers}
use Rattle.pf_cover.specs.Kept.{given_to_first, placed}
use Rattle.pf_cover.specs.Search.{covering}
use Rattle.pf_cover.proofs.Keeping.{given_length, given_sum, own_of, second_sum, weighed_of}

-- the weights with one of them raised
abbrev pub raised : List ℕ → ℕ → ℕ → List ℕ
raised weights i by = set weights i (get_or weights i 0 + by)

raised_later : (w : ℕ) (ws : List ℕ) (n by : ℕ) → w ∷ raised ws n by ≡ raised (w ∷ ws) (1 + n) by
raised_later w ws n by =
    let e : 1 + n ≡ suc n = omega arith in
    subst (λ (m : ℕ). w ∷ raised ws n by ≡ raised (w ∷ ws) m by) (sym e) refl

pub given_set : (rules : List Rule) (weights : List ℕ) (rule : Rule) (by : ℕ) → length rules ≡ length weights → given_to_first rules weights (rule, by) ≡ raised weights (position_or_len (covering rule) rules) by
given_set [] [] rule by e = refl
given_set [] (w ∷ ws) rule by e = absurd (omega arith)
given_set (one ∷ rules) [] rule by e = refl
given_set (one ∷ rules) (w ∷ ws) rule by e =
    elim (covers one.criteria rule.criteria) as (λ b. cond b ((w + by) ∷ ws) (w ∷ given_to_first rules ws (rule, by)) ≡ raised (w ∷ ws) (cond (not b) (1 + position_or_len (covering rule) rules) 0) by) [
      | true ↦ refl
      | false ↦ ap (λ t. w ∷ t) (given_set rules ws rule by (omega arith)) ∙ raised_later w ws (position_or_len (covering rule) rules) by
    ]

-- what stands at a place of rules by places with weights
zip_length : (rules : List Rule) (weights : List ℕ) → length rules ≡ length weights → length (zip (placed rules) weights) ≡ length rules
zip_length rules weights e = omega (arith, length-zip (placed rules) weights, length-enumerate_from 0 rules)

pub zip_at : (rules : List Rule) (weights : List ℕ) (i : ℕ) (rule : Rule) → length rules ≡ length weights → i < length rules → rule ≡ get_or rules i rule → drop i (zip (placed rules) weights) ≡ ((i, rule), get_or weights i 0) ∷ drop (i + 1) (zip (placed rules) weights)
zip_at rules weights i rule e h is =
    let d : (ℕ × Rule) × ℕ = ((0, rule), 0) in
    let inside : i < length (zip (placed rules) weights) = omega (arith, zip_length rules weights e) in
    let first : i < length (placed rules) = omega (arith, length-enumerate_from 0 rules) in
    let second : i < length weights = omega arith in
    at_drop_more (λ (t : List ((ℕ × Rule) × ℕ)). t) (zip (placed rules) weights) i d inside
    ∙ ap (λ (t : (ℕ × Rule) × ℕ). t ∷ drop (i + 1) (zip (placed rules) weights))
    (get_or-zip (placed rules) weights i d first second
    ∙ ap (λ (t : ℕ × Rule). (t, get_or weights i 0)) (get_or-enumerate_from 0 rules i (0, rule) h)
    ∙ ap (λ (m : ℕ). ((m, get_or rules i rule), get_or weights i 0)) (omega arith)
    ∙ ap (λ (r : Rule). ((i, r), get_or weights i 0)) (sym is))

pub zip_end : (rules : List Rule) (weights : List ℕ) (i : ℕ) → length rules ≡ length weights → length rules ≤ i → drop i (zip (placed rules) weights) ≡ []
zip_end rules weights i e h =
    drop_all i (zip (placed rules) weights) (omega (arith, zip_length rules weights e))

-- one step of the kept weights
pub own_step : (done : List ℕ) (dropped : ℕ × Rule → Bool) (item : (ℕ × Rule) × ℕ) (items : List ((ℕ × Rule) × ℕ)) → done ++ own_of dropped (item ∷ items) ≡ (done ++ cond (dropped item.0) [] (item.1 ∷ [])) ++ own_of dropped items
own_step done dropped item items =
    elim (dropped item.0) as (λ b. done ++ map (λ item. item.1) (cond (not b) (item ∷ filter (λ item. not (dropped item.0)) items) (filter (λ item. not (dropped item.0)) items)) ≡ (done ++ cond b [] (item.1 ∷ [])) ++ own_of dropped items) [
      | true ↦ ap (λ t. t ++ own_of dropped items) (sym (append-nil done))
      | false ↦ sym (append_assoc done (item.1 ∷ []) (own_of dropped items))
    ]

-- one step of giving
pub give_step : (kept : List Rule) (weights : List ℕ) (dropped : ℕ × Rule → Bool) (item : (ℕ × Rule) × ℕ) (items : List ((ℕ × Rule) × ℕ)) → fold (given_to_first kept) weights (weighed_of dropped (item ∷ items)) ≡ fold (given_to_first kept) (cond (dropped item.0) (given_to_first kept weights (item.0.1, item.1)) weights) (weighed_of dropped items)
give_step kept weights dropped item items =
    elim (dropped item.0) as (λ b. fold (given_to_first kept) weights (map (λ item. (item.0.1, item.1)) (cond b (item ∷ filter (λ item. dropped item.0) items) (filter (λ item. dropped item.0) items))) ≡ fold (given_to_first kept) (cond b (given_to_first kept weights (item.0.1, item.1)) weights) (weighed_of dropped items)) [
      | true ↦ refl
      | false ↦ refl
    ]

-- the weights that are given, with those that are still to be given
pub still_fits : (kept : List Rule) (weights : List ℕ) (dropped : ℕ × Rule → Bool) (item : (ℕ × Rule) × ℕ) (items : List ((ℕ × Rule) × ℕ)) → sum (cond (dropped item.0) (given_to_first kept weights (item.0.1, item.1)) weights) + second_sum (weighed_of dropped items) ≤ sum weights + second_sum (weighed_of dropped (item ∷ items))
still_fits kept weights dropped item items =
    elim (dropped item.0) as (λ b. sum (cond b (given_to_first kept weights (item.0.1, item.1)) weights) + second_sum (weighed_of dropped items) ≤ sum weights + second_sum (map (λ item. (item.0.1, item.1)) (cond b (item ∷ filter (λ item. dropped item.0) items) (filter (λ item. dropped item.0) items)))) [
      | true ↦ omega (arith, given_sum kept weights (item.0.1, item.1), sum_by-cons (λ (n : ℕ). n) item.1 (map (λ item. item.1) (weighed_of dropped items)))
      | false ↦ omega arith
    ]

pub to_give : (dropped : ℕ × Rule → Bool) (item : (ℕ × Rule) × ℕ) (items : List ((ℕ × Rule) × ℕ)) → dropped item.0 ≡ true → item.1 ≤ second_sum (weighed_of dropped (item ∷ items))
to_give dropped item items h =
    let e = ap (λ (b : Bool). second_sum (map (λ item. (item.0.1, item.1)) (cond b (item ∷ filter (λ item. dropped item.0) items) (filter (λ item. dropped item.0) items)))) h in
    let total = sum_by-cons (λ (n : ℕ). n) item.1 (map (λ item. item.1) (weighed_of dropped items)) in
    at_least item.1 (second_sum (weighed_of dropped (item ∷ items))) (sum (item.1 ∷ map (λ item. item.1) (weighed_of dropped items))) (sum (map (λ item. item.1) (weighed_of dropped items))) e total
  where
    at_least : (a b c d : ℕ) → b ≡ c → c ≡ a + d → a ≤ b
    at_least a b c d e f = omega arith

pub given_if_length : (kept : List Rule) (weights : List ℕ) (dropped : Bool) (d : Rule × ℕ) → length (cond dropped (given_to_first kept weights d) weights) ≡ length weights
given_if_length kept weights true d = given_length kept weights d
given_if_length kept weights false d = refl
