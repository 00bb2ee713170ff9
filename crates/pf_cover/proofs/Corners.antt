-- What the corners of a block tell: the corners that lie higher or deeper than a rule's own neither drop nor cover it.
use Rattle.std.proofs.Common.{◌≡◌, ℕ, ◌+◌, ◌<◌, Bool, false, ◌||◌, List, [], ◌∷◌, map, length, get_or, refl, sym, ap, ◌∙◌, ◌⊎◌, inl, inr, subst, arith}
use Rattle.std.proofs.lemmas.Bool.{false_from_ne_true}
use Rattle.std.proofs.lemmas.List.{get_or_default}
use Rattle.std.proofs.lemmas.List.Elements.{All-head, All-map, All-tail}
use Rattle.std.proofs.lemmas.List.FromFn.{get_or-enumerate_from, length-enumerate_from}
use Rattle.std.proofs.lemmas.List.Sorted.{All-permutation, list_any-IsPermutation}
use Rattle.std.specs.List.{All, list_any}
use Rattle.pf_rule.specs.declared.rule.Rule.{Rule}
use Rattle.pf_cover.proofs.Keeping.{drops_cover}
use Rattle.pf_cover.proofs.Within.{covers_within}
use Rattle.pf_cover.specs.Corner.{corner_at, ends_at}
use Rattle.pf_cover.specs.Kept.{drops, is_dropped, placed}
use Rattle.pf_cover.specs.Search.{AreCorners, corner_drops, covering}
use Rattle.pf_cover.specs.declared.corner.Axis.{Axis}
use Rattle.pf_cover.specs.declared.corner.Corner.{Corner}

-- the corners of a block
pub record IsCorner (axis : Axis) (rules : List Rule) (other : Rule) (corner : Corner) : Type 0 where
  pub inside : corner.place < length rules
  pub low : corner.low ≡ (ends_at axis (get_or rules corner.place other).criteria).low
  pub depth : corner.depth ≡ (ends_at axis (get_or rules corner.place other).criteria).depth

pub placed_at : (rules : List Rule) (k : ℕ) (d : ℕ × Rule) → k < length rules → get_or (placed rules) k d ≡ (k, get_or rules k d.1)
placed_at rules k d h = get_or-enumerate_from 0 rules k d h ∙ ap (λ (n : ℕ). (n, get_or rules k d.1)) (let e : 0 + k ≡ k = omega arith in e)

pub each_corner : (axis : Axis) (rules : List Rule) (other : Rule) (corners : List Corner) → AreCorners axis rules corners → All (IsCorner axis rules other) corners
unfolding corner_at
each_corner axis rules other corners are =
    All-permutation (IsCorner axis rules other) (map (corner_at axis) (placed rules)) corners are.all
    (All-map (IsCorner axis rules other) (corner_at axis) (placed rules)
    (λ k d less.
    let inside : k < length rules = omega (arith, length-enumerate_from 0 rules) in
    subst (λ (pair : ℕ × Rule). IsCorner axis rules other (corner_at axis pair)) (sym (placed_at rules k d inside ∙ ap (λ (r : Rule). (k, r)) (get_or_default rules k d.1 other inside)))
    (record { inside = inside; low = refl; depth = refl })))

any_at : {A : Type 0} (p : A → Bool) (q : A → Bool) (xs : List A) → All (λ x. p x ≡ q x) xs → list_any p xs ≡ list_any q xs
any_at p q [] h = refl
any_at p q (x ∷ xs) h =
    ap (λ t. t || list_any p xs) (All-head (λ x. p x ≡ q x) x xs h) ∙ ap (λ t. q x || t) (any_at p q xs (All-tail (λ x. p x ≡ q x) x xs h))

any_map : {A B : Type 0} (f : A → B) (test : B → Bool) (xs : List A) → list_any test (map f xs) ≡ list_any (λ x. test (f x)) xs
any_map f test [] = refl
any_map f test (x ∷ xs) = ap (λ t. test (f x) || t) (any_map f test xs)

pub dropped_by_corners : (axis : Axis) (rules : List Rule) (corners : List Corner) (other : ℕ × Rule) → AreCorners axis rules corners → is_dropped rules other ≡ list_any (corner_drops rules other) corners
unfolding is_dropped corner_at
dropped_by_corners axis rules corners other are =
    any_at (λ one. drops one other) (λ one. corner_drops rules other (corner_at axis one)) (placed rules)
    (λ k d less.
    let inside : k < length rules = omega (arith, length-enumerate_from 0 rules) in
    subst (λ (pair : ℕ × Rule). drops pair other ≡ corner_drops rules other (corner_at axis pair)) (sym (placed_at rules k d inside))
    (ap (λ (r : Rule). drops (k, r) other) (get_or_default rules k d.1 other.1 inside)))
    ∙ sym (any_map (corner_at axis) (corner_drops rules other) (placed rules))
    ∙ list_any-IsPermutation (corner_drops rules other) (map (corner_at axis) (placed rules)) corners are.all

-- a corner that lies higher, or deeper, drops nothing
pub not_dropping : (axis : Axis) (rules : List Rule) (other : ℕ × Rule) (corner : Corner) → IsCorner axis rules other.1 corner → ((ends_at axis other.1.criteria).low < corner.low) ⊎ ((ends_at axis other.1.criteria).depth < corner.depth) → corner_drops rules other corner ≡ false
not_dropping axis rules other corner is far =
    false_from_ne_true (corner_drops rules other corner)
    (λ h.
    let w = covers_within axis (get_or rules corner.place other.1).criteria other.1.criteria (drops_cover (corner.place, get_or rules corner.place other.1) other h) in
    let low = w.low in
    let depth = w.depth in
    let same = is.low in
    let deep = is.depth in
    elim far [ inl e ↦ omega arith | inr e ↦ omega arith ])

-- what a corner is made of
pub corner_low : (axis : Axis) (pair : ℕ × Rule) → (corner_at axis pair).low ≡ (ends_at axis pair.1.criteria).low
unfolding corner_at
corner_low axis pair = refl

pub corner_depth : (axis : Axis) (pair : ℕ × Rule) → (corner_at axis pair).depth ≡ (ends_at axis pair.1.criteria).depth
unfolding corner_at
corner_depth axis pair = refl

pub corner_place : (axis : Axis) (pair : ℕ × Rule) → (corner_at axis pair).place ≡ pair.0
unfolding corner_at
corner_place axis pair = refl

-- nor does it cover anything
pub not_covering : (axis : Axis) (rules : List Rule) (rule : Rule) (corner : Corner) → IsCorner axis rules rule corner → ((ends_at axis rule.criteria).low < corner.low) ⊎ ((ends_at axis rule.criteria).depth < corner.depth)
    → covering rule (get_or rules corner.place rule) ≡ false
not_covering axis rules rule corner is far =
    false_from_ne_true (covering rule (get_or rules corner.place rule))
    (λ h.
    let w = covers_within axis (get_or rules corner.place rule).criteria rule.criteria h in
    let low = w.low in
    let depth = w.depth in
    let same = is.low in
    let deep = is.depth in
    elim far [ inl e ↦ omega arith | inr e ↦ omega arith ])
