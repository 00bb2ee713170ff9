-- No order of rules with weights costs less than the one with the greatest weights first: twice what a list costs is at
-- least its weights, and the lesser weight of each pair of places, and that is the same for each order.
use Rattle.std.proofs.Common.{◌≡◌, ℕ, ◌+◌, ◌*◌, ◌≤◌, min, Bool, nat_lt, List, [], ◌∷◌, map, refl, sym, ap, ◌∙◌, arith}
use Rattle.std.proofs.lemmas.Bool.{ltb-false}
use Rattle.std.proofs.lemmas.List.Sorted.{IsPermutation-map, IsPermutation-sym, IsPermutation-trans, IsStrictWeakOrder-by_number, IsStrictWeakOrder-flip, sum_by-IsPermutation}
use Rattle.std.proofs.lemmas.List.Sums.{sum_by-cons}
use Rattle.std.specs.List.{sum_by, zip}
use Rattle.std.specs.List.Sorted.{IsPermutation}
use Rattle.pf_order.specs.Cost.{cost, cost_from}
use Rattle.pf_order.specs.Order.{by_weight}
use Rattle.pf_order.proofs.Stable.{Ascends, NoneBefore, sorted_ascends}
use Rattle.pf_order.proofs.Sums.{permuted_sorted}
use Rattle.pf_rule.specs.declared.rule.Rule.{Rule}

-- a sum over a list, and the weights of rules
abbrev total : (ℕ → ℕ) → List ℕ → ℕ
total f [] = 0
total f (x ∷ xs) = f x + total f xs

abbrev all : List ℕ → ℕ
all xs = total (λ x. x) xs

abbrev weights_of : List (Rule × ℕ) → List ℕ
weights_of items = map (λ item. item.1) items

total_is : (f : ℕ → ℕ) (xs : List ℕ) → sum_by f xs ≡ total f xs
total_is f [] = refl
total_is f (x ∷ xs) = sum_by-cons f x xs ∙ ap (λ t. f x + t) (total_is f xs)

total_same : (f g : ℕ → ℕ) → ((x : ℕ) → f x ≡ g x) → (xs : List ℕ) → total f xs ≡ total g xs
total_same f g e [] = refl
total_same f g e (x ∷ xs) = ap (λ t. t + total f xs) (e x) ∙ ap (λ t. g x + t) (total_same f g e xs)

total_more : (f g : ℕ → ℕ) → ((x : ℕ) → f x ≤ g x) → (xs : List ℕ) → total f xs ≤ total g xs
total_more f g e [] = omega arith
total_more f g e (x ∷ xs) = omega (arith, e x, total_more f g e xs)

total_both : (f g : ℕ → ℕ) (xs : List ℕ) → total (λ x. f x + g x) xs ≡ total f xs + total g xs
total_both f g [] = refl
total_both f g (x ∷ xs) = omega (arith, total_both f g xs)

total_permuted : (f : ℕ → ℕ) (xs ys : List ℕ) → IsPermutation xs ys → total f ys ≡ total f xs
total_permuted f xs ys p = sym (total_is f ys) ∙ sum_by-IsPermutation f xs ys p ∙ total_is f xs

-- the weights behind each place, and the lesser ones of each pair of places
abbrev behind : List ℕ → ℕ
behind [] = 0
behind (x ∷ xs) = all xs + behind xs

abbrev lesser : List ℕ → ℕ
lesser [] = 0
lesser (x ∷ xs) = total (min x) xs + lesser xs

cost_is : (n : ℕ) (items : List (Rule × ℕ)) → cost_from n items ≡ n * all (weights_of items) + behind (weights_of items)
cost_is n [] = omega arith
cost_is n (item ∷ items) = omega (arith, cost_is (n + 1) items)

lesser_most : (xs : List ℕ) → lesser xs ≤ behind xs
lesser_most [] = omega arith
lesser_most (x ∷ xs) = omega (arith, lesser_most xs, total_more (min x) (λ y. y) (λ y. omega arith) xs)

-- where the greatest stand first, the lesser of a pair is the later one
abbrev heavier : Rule × ℕ → Rule × ℕ → Bool
heavier one other = nat_lt other.1 one.1

lesser_later : (item : Rule × ℕ) (items : List (Rule × ℕ)) → NoneBefore heavier item items → total (min item.1) (weights_of items) ≡ all (weights_of items)
lesser_later item [] n = refl
lesser_later item (other ∷ items) n =
    let below : other.1 ≤ item.1 = ltb-false item.1 other.1 n.0 in
    omega (arith, lesser_later item items n.1)

lesser_exact : (items : List (Rule × ℕ)) → Ascends heavier items → lesser (weights_of items) ≡ behind (weights_of items)
lesser_exact [] a = refl
lesser_exact (item ∷ items) a = omega (arith, lesser_later item items a.0, lesser_exact items a.1)

-- the lesser of each pair of weights, a weight with itself among them
abbrev pairs : List ℕ → List ℕ → ℕ
pairs xs ys = total (λ x. total (min x) ys) xs

min_turned : (x : ℕ) (zs : List ℕ) → total (λ z. min z x) zs ≡ total (min x) zs
min_turned x zs = total_same (λ z. min z x) (min x) (λ z. omega arith) zs

pairs_more : (zs : List ℕ) (x : ℕ) (xs : List ℕ) → pairs zs (x ∷ xs) ≡ total (min x) zs + pairs zs xs
pairs_more zs x xs = total_both (λ z. min z x) (λ z. total (min z) xs) zs ∙ ap (λ t. t + pairs zs xs) (min_turned x zs)

pairs_are : (xs : List ℕ) → pairs xs xs ≡ all xs + 2 * lesser xs
pairs_are [] = refl
pairs_are (x ∷ xs) = omega (arith, pairs_more xs x xs, pairs_are xs)

pairs_permuted : (xs ys : List ℕ) → IsPermutation xs ys → pairs ys ys ≡ pairs xs xs
pairs_permuted xs ys p =
    total_permuted (λ x. total (min x) ys) xs ys p ∙ total_same (λ x. total (min x) ys) (λ x. total (min x) xs) (λ x. total_permuted (min x) xs ys p) xs

-- of two orders of the same weights, of which the first has the greatest first, the first costs no more
pub first_least : (items others : List (Rule × ℕ)) → Ascends heavier items → IsPermutation items others → cost items ≤ cost others
first_least items others a p =
    let q = IsPermutation-map (λ (item : Rule × ℕ). item.1) items others p in
    let xs = weights_of items in
    let ys = weights_of others in
    least (cost items) (cost others) (all xs) (all ys) (behind xs) (behind ys) (lesser xs) (lesser ys) (pairs xs xs) (pairs ys ys)
    (cost_is 1 items) (cost_is 1 others) (lesser_exact items a) (lesser_most ys) (pairs_are xs) (pairs_are ys)
    (pairs_permuted xs ys q) (total_permuted (λ x. x) xs ys q)
  where
    least : (c d s t b e l m p q : ℕ) → c ≡ 1 * s + b → d ≡ 1 * t + e → l ≡ b → m ≤ e → p ≡ s + 2 * l → q ≡ t + 2 * m → q ≡ p → t ≡ s → c ≤ d
    least c d s t b e l m p q h1 h2 h3 h4 h5 h6 h7 h8 = omega arith

pub weight_least : (rules : List Rule) (weights : List ℕ) (others : List (Rule × ℕ)) → IsPermutation (zip rules weights) others → cost (by_weight rules weights) ≤ cost others
weight_least rules weights others p =
    first_least (by_weight rules weights) others
    (sorted_ascends heavier (IsStrictWeakOrder-flip (λ (one other : Rule × ℕ). nat_lt one.1 other.1) (IsStrictWeakOrder-by_number (λ (item : Rule × ℕ). item.1))) (zip rules weights))
    (IsPermutation-trans (by_weight rules weights) (zip rules weights) others
    (IsPermutation-sym (zip rules weights) (by_weight rules weights) (permuted_sorted heavier (zip rules weights))) p)
