-- What the kept rules of a block match, and their weights.
use Rattle.std.proofs.Common.{◌≡◌, ℕ, suc, ◌+◌, ◌<◌, ◌≤◌, cond, Bool, true, false, not, ◌||◌, nat_lt, List, [], ◌∷◌, map, length, sum, refl, sym, ap, ◌∙◌, subst, inl, inr, arith}
use Rattle.std.proofs.lemmas.Bool.{false≢true, and_parts, and_from, ltb-true, lt-ltb}
use Rattle.std.proofs.lemmas.List.{length-map}
use Rattle.std.proofs.lemmas.List.Elements.{All-filter, All-map}
use Rattle.std.proofs.lemmas.List.Filters.{length-filter_both}
use Rattle.std.proofs.lemmas.List.FromFn.{get_or-enumerate_from, length-enumerate_from}
use Rattle.std.proofs.lemmas.List.Sums.{AllPass-from_list_all, list_all-from_AllPass, sum_by-cons}
use Rattle.std.proofs.lemmas.Slice.Zip.{seconds-zip}
use Rattle.std.specs.List.{All, enumerate_from, filter, fold, list_all, list_any, zip}
use Rattle.pf_rule.specs.declared.rule.Rule.{Rule}
use Rattle.pf_cover.specs.Cover.{covers}
use Rattle.pf_cover.specs.Kept.{drops, given_to_first, is_dropped, dropped_weighed, kept, kept_rules, kept_weights, own_weights, placed}
use Rattle.pf_cover.proofs.Covering.{covers_itself, covers_join}
use Rattle.pf_cover.proofs.Follows.{or_cases}
use Rattle.pf_cover.proofs.Tops.{IsDropping, any_among, among_kept, some_top, top_of}

-- a rule drops another: it covers it, and where it is covered too it stands before it
pub drops_cover : (a b : ℕ × Rule) → drops a b ≡ true → covers a.1.criteria b.1.criteria ≡ true
drops_cover a b h = (and_parts (covers a.1.criteria b.1.criteria) _ h).0

drops_before : (a b : ℕ × Rule) → drops a b ≡ true → covers b.1.criteria a.1.criteria ≡ true → a.0 < b.0
drops_before a b h k =
    let parts = and_parts (covers a.1.criteria b.1.criteria) (not (covers b.1.criteria a.1.criteria) || nat_lt a.0 b.0) h in
    elim (or_cases (not (covers b.1.criteria a.1.criteria)) (nat_lt a.0 b.0) parts.1) [
      | inl e ↦ absurd (false≢true (sym (ap not k) ∙ e))
      | inr e ↦ ltb-true _ _ e
    ]

drops_from : (a b : ℕ × Rule) → covers a.1.criteria b.1.criteria ≡ true → (covers b.1.criteria a.1.criteria ≡ true → a.0 < b.0) → drops a b ≡ true
drops_from a b h k =
    and_from (covers a.1.criteria b.1.criteria) (not (covers b.1.criteria a.1.criteria) || nat_lt a.0 b.0) h
    (unless (covers b.1.criteria a.1.criteria) (nat_lt a.0 b.0) (λ e. lt-ltb _ _ (k e)))
  where
    unless : (x y : Bool) → (x ≡ true → y ≡ true) → (not x || y) ≡ true
    unless true y f = f refl
    unless false y f = refl

drops_join : (a b c : ℕ × Rule) → drops a b ≡ true → drops b c ≡ true → drops a c ≡ true
drops_join a b c h k =
    let ab = drops_cover a b h in
    let bc = drops_cover b c k in
    drops_from a c (covers_join _ _ _ ab bc)
    (λ ca.
    let first : a.0 < b.0 = drops_before a b h (covers_join _ _ _ bc ca) in
    let second : b.0 < c.0 = drops_before b c k (covers_join _ _ _ ca ab) in
    omega arith)

drops_never : (a : ℕ × Rule) → drops a a ≡ false
drops_never a =
    none (drops a a) (λ h. let less : a.0 < a.0 = drops_before a a h (covers_itself a.1.criteria) in omega arith)
  where
    none : (b : Bool) → (b ≡ true → ⊥) → b ≡ false
    none true f = absurd (f refl)
    none false f = refl

dropping : IsDropping drops
dropping = record { joins = drops_join; never = drops_never }

-- tests of lists by places, and by an item's second part
any_map : {A B : Type 0} (f : A → B) (test : B → Bool) (xs : List A) → list_any test (map f xs) ≡ list_any (λ x. test (f x)) xs
any_map f test [] = refl
any_map f test (x ∷ xs) = ap (λ t. test (f x) || t) (any_map f test xs)

any_placed : {A : Type 0} (test : A → Bool) (n : ℕ) (xs : List A) → list_any (λ pair. test pair.1) (enumerate_from n xs) ≡ list_any test xs
any_placed test n [] = refl
any_placed test n (x ∷ xs) = ap (λ t. test x || t) (any_placed test (n + 1) xs)

-- a test that passes where it passes at a covered rule passes at some kept rule exactly where it passes at some rule
pub kept_pass : (test : Rule → Bool) → ((a b : Rule) → covers a.criteria b.criteria ≡ true → test b ≡ true → test a ≡ true) → (rules : List Rule) → list_any test (kept_rules rules) ≡ list_any test rules
unfolding is_dropped
kept_pass test up rules =
    any_map (λ pair. pair.1) test (kept rules)
    ∙ some_top drops dropping (λ pair. test pair.1) (λ a b h k. up a.1 b.1 (drops_cover a b h) k) (placed rules)
    ∙ any_placed test 0 rules

-- a dropped rule is covered by a kept one
pub dropped_covered : (rules : List Rule) (other : ℕ × Rule) → is_dropped rules other ≡ true → list_any (λ one. covers one.1.criteria other.1.criteria) (kept rules) ≡ true
unfolding is_dropped
dropped_covered rules other h =
    let t = top_of drops dropping (placed rules) other h in
    any_among (λ one. covers one.1.criteria other.1.criteria) t.item (kept rules)
    (among_kept (λ rule. not (list_any (λ y. drops y rule) (placed rules))) t.item (placed rules) t.among (ap not t.top))
    (drops_cover t.item other t.above)

-- weights
sum_cons : (w : ℕ) (ws : List ℕ) → sum (w ∷ ws) ≡ w + sum ws
sum_cons w ws = sum_by-cons (λ (n : ℕ). n) w ws

grows_first : (w k : ℕ) (ws : List ℕ) → sum ((w + k) ∷ ws) ≤ sum (w ∷ ws) + k
grows_first w k ws = omega (arith, sum_cons (w + k) ws, sum_cons w ws)

grows_later : (w k : ℕ) (ws vs : List ℕ) → sum vs ≤ sum ws + k → sum (w ∷ vs) ≤ sum (w ∷ ws) + k
grows_later w k ws vs h = omega (arith, sum_cons w ws, sum_cons w vs)

pub given_sum : (rules : List Rule) (weights : List ℕ) (d : Rule × ℕ) → sum (given_to_first rules weights d) ≤ sum weights + d.1
given_sum [] weights d = omega arith
given_sum (rule ∷ rules) [] d = omega arith
given_sum (rule ∷ rules) (w ∷ ws) d =
    elim (covers rule.criteria d.0.criteria) as (λ b. sum (cond b ((w + d.1) ∷ ws) (w ∷ given_to_first rules ws d)) ≤ sum (w ∷ ws) + d.1) [
      | true ↦ grows_first w d.1 ws
      | false ↦ grows_later w d.1 ws (given_to_first rules ws d) (given_sum rules ws d)
    ]

pub given_length : (rules : List Rule) (weights : List ℕ) (d : Rule × ℕ) → length (given_to_first rules weights d) ≡ length weights
given_length [] weights d = refl
given_length (rule ∷ rules) [] d = refl
given_length (rule ∷ rules) (w ∷ ws) d =
    elim (covers rule.criteria d.0.criteria) as (λ b. length (cond b ((w + d.1) ∷ ws) (w ∷ given_to_first rules ws d)) ≡ suc (length ws)) [
      | true ↦ refl
      | false ↦ ap suc (given_length rules ws d)
    ]

all_given_length : (rules : List Rule) (weights : List ℕ) (ds : List (Rule × ℕ)) → length (fold (given_to_first rules) weights ds) ≡ length weights
all_given_length rules weights [] = refl
all_given_length rules weights (d ∷ ds) = all_given_length rules (given_to_first rules weights d) ds ∙ given_length rules weights d

abbrev pub second_sum : List (Rule × ℕ) → ℕ
second_sum items = sum (map (λ item. item.1) items)

-- of rules by places with weights: the weights of those that pass a test, and those that pass it
abbrev pub own_of : (ℕ × Rule → Bool) → List ((ℕ × Rule) × ℕ) → List ℕ
own_of dropped items = map (λ item. item.1) (filter (λ item. not (dropped item.0)) items)

abbrev pub weighed_of : (ℕ × Rule → Bool) → List ((ℕ × Rule) × ℕ) → List (Rule × ℕ)
weighed_of dropped items = map (λ item. (item.0.1, item.1)) (filter (λ item. dropped item.0) items)

abbrev pub all_of : List ((ℕ × Rule) × ℕ) → ℕ
all_of items = sum (map (λ item. item.1) items)

one_kept : (w : ℕ) (a : List ℕ) (b : List (Rule × ℕ)) (all : List ℕ) → sum a + second_sum b ≡ sum all → sum (w ∷ a) + second_sum b ≡ sum (w ∷ all)
one_kept w a b all h = omega (arith, sum_cons w a, sum_cons w all)

one_dropped : (rule : Rule) (w : ℕ) (a : List ℕ) (b : List (Rule × ℕ)) (all : List ℕ) → sum a + second_sum b ≡ sum all → sum a + second_sum ((rule, w) ∷ b) ≡ sum (w ∷ all)
one_dropped rule w a b all h = omega (arith, sum_cons w (map (λ item. item.1) b), sum_cons w all)

pub halves : (dropped : ℕ × Rule → Bool) (items : List ((ℕ × Rule) × ℕ)) → sum (own_of dropped items) + second_sum (weighed_of dropped items) ≡ all_of items
halves dropped [] = refl
halves dropped (item ∷ items) =
    elim (dropped item.0) as (λ b. sum (map (λ item. item.1) (cond (not b) (item ∷ filter (λ item. not (dropped item.0)) items) (filter (λ item. not (dropped item.0)) items))) + second_sum (map (λ item. (item.0.1, item.1)) (cond b (item ∷ filter (λ item. dropped item.0) items) (filter (λ item. dropped item.0) items))) ≡ sum (item.1 ∷ map (λ item. item.1) items)) [
      | true ↦ one_dropped item.0.1 item.1 (own_of dropped items) (weighed_of dropped items) (map (λ item. item.1) items) (halves dropped items)
      | false ↦ one_kept item.1 (own_of dropped items) (weighed_of dropped items) (map (λ item. item.1) items) (halves dropped items)
    ]

pub zip_sum : (rules : List Rule) (weights : List ℕ) → length rules ≡ length weights → all_of (zip (placed rules) weights) ≡ sum weights
zip_sum rules weights e = ap sum (seconds-zip (placed rules) weights (sym (length-enumerate_from 0 rules ∙ e)))

pub own_sum : (rules : List Rule) (weights : List ℕ) → length rules ≡ length weights → sum (own_weights rules weights) + second_sum (dropped_weighed rules weights) ≤ sum weights
own_sum rules weights e = omega (arith, halves (is_dropped rules) (zip (placed rules) weights), zip_sum rules weights e)

-- a kept rule for each weight
own_length : (dropped : ℕ × Rule → Bool) (xs : List (ℕ × Rule)) (weights : List ℕ) → length xs ≡ length weights → length (own_of dropped (zip xs weights)) ≡ length (map (λ rule. rule.1) (filter (λ rule. not (dropped rule)) xs))
own_length dropped [] weights e = refl
own_length dropped (x ∷ xs) [] e = absurd (omega arith)
own_length dropped (x ∷ xs) (w ∷ ws) e =
    elim (not (dropped x)) as (λ b. length (map (λ item. item.1) (cond b ((x, w) ∷ filter (λ item. not (dropped item.0)) (zip xs ws)) (filter (λ item. not (dropped item.0)) (zip xs ws)))) ≡ length (map (λ rule. rule.1) (cond b (x ∷ filter (λ rule. not (dropped rule)) xs) (filter (λ rule. not (dropped rule)) xs)))) [
      | true ↦ ap suc (own_length dropped xs ws (omega arith))
      | false ↦ own_length dropped xs ws (omega arith)
    ]

pub own_each : (rules : List Rule) (weights : List ℕ) → length rules ≡ length weights → length (own_weights rules weights) ≡ length (kept_rules rules)
own_each rules weights e = own_length (is_dropped rules) (placed rules) weights (length-enumerate_from 0 rules ∙ e)

pub kept_length : (rules : List Rule) (weights : List ℕ) → length rules ≡ length weights → length (kept_weights rules weights) ≡ length (kept_rules rules)
kept_length rules weights e =
    all_given_length (kept_rules rules) (own_weights rules weights) (dropped_weighed rules weights)
    ∙ own_each rules weights e

-- what holds of each rule of the block holds of each kept one
all_placed : {A : Type 0} (P : A → Type 0) (xs : List A) → All P xs → All (λ (pair : ℕ × A). P pair.1) (enumerate_from 0 xs)
all_placed {A = A} P xs h = λ k d less.
    let inside : k < length xs = omega (arith, length-enumerate_from 0 xs) in
    subst (λ (pair : ℕ × A). P pair.1) (sym (get_or-enumerate_from 0 xs k d inside)) (h k d.1 inside)

pub all_kept : (P : Rule → Type 0) (rules : List Rule) → All P rules → All P (kept_rules rules)
all_kept P rules h =
    All-map P (λ pair. pair.1) (kept rules)
    (All-filter (λ rule. not (is_dropped rules rule)) (λ pair. P pair.1) (placed rules) (all_placed P rules h))

pub kept_test : (test : Rule → Bool) (rules : List Rule) → list_all test rules ≡ true → list_all test (kept_rules rules) ≡ true
kept_test test rules h =
    list_all-from_AllPass test (kept_rules rules) (all_kept (λ rule. test rule ≡ true) rules (AllPass-from_list_all test rules h))

pub kept_fewer : (rules : List Rule) → length (kept_rules rules) ≤ length rules
kept_fewer rules =
    omega (
      arith,
      length-map (kept rules) (λ (pair : ℕ × Rule). pair.1),
      length-filter_both (λ rule. not (is_dropped rules rule)) (λ rule. not (not (is_dropped rules rule))) (λ _. refl) (placed rules),
      length-enumerate_from 0 rules,
    )

-- the weight of a rule that some kept rule covers goes to one
first_grows : (w k : ℕ) (ws : List ℕ) → sum ((w + k) ∷ ws) ≡ sum (w ∷ ws) + k
first_grows w k ws = omega (arith, sum_cons (w + k) ws, sum_cons w ws)

later_grows : (w k : ℕ) (ws vs : List ℕ) → sum vs ≡ sum ws + k → sum (w ∷ vs) ≡ sum (w ∷ ws) + k
later_grows w k ws vs h = omega (arith, sum_cons w ws, sum_cons w vs)

given_whole : (rules : List Rule) (weights : List ℕ) (d : Rule × ℕ) → length rules ≡ length weights → list_any (λ one. covers one.criteria d.0.criteria) rules ≡ true → sum (given_to_first rules weights d) ≡ sum weights + d.1
given_whole [] weights d e h = absurd (false≢true h)
given_whole (rule ∷ rules) [] d e h = absurd (omega arith)
given_whole (rule ∷ rules) (w ∷ ws) d e h0 =
    elim (covers rule.criteria d.0.criteria) as (λ b. (b || list_any (λ one. covers one.criteria d.0.criteria) rules) ≡ true → sum (cond b ((w + d.1) ∷ ws) (w ∷ given_to_first rules ws d)) ≡ sum (w ∷ ws) + d.1) [
      | true ↦ λ h. first_grows w d.1 ws
      | false ↦ λ h. later_grows w d.1 ws (given_to_first rules ws d) (given_whole rules ws d (omega arith) h)
    ] h0

all_given_whole : (rules : List Rule) (weights : List ℕ) (ds : List (Rule × ℕ)) → length rules ≡ length weights → list_all (λ d. list_any (λ one. covers one.criteria d.0.criteria) rules) ds ≡ true → sum (fold (given_to_first rules) weights ds) ≡ sum weights + second_sum ds
all_given_whole rules weights [] e h = omega arith
all_given_whole rules weights (d ∷ ds) e h =
    let parts = and_parts (list_any (λ one. covers one.criteria d.0.criteria) rules) (list_all (λ d. list_any (λ one. covers one.criteria d.0.criteria) rules) ds) h in
    omega (arith, all_given_whole rules (given_to_first rules weights d) ds (e ∙ sym (given_length rules weights d)) parts.1, given_whole rules weights d e parts.0, sum_cons d.1 (map (λ item. item.1) ds))

-- each dropped rule is covered by a kept one
weighed_covered : (rules : List Rule) (items : List ((ℕ × Rule) × ℕ)) → list_all (λ d. list_any (λ one. covers one.criteria d.0.criteria) (kept_rules rules)) (weighed_of (is_dropped rules) items) ≡ true
weighed_covered rules [] = refl
weighed_covered rules (item ∷ items) =
    let covered : Rule × ℕ → Bool = λ d. list_any (λ one. covers one.criteria d.0.criteria) (kept_rules rules) in
    let rest = weighed_covered rules items in
    elim (is_dropped rules item.0) as (λ b. is_dropped rules item.0 ≡ b → list_all covered (map (λ item. (item.0.1, item.1)) (cond b (item ∷ filter (λ item. is_dropped rules item.0) items) (filter (λ item. is_dropped rules item.0) items))) ≡ true) [
      | true ↦ λ e.
          and_from (covered (item.0.1, item.1)) (list_all covered (weighed_of (is_dropped rules) items))
          (any_map (λ pair. pair.1) (λ one. covers one.criteria item.0.1.criteria) (kept rules) ∙ dropped_covered rules item.0 e) rest
      | false ↦ λ e. rest
    ] refl

pub kept_total : (rules : List Rule) (weights : List ℕ) → length rules ≡ length weights → sum (kept_weights rules weights) ≡ sum weights
kept_total rules weights e =
    let each : length (kept_rules rules) ≡ length (own_weights rules weights) = sym (own_each rules weights e) in
    omega (
      arith,
      all_given_whole (kept_rules rules) (own_weights rules weights) (dropped_weighed rules weights) each (weighed_covered rules (zip (placed rules) weights)),
      halves (is_dropped rules) (zip (placed rules) weights),
      zip_sum rules weights e,
    )
