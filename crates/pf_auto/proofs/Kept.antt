-- What the combined rules have of the others: effects, weights, and how many there are.
use Rattle.std.proofs.Common.{◌≡◌, ℕ, suc, ◌+◌, ◌<◌, ◌≤◌, true, false, cond, nat_le, List, [], ◌∷◌, ◌++◌, map, length, refl, sym, ap, ◌∙◌, arith}
use Rattle.std.proofs.lemmas.Bool.{leb-true}
use Rattle.std.proofs.lemmas.List.Elements.{All-cons, All-head, All-nil, All-tail}
use Rattle.std.proofs.lemmas.List.Sums.{sum_by-cons}
use Rattle.std.specs.List.{All, range_with_len, sum_by}
use Rattle.pf_auto.proofs.Leading.{has_mate, is_many, left_weighs}
use Rattle.pf_auto.proofs.Mates.{mates_at}
use Rattle.pf_auto.specs.Merged.{group_of, group_weight, merged_behind, merged_rule, with_group, with_item}
use Rattle.pf_auto.specs.declared.place.End.{End}
use Rattle.pf_rule.specs.declared.rule.Rule.{Rule}

-- what holds of each rule, and of a rule that stands for a group where it holds of one of the group, holds of each combined rule
pub all_behind : (P : Rule → Type 0) (low high : ℕ) (end : End) → ((rule : Rule) (n : ℕ) → low ≤ n → n < high → P rule → P (merged_rule end n rule)) → (all : List (Rule × ℕ)) (next : ℕ) (front items : List (Rule × ℕ)) → low ≤ next → next + length (merged_behind end all next front items).tables ≤ high → All (λ item. P item.0) items → All (λ item. P item.0) (merged_behind end all next front items).items
all_behind P low high end step all next front [] l h each = All-nil (λ (item : Rule × ℕ). P item.0)
all_behind P low high end step all next front (x ∷ xs) l h each =
    let more = front ++ x ∷ [] in
    let Q : Rule × ℕ → Type 0 = λ item. P item.0 in
    let here = All-head Q x xs each in
    let rest = All-tail Q x xs each in
    let goes = merged_behind end all next more xs in
    let later = merged_behind end all (next + 1) more xs in
    let leads = with_group end next (group_of end all x.0) x.0 later in
    elim (is_many (mates_at end) all x) as (λ m. next + length (cond m (cond (has_mate (mates_at end) front x) goes leads) (with_item x goes)).tables ≤ high → All Q (cond m (cond (has_mate (mates_at end) front x) goes leads) (with_item x goes)).items) [
      | true ↦
          elim (has_mate (mates_at end) front x) as (λ m. next + length (cond m goes leads).tables ≤ high → All Q (cond m goes leads).items) [
            | true ↦ λ k. all_behind P low high end step all next more xs l k rest
            | false ↦ λ k.
                All-cons Q (merged_rule end next x.0, group_weight (group_of end all x.0)) later.items
                (step x.0 next l (below next (length later.tables) high k) here)
                (all_behind P low high end step all (next + 1) more xs (above low next l) (later_below next (length later.tables) high k) rest)
          ]
      | false ↦ λ k. All-cons Q x goes.items here (all_behind P low high end step all next more xs l k rest)
    ] h
  where
    below : (n m k : ℕ) → n + suc m ≤ k → n < k
    below n m k h = omega arith

    above : (n m : ℕ) → n ≤ m → n ≤ m + 1
    above n m h = omega arith

    later_below : (n m k : ℕ) → n + suc m ≤ k → (n + 1) + m ≤ k
    later_below n m k h = omega arith

-- how many there are
one_more : (a b : ℕ) → a ≤ b → suc a ≤ suc b
one_more a b h = omega arith

one_less : (a b : ℕ) → a ≤ b → a ≤ suc b
one_less a b h = omega arith

pub fewer_behind : (end : End) (all : List (Rule × ℕ)) (next : ℕ) (front items : List (Rule × ℕ)) → length (merged_behind end all next front items).items ≤ length items
fewer_behind end all next front [] = omega arith
fewer_behind end all next front (x ∷ xs) =
    let more = front ++ x ∷ [] in
    let goes = merged_behind end all next more xs in
    let leads = with_group end next (group_of end all x.0) x.0 (merged_behind end all (next + 1) more xs) in
    elim (is_many (mates_at end) all x) as (λ m. length (cond m (cond (has_mate (mates_at end) front x) goes leads) (with_item x goes)).items ≤ suc (length xs)) [
      | true ↦ elim (has_mate (mates_at end) front x) as (λ m. length (cond m goes leads).items ≤ suc (length xs)) [
        | true ↦ one_less _ _ (fewer_behind end all next more xs)
        | false ↦ one_more _ _ (fewer_behind end all (next + 1) more xs)
      ]
      | false ↦ one_more _ _ (fewer_behind end all next more xs)
    ]

-- each table stands for six rules or more
table_for_many : (n t g l : ℕ) → nat_le 6 g ≡ true → n + t ≤ l → suc n + suc t ≤ g + l
table_for_many n t g l many h = let six : 6 ≤ g = leb-true 6 g many in omega arith

one_stays : (n t l : ℕ) → n + t ≤ l → suc n + t ≤ 1 + l
one_stays n t l h = omega arith

none_more : (n t l : ℕ) → n + t ≤ l → n + t ≤ 0 + l
none_more n t l h = omega arith

pub ones : {X : Type 0} (xs : List X) → length xs ≡ sum_by (λ _. 1) xs
ones [] = refl
ones (x ∷ xs) = let rest = ones xs in let more = sum_by-cons (λ _. 1) x xs in omega arith

pub few_behind : (end : End) (all : List (Rule × ℕ)) (next : ℕ) (front items : List (Rule × ℕ)) → length (merged_behind end all next front items).items + length (merged_behind end all next front items).tables ≤ left_weighs (mates_at end) (λ _. 1) all front items
few_behind end all next front [] = omega arith
few_behind end all next front (x ∷ xs) =
    let more = front ++ x ∷ [] in
    let goes = merged_behind end all next more xs in
    let later = merged_behind end all (next + 1) more xs in
    let leads = with_group end next (group_of end all x.0) x.0 later in
    let left = left_weighs (mates_at end) (λ _. 1) all more xs in
    elim (is_many (mates_at end) all x) as (λ m. is_many (mates_at end) all x ≡ m → length (cond m (cond (has_mate (mates_at end) front x) goes leads) (with_item x goes)).items + length (cond m (cond (has_mate (mates_at end) front x) goes leads) (with_item x goes)).tables ≤ cond m (cond (has_mate (mates_at end) front x) 0 (sum_by (λ _. 1) (group_of end all x.0))) 1 + left) [
      | true ↦ λ many. elim (has_mate (mates_at end) front x) as (λ m. length (cond m goes leads).items + length (cond m goes leads).tables ≤ cond m 0 (sum_by (λ _. 1) (group_of end all x.0)) + left) [
        | true ↦ none_more (length goes.items) (length goes.tables) left (few_behind end all next more xs)
        | false ↦ table_for_many (length later.items) (length later.tables) (sum_by (λ _. 1) (group_of end all x.0)) left (ap (nat_le 6) (sym (ones (group_of end all x.0))) ∙ many) (few_behind end all (next + 1) more xs)
      ]
      | false ↦ λ few. one_stays (length goes.items) (length goes.tables) left (few_behind end all next more xs)
    ] refl

-- what they weigh
weight_cons : (x : Rule × ℕ) (xs : List (Rule × ℕ)) → group_weight (x ∷ xs) ≡ x.1 + group_weight xs
weight_cons x xs = sum_by-cons (λ (item : Rule × ℕ). item.1) x xs

pub behind_weighs : (end : End) (all : List (Rule × ℕ)) (next : ℕ) (front items : List (Rule × ℕ)) → group_weight (merged_behind end all next front items).items ≡ left_weighs (mates_at end) (λ item. item.1) all front items
behind_weighs end all next front [] = refl
behind_weighs end all next front (x ∷ xs) =
    let more = front ++ x ∷ [] in
    let goes = merged_behind end all next more xs in
    let later = merged_behind end all (next + 1) more xs in
    let leads = with_group end next (group_of end all x.0) x.0 later in
    let left = left_weighs (mates_at end) (λ item. item.1) all more xs in
    elim (is_many (mates_at end) all x) as (λ m. group_weight (cond m (cond (has_mate (mates_at end) front x) goes leads) (with_item x goes)).items ≡ cond m (cond (has_mate (mates_at end) front x) 0 (group_weight (group_of end all x.0))) x.1 + left) [
      | true ↦ elim (has_mate (mates_at end) front x) as (λ m. group_weight (cond m goes leads).items ≡ cond m 0 (group_weight (group_of end all x.0)) + left) [
        | true ↦ behind_weighs end all next more xs ∙ zero_more left
        | false ↦ weight_cons (merged_rule end next x.0, group_weight (group_of end all x.0)) later.items ∙ ap (λ n. group_weight (group_of end all x.0) + n) (behind_weighs end all (next + 1) more xs)
      ]
      | false ↦ weight_cons x goes.items ∙ ap (λ n. x.1 + n) (behind_weighs end all next more xs)
    ]
  where
    zero_more : (n : ℕ) → n ≡ 0 + n
    zero_more n = omega arith

-- tables are numbered on from a number
pub numbered_behind : (end : End) (all : List (Rule × ℕ)) (next : ℕ) (front items : List (Rule × ℕ)) → map (λ table. table.number) (merged_behind end all next front items).tables ≡ range_with_len next (length (merged_behind end all next front items).tables)
numbered_behind end all next front [] = refl
numbered_behind end all next front (x ∷ xs) =
    let more = front ++ x ∷ [] in
    let goes = merged_behind end all next more xs in
    let leads = with_group end next (group_of end all x.0) x.0 (merged_behind end all (next + 1) more xs) in
    elim (is_many (mates_at end) all x) as (λ m. map (λ table. table.number) (cond m (cond (has_mate (mates_at end) front x) goes leads) (with_item x goes)).tables ≡ range_with_len next (length (cond m (cond (has_mate (mates_at end) front x) goes leads) (with_item x goes)).tables)) [
      | true ↦ elim (has_mate (mates_at end) front x) as (λ m. map (λ table. table.number) (cond m goes leads).tables ≡ range_with_len next (length (cond m goes leads).tables)) [
        | true ↦ numbered_behind end all next more xs
        | false ↦ ap (λ t. next ∷ t) (numbered_behind end all (next + 1) more xs)
      ]
      | false ↦ numbered_behind end all next more xs
    ]
