-- When an interval lies in a set, and a set in another.
use Rattle.std.proofs.Common.{◌≡◌, ℕ, ◌+◌, ◌<◌, ◌≤◌, true, false, ◌||◌, ◌⊎◌, ◌↔◌, sym, ap, ◌∙◌, inl, inr, ⊎_elim, arith, refl}
use Rattle.std.proofs.lemmas.Bool.{false≢true, and_parts, and_from, or_cases, or_left, or_right, leb-true, le-leb, cases_lt}
use Rattle.pf_ops.specs.declared.numbers.Interval.{Interval}
use Rattle.pf_ops.specs.declared.numbers.Numbers.{Numbers}
use Rattle.pf_ops.specs.declared.numbers.Numbers.TheVariants.{Empty, One, Two}
use Rattle.pf_ops.specs.Numbers.{Covers, Encloses, IsKept, SameNumbers, covers, encloses, in_interval, in_numbers, lies_in}

pub inside : (i : Interval) (n : ℕ) → i.low ≤ n → n ≤ i.high → in_interval i n ≡ true
inside i n from to = and_from _ _ (le-leb _ _ from) (le-leb _ _ to)

pub inside_parts : (i : Interval) (n : ℕ) → in_interval i n ≡ true → (i.low ≤ n) × (n ≤ i.high)
inside_parts i n h = let both = and_parts _ _ h in (leb-true _ _ both.0, leb-true _ _ both.1)

pub lies_parts : (all part : Interval) → lies_in all part ≡ true → (all.low ≤ part.low) × (part.high ≤ all.high)
lies_parts all part h = let both = and_parts _ _ h in (leb-true _ _ both.0, leb-true _ _ both.1)

pub lies_from : (all part : Interval) → all.low ≤ part.low → part.high ≤ all.high → lies_in all part ≡ true
lies_from all part low high = and_from _ _ (le-leb _ _ low) (le-leb _ _ high)

-- where a part lies in an interval, so does each of its numbers
pub lies_each : (all part : Interval) → lies_in all part ≡ true → (n : ℕ) → in_interval part n ≡ true → in_interval all n ≡ true
lies_each all part h n inner =
    let ends = lies_parts all part h in
    let between = inside_parts part n inner in
    inside all n (omega arith) (omega arith)

pub one_only : (all part : Interval) → part.low ≤ part.high → Encloses (One all) part → lies_in all part ≡ true
one_only all part some h =
    let first = inside_parts all part.low (h part.low (inside part part.low (omega arith) some)) in
    let last = inside_parts all part.high (h part.high (inside part part.high some (omega arith))) in
    lies_from all part first.0 last.1

cases_le : (m n : ℕ) → (m ≤ n) ⊎ (n < m)
cases_le m n = ⊎_elim (λ h. inr h) (λ h. inl h) (cases_lt n m)

-- a part that begins in the first of two intervals with a number between them ends there
two_first : (first last part : Interval) → first.high + 1 < last.low → Encloses (Two first last) part → part.low ≤ first.high → first.low ≤ part.low → (part.high ≤ first.high) ⊎ (first.high < part.high) → (lies_in first part || lies_in last part) ≡ true
two_first first last part gap h begins low (inl ends) = or_left _ _ (lies_from first part low ends)
two_first first last part gap h begins low (inr beyond) =
    ⊎_elim
    (λ inner. let at = inside_parts first (first.high + 1) inner in absurd (omega arith))
    (λ inner. let at = inside_parts last (first.high + 1) inner in absurd (omega arith))
    (or_cases _ _ (h (first.high + 1) (inside part (first.high + 1) (omega arith) (omega arith))))

-- a part that begins in the last of two intervals ends there
two_last : (first last part : Interval) → first.high + 1 < last.low → Encloses (Two first last) part → part.low ≤ part.high → last.low ≤ part.low → (lies_in first part || lies_in last part) ≡ true
two_last first last part gap h some begins =
    ⊎_elim
    (λ inner. let at = inside_parts first part.high inner in absurd (omega arith))
    (λ inner. let at = inside_parts last part.high inner in or_right _ _ (lies_from last part begins at.1))
    (or_cases _ _ (h part.high (inside part part.high some (omega arith))))

pub two_only : (first last part : Interval) → first.high + 1 < last.low → part.low ≤ part.high → Encloses (Two first last) part → (lies_in first part || lies_in last part) ≡ true
two_only first last part gap some h =
    ⊎_elim
    (λ inner. let at = inside_parts first part.low inner in two_first first last part gap h at.1 at.0 (cases_le part.high first.high))
    (λ inner. let at = inside_parts last part.low inner in two_last first last part gap h some at.0)
    (or_cases _ _ (h part.low (inside part part.low (omega arith) some)))

pub two_each : (first last part : Interval) → (lies_in first part || lies_in last part) ≡ true → Encloses (Two first last) part
two_each first last part h n inner =
    ⊎_elim
    (λ lies. or_left _ _ (lies_each first part lies n inner))
    (λ lies. or_right _ _ (lies_each last part lies n inner))
    (or_cases _ _ h)

-- where every number of a part that isn't empty is in none, there is none
pub none_only : (part : Interval) → part.low ≤ part.high → Encloses Empty part → false ≡ true
none_only part some h = h part.low (inside part part.low (omega arith) some)

encloses_each : (set : Numbers) (part : Interval) → encloses set part ≡ true → Encloses set part
encloses_each Empty part h = absurd (false≢true h)
encloses_each (One all) part h = lies_each all part h
encloses_each (Two first last) part h = two_each first last part h

encloses_only : (top : ℕ) (set : Numbers) (part : Interval) → IsKept top set → part.low ≤ part.high → Encloses set part → encloses set part ≡ true
encloses_only top Empty part kept some h = none_only part some h
encloses_only top (One all) part kept some h = one_only all part some h
encloses_only top (Two first last) part kept some h = two_only first last part kept.1 some h

encloses_exact : (top : ℕ) (set : Numbers) (part : Interval) → IsKept top set → part.low ≤ part.high → (encloses set part ≡ true) ↔ Encloses set part
encloses_exact top set part kept some = (encloses_each set part, encloses_only top set part kept some)

-- one set lies in another exactly where each of its intervals lies in one of the other's
pub covers_exact : (top : ℕ) (set other : Numbers) → IsKept top set → IsKept top other → (covers set other ≡ true) ↔ Covers top set other
covers_exact top set Empty kept other_kept = (λ yes n in_range inner. absurd (false≢true inner), λ h. refl)
covers_exact top set (One all) kept other_kept =
    let exact = encloses_exact top set all kept other_kept.0 in (
      λ yes n in_range inner. exact.0 yes n inner,
      λ h. exact.1 (λ n inner. let at = inside_parts all n inner in h n (omega arith) inner),
    )
covers_exact top set (Two first last) kept other_kept =
    let exact_first = encloses_exact top set first kept (omega arith) in
    let exact_last = encloses_exact top set last kept (omega arith) in (
      λ yes n in_range inner.
          let parts = and_parts (encloses set first) (encloses set last) yes in
          ⊎_elim (λ at. exact_first.0 parts.0 n at) (λ at. exact_last.0 parts.1 n at) (or_cases _ _ inner),
      λ h.
          and_from (encloses set first) (encloses set last)
          (exact_first.1 (λ n inner. let at = inside_parts first n inner in h n (omega arith) (or_left _ _ inner)))
          (exact_last.1 (λ n inner. let at = inside_parts last n inner in h n (omega arith) (or_right _ _ inner))),
    )

-- where a number of two intervals lies
two_parts : (first last : Interval) (n : ℕ) → in_numbers (Two first last) n ≡ true → ((first.low ≤ n) × (n ≤ first.high)) ⊎ ((last.low ≤ n) × (n ≤ last.high))
two_parts first last n inner =
    ⊎_elim (λ at. inl (inside_parts first n at)) (λ at. inr (inside_parts last n at)) (or_cases _ _ inner)

in_first : (first last : Interval) (n : ℕ) → first.low ≤ n → n ≤ first.high → in_numbers (Two first last) n ≡ true
in_first first last n from to = or_left _ _ (inside first n from to)

in_last : (first last : Interval) (n : ℕ) → last.low ≤ n → n ≤ last.high → in_numbers (Two first last) n ≡ true
in_last first last n from to = or_right _ _ (inside last n from to)

same_interval : (a b : Interval) → a.low ≡ b.low → a.high ≡ b.high → a ≡ b
same_interval a b low high = λ i. record { low = low i; high = high i }

not_one : (top : ℕ) (all : Interval) → IsKept top (One all) → Covers top Empty (One all) → ⊥
not_one top all kept h = false≢true (h all.low (omega arith) (inside all all.low (omega arith) kept.0))

not_two : (top : ℕ) (first last : Interval) → IsKept top (Two first last) → Covers top Empty (Two first last) → ⊥
not_two top first last kept h =
    false≢true (h top (omega arith) (in_last first last top (omega arith) (omega arith)))

-- one interval isn't two with a number between them
one_not_two : (top : ℕ) (all first last : Interval) → IsKept top (Two first last) → Covers top (One all) (Two first last) → Covers top (Two first last) (One all) → ⊥
one_not_two top all first last kept h back =
    let begins = inside_parts all 0 (h 0 (omega arith) (in_first first last 0 (omega arith) (omega arith))) in
    let ends = inside_parts all last.low (h last.low (omega arith) (in_last first last last.low (omega arith) (omega arith))) in
    ⊎_elim
    (λ at. absurd (omega arith))
    (λ at. absurd (omega arith))
    (two_parts first last (first.high + 1) (back (first.high + 1) (omega arith) (inside all (first.high + 1) (omega arith) (omega arith))))

both_ones : (top : ℕ) (a b : Interval) → IsKept top (One a) → IsKept top (One b) → Covers top (One a) (One b) → Covers top (One b) (One a) → a ≡ b
both_ones top a b kept kept' h back =
    let low = inside_parts a b.low (h b.low (omega arith) (inside b b.low (omega arith) kept'.0)) in
    let high = inside_parts a b.high (h b.high (omega arith) (inside b b.high kept'.0 (omega arith))) in
    let low' = inside_parts b a.low (back a.low (omega arith) (inside a a.low (omega arith) kept.0)) in
    let high' = inside_parts b a.high (back a.high (omega arith) (inside a a.high kept.0 (omega arith))) in
    same_interval a b (omega arith) (omega arith)

-- the first of two intervals doesn't end before the first of a subset
first_ends : (top : ℕ) (first last first' last' : Interval) → IsKept top (Two first last) → IsKept top (Two first' last') → Covers top (Two first last) (Two first' last') → first'.high ≤ first.high
first_ends top first last first' last' kept kept' h =
    ⊎_elim
    (λ done. done)
    (λ beyond. ⊎_elim
    (λ at. absurd (omega arith))
    (λ at. absurd (omega arith))
    (two_parts first last (first.high + 1) (h (first.high + 1) (omega arith) (in_first first' last' (first.high + 1) (omega arith) (omega arith)))))
    (cases_le first'.high first.high)

-- the last of two intervals doesn't begin after the last of a subset
last_begins : (top : ℕ) (first last first' last' : Interval) → IsKept top (Two first last) → IsKept top (Two first' last') → first.high ≡ first'.high → Covers top (Two first last) (Two first' last') → last.low ≤ last'.low
last_begins top first last first' last' kept kept' ends h =
    ⊎_elim
    (λ at. absurd (omega arith))
    (λ at. at.0)
    (two_parts first last last'.low (h last'.low (omega arith) (in_last first' last' last'.low (omega arith) (omega arith))))

both_twos : (top : ℕ) (first last first' last' : Interval) → IsKept top (Two first last) → IsKept top (Two first' last') → Covers top (Two first last) (Two first' last') → Covers top (Two first' last') (Two first last) → Two first last ≡ Two first' last'
both_twos top first last first' last' kept kept' h back =
    let one = first_ends top first last first' last' kept kept' h in
    let two = first_ends top first' last' first last kept' kept back in
    let ends : first.high ≡ first'.high = omega arith in
    let three = last_begins top first last first' last' kept kept' ends h in
    let four = last_begins top first' last' first last kept' kept (sym ends) back in
    let firsts = same_interval first first' (omega arith) ends in
    let lasts = same_interval last last' (omega arith) (omega arith) in
    λ i. Two (firsts i) (lasts i)

-- sets that cover each other are kept in one form
pub one_form : (top : ℕ) (a b : Numbers) → IsKept top a → IsKept top b → Covers top a b → Covers top b a → a ≡ b
one_form top Empty Empty kept kept' h back = refl
one_form top Empty (One b) kept kept' h back = absurd (not_one top b kept' h)
one_form top Empty (Two f l) kept kept' h back = absurd (not_two top f l kept' h)
one_form top (One a) Empty kept kept' h back = absurd (not_one top a kept back)
one_form top (One a) (One b) kept kept' h back = ap One (both_ones top a b kept kept' h back)
one_form top (One a) (Two f l) kept kept' h back = absurd (one_not_two top a f l kept' h back)
one_form top (Two f l) Empty kept kept' h back = absurd (not_two top f l kept back)
one_form top (Two f l) (One b) kept kept' h back = absurd (one_not_two top b f l kept back h)
one_form top (Two f l) (Two f' l') kept kept' h back = both_twos top f l f' l' kept kept' h back

-- sets of the same numbers are one value
pub same_numbers : (top : ℕ) (a b : Numbers) → IsKept top a → IsKept top b → SameNumbers top a b → a ≡ b
same_numbers top a b kept kept' same =
    one_form top a b kept kept' (λ n in_range inner. same n in_range ∙ inner) (λ n in_range inner. sym (same n in_range) ∙ inner)
