-- Sets of numbers that are kept as at most two intervals.
use Rattle.std.specs.Prelude.{◌≡◌, ℕ, ◌+◌, ◌<◌, ◌≤◌, Bool, true, false, ◌&&◌, ◌||◌, nat_le}
use Rattle.pf_ops.specs.declared.numbers.Interval.{Interval}
use Rattle.pf_ops.specs.declared.numbers.Numbers.{Numbers}
use Rattle.pf_ops.specs.declared.numbers.Numbers.TheVariants.{Empty, One, Two}

-- whether a number is in an interval, both ends included
abbrev pub in_interval : Interval → ℕ → Bool
in_interval i n = nat_le i.low n && nat_le n i.high

-- whether a number is in a set
abbrev pub in_numbers : Numbers → ℕ → Bool
in_numbers Empty n = false
in_numbers (One all) n = in_interval all n
in_numbers (Two first last) n = in_interval first n || in_interval last n

-- the one form in which a set of numbers up to `top` is kept: no interval is empty, and of two the
-- first begins at 0, the second ends at `top`, and some number lies between them
abbrev pub IsKept : ℕ → Numbers → Type 0
IsKept top Empty = Unit {0}
IsKept top (One all) = (all.low ≤ all.high) × (all.high ≤ top)
IsKept top (Two first last) =
    (first.low ≡ 0) × (first.high + 1 < last.low) × (last.low ≤ top) × (last.high ≡ top)

-- every number of an interval is in the set
abbrev pub Encloses : Numbers → Interval → Type 0
Encloses set part = (n : ℕ) → in_interval part n ≡ true → in_numbers set n ≡ true

-- both ends of a part lie between the ends of an interval
abbrev pub lies_in : Interval → Interval → Bool
lies_in all part = nat_le all.low part.low && nat_le part.high all.high

-- a part lies in one of the set's intervals
abbrev pub encloses : Numbers → Interval → Bool
encloses Empty part = false
encloses (One all) part = lies_in all part
encloses (Two first last) part = lies_in first part || lies_in last part

-- each interval of the second set lies in one of the first set's
abbrev pub covers : Numbers → Numbers → Bool
covers set Empty = true
covers set (One all) = encloses set all
covers set (Two first last) = encloses set first && encloses set last

-- every number up to `top` that is in the second set is in the first
abbrev pub Covers : ℕ → Numbers → Numbers → Type 0
Covers top set other = (n : ℕ) → n ≤ top → in_numbers other n ≡ true → in_numbers set n ≡ true

-- the two sets have the same numbers up to `top`
abbrev pub SameNumbers : ℕ → Numbers → Numbers → Type 0
SameNumbers top set other = (n : ℕ) → n ≤ top → in_numbers set n ≡ in_numbers other n
