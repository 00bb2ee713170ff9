-- A rule that covers another has neither the larger low end nor the larger depth, on each axis.
use Rattle.std.proofs.Math.Nat.{mul-le-mul_right}
use Rattle.std.proofs.Common.{◌≡◌, ℕ, ◌+◌, ◌-◌, ◌*◌, ◌≤◌, true, not, ◌&&◌, nat_le, ◌==◌, Option, Some, None, ap, inl, inr, subst, arith, min, max}
use Rattle.std.proofs.lemmas.Bool.{and_parts, false≢true, leb-true}
use Rattle.pf_addr.specs.Addr.{bits_of}
use Rattle.pf_addr.specs.Stretch.{prefix_stretch, range_stretch}
use Rattle.pf_addr.specs.declared.stretch.Stretch.{Stretch}
use Rattle.pf_base.specs.Equality.{Equality, numbers, truths}
use Rattle.pf_base.specs.Kinds.{families}
use Rattle.pf_ops.specs.Equal.{icmp_types, tcp_flags}
use Rattle.pf_ops.specs.Numbers as sets
use Rattle.pf_ops.specs.declared.numbers.Interval.{Interval}
use Rattle.pf_ops.specs.declared.numbers.Numbers.{Numbers}
use Rattle.pf_ops.specs.declared.numbers.Numbers.TheVariants.{Empty, One, Two}
use Rattle.pf_parts.specs.Equal.{directions, interface_tests, tag_tests}
use Rattle.pf_parts.specs.declared.matching.IfTest.{IfTest}
use Rattle.pf_parts.specs.declared.matching.IfTest.TheVariants as interface
use Rattle.pf_parts.specs.declared.matching.TagTest.{TagTest}
use Rattle.pf_parts.specs.declared.matching.TagTest.TheVariants as tag
use Rattle.pf_rule.specs.Equal.{address_sets}
use Rattle.pf_rule.specs.Hit.{all_hold}
use Rattle.pf_rule.specs.declared.criteria.AddrSet.{AddrSet}
use Rattle.pf_rule.specs.declared.criteria.AddrSet.TheVariants.{Prefix, Range, Table, Dynamic, Auto}
use Rattle.pf_rule.specs.declared.criteria.AddrTest.{AddrTest}
use Rattle.pf_rule.specs.declared.criteria.AddrTest.TheVariants.{Any, Test}
use Rattle.pf_rule.specs.declared.criteria.Criteria.{Criteria}
use Rattle.pf_cover.proofs.Follows.{Each, hold_each, or_cases}
use Rattle.pf_cover.specs.Corner.{address_ends, beside, ends_at, from_top, if_given, interface_ends, nowhere, numbers_ends, others_ends, set_ends, stretch_ends, tag_ends, test_ends}
use Rattle.pf_cover.specs.Cover.{address_covers, covers, equal_covers, interface_covers, lies_inside, numbers_cover, other_covers, skip_covers, stretch_of, tag_covers}
use Rattle.pf_cover.specs.declared.corner.Axis.{Axis}
use Rattle.pf_cover.specs.declared.corner.Axis.TheVariants.{Source, Target, Ports, Owners, Others}
use Rattle.pf_cover.specs.declared.corner.Ends.{Ends}

-- neither end is larger
pub record Within (one other : Ends) : Type 0 where
  pub low : one.low ≤ other.low
  pub depth : one.depth ≤ other.depth

same_within : (one other : Ends) → one ≡ other → Within one other
same_within one other e = subst (λ (t : Ends). Within one t) e (record { low = omega arith; depth = omega arith })

nowhere_within : (other : Ends) → Within nowhere other
nowhere_within other = record { low = omega arith; depth = omega arith }

-- what covers its equal alone
given_within : {A : Type 0} (equal : Equality A) (ends : A → Ends) (x y : Option A) → equal_covers equal x y ≡ true → Within (if_given ends x) (if_given ends y)
given_within equal ends None y h = nowhere_within (if_given ends y)
given_within equal ends (Some a) None h = absurd (false≢true h)
given_within equal ends (Some a) (Some b) h = same_within (ends a) (ends b) (ap ends ((equal.decides a b).0 h))

interface_within : (x y : IfTest) → interface_covers x y ≡ true → Within (interface_ends x) (interface_ends y)
interface_within interface.Any y h = nowhere_within (interface_ends y)
interface_within (interface.On name negated) y h =
    same_within (interface_ends (interface.On name negated)) (interface_ends y) (ap interface_ends ((interface_tests.decides (interface.On name negated) y).0 h))

tag_within : (x y : TagTest) → tag_covers x y ≡ true → Within (tag_ends x) (tag_ends y)
tag_within tag.Any y h = nowhere_within (tag_ends y)
tag_within (tag.Is name negated) y h =
    same_within (tag_ends (tag.Is name negated)) (tag_ends y) (ap tag_ends ((tag_tests.decides (tag.Is name negated) y).0 h))

-- stretches of addresses
less_left : (top a b : ℕ) → b ≤ a → top - a ≤ top - b
less_left top a b h = omega arith

from_top_falls : (a b : ℕ) → b ≤ a → from_top a ≤ from_top b
unfolding from_top
from_top_falls a b h = less_left _ a b h

stretch_within : (s t : Stretch) → lies_inside (Some s) (Some t) ≡ true → Within (stretch_ends s) (stretch_ends t)
stretch_within s t h =
    let ends = and_parts (nat_le s.low t.low) (nat_le t.high s.high) (and_parts (bits_of s.family == bits_of t.family) (nat_le s.low t.low && nat_le t.high s.high) h).1 in
    record { low = leb-true s.low t.low ends.0; depth = from_top_falls s.high t.high (leb-true t.high s.high ends.1) }

inside_stretch : (s : Stretch) (narrow : AddrSet) → lies_inside (Some s) (stretch_of narrow) ≡ true → Within (stretch_ends s) (address_ends narrow)
inside_stretch s (Prefix prefix) h = stretch_within s (prefix_stretch prefix) h
inside_stretch s (Range range) h = stretch_within s (range_stretch range) h
inside_stretch s (Table name) h = absurd (false≢true h)
inside_stretch s (Dynamic what) h = absurd (false≢true h)
inside_stretch s (Auto number) h = absurd (false≢true h)

inside_within : (wide narrow : AddrSet) → lies_inside (stretch_of wide) (stretch_of narrow) ≡ true → Within (address_ends wide) (address_ends narrow)
inside_within (Prefix prefix) narrow h = inside_stretch (prefix_stretch prefix) narrow h
inside_within (Range range) narrow h = inside_stretch (range_stretch range) narrow h
inside_within (Table name) narrow h = absurd (false≢true h)
inside_within (Dynamic what) narrow h = absurd (false≢true h)
inside_within (Auto number) narrow h = absurd (false≢true h)

address_within : (x y : AddrTest) → address_covers x y ≡ true → Within (test_ends x) (test_ends y)
address_within Any y h = nowhere_within (test_ends y)
address_within (Test n w) Any h = absurd (false≢true h)
address_within (Test n w) (Test t v) h =
    elim (or_cases (truths.same n t && address_sets.same w v) ((not n && not t) && lies_inside (stretch_of w) (stretch_of v)) h) [
      | inl e ↦
          let same = and_parts (truths.same n t) (address_sets.same w v) e in
          same_within (address_ends w) (address_ends v) (ap address_ends ((address_sets.decides w v).0 same.1))
      | inr e ↦ inside_within w v (and_parts (not n && not t) (lies_inside (stretch_of w) (stretch_of v)) e).1
    ]

-- sets of numbers, up to a top
lies_bounds : (a b : Interval) → sets.lies_in a b ≡ true → (a.low ≤ b.low) × (b.high ≤ a.high)
lies_bounds a b h =
    let parts = and_parts (nat_le a.low b.low) (nat_le b.high a.high) h in
    (leb-true a.low b.low parts.0, leb-true b.high a.high parts.1)

-- an interval reaches no further than a set
record Inside (top : ℕ) (set : Numbers) (from to : ℕ) : Type 0 where
  low : (set_ends top set).low ≤ min from top
  depth : (set_ends top set).depth ≤ top - to

of_one : (top : ℕ) (a b : ℕ × ℕ) → a.0 ≤ b.0 → b.1 ≤ a.1 → (min a.0 top ≤ min b.0 top) × (top - a.1 ≤ top - b.1)
of_one top a b h k = (omega arith, omega arith)

of_first : (top : ℕ) (a c b : ℕ × ℕ) → a.0 ≤ b.0 → b.1 ≤ a.1 → (min (min a.0 c.0) top ≤ min b.0 top) × (top - max a.1 c.1 ≤ top - b.1)
of_first top a c b h k = (omega arith, omega arith)

of_last : (top : ℕ) (a c b : ℕ × ℕ) → c.0 ≤ b.0 → b.1 ≤ c.1 → (min (min a.0 c.0) top ≤ min b.0 top) × (top - max a.1 c.1 ≤ top - b.1)
of_last top a c b h k = (omega arith, omega arith)

interval_inside : (top : ℕ) (set : Numbers) (part : Interval) → sets.encloses set part ≡ true → Inside top set part.low part.high
interval_inside top Empty part h = absurd (false≢true h)
interval_inside top (One all) part h =
    let b = lies_bounds all part h in
    let r = of_one top (all.low, all.high) (part.low, part.high) b.0 b.1 in
    record { low = r.0; depth = r.1 }
interval_inside top (Two first last) part h =
    elim (or_cases (sets.lies_in first part) (sets.lies_in last part) h) [
      | inl e ↦
          let b = lies_bounds first part e in
          let r = of_first top (first.low, first.high) (last.low, last.high) (part.low, part.high) b.0 b.1 in
          record { low = r.0; depth = r.1 }
      | inr e ↦
          let b = lies_bounds last part e in
          let r = of_last top (first.low, first.high) (last.low, last.high) (part.low, part.high) b.0 b.1 in
          record { low = r.0; depth = r.1 }
    ]

most_low : (top : ℕ) (set : Numbers) → (set_ends top set).low ≤ top
most_low top Empty = omega arith
most_low top (One all) = omega arith
most_low top (Two first last) = omega arith

most_deep : (top : ℕ) (set : Numbers) → (set_ends top set).depth ≤ top
most_deep top Empty = omega arith
most_deep top (One all) = omega arith
most_deep top (Two first last) = omega arith

two_low : (top n a b : ℕ) → n ≤ min a top → n ≤ min b top → n ≤ min (min a b) top
two_low top n a b h k = omega arith

two_deep : (top n a b : ℕ) → n ≤ top - a → n ≤ top - b → n ≤ top - max a b
two_deep top n a b h k = omega arith

set_within : (top : ℕ) (x y : Numbers) → sets.covers x y ≡ true → Within (set_ends top x) (set_ends top y)
set_within top x Empty h = record { low = most_low top x; depth = most_deep top x }
set_within top x (One all) h = let i = interval_inside top x all h in record { low = i.low; depth = i.depth }
set_within top x (Two first last) h =
    let parts = and_parts (sets.encloses x first) (sets.encloses x last) h in
    let i = interval_inside top x first parts.0 in
    let j = interval_inside top x last parts.1 in
    record { low = two_low top (set_ends top x).low first.low last.low i.low j.low; depth = two_deep top (set_ends top x).depth first.high last.high i.depth j.depth }

numbers_within : (top : ℕ) (x y : Option Numbers) → numbers_cover x y ≡ true → Within (numbers_ends top x) (numbers_ends top y)
numbers_within top None y h = nowhere_within (numbers_ends top y)
numbers_within top (Some a) None h = absurd (false≢true h)
numbers_within top (Some a) (Some b) h = set_within top a b h

-- one criterion beside another
sum_within : (base a b c d : ℕ) → a ≤ c → b ≤ d → a * base + b ≤ c * base + d
sum_within base a b c d h k = omega (arith, mul-le-mul_right base h)

beside_within : (base : ℕ) (a b c d : Ends) → Within a c → Within b d → Within (beside base a b) (beside base c d)
beside_within base a b c d first second = record {
  low = sum_within base a.low b.low c.low d.low first.low second.low;
  depth = sum_within base a.depth b.depth c.depth d.depth first.depth second.depth;
}

-- each criterion of one rule covers that of the other
skips_of : (a b : Criteria) → covers a b ≡ true → Each (skip_covers a b)
unfolding covers
skips_of a b h = hold_each (skip_covers a b) (and_parts (all_hold (skip_covers a b)) (all_hold (other_covers a b)) h).0

others_of : (a b : Criteria) → covers a b ≡ true → Each (other_covers a b)
unfolding covers
others_of a b h = hold_each (other_covers a b) (and_parts (all_hold (skip_covers a b)) (all_hold (other_covers a b)) h).1

others_within : (a b : Criteria) → covers a b ≡ true → Within (others_ends a) (others_ends b)
others_within a b h =
    let s = skips_of a b h in
    let o = others_of a b h in
    beside_within 4 _ _ _ _
    (beside_within 4 _ _ _ _
    (beside_within 262144 _ _ _ _
    (beside_within 131072 _ _ _ _
    (beside_within 512 _ _ _ _
    (beside_within 512 _ _ _ _
    (beside_within 512 _ _ _ _
    (beside_within 33554432 _ _ _ _ (interface_within a.iface b.iface s.0) (tag_within a.tagged b.tagged o.1.1.1.1.1.1.0))
    (given_within numbers _ a.proto b.proto s.1.1.1.0))
    (given_within numbers _ a.tos b.tos o.1.1.1.1.0))
    (given_within numbers _ a.prio b.prio o.1.1.1.1.1.0))
    (given_within tcp_flags _ a.flags b.flags o.1.1.0))
    (given_within icmp_types _ a.icmp b.icmp o.1.1.1.0))
    (given_within families _ a.family b.family s.1.1.0))
    (given_within directions _ a.direction b.direction s.1.0)

pub covers_within : (axis : Axis) (a b : Criteria) → covers a b ≡ true → Within (ends_at axis a) (ends_at axis b)
covers_within Source a b h = address_within a.source b.source (skips_of a b h).1.1.1.1.0
covers_within Target a b h = address_within a.target b.target (skips_of a b h).1.1.1.1.1.1.0
covers_within Ports a b h =
    let s = skips_of a b h in
    beside_within 65536 _ _ _ _ (numbers_within 65535 a.source_port b.source_port s.1.1.1.1.1.0) (numbers_within 65535 a.target_port b.target_port s.1.1.1.1.1.1.1.0)
covers_within Owners a b h =
    let o = others_of a b h in
    beside_within 4294967296 _ _ _ _ (numbers_within 4294967295 a.user b.user o.0) (numbers_within 4294967295 a.group b.group o.1.0)
covers_within Others a b h = others_within a b h
