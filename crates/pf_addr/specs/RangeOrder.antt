-- When two ranges are one.
use Rattle.std.specs.Prelude.{◌≡◌, ◌≤◌, Bool, ◌++◌, IsTrue}
use Rattle.pf_base.specs.Equality.{Equality}
use Rattle.std.specs.Coded.{le_prop}
use mathlib.Core.HLevel.{is_prop→PathP}
use native.Mathlib.Nat.{ℕ_set}
use Rattle.std.specs.Cmp.{IsEquivalence, and_equiv, first_so, on_equiv, second_so}
use Rattle.std.specs.Ordering.{eq_of_both, on}
use Rattle.std.specs.Hash.{HashWrites}
use Rattle.std.proofs.Common.{ap, ◌∙◌}
use Rattle.pf_addr.specs.declared.addr.Addr.{Addr}
use Rattle.pf_addr.specs.declared.range.Range.{Range}
use Rattle.pf_addr.specs.AddrOrder.{addr_eq, addr_eq-addr_input, addr_eq-equivalence, addr_input, addr_same, tells}
use Rattle.pf_addr.specs.Addr.{number, width}

-- the ends of a range
abbrev pub low_of : Range → Addr
low_of r = r.low

abbrev pub high_of : Range → Addr
high_of r = r.high

-- the same ends
abbrev pub range_eq : Range → Range → Bool
range_eq = eq_of_both (on low_of addr_eq) (on high_of addr_eq)

-- what is hashed of a range
abbrev pub range_input : Range → HashWrites
range_input r = addr_input r.low ++ addr_input r.high

-- the laws of the two

pub range_eq-equivalence : IsEquivalence range_eq
range_eq-equivalence = and_equiv (on_equiv low_of addr_eq-equivalence) (on_equiv high_of addr_eq-equivalence)

-- a range is its two ends
Range-same : (r s : Range) → r.low ≡ s.low → r.high ≡ s.high → r ≡ s
Range-same r s e f = λ i. record {
  low = e i;
  high = f i;
  one_family = is_prop→PathP (λ j. width (e j) ≡ width (f j)) (λ j. ℕ_set _ _) r.one_family s.one_family i;
  in_order = is_prop→PathP (λ j. number (e j) ≤ number (f j)) (λ j. le_prop) r.in_order s.in_order i;
}

pub range_same : (r s : Range) → IsTrue (range_eq r s) → r ≡ s
range_same r s h = Range-same r s (addr_same r.low s.low (first_so _ _ h)) (addr_same r.high s.high (second_so _ _ h))

-- the test as decided equality
abbrev pub ranges : Equality Range
ranges = record { same = range_eq; decides = tells range_eq-equivalence range_same }

pub range_eq-range_input : (r s : Range) → IsTrue (range_eq r s) → range_input r ≡ range_input s
range_eq-range_input r s h =
    let low = addr_eq-addr_input r.low s.low (first_so _ _ h) in
    let high = addr_eq-addr_input r.high s.high (second_so _ _ h) in
    ap (λ (t : HashWrites). t ++ addr_input r.high) low ∙ ap (λ (t : HashWrites). addr_input s.low ++ t) high
