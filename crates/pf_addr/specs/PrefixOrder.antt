-- The order of prefixes, and when two are one.
use Rattle.std.specs.Prelude.{◌≡◌, ℕ, ◌-◌, ◌%◌, ◌^◌, ◌≤◌, Bool, ◌++◌, nat_eq, IsTrue}
use Rattle.std.specs.declared.cmp.Ordering.{Ordering}
use Rattle.pf_base.specs.Equality.{Equality}
use Rattle.std.specs.Coded.{le_prop}
use mathlib.Core.HLevel.{is_prop→PathP}
use native.Mathlib.Nat.{ℕ_set}
use Rattle.std.specs.Cmp.{IsEquivalence, IsTotalOrder, IsPartialOrder, and_equiv, both_tied, first_so, nat_cmp_total, nat_eq_equiv, on_equiv, on_total, po, second_so, then_total, unsigned_Decides, unsigned_ties}
use Rattle.std.specs.Ordering.{nat_cmp, on, then_cmp, eq_of_both, eq_by_cmp, as_partial_cmp}
use Rattle.std.specs.Hash.{HashWrites, u8}
use Rattle.std.proofs.Common.{ap, ◌∙◌}
use Rattle.pf_addr.specs.declared.addr.Addr.{Addr}
use Rattle.pf_addr.specs.declared.prefix.Prefix.{Prefix}
use Rattle.pf_addr.specs.AddrOrder.{addr_cmp, addr_eq, addr_input, addr_cmp-total, addr_eq-addr_cmp, addr_eq-equivalence, addr_same, tells, addr_eq-addr_input}
use Rattle.pf_addr.specs.Addr.{number, width}

-- the address of a prefix, and its length
abbrev pub addr_in : Prefix → Addr
addr_in p = p.addr

abbrev pub len_in : Prefix → ℕ
len_in p = p.len

-- by address, inet first, and at one address the shorter first
abbrev pub prefix_cmp : Prefix → Prefix → Ordering
prefix_cmp = then_cmp (on addr_in addr_cmp) (on len_in nat_cmp)

-- one address and one length
abbrev pub prefix_eq : Prefix → Prefix → Bool
prefix_eq = eq_of_both (on addr_in addr_eq) (on len_in nat_eq)

-- what is hashed of a prefix
abbrev pub prefix_input : Prefix → HashWrites
prefix_input p = addr_input p.addr ++ u8 p.len

-- the laws of the three

pub prefix_eq-equivalence : IsEquivalence prefix_eq
prefix_eq-equivalence = and_equiv (on_equiv addr_in addr_eq-equivalence) (on_equiv len_in nat_eq_equiv)

-- a prefix is its address and its length
pub Prefix-same : (p q : Prefix) → p.addr ≡ q.addr → p.len ≡ q.len → p ≡ q
Prefix-same p q e f = λ i. record {
  addr = e i;
  len = f i;
  fits = is_prop→PathP (λ j. f j ≤ width (e j)) (λ j. le_prop) p.fits q.fits i;
  no_host_bits = is_prop→PathP (λ j. number (e j) % 2 ^ (width (e j) - f j) ≡ 0) (λ j. ℕ_set _ _) p.no_host_bits q.no_host_bits i;
}

pub prefix_same : (p q : Prefix) → IsTrue (prefix_eq p q) → p ≡ q
prefix_same p q h =
    Prefix-same p q (addr_same p.addr q.addr (first_so _ _ h)) ((unsigned_Decides p.len q.len).0 (second_so _ _ h))

-- the test as decided equality
abbrev pub prefixes : Equality Prefix
prefixes = record { same = prefix_eq; decides = tells prefix_eq-equivalence prefix_same }

pub prefix_cmp-total : IsTotalOrder prefix_cmp
prefix_cmp-total = then_total (on_total addr_in addr_cmp-total) (on_total len_in nat_cmp_total)

pub prefix_eq-prefix_cmp : (p q : Prefix) → prefix_eq p q ≡ eq_by_cmp prefix_cmp p q
prefix_eq-prefix_cmp p q = both_tied _ _ _ _ (addr_eq-addr_cmp p.addr q.addr) (unsigned_ties p.len q.len)

pub prefix_partial_order : IsPartialOrder prefix_eq (as_partial_cmp prefix_cmp)
prefix_partial_order = po prefix_cmp-total prefix_eq-prefix_cmp

pub prefix_eq-prefix_input : (p q : Prefix) → IsTrue (prefix_eq p q) → prefix_input p ≡ prefix_input q
prefix_eq-prefix_input p q h =
    let same = addr_eq-addr_input p.addr q.addr (first_so _ _ h) in
    let len = (unsigned_Decides p.len q.len).0 (second_so _ _ h) in
    ap (λ (t : HashWrites). t ++ u8 p.len) same ∙ ap (λ (t : ℕ). addr_input q.addr ++ u8 t) len
