-- The order of addresses, and when two are one.
use Rattle.std.specs.Prelude.{◌≡◌, ℕ, Bool, true, ◌++◌, nat_eq, IsTrue}
use Rattle.std.specs.declared.cmp.Ordering.{Ordering}
use Rattle.pf_base.specs.Equality.{Equality}
use Rattle.std.specs.Bool.{Decides}
use Rattle.std.specs.Cmp.{IsEquivalence, IsTotalOrder, IsPartialOrder, and_equiv, both_tied, first_so, nat_cmp_total, nat_eq_equiv, on_equiv, on_total, po, second_so, then_total, unsigned_Decides, unsigned_ties}
use Rattle.std.specs.Ordering.{nat_cmp, on, then_cmp, eq_of_both, eq_by_cmp, as_partial_cmp}
use Rattle.std.specs.Hash.{HashWrites, u8, u128}
use Rattle.std.proofs.Common.{ap, subst, ◌∙◌}
use Rattle.pf_addr.specs.declared.addr.Addr.{Addr}
use Rattle.pf_addr.specs.declared.addr.Addr.TheVariants.{V4, V6}
use Rattle.pf_addr.specs.Addr.{number, width}

-- by family, inet with its fewer bits first, and in one family by number
abbrev pub addr_cmp : Addr → Addr → Ordering
addr_cmp = then_cmp (on width nat_cmp) (on number nat_cmp)

-- one family and one number
abbrev pub addr_eq : Addr → Addr → Bool
addr_eq = eq_of_both (on width nat_eq) (on number nat_eq)

-- what is hashed of an address
abbrev pub addr_input : Addr → HashWrites
addr_input a = u8 (width a) ++ u128 (number a)

-- the laws of the three

pub addr_eq-equivalence : IsEquivalence addr_eq
addr_eq-equivalence = and_equiv (on_equiv width nat_eq_equiv) (on_equiv number nat_eq_equiv)

pub addr_same : (a b : Addr) → IsTrue (addr_eq a b) → a ≡ b
addr_same (V4 m) (V4 n) h = ap V4 ((unsigned_Decides m n).0 (second_so true _ h))
addr_same (V6 m) (V6 n) h = ap V6 ((unsigned_Decides m n).0 (second_so true _ h))
addr_same (V4 m) (V6 n) h = absurd cc
addr_same (V6 m) (V4 n) h = absurd cc

-- a test that holds of each value and itself, and of no two, tells which are one
pub tells : {A : Type 0} {E : A → A → Bool} → IsEquivalence E → ((a b : A) → IsTrue (E a b) → a ≡ b) → (a b : A) → Decides (E a b) (a ≡ b)
tells {A} {E} laws same a b = (same a b, λ e. subst (λ (c : A). IsTrue (E a c)) e (laws.refl a))

-- the test as decided equality
abbrev pub addrs : Equality Addr
addrs = record { same = addr_eq; decides = tells addr_eq-equivalence addr_same }

pub addr_cmp-total : IsTotalOrder addr_cmp
addr_cmp-total = then_total (on_total width nat_cmp_total) (on_total number nat_cmp_total)

pub addr_eq-addr_cmp : (a b : Addr) → addr_eq a b ≡ eq_by_cmp addr_cmp a b
addr_eq-addr_cmp a b = both_tied _ _ _ _ (unsigned_ties (width a) (width b)) (unsigned_ties (number a) (number b))

pub addr_partial_order : IsPartialOrder addr_eq (as_partial_cmp addr_cmp)
addr_partial_order = po addr_cmp-total addr_eq-addr_cmp

pub addr_eq-addr_input : (a b : Addr) → IsTrue (addr_eq a b) → addr_input a ≡ addr_input b
addr_eq-addr_input a b h =
    let wide = (unsigned_Decides (width a) (width b)).0 (first_so _ _ h) in
    let same = (unsigned_Decides (number a) (number b)).0 (second_so _ _ h) in
    ap (λ (t : ℕ). u8 t ++ u128 (number a)) wide ∙ ap (λ (t : ℕ). u8 (width b) ++ u128 t) same
