-- Prefixes as stretches, and when one stretch encloses another.
use Rattle.std.proofs.Common.{◌≡◌, ℕ, ◌+◌, ◌-◌, ◌*◌, ◌/◌, ◌%◌, ◌^◌, ◌<◌, ◌≤◌, IsTrue, true, ◌==◌, ◌&&◌, nat_le, refl, sym, ap, ◌∙◌, subst, arith, eq-eqb, ne_eqb, inl, inr}
use Rattle.std.specs.Prelude.{◌↔◌}
use Rattle.std.specs.Cmp.{both_ways}
use Rattle.std.proofs.lemmas.Bool.{and_parts, and_from, eqb-true, le-leb, leb-true, cases_eq}
use Rattle.std.proofs.lemmas.Nat.{pow-add, pow_pos, shr_high, shr_split, mod_below}
use Rattle.pf_base.specs.declared.kind.Family.{Family}
use Rattle.pf_base.specs.declared.kind.Family.TheVariants.{Inet, Inet6}
use Rattle.pf_addr.specs.declared.addr.Addr.{Addr}
use Rattle.pf_addr.specs.declared.addr.Addr.TheVariants.{V4, V6}
use Rattle.pf_addr.specs.declared.prefix.Prefix.{Prefix}
use Rattle.pf_addr.specs.declared.stretch.Stretch.{Stretch}
use Rattle.pf_addr.specs.Addr.{IsAddr, bits_of, number, width}
use Rattle.pf_addr.specs.Prefix as prefixes
use Rattle.pf_addr.specs.Stretch.{EnclosesAll, IsStretch, contains, encloses, prefix_stretch}
use Rattle.pf_addr.proofs.Cover.{last_below}

-- the greatest number of so many bits
pub mask_is : (b k : ℕ) → b + k ≡ 128 → (2 ^ 128 - 1) / 2 ^ k ≡ 2 ^ b - 1
mask_is b k sum =
    let wide : 2 ^ 128 ≡ 2 ^ b * 2 ^ k = ap (λ (t : ℕ). 2 ^ t) (sym sum) ∙ pow-add 2 b k in
    let some = pow_pos b in
    let pos = pow_pos k in
    let form : 2 ^ b * 2 ^ k - 1 ≡ (2 ^ b - 1) * 2 ^ k + (2 ^ k - 1) =
    subst (λ (x : ℕ). x * 2 ^ k - 1 ≡ (2 ^ b - 1) * 2 ^ k + (2 ^ k - 1)) (omega arith) (split (2 ^ b - 1) (2 ^ k) pos) in
    ap (λ (t : ℕ). (t - 1) / 2 ^ k) wide ∙ ap (λ (t : ℕ). t / 2 ^ k) form ∙ shr_high (2 ^ b - 1) k (2 ^ k - 1) (omega arith)
  where
    split : (x y : ℕ) → 0 < y → (x + 1) * y - 1 ≡ x * y + (y - 1)
    split x y h = omega arith

-- the numbers whose bits before the last k are those of y, which ends in zeros
between : (y n k : ℕ) → y % 2 ^ k ≡ 0 → (nat_le y n && nat_le n (y + (2 ^ k - 1))) ≡ (y / 2 ^ k == n / 2 ^ k)
between y n k zero_bits =
    let split = shr_split y k in
    let other = shr_split n k in
    let pos = pow_pos k in
    let at = nat_le y n && nat_le n (y + (2 ^ k - 1)) in
    let tops = y / 2 ^ k == n / 2 ^ k in
    both_ways at tops
    (λ (h : at ≡ true).
    let parts = and_parts (nat_le y n) (nat_le n (y + (2 ^ k - 1))) h in
    let low : y ≤ n = leb-true _ _ parts.0 in
    let high : n ≤ y + (2 ^ k - 1) = leb-true _ _ parts.1 in
    let form : n ≡ y / 2 ^ k * 2 ^ k + (n - y) = omega arith in
    eq-eqb _ _ (sym (ap (λ (t : ℕ). t / 2 ^ k) form ∙ shr_high (y / 2 ^ k) k (n - y) (omega arith))))
    (λ (h : tops ≡ true).
    let same : y / 2 ^ k ≡ n / 2 ^ k = eqb-true _ _ h in
    let level : y / 2 ^ k * 2 ^ k ≡ n / 2 ^ k * 2 ^ k = ap (λ (t : ℕ). t * 2 ^ k) same in
    let rest : n % 2 ^ k < 2 ^ k = mod_below n (2 ^ k) pos in
    and_from (nat_le y n) (nat_le n (y + (2 ^ k - 1))) (le-leb _ _ (omega arith)) (le-leb _ _ (omega arith)))

-- a prefix has the addresses of its stretch
pub prefix_stretch-contains : (p : Prefix) (a : Addr) → contains (prefix_stretch p) a ≡ prefixes.contains p a
prefix_stretch-contains p a =
    elim (cases_eq (width p.addr) (width a)) [
      | inl same ↦
          let bits = between (number p.addr) (number a) (width p.addr - p.len) p.no_host_bits in
          ap (λ t. (width p.addr == width a) && t) (bits ∙ ap (λ (t : ℕ). number p.addr / 2 ^ (width p.addr - p.len) == number a / 2 ^ (t - p.len)) same)
      | inr other ↦ rw (ne_eqb (width p.addr) (width a) other) refl
    ]

-- a number of a family has at most 128 bits
pub below_most : (f : Family) (n : ℕ) → n < 2 ^ bits_of f → n < 2 ^ 128
below_most Inet n h = omega arith
below_most Inet6 n h = h

pub prefix_stretch-kept : (p : Prefix) → IsAddr p.addr → IsStretch (prefix_stretch p)
prefix_stretch-kept p range = record {
  in_order = omega arith;
  fits = last_below (number p.addr) (width p.addr - p.len) (width p.addr) (omega arith) p.no_host_bits range;
}

-- the address of a family with this number
addr_at : Family → ℕ → Addr
addr_at Inet n = V4 n
addr_at Inet6 n = V6 n

addr_at-width : (f : Family) (n : ℕ) → width (addr_at f n) ≡ bits_of f
unfolding addr_at
addr_at-width Inet n = refl
addr_at-width Inet6 n = refl

addr_at-number : (f : Family) (n : ℕ) → number (addr_at f n) ≡ n
unfolding addr_at
addr_at-number Inet n = refl
addr_at-number Inet6 n = refl

-- what the test says
record IsIn (s : Stretch) (a : Addr) : Type 0 where
  family : bits_of s.family ≡ width a
  low : s.low ≤ number a
  high : number a ≤ s.high

IsIn-true : (s : Stretch) (a : Addr) → IsTrue (contains s a) → IsIn s a
IsIn-true s a h =
    let parts = and_parts _ _ h in
    let ends = and_parts _ _ parts.1 in
    record { family = eqb-true _ _ parts.0; low = leb-true _ _ ends.0; high = leb-true _ _ ends.1 }

true-IsIn : (s : Stretch) (a : Addr) → IsIn s a → IsTrue (contains s a)
true-IsIn s a h = and_from _ _ (eq-eqb _ _ h.family) (and_from _ _ (le-leb _ _ h.low) (le-leb _ _ h.high))

module _ (s t : Stretch) (kept : IsStretch t) where
  all_enclosed : IsTrue (encloses s t) → EnclosesAll s t
  all_enclosed h a range inside =
      let parts = and_parts _ _ h in
      let ends = and_parts _ _ parts.1 in
      let at = IsIn-true t a inside in
      let low : s.low ≤ t.low = leb-true _ _ ends.0 in
      let high : t.high ≤ s.high = leb-true _ _ ends.1 in
      true-IsIn s a (record { family = eqb-true _ _ parts.0 ∙ at.family; low = omega (arith, at.low); high = omega (arith, at.high) })

  -- the address of a number of the stretch is in both
  at_number : EnclosesAll s t → (n : ℕ) → t.low ≤ n → n ≤ t.high → IsIn s (addr_at t.family n)
  at_number all n low high =
      let wide = addr_at-width t.family n in
      let is = addr_at-number t.family n in
      let fits : n < 2 ^ bits_of t.family = omega (arith, kept.fits) in
      let range : IsAddr (addr_at t.family n) = rw (is, wide) fits in
      let inside : IsIn t (addr_at t.family n) = record { family = sym wide; low = rw is low; high = rw is high } in
      IsIn-true s _ (all _ range (true-IsIn t _ inside))

  ends_enclosed : EnclosesAll s t → IsTrue (encloses s t)
  ends_enclosed all =
      let first = at_number all t.low (omega arith) kept.in_order in
      let last = at_number all t.high kept.in_order (omega arith) in
      and_from _ _ (eq-eqb _ _ (first.family ∙ addr_at-width t.family t.low))
      (and_from _ _ (le-leb _ _ (subst (λ (n : ℕ). s.low ≤ n) (addr_at-number t.family t.low) first.low))
      (le-leb _ _ (subst (λ (n : ℕ). n ≤ s.high) (addr_at-number t.family t.high) last.high)))

  pub encloses-all : IsTrue (encloses s t) ↔ EnclosesAll s t
  encloses-all = (all_enclosed, ends_enclosed)
