-- One prefix covers another exactly where each address of the other is in it.
use Rattle.std.proofs.Common.{◌≡◌, ℕ, ◌+◌, ◌-◌, ◌*◌, ◌/◌, ◌%◌, ◌^◌, ◌<◌, ◌≤◌, IsTrue, nat_le, refl, sym, ap, ◌∙◌, subst, arith, eq-eqb, inl, inr}
use Rattle.std.specs.Prelude.{◌↔◌}
use Rattle.std.proofs.lemmas.Bool.{and_parts, and_from, eqb-true, le-leb, leb-true, cases_lt}
use Rattle.std.proofs.lemmas.Nat.{shr-shr, pow-add, pow_pos, shr_high, shr_split, shr_below, pow_below}
use Rattle.pf_addr.specs.declared.addr.Addr.{Addr}
use Rattle.pf_addr.specs.declared.addr.Addr.TheVariants.{V4, V6}
use Rattle.pf_addr.specs.declared.prefix.Prefix.{Prefix}
use Rattle.pf_addr.specs.Addr.{width, number, IsAddr, leading}
use Rattle.pf_addr.specs.Prefix.{contains, CoversAll}

-- what the test says
pub record IsIn (p : Prefix) (a : Addr) : Type 0 where
  pub family : width p.addr ≡ width a
  pub bits : leading p.addr p.len ≡ leading a p.len

pub IsIn-true : (p : Prefix) (a : Addr) → IsTrue (contains p a) → IsIn p a
IsIn-true p a h =
    let parts = and_parts _ _ h in
    record { family = eqb-true _ _ parts.0; bits = eqb-true _ _ parts.1 }

pub true-IsIn : (p : Prefix) (a : Addr) → IsIn p a → IsTrue (contains p a)
true-IsIn p a h = and_from _ _ (eq-eqb _ _ h.family) (eq-eqb _ _ h.bits)

-- numbers that agree before their last low bits agree before their last high ones
fewer_bits : (y z low high : ℕ) → low ≤ high → y / 2 ^ low ≡ z / 2 ^ low → y / 2 ^ high ≡ z / 2 ^ high
fewer_bits y z low high le same =
    let sum : low + (high - low) ≡ high = omega arith in
    let step : y / 2 ^ (low + (high - low)) ≡ z / 2 ^ (low + (high - low)) =
    sym (shr-shr y low (high - low)) ∙ ap (λ (t : ℕ). t / 2 ^ (high - low)) same ∙ shr-shr z low (high - low) in
    subst (λ (k : ℕ). y / 2 ^ k ≡ z / 2 ^ k) sum step

-- the last number with the same bits before the last k
abbrev pub last_with : ℕ → ℕ → ℕ
last_with y k = y + (2 ^ k - 1)

pub last_below : (y k w : ℕ) → k ≤ w → y % 2 ^ k ≡ 0 → y < 2 ^ w → last_with y k < 2 ^ w
last_below y k w le zero_bits lt =
    let split = shr_split y k in
    let sum : (w - k) + k ≡ w = omega arith in
    let wide : 2 ^ w ≡ 2 ^ (w - k) * 2 ^ k = ap (λ (t : ℕ). 2 ^ t) (sym sum) ∙ pow-add 2 (w - k) k in
    let high : y / 2 ^ k < 2 ^ (w - k) = shr_below y (w - k) k (subst (λ (t : ℕ). y < 2 ^ t) (sym sum) lt) in
    let pos = pow_pos k in
    let room : (y / 2 ^ k + 1) * 2 ^ k ≤ 2 ^ (w - k) * 2 ^ k = grind arith in
    omega arith

last_same : (y k : ℕ) → y % 2 ^ k ≡ 0 → last_with y k / 2 ^ k ≡ y / 2 ^ k
last_same y k zero_bits =
    let split = shr_split y k in
    let pos = pow_pos k in
    let form : y + (2 ^ k - 1) ≡ y / 2 ^ k * 2 ^ k + (2 ^ k - 1) = omega arith in
    ap (λ (t : ℕ). t / 2 ^ k) form ∙ shr_high (y / 2 ^ k) k (2 ^ k - 1) (omega arith)

-- with fewer bits cut off, the two differ
last_differs : (y k j : ℕ) → j < k → last_with y k / 2 ^ j ≡ y / 2 ^ j → 0 < 0
last_differs y k j lt same =
    let a = shr_split y j in
    let b = shr_split (y + (2 ^ k - 1)) j in
    let below : 2 ^ j < 2 ^ k = pow_below j k lt in
    let one = pow_pos j in
    let r : y % 2 ^ j < 2 ^ j = grind arith in
    let s : (y + (2 ^ k - 1)) % 2 ^ j < 2 ^ j = grind arith in
    let t : (y + (2 ^ k - 1)) / 2 ^ j * 2 ^ j ≡ y / 2 ^ j * 2 ^ j = ap (λ (n : ℕ). n * 2 ^ j) same in
    omega arith

-- an address of the family with this number
other_number : Addr → ℕ → Addr
other_number (V4 n) m = V4 m
other_number (V6 n) m = V6 m

other_number-width : (a : Addr) (m : ℕ) → width (other_number a m) ≡ width a
unfolding other_number
other_number-width (V4 n) m = refl
other_number-width (V6 n) m = refl

other_number-number : (a : Addr) (m : ℕ) → number (other_number a m) ≡ m
unfolding other_number
other_number-number (V4 n) m = refl
other_number-number (V6 n) m = refl

covers_all : (p q : Prefix) → IsIn p q.addr → p.len ≤ q.len → CoversAll p q
covers_all p q first le a range inside =
    let at = IsIn-true q a inside in
    let w = width q.addr in
    let wa : width a ≡ w = sym at.family in
    let bits : number q.addr / 2 ^ (w - q.len) ≡ number a / 2 ^ (w - q.len) =
    subst (λ (t : ℕ). number q.addr / 2 ^ (w - q.len) ≡ number a / 2 ^ (t - q.len)) wa at.bits in
    let more = fewer_bits (number q.addr) (number a) (w - q.len) (w - p.len) (omega arith) bits in
    true-IsIn p a (record {
      family = first.family ∙ at.family;
      bits = first.bits ∙ subst (λ (t : ℕ). number q.addr / 2 ^ (w - p.len) ≡ number a / 2 ^ (t - p.len)) at.family more;
    })

narrower : (p q : Prefix) → IsAddr q.addr → IsIn p q.addr → CoversAll p q → q.len < p.len → 0 < 0
narrower p q range first all lt =
    let w = width q.addr in
    let y = number q.addr in
    let k = w - q.len in
    let last = other_number q.addr (last_with y k) in
    let wide : width last ≡ w = other_number-width q.addr (last_with y k) in
    let is : number last ≡ last_with y k = other_number-number q.addr (last_with y k) in
    let fits : p.len ≤ w = subst (λ (t : ℕ). p.len ≤ t) first.family p.fits in
    let low : last_with y k < 2 ^ w = last_below y k w (omega arith) q.no_host_bits range in
    let in_range : IsAddr last = rw (is, wide) low in
    let inside : IsIn q last = record { family = sym wide; bits = rw (is, wide) (sym (last_same y k q.no_host_bits)) } in
    let both = IsIn-true p last (all last in_range (true-IsIn q last inside)) in
    let same : leading last p.len ≡ leading q.addr p.len = sym both.bits ∙ first.bits in
    last_differs y k (w - p.len) (omega arith) (rw (is, wide) at same)

-- where the other's first address is in the prefix, it covers the other exactly where it is no narrower
pub covers_by_len : (p q : Prefix) → IsAddr q.addr → IsTrue (contains p q.addr) → (IsTrue (nat_le p.len q.len) ↔ CoversAll p q)
covers_by_len p q range first =
    let at = IsIn-true p q.addr first in (
      λ le. covers_all p q at (leb-true _ _ le),
      λ all. elim (cases_lt q.len p.len) [
        | inl lt ↦ absurd (omega (arith, narrower p q range at all lt))
        | inr le ↦ le-leb _ _ le
      ],
    )
