-- What the first bits of two addresses say of each other.
use Rattle.std.proofs.Common.{◌≡◌, ℕ, ◌+◌, ◌-◌, ◌*◌, ◌/◌, ◌%◌, ◌^◌, ◌<◌, ◌≤◌, true, false, refl, sym, ap, ◌∙◌, subst, arith}
use Rattle.std.specs.Prelude.{◌==◌}
use Rattle.std.proofs.lemmas.Nat.{shr-shr, shr_split, shr_high, shr_below, pow_pos}
use Rattle.std.proofs.lemmas.Bool.Decides.{nat_tests}
use Rattle.pf_addr.specs.declared.addr.Addr.{Addr}
use Rattle.pf_addr.specs.declared.addr.Addr.TheVariants.{V4, V6}
use Rattle.pf_addr.specs.declared.prefix.Prefix.{Prefix}
use Rattle.pf_addr.specs.Addr.{width, number, leading, network, IsAddr}
use Rattle.pf_addr.specs.PrefixOrder.{Prefix-same}
use Rattle.pf_table.specs.Bits.{side}

-- numbers that agree before their last low bits agree before their last high ones
fewer : (y z low high : ℕ) → low ≤ high → y / 2 ^ low ≡ z / 2 ^ low → y / 2 ^ high ≡ z / 2 ^ high
fewer y z low high le same =
    let sum : low + (high - low) ≡ high = omega arith in
    let step : y / 2 ^ (low + (high - low)) ≡ z / 2 ^ (low + (high - low)) =
    sym (shr-shr y low (high - low)) ∙ ap (λ (t : ℕ). t / 2 ^ (high - low)) same ∙ shr-shr z low (high - low) in
    subst (λ (k : ℕ). y / 2 ^ k ≡ z / 2 ^ k) sum step

pub leading-fewer : (a b : Addr) (m n : ℕ) → width a ≡ width b → m ≤ n → leading a n ≡ leading b n → leading a m ≡ leading b m
leading-fewer a b m n e le same =
    let at : number a / 2 ^ (width b - n) ≡ number b / 2 ^ (width b - n) = subst (λ (t : ℕ). number a / 2 ^ (t - n) ≡ number b / 2 ^ (width b - n)) e same in
    let less : number a / 2 ^ (width b - m) ≡ number b / 2 ^ (width b - m) = fewer (number a) (number b) (width b - n) (width b - m) (omega arith) at in
    subst (λ (t : ℕ). number a / 2 ^ (t - m) ≡ number b / 2 ^ (width b - m)) (sym e) less

pub side-same : (a b : Addr) (k n : ℕ) → width a ≡ width b → k < n → leading a n ≡ leading b n → side a k ≡ side b k
unfolding side
side-same a b k n e lt same = ap (λ (t : ℕ). t % 2 == 1) (leading-fewer a b (k + 1) n e (omega arith) same)

halves : (x k w : ℕ) → k < w → x / 2 ^ (w - (k + 1)) / 2 ≡ x / 2 ^ (w - k)
halves x k w lt =
    let sum : (w - (k + 1)) + 1 ≡ w - k = omega arith in
    let step : x / 2 ^ (w - (k + 1)) / 2 ^ 1 ≡ x / 2 ^ (w - k) = subst (λ (t : ℕ). x / 2 ^ (w - (k + 1)) / 2 ^ 1 ≡ x / 2 ^ t) sum (shr-shr x (w - (k + 1)) 1) in
    step

same_parity : (x y : ℕ) → (x % 2 == 1) ≡ (y % 2 == 1) → x / 2 ≡ y / 2 → x ≡ y
same_parity x y odd half =
    elim (x % 2 == 1) as (λ b. (x % 2 == 1) ≡ b → (y % 2 == 1) ≡ b → x ≡ y) [
      | true ↦ λ p q. grind (arith, nat_tests)
      | false ↦ λ p q. grind (arith, nat_tests)
    ] refl (sym odd)

pub leading-more : (a b : Addr) (k : ℕ) → width a ≡ width b → k < width b → leading a k ≡ leading b k → side a k ≡ side b k → leading a (k + 1) ≡ leading b (k + 1)
unfolding side
leading-more a b k e lt same odd =
    same_parity (leading a (k + 1)) (leading b (k + 1)) odd
    (halves (number a) k (width a) (rw e lt) ∙ same ∙ sym (halves (number b) k (width b) lt))

addr-same : (a b : Addr) → width a ≡ width b → number a ≡ number b → a ≡ b
addr-same (V4 m) (V4 n) e same = ap V4 same
addr-same (V6 m) (V6 n) e same = ap V6 same
addr-same (V4 m) (V6 n) e same = absurd (omega arith)
addr-same (V6 m) (V4 n) e same = absurd (omega arith)

whole : (x k : ℕ) → x % 2 ^ k ≡ 0 → x ≡ x / 2 ^ k * 2 ^ k
whole x k h = omega (arith, shr_split x k)

-- prefixes of one length with the same first bits are one
pub prefix-same : (p q : Prefix) → width p.addr ≡ width q.addr → p.len ≡ q.len → leading p.addr p.len ≡ leading q.addr p.len → p ≡ q
prefix-same p q e l same =
    let k = width q.addr - q.len in
    let k_is : width p.addr - p.len ≡ k = rw (e, l) refl in
    let k_also : width q.addr - p.len ≡ k = rw l refl in
    let x : number p.addr % 2 ^ k ≡ 0 = subst (λ (t : ℕ). number p.addr % 2 ^ t ≡ 0) k_is p.no_host_bits in
    let bits : number p.addr / 2 ^ k ≡ number q.addr / 2 ^ k =
    sym (ap (λ (t : ℕ). number p.addr / 2 ^ t) k_is) ∙ same ∙ ap (λ (t : ℕ). number q.addr / 2 ^ t) k_also in
    let numbers : number p.addr ≡ number q.addr =
    whole (number p.addr) k x ∙ ap (λ (t : ℕ). t * 2 ^ k) bits ∙ sym (whole (number q.addr) k q.no_host_bits) in
    Prefix-same p q (addr-same p.addr q.addr e numbers) l

cleared-front : (x k : ℕ) → x / 2 ^ k * 2 ^ k / 2 ^ k ≡ x / 2 ^ k
cleared-front x k = let form : x / 2 ^ k * 2 ^ k ≡ x / 2 ^ k * 2 ^ k + 0 = omega arith in
    ap (λ (t : ℕ). t / 2 ^ k) form ∙ shr_high (x / 2 ^ k) k 0 (pow_pos k)

-- the first bits stay where the others are cleared
pub leading-network : (a : Addr) (n : ℕ) → leading (network a n) n ≡ leading a n
leading-network (V4 x) n = cleared-front x (32 - n)
leading-network (V6 x) n = cleared-front x (128 - n)

-- no address has a bit before the first
pub leading-none : (a : Addr) → IsAddr a → leading a 0 ≡ 0
leading-none a h = shr_none (number a) (width a) h
  where
    shr_none : (x w : ℕ) → x < 2 ^ w → x / 2 ^ (w - 0) ≡ 0
    shr_none x w lt = let same : w - 0 ≡ w = omega arith in let low : x / 2 ^ w < 2 ^ 0 = shr_below x 0 w (subst (λ (t : ℕ). x < 2 ^ t) (let sum : w ≡ 0 + w = omega arith in sum) lt) in rw same (omega arith)
