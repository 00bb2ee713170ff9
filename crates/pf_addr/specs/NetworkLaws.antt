-- An address without its host bits.
use Rattle.std.proofs.Common.{◌≡◌, ℕ, ◌-◌, ◌*◌, ◌/◌, ◌%◌, ◌^◌, ◌≤◌, refl, ap, arith, add-zero}
use Rattle.std.proofs.lemmas.Nat.{shr_split, mod_low, pow_pos}
use Rattle.pf_addr.specs.declared.addr.Addr.{Addr}
use Rattle.pf_addr.specs.declared.addr.Addr.TheVariants.{V4, V6}
use Rattle.pf_addr.specs.Addr.{width, number, network}

pub cleared_le : (n k : ℕ) → n / 2 ^ k * 2 ^ k ≤ n
cleared_le n k = omega (arith, shr_split n k)

cleared_mod : (n k : ℕ) → n * 2 ^ k % 2 ^ k ≡ 0
cleared_mod n k = rw add-zero at (mod_low n k 0 (pow_pos k))

cleared_same : (n k : ℕ) → n % 2 ^ k ≡ 0 → n / 2 ^ k * 2 ^ k ≡ n
cleared_same n k h = omega (arith, shr_split n k)

pub network-width : (a : Addr) (n : ℕ) → width (network a n) ≡ width a
network-width (V4 x) n = refl
network-width (V6 x) n = refl

pub network-host_bits : (a : Addr) (n : ℕ) → number (network a n) % 2 ^ (width (network a n) - n) ≡ 0
network-host_bits (V4 x) n = cleared_mod (x / 2 ^ (32 - n)) (32 - n)
network-host_bits (V6 x) n = cleared_mod (x / 2 ^ (128 - n)) (128 - n)

-- an address without host bits is its own network
pub network-same : (a : Addr) (n : ℕ) → number a % 2 ^ (width a - n) ≡ 0 → network a n ≡ a
network-same (V4 x) n h = ap V4 (cleared_same x (32 - n) h)
network-same (V6 x) n h = ap V6 (cleared_same x (128 - n) h)
