-- Prefixes as runs of bits, the first the highest.
use Rattle.std.specs.Prelude.{◌≡◌, ◌≢◌, ℕ, ◌+◌, ◌%◌, ◌<◌, ◌≤◌, Bool, ◌==◌}
use Rattle.pf_addr.specs.declared.addr.Addr.{Addr}
use Rattle.pf_addr.specs.declared.prefix.Prefix.{Prefix}
use Rattle.pf_addr.specs.Addr.{width, leading}

-- whether the bit behind the first place bits is a one
unfoldable pub side : Addr → ℕ → Bool
side a place = leading a (place + 1) % 2 == 1

-- each address of the second is in the first
pub record Covers (p q : Prefix) : Type 0 where
  pub family : width p.addr ≡ width q.addr
  pub short : p.len ≤ q.len
  pub bits : leading p.addr p.len ≡ leading q.addr p.len

-- and the first is shorter
pub record Above (p q : Prefix) : Type 0 where
  pub over : Covers p q
  pub shorter : p.len < q.len

-- the two share the first len bits, at least the first from, and part behind them where both go on
pub record IsShared (p q : Prefix) (from len : ℕ) : Type 0 where
  pub known : from ≤ len
  pub in_first : len ≤ p.len
  pub in_second : len ≤ q.len
  pub same : leading p.addr len ≡ leading q.addr len
  pub apart : len < p.len → len < q.len → side p.addr len ≢ side q.addr len

-- the first len bits of a prefix
pub record IsFront (front p : Prefix) (len : ℕ) : Type 0 where
  pub family : width front.addr ≡ width p.addr
  pub long : front.len ≡ len
  pub bits : leading front.addr len ≡ leading p.addr len
