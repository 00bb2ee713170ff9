-- Counts, which stop at 2 ^ 64 - 1.
use Rattle.std.specs.Prelude.{◌≡◌, ℕ, ◌+◌, ◌-◌, ◌^◌, ◌<◌, ◌≤◌, min}

-- the count of faults rose by n or more, or stands at its last value; it never falls
pub record RoseBy (n before now : ℕ) : Type 0 where
  pub later : before ≤ now
  pub by : min (before + n) (2 ^ 64 - 1) ≤ now

-- the count rose, or stands at its last value
abbrev pub Rose : ℕ → ℕ → Type 0
Rose before now = RoseBy 1 before now

-- n calls more were counted, below the count's last value exactly
pub record CountsOn (n before now : ℕ) : Type 0 where
  pub later : before ≤ now
  pub exact : now < 2 ^ 64 - 1 → now ≡ before + n
