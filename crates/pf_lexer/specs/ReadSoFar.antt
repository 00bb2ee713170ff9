-- What a load has read so far.
use Rattle.std.specs.Prelude.{ℕ, List}

-- the names of its files, each once, in the order of their first readings, and how many bytes it may still read
pub record ReadSoFar : Type 0 where
  pub names : List (List ℕ)
  pub left : ℕ
