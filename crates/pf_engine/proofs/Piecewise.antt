-- Texts that are appended piece by piece.
use Rattle.std.proofs.Common.{◌≡◌, ℕ, List, [], ◌++◌, append_assoc, append-nil}

-- a line of seven pieces
pub seven : (out a b c d e f g : List ℕ) → (((((out ++ a) ++ b) ++ c) ++ d) ++ e) ++ (f ++ g) ≡ out ++ (((((a ++ (b ++ c)) ++ (d ++ e)) ++ f) ++ g) ++ [])
seven out a b c d e f g = simp (append_assoc, append-nil)
