-- Four pieces that are appended one after the other.
use Rattle.std.proofs.Common.{◌≡◌, ℕ, List, ◌++◌, append_assoc, ap, ◌∙◌}

more : (out before after a b : List ℕ) → before ≡ out ++ a → after ≡ before ++ b → after ≡ out ++ (a ++ b)
more out before after a b first second = second ∙ ap (λ (xs : List ℕ). xs ++ b) first ∙ append_assoc out a b

pub four : (out one two three new a b c d : List ℕ) → one ≡ out ++ a → two ≡ one ++ b → three ≡ two ++ c → new ≡ three ++ d → new ≡ out ++ (((a ++ b) ++ c) ++ d)
four out one two three new a b c d first second third fourth =
    more out three new ((a ++ b) ++ c) d (more out two three (a ++ b) c (more out one two a b first second) third) fourth
