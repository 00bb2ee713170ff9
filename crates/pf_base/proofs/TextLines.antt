-- The lines of a text, from its front.
use Rattle.std.proofs.Common.{◌≡◌, ℕ, Bool, true, false, List, [], ◌∷◌, length, ◌==◌, arith, refl, sym, ap, ◌∙◌}
use Rattle.std.proofs.lemmas.Bool.{eqb-true}
use Rattle.pf_base.specs.Text.{CutsLine, EndsNoLine, line_of_rest, lines_of, unfinished, whole_lines}

no_lines : lines_of [] ≡ []
unfolding lines_of whole_lines unfinished
no_lines = refl

pub empty_lines : (text : List ℕ) → (length text == 0) ≡ true → lines_of text ≡ []
empty_lines [] e = no_lines
empty_lines (byte ∷ text) e = let none : length (byte ∷ text) ≡ 0 = eqb-true (length (byte ∷ text)) 0 e in absurd (omega arith)

pub first_line : (text line rest : List ℕ) → CutsLine text line rest → lines_of text ≡ line ∷ lines_of rest
unfolding lines_of
first_line text line rest cut = rw (cut.whole [] refl, cut.behind [] refl) refl

last_lines : (text : List ℕ) → EndsNoLine text → lines_of text ≡ line_of_rest text
unfolding lines_of
last_lines text ends = rw (ends.whole [] refl, ends.behind [] refl) refl

-- a last piece that isn't empty is the last line
pub last_line : (text : List ℕ) → (length text == 0) ≡ false → EndsNoLine text → lines_of text ≡ text ∷ lines_of []
last_line [] some ends = absurd cc
last_line (byte ∷ text) some ends = last_lines (byte ∷ text) ends ∙ ap (λ rest. (byte ∷ text) ∷ rest) (sym no_lines)
