-- The text of a path is that of the call of the ruleset there.
use Rattle.std.proofs.Common.{◌≡◌, ℕ, Bool, true, false, List, [], ◌∷◌, length, refl, sym, ap, ◌∙◌, append-nil, arith}
use Rattle.std.proofs.lemmas.Bool.Decides.{Decides-eqb}
use mathlib.Core.Bool.{true≢false}
use Rattle.std.specs.Prelude.{codes, ◌==◌}
use Rattle.std.specs.List.{join_with_byte}
use Rattle.pf_base.specs.Path.{path_text}
use Rattle.pf_parts.specs.CallText.{call_of, call_text}
use Rattle.pf_parts.specs.declared.call.Base.TheVariants.{Below}

some_names : (name : List ℕ) (names : List (List ℕ)) → (length (name ∷ names) == 0) ≡ true → ⊥
some_names name names h = let none : length (name ∷ names) ≡ 0 = (Decides-eqb (length (name ∷ names)) 0).0 h in omega arith

-- that of the main ruleset
main_text : (path : List (List ℕ)) → (length path == 0) ≡ true → codes "/" ≡ path_text path
unfolding path_text
main_text [] h = refl
main_text (name ∷ names) h = absurd (some_names name names h)

named_text : (path : List (List ℕ)) → (length path == 0) ≡ false → call_text (call_of Below path false) ≡ path_text path
unfolding path_text call_text
named_text [] h = absurd (true≢false (sym ((Decides-eqb 0 0).1 refl) ∙ h))
named_text (name ∷ names) h = ap (join_with_byte 47) (append-nil (name ∷ names))

-- where the names of a path were seen to be none, or some
pub text_of_main : (path names : List (List ℕ)) (empty : Bool) → names ≡ path → empty ≡ (length names == 0) → empty ≡ true → codes "/" ≡ path_text path
text_of_main path names empty same is h = main_text path (ap (λ (p : List (List ℕ)). length p == 0) (sym same) ∙ sym is ∙ h)

pub text_of_names : (path names : List (List ℕ)) (empty : Bool) → names ≡ path → empty ≡ (length names == 0) → empty ≡ false → call_text (call_of Below path false) ≡ path_text path
text_of_names path names empty same is h = named_text path (ap (λ (p : List (List ℕ)). length p == 0) (sym same) ∙ sym is ∙ h)
