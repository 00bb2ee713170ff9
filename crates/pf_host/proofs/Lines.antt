-- The fields of a line.
use Rattle.std.proofs.Common.{◌≡◌, ℕ, Bool, true, false, cond, List, [], ◌∷◌, refl}
use Rattle.std.specs.List.{onto_first, slice_split}
use Rattle.pf_base.specs.Text.{fields_of, is_space}
use Rattle.pf_host.specs.Line.{is_one}

-- a word before a space isn't alone
two_parts : (word : List ℕ) (b : Bool) (x : ℕ) (parts : List (List ℕ)) → is_one (word ∷ cond b ([] ∷ parts) (onto_first x parts)) ≡ false
two_parts word true x parts = refl
two_parts word false x [] = refl
two_parts word false x (part ∷ parts) = refl

pub not_one : (word rest : List ℕ) → is_one (word ∷ fields_of rest) ≡ false
unfolding fields_of
not_one word [] = refl
not_one word (x ∷ rest) = two_parts word (is_space x) x (slice_split is_space rest)
