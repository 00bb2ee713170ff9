-- The numbers of names.
use Rattle.std.proofs.Common.{◌≡◌, ℕ, ◌+◌, ◌<◌, ◌≤◌, Bool, true, false, cond, List, [], ◌∷◌, ◌++◌, Some, length, length-append, get_or, refl, ap, sym, ◌∙◌, arith}
use Rattle.std.specs.Prelude.{◌||◌, not, position, slice_get, if◌then◌else◌}
use Rattle.std.specs.List.{list_any, position_or_len}
use Rattle.std.specs.Str.{bytes_eq}
use Rattle.std.proofs.lemmas.Bool.{or_left}
use Rattle.std.proofs.lemmas.Bool.Decides.{Decides-eqb}
use Rattle.std.proofs.lemmas.List.Folds.{list_any-append}
use Rattle.std.proofs.lemmas.List.Quantifiers.{position-Some}
use Rattle.std.proofs.lemmas.Option.{slice_get-get_or}
use Rattle.std.proofs.lemmas.Slice.Eq.{slice_eq-Decides}
use Rattle.pf_lexer.specs.Reads.{number_of, with_name}

-- the number of a name is below the length of the list with this name
position_within : {X : Type 0} (p : X → Bool) (xs : List X) → position_or_len p xs ≤ length xs
position_within p [] = omega arith
position_within p (x ∷ xs) = by_test (p x) (position_within p xs) where
  by_test : (b : Bool) → position_or_len p xs ≤ length xs → cond (not b) (1 + position_or_len p xs) 0 ≤ length (x ∷ xs)
  by_test true h = omega arith
  by_test false h = omega arith

found_within : {X : Type 0} (p : X → Bool) (xs : List X) → list_any p xs ≡ true → position_or_len p xs < length xs
found_within p [] e = cc
found_within p (x ∷ xs) e = by_test (p x) (found_within p xs) e where
  by_test : (b : Bool) → (list_any p xs ≡ true → position_or_len p xs < length xs) → (b || list_any p xs) ≡ true → cond (not b) (1 + position_or_len p xs) 0 < length (x ∷ xs)
  by_test true h e = omega arith
  by_test false h e = let more = h e in omega arith

pub number_within : (names : List (List ℕ)) (name : List ℕ) → number_of names name < length (with_name names name)
number_within names name = by_test (list_any (bytes_eq name) names) refl where
  by_test : (b : Bool) → list_any (bytes_eq name) names ≡ b → number_of names name < length (if b then names else names ++ name ∷ [])
  by_test true e = found_within (bytes_eq name) names e
  by_test false e = omega (arith, position_within (bytes_eq name) names, length-append names (name ∷ []))

pub names_more : (names : List (List ℕ)) (name : List ℕ) → length names ≤ length (with_name names name)
names_more names name = by_test (list_any (bytes_eq name) names) where
  by_test : (b : Bool) → length names ≤ length (if b then names else names ++ name ∷ [])
  by_test true = omega arith
  by_test false = omega (arith, length-append names (name ∷ []))

-- a name that was read has a number
name_is : (name : List ℕ) → bytes_eq name name ≡ true
name_is name = (slice_eq-Decides Decides-eqb name name (bytes_eq name name) refl).1 refl

or_second : (a b : Bool) → b ≡ true → (a || b) ≡ true
or_second true b e = refl
or_second false b e = e

pub has_its_number : (names : List (List ℕ)) (name : List ℕ) → number_of (with_name names name) name < length (with_name names name)
has_its_number names name = by_test (list_any (bytes_eq name) names) refl where
  by_test : (b : Bool) → list_any (bytes_eq name) names ≡ b → number_of (if b then names else names ++ name ∷ []) name < length (if b then names else names ++ name ∷ [])
  by_test true e = found_within (bytes_eq name) names e
  by_test false e =
      found_within (bytes_eq name) (names ++ name ∷ [])
      (list_any-append (bytes_eq name) names (name ∷ []) ∙ or_second (list_any (bytes_eq name) names) (list_any (bytes_eq name) (name ∷ [])) (or_left (bytes_eq name name) false (name_is name)))

-- the number of a name names it
pub named_at : (names : List (List ℕ)) (name : List ℕ) (number : ℕ) → position (bytes_eq name) names ≡ Some number → slice_get names number ≡ Some name
named_at names name number is =
    let at = position-Some (bytes_eq name) names number [] is in
    let same : name ≡ get_or names number [] = (slice_eq-Decides Decides-eqb name (get_or names number []) (bytes_eq name (get_or names number [])) refl).0 at.1 in
    slice_get-get_or names number [] at.0 ∙ ap (λ (n : List ℕ). Some n) (sym same)
