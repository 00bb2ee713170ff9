-- The words of a record, one after the other.
use Rattle.std.proofs.Common.{◌≡◌, ℕ, zero, suc, List, [], ◌∷◌, drop, Option, refl, ap, ◌∙◌}
use Rattle.std.specs.List.{slice_get}
use Rattle.pf_record.specs.Reading.{TakesWord}

first_of_drop : (k : ℕ) (words : List (List ℕ)) → slice_get (drop k words) 0 ≡ slice_get words k
first_of_drop zero words = refl
first_of_drop (suc k) [] = refl
first_of_drop (suc k) (word ∷ words) = first_of_drop k words

one_more : (k : ℕ) (words : List (List ℕ)) → drop 1 (drop k words) ≡ drop (suc k) words
one_more zero words = refl
one_more (suc k) [] = refl
one_more (suc k) (word ∷ words) = one_more k words

-- the word at a place, and the words that are left behind it
pub record WordAt (k : ℕ) (words : List (List ℕ)) (word : Option (List ℕ)) (rest : List (List ℕ)) : Type 0 where
  pub taken : word ≡ slice_get words k
  pub left : rest ≡ drop (suc k) words

pub WordAt-first : {words rest : List (List ℕ)} {word : Option (List ℕ)} → TakesWord words word rest → WordAt 0 words word rest
WordAt-first h = record { taken = h.taken; left = h.left }

pub WordAt-next : {k : ℕ} {words left rest : List (List ℕ)} {word next : Option (List ℕ)} → WordAt k words word left → TakesWord left next rest → WordAt (suc k) words next rest
WordAt-next {k} {words} before h = record {
  taken = h.taken ∙ ap (λ left. slice_get left 0) before.left ∙ first_of_drop (suc k) words;
  left = h.left ∙ ap (drop 1) before.left ∙ one_more (suc k) words;
}
