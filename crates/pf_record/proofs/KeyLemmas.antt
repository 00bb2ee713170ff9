-- The values of keys, and the words that are left.
use Rattle.std.proofs.Common.{◌≡◌, ℕ, not, List, [], ◌∷◌, Option, Some, None, refl, ap, ◌∙◌}
use Rattle.std.specs.List.{slice_get}
use Rattle.std.specs.Option.{is_some, option_map}
use Rattle.pf_record.specs.Reading.{is_empty, values_in, rest_behind, TakesValue, TakesAll}

-- a first word stands where the list isn't empty
pub is_some-first : (words : List (List ℕ)) → is_some (slice_get words 0) ≡ not (is_empty words)
is_some-first [] = refl
is_some-first (word ∷ words) = refl

pub is_some-option_map : {A B : Type 0} (f : A → B) (o : Option A) → is_some (option_map f o) ≡ is_some o
is_some-option_map f None = refl
is_some-option_map f (Some x) = refl

-- the value of a first key, and those of the keys behind it among the words that are left
pub TakesAll-more : {begins : List ℕ} {keys words rest behind : List (List ℕ)} {value : Option (List ℕ)} {values : List (Option (List ℕ))} → TakesValue begins words value rest → TakesAll keys rest values behind → TakesAll (begins ∷ keys) words (value ∷ values) behind
TakesAll-more {keys} first more = record {
  taken = λ i. first.taken i ∷ (more.taken ∙ ap (values_in keys) first.left) i;
  left = more.left ∙ ap (rest_behind keys) first.left;
}

pub TakesAll-none : (words : List (List ℕ)) → TakesAll [] words [] words
TakesAll-none words = record { taken = refl; left = refl }
