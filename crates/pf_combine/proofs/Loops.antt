-- One more item of a list that is filtered and mapped.
use Rattle.std.proofs.Common.{◌≡◌, ℕ, ◌+◌, ◌<◌, Bool, true, cond, List, [], ◌∷◌, ◌++◌, length, map, filter, take, get_or, sym, ap, ◌∙◌}
use Rattle.std.specs.List.{flat_map}
use Rattle.std.proofs.lemmas.List.{append-nil, map-append, take_more}
use Rattle.std.proofs.lemmas.List.Concat.{flat_map-append}
use Rattle.std.proofs.lemmas.List.Elements.{filter-append}

one_more : {A : Type 0} (xs : List A) (i : ℕ) (x : A) → i < length xs → x ≡ get_or xs i x → take (i + 1) xs ≡ take i xs ++ x ∷ []
one_more xs i x low is = take_more xs i x low ∙ ap (λ y. take i xs ++ y ∷ []) (sym is)

kept_one : {A : Type 0} (K : A → Bool) (xs : List A) (i : ℕ) (x : A) → i < length xs → x ≡ get_or xs i x → K x ≡ true → filter K (take (i + 1) xs) ≡ filter K (take i xs) ++ x ∷ []
kept_one K xs i x low is kept =
    ap (filter K) (one_more xs i x low is) ∙ filter-append K (take i xs) (x ∷ []) ∙ ap (λ b. filter K (take i xs) ++ cond b (x ∷ []) []) kept

pub map_one : {A B : Type 0} (K : A → Bool) (F : A → B) (xs : List A) (i : ℕ) (x : A) → i < length xs → x ≡ get_or xs i x → K x ≡ true → map F (filter K (take (i + 1) xs)) ≡ map F (filter K (take i xs)) ++ F x ∷ []
map_one K F xs i x low is kept = ap (map F) (kept_one K xs i x low is kept) ∙ map-append F (filter K (take i xs)) (x ∷ [])

pub flat_one : {A B : Type 0} (K : A → Bool) (G : A → List B) (xs : List A) (i : ℕ) (x : A) → i < length xs → x ≡ get_or xs i x → K x ≡ true → flat_map G (filter K (take (i + 1) xs)) ≡ flat_map G (filter K (take i xs)) ++ G x
flat_one K G xs i x low is kept =
    ap (flat_map G) (kept_one K xs i x low is kept) ∙ flat_map-append G (filter K (take i xs)) (x ∷ []) ∙ ap (λ t. flat_map G (filter K (take i xs)) ++ t) (append-nil (G x))
