-- What holds of each item of a list.
use Rattle.std.proofs.Common.{◌≡◌, ℕ, zero, suc, Bool, true, false, cond, ◌&&◌, List, [], ◌∷◌, ◌++◌, map, filter, take, refl, ap, ◌∙◌}
use Rattle.std.specs.List.{flat_map, list_all}

-- P holds of each item
abbrev pub Every : {A : Type 0} → (A → Type 0) → List A → Type 0
Every P [] = Unit {0}
Every P (x ∷ xs) = P x × Every P xs

pub every_from : {A : Type 0} (P Q : A → Type 0) → ((a : A) → P a → Q a) → (xs : List A) → Every P xs → Every Q xs
every_from P Q gives [] h = tt
every_from P Q gives (x ∷ xs) h = (gives x h.0, every_from P Q gives xs h.1)

pub every_of_each : {A : Type 0} (P : A → Type 0) → ((a : A) → P a) → (xs : List A) → Every P xs
every_of_each P each [] = tt
every_of_each P each (x ∷ xs) = (each x, every_of_each P each xs)

pub every_append : {A : Type 0} (P : A → Type 0) (xs ys : List A) → Every P xs → Every P ys → Every P (xs ++ ys)
every_append P [] ys h k = k
every_append P (x ∷ xs) ys h k = (h.0, every_append P xs ys h.1 k)

pub every_map : {A B : Type 0} (P : B → Type 0) (f : A → B) (xs : List A) → Every (λ x. P (f x)) xs → Every P (map f xs)
every_map P f [] h = tt
every_map P f (x ∷ xs) h = (h.0, every_map P f xs h.1)

pub every_take : {A : Type 0} (P : A → Type 0) (n : ℕ) (xs : List A) → Every P xs → Every P (take n xs)
every_take P zero xs h = tt
every_take P (suc n) [] h = tt
every_take P (suc n) (x ∷ xs) h = (h.0, every_take P n xs h.1)

pub every_filter : {A : Type 0} (K : A → Bool) (P : A → Type 0) (xs : List A) → Every P xs → Every P (filter K xs)
every_filter K P [] h = tt
every_filter K P (x ∷ xs) h =
    elim (K x) as (λ b. Every P (cond b (x ∷ filter K xs) (filter K xs))) [ true ↦ (h.0, every_filter K P xs h.1) | false ↦ every_filter K P xs h.1 ]

pub every_flat : {A B : Type 0} (P : B → Type 0) (f : A → List B) → ((a : A) → Every P (f a)) → (xs : List A) → Every P (flat_map f xs)
every_flat P f each [] = tt
every_flat P f each (x ∷ xs) = every_append P (f x) (flat_map f xs) (each x) (every_flat P f each xs)

pub both : (a b : Bool) → a ≡ true → b ≡ true → (a && b) ≡ true
both a b e f = ap (λ c. c && b) e ∙ f

-- P is a test
pub every_passes : {A : Type 0} (test : A → Bool) (xs : List A) → Every (λ x. test x ≡ true) xs → list_all test xs ≡ true
every_passes test [] h = refl
every_passes test (x ∷ xs) h = both (test x) (list_all test xs) h.0 (every_passes test xs h.1)
