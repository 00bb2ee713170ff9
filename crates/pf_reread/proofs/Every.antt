-- What holds of each item of a list.
use Rattle.std.proofs.Common.{◌≡◌, ℕ, zero, suc, Bool, true, false, cond, List, [], ◌∷◌, ◌++◌, map, filter, take, Option, Some, None, refl, subst}
use Rattle.std.specs.List.{All, cons_option, filter_map, flat_map, list_all, slice_get}
use Rattle.std.proofs.lemmas.Bool.{and_parts}
use Rattle.std.proofs.lemmas.List.Elements.{All-cons, All-nil}

-- P holds of each item
abbrev pub Every : {A : Type 0} → (A → Type 0) → List A → Type 0
Every P [] = Unit {0}
Every P (x ∷ xs) = P x × Every P xs

pub every_from : {A : Type 0} (P Q : A → Type 0) → ((a : A) → P a → Q a) → (xs : List A) → Every P xs → Every Q xs
every_from P Q gives [] h = tt
every_from P Q gives (x ∷ xs) h = (gives x h.0, every_from P Q gives xs h.1)

pub every_of_each : {A : Type 0} (P : A → Type 0) → ((a : A) → P a) → (xs : List A) → Every P xs
every_of_each P each [] = tt
every_of_each P each (x ∷ xs) = (each x, every_of_each P each xs)

pub every_append : {A : Type 0} (P : A → Type 0) (xs ys : List A) → Every P xs → Every P ys → Every P (xs ++ ys)
every_append P [] ys h k = k
every_append P (x ∷ xs) ys h k = (h.0, every_append P xs ys h.1 k)

pub every_map : {A B : Type 0} (P : B → Type 0) (f : A → B) (xs : List A) → Every (λ x. P (f x)) xs → Every P (map f xs)
every_map P f [] h = tt
every_map P f (x ∷ xs) h = (h.0, every_map P f xs h.1)

pub every_take : {A : Type 0} (P : A → Type 0) (n : ℕ) (xs : List A) → Every P xs → Every P (take n xs)
every_take P zero xs h = tt
every_take P (suc n) [] h = tt
every_take P (suc n) (x ∷ xs) h = (h.0, every_take P n xs h.1)

pub every_filter : {A : Type 0} (K : A → Bool) (P : A → Type 0) (xs : List A) → Every P xs → Every P (filter K xs)
every_filter K P [] h = tt
every_filter K P (x ∷ xs) h =
    elim (K x) as (λ b. Every P (cond b (x ∷ filter K xs) (filter K xs))) [ true ↦ (h.0, every_filter K P xs h.1) | false ↦ every_filter K P xs h.1 ]

pub every_flat : {A B : Type 0} (P : B → Type 0) (f : A → List B) (Q : A → Type 0) → ((a : A) → Q a → Every P (f a)) → (xs : List A) → Every Q xs → Every P (flat_map f xs)
every_flat P f Q each [] h = tt
every_flat P f Q each (x ∷ xs) h = every_append P (f x) (flat_map f xs) (each x h.0) (every_flat P f Q each xs h.1)

some_more : {A : Type 0} (P : A → Type 0) (value : Option A) (rest : List A) → ((a : A) → value ≡ Some a → P a) → Every P rest → Every P (cons_option value rest)
some_more P None rest each h = h
some_more P (Some a) rest each h = (each a refl, h)

-- what is picked of each item
pub every_picked : {A B : Type 0} (P : B → Type 0) (f : A → Option B) → ((a : A) (b : B) → f a ≡ Some b → P b) → (xs : List A) → Every P (filter_map f xs)
every_picked P f each [] = tt
every_picked P f each (x ∷ xs) = some_more P (f x) (filter_map f xs) (each x) (every_picked P f each xs)

-- P is a test
pub every_passes : {A : Type 0} (test : A → Bool) (xs : List A) → list_all test xs ≡ true → Every (λ x. test x ≡ true) xs
every_passes test [] h = tt
every_passes test (x ∷ xs) h = let parts = and_parts (test x) (list_all test xs) h in (parts.0, every_passes test xs parts.1)

abbrev OfSome : {A : Type 0} → (A → Type 0) → Option A → Type 0
OfSome P None = Unit {0}
OfSome P (Some a) = P a

-- the first item, where there is one
pub first_of : {A : Type 0} (P : A → Type 0) (xs : List A) (value : A) → Every P xs → slice_get xs 0 ≡ Some value → P value
first_of P [] value h is = absurd (cc)
first_of {A} P (x ∷ xs) value h is = let Q : Option A → Type 0 = OfSome P in subst Q is h.0

-- as the language of contracts says it
pub all_of_every : {A : Type 0} (P : A → Type 0) (xs : List A) → Every P xs → All P xs
all_of_every P [] h = All-nil P
all_of_every P (x ∷ xs) h = All-cons P x xs h.0 (all_of_every P xs h.1)
