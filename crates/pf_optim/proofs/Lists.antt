-- Tests of all or of some items of a list.
use Rattle.std.proofs.Common.{◌≡◌, ℕ, zero, suc, ◌+◌, ◌<◌, length, get_or, arith, cond, Bool, true, false, not, ◌&&◌, ◌||◌, List, [], ◌∷◌, ◌++◌, map, refl, sym, ap, ◌∙◌}
use Rattle.std.proofs.lemmas.Bool.{and_parts, and_from, false≢true}
use Rattle.std.specs.List.{All, enumerate_from, filter, list_all, list_any}

pub any_map : {A B : Type 0} (test : B → Bool) (f : A → B) (xs : List A) → list_any test (map f xs) ≡ list_any (λ x. test (f x)) xs
any_map test f [] = refl
any_map test f (x ∷ xs) = ap (λ t. test (f x) || t) (any_map test f xs)

pub all_map : {A B : Type 0} (test : B → Bool) (f : A → B) (xs : List A) → list_all test (map f xs) ≡ list_all (λ x. test (f x)) xs
all_map test f [] = refl
all_map test f (x ∷ xs) = ap (λ t. test (f x) && t) (all_map test f xs)

pub any_same : {A : Type 0} (p q : A → Bool) → ((x : A) → p x ≡ q x) → (xs : List A) → list_any p xs ≡ list_any q xs
any_same p q e [] = refl
any_same p q e (x ∷ xs) = ap (λ t. t || list_any p xs) (e x) ∙ ap (λ t. q x || t) (any_same p q e xs)

-- tests that are equal at all items that pass a third
pub any_same_at : {A : Type 0} (good p q : A → Bool) → ((x : A) → good x ≡ true → p x ≡ q x) → (xs : List A) → list_all good xs ≡ true → list_any p xs ≡ list_any q xs
any_same_at good p q e [] g = refl
any_same_at good p q e (x ∷ xs) g =
    let parts = and_parts (good x) (list_all good xs) g in
    ap (λ t. t || list_any p xs) (e x parts.0) ∙ ap (λ t. q x || t) (any_same_at good p q e xs parts.1)

-- a test passes at all items exactly where its opposite passes at none
pub all_by_any : {A : Type 0} (test : A → Bool) (xs : List A) → list_all test xs ≡ not (list_any (λ x. not (test x)) xs)
all_by_any test [] = refl
all_by_any test (x ∷ xs) = cases (test x) (all_by_any test xs)
  where
    cases : (b : Bool) → list_all test xs ≡ not (list_any (λ x. not (test x)) xs) → (b && list_all test xs) ≡ not (not b || list_any (λ x. not (test x)) xs)
    cases true e = e
    cases false e = refl

-- lists in which each test passes at some item alike pass a test at all items alike
pub all_alike : {A : Type 0} (xs ys : List A) → ((test : A → Bool) → list_any test xs ≡ list_any test ys) → (test : A → Bool) → list_all test xs ≡ list_all test ys
all_alike xs ys alike test = all_by_any test xs ∙ ap not (alike (λ x. not (test x))) ∙ sym (all_by_any test ys)

pub all_filter : {A : Type 0} (test keep : A → Bool) (xs : List A) → list_all test xs ≡ true → list_all test (filter keep xs) ≡ true
all_filter test keep [] h = refl
all_filter test keep (x ∷ xs) h = let parts = and_parts (test x) (list_all test xs) h in cases (keep x) parts.0 (all_filter test keep xs parts.1)
  where
    cases : (b : Bool) → test x ≡ true → list_all test (filter keep xs) ≡ true → list_all test (cond b (x ∷ filter keep xs) (filter keep xs)) ≡ true
    cases true first rest = and_from (test x) (list_all test (filter keep xs)) first rest
    cases false first rest = rest

pub all_placed : {A : Type 0} (test : A → Bool) (n : ℕ) (xs : List A) → list_all (λ item. test item.1) (enumerate_from n xs) ≡ list_all test xs
all_placed test n [] = refl
all_placed test n (x ∷ xs) = ap (λ t. test x && t) (all_placed test (n + 1) xs)

pub all_all : {A : Type 0} (test : A → Bool) (P : A → Type 0) → ((x : A) → test x ≡ true → P x) → (xs : List A) → list_all test xs ≡ true → (k : ℕ) (d : A) → k < length xs → P (get_or xs k d)
all_all test P e [] h k d low = absurd (omega arith)
all_all test P e (x ∷ xs) h zero d low = e x (and_parts (test x) (list_all test xs) h).0
all_all test P e (x ∷ xs) h (suc k) d low = all_all test P e xs (and_parts (test x) (list_all test xs) h).1 k d (omega arith)

pub all_left : {A : Type 0} (P : A → Type 0) (xs ys : List A) → All P (xs ++ ys) → (k : ℕ) (d : A) → k < length xs → P (get_or xs k d)
all_left P [] ys h k d low = absurd (omega arith)
all_left P (x ∷ xs) ys h zero d low = h zero d (omega arith)
all_left P (x ∷ xs) ys h (suc k) d low = all_left P xs ys (λ i e less. h (suc i) e (omega arith)) k d (omega arith)

pub all_right : {A : Type 0} (P : A → Type 0) (xs ys : List A) → All P (xs ++ ys) → (k : ℕ) (d : A) → k < length ys → P (get_or ys k d)
all_right P [] ys h k d low = h k d low
all_right P (x ∷ xs) ys h k d low = all_right P xs ys (λ i e less. h (suc i) e (omega arith)) k d low

pub none_all : {A : Type 0} (xs : List A) → list_all (λ x. false) xs ≡ true → xs ≡ []
none_all [] h = refl
none_all (x ∷ xs) h = absurd (false≢true h)

pub all_one : {A : Type 0} (P : A → Type 0) (x : A) → P x → (k : ℕ) (d : A) → k < length (x ∷ []) → P (get_or (x ∷ []) k d)
all_one P x h zero d low = h
all_one P x h (suc k) d low = absurd (omega arith)

pub all_weaken : {A : Type 0} (test weaker : A → Bool) → ((x : A) → test x ≡ true → weaker x ≡ true) → (xs : List A) → list_all test xs ≡ true → list_all weaker xs ≡ true
all_weaken test weaker e [] h = refl
all_weaken test weaker e (x ∷ xs) h =
    let parts = and_parts (test x) (list_all test xs) h in
    and_from (weaker x) (list_all weaker xs) (e x parts.0) (all_weaken test weaker e xs parts.1)
