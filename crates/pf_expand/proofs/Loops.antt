-- One more item of a list that is gone through for what it gives, or searched.
use Rattle.std.proofs.Common.{◌≡◌, ℕ, ◌+◌, ◌<◌, Bool, true, false, cond, List, [], ◌∷◌, ◌++◌, length, take, drop, get_or, Option, Some, None, refl, sym, ap, ◌∙◌}
use Rattle.std.specs.List.{cons_option, filter_map, find}
use Rattle.std.specs.Option.{option_or}
use Rattle.std.proofs.lemmas.List.{append-nil, take-append-drop, take_more}
use Rattle.std.proofs.lemmas.List.Elements.{filter_map-append}
use Rattle.std.proofs.lemmas.List.Folds.{find-append}

one_more : {A : Type 0} (xs : List A) (i : ℕ) (x : A) → i < length xs → x ≡ get_or xs i x → take (i + 1) xs ≡ take i xs ++ x ∷ []
one_more xs i x low is = take_more xs i x low ∙ ap (λ y. take i xs ++ y ∷ []) (sym is)

pub map_none : {A B : Type 0} (h : A → Option B) (xs : List A) (i : ℕ) (x : A) → i < length xs → x ≡ get_or xs i x → h x ≡ None → filter_map h (take (i + 1) xs) ≡ filter_map h (take i xs)
map_none h xs i x low is none =
    ap (filter_map h) (one_more xs i x low is) ∙ filter_map-append h (take i xs) (x ∷ []) ∙ ap (λ o. filter_map h (take i xs) ++ cons_option o []) none ∙ append-nil (filter_map h (take i xs))

pub map_some : {A B : Type 0} (h : A → Option B) (xs : List A) (i : ℕ) (x : A) (y : B) → i < length xs → x ≡ get_or xs i x → h x ≡ Some y → filter_map h (take (i + 1) xs) ≡ filter_map h (take i xs) ++ y ∷ []
map_some h xs i x y low is some =
    ap (filter_map h) (one_more xs i x low is) ∙ filter_map-append h (take i xs) (x ∷ []) ∙ ap (λ o. filter_map h (take i xs) ++ cons_option o []) some

find_one : {A : Type 0} (p : A → Bool) (xs : List A) (i : ℕ) (x : A) → i < length xs → x ≡ get_or xs i x → find p (take i xs) ≡ None → find p (take (i + 1) xs) ≡ find p (x ∷ [])
find_one p xs i x low is none =
    ap (find p) (one_more xs i x low is) ∙ find-append p (take i xs) (x ∷ []) ∙ ap (λ o. option_or o (find p (x ∷ []))) none

pub none_yet : {A : Type 0} (p : A → Bool) (xs : List A) (i : ℕ) (x : A) → i < length xs → x ≡ get_or xs i x → find p (take i xs) ≡ None → p x ≡ false → find p (take (i + 1) xs) ≡ None
none_yet p xs i x low is none fails = find_one p xs i x low is none ∙ ap (λ b. cond b (Some x) None) fails

pub found_at : {A : Type 0} (p : A → Bool) (xs : List A) (i : ℕ) (x : A) → i < length xs → x ≡ get_or xs i x → find p (take i xs) ≡ None → p x ≡ true → find p xs ≡ Some x
found_at p xs i x low is none holds =
    ap (find p) (sym (take-append-drop (i + 1) xs)) ∙ find-append p (take (i + 1) xs) (drop (i + 1) xs)
    ∙ ap (λ o. option_or o (find p (drop (i + 1) xs))) (find_one p xs i x low is none ∙ ap (λ b. cond b (Some x) None) holds)
