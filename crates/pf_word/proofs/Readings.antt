-- One more item of a list, and what it means.
use Rattle.std.proofs.Common.{◌≡◌, ℕ, ◌+◌, ◌<◌, false, List, [], ◌∷◌, ◌++◌, length, take, get_or, refl, sym, ap, ◌∙◌, subst}
use Rattle.std.specs.List.{AllZip, flat_map}
use Rattle.std.proofs.lemmas.List.{append-nil, take_more}
use Rattle.std.proofs.lemmas.List.Concat.{flat_map-append}
use Rattle.pf_base.specs.declared.fault.FaultKind.{FaultKind}
use Rattle.pf_word.specs.Words.{Adds, EachMeans, all_of, joined}
use Rattle.pf_word.specs.declared.words.Words.{Words}

-- one more reading
pub all_of-push : {X : Type 0} (readings : List (Words X)) (one : Words X) → all_of (readings ++ one ∷ []) ≡ joined (all_of readings) one
all_of-push readings one =
    let values = flat_map-append (λ reading. reading.values) readings (one ∷ []) ∙ ap (λ t. flat_map (λ reading. reading.values) readings ++ t) (append-nil one.values) in
    let faults = flat_map-append (λ reading. reading.faults) readings (one ∷ []) ∙ ap (λ t. flat_map (λ reading. reading.faults) readings ++ t) (append-nil one.faults) in
    λ i. record { values = values i; faults = faults i }

zip_push : {A B : Type 0} (R : A → B → Type 0) (xs : List A) (ys : List B) (x : A) (y : B) → AllZip R xs ys → R x y → AllZip R (xs ++ x ∷ []) (ys ++ y ∷ [])
zip_push R [] [] x y all last = (last, tt)
zip_push R [] (z ∷ ys) x y all last = absurd all
zip_push R (w ∷ xs) [] x y all last = absurd all
zip_push R (w ∷ xs) (z ∷ ys) x y all last = (all.0, zip_push R xs ys x y all.1 last)

-- where it is a relation
pub each_more : {I X : Type 0} (Means : I → Words X → Type 0) (items : List I) (i : ℕ) (item : I) (words new : Words X) → i < length items → item ≡ get_or items i item
    → EachMeans Means (take i items) words → Adds (Means item) words new → EachMeans Means (take (i + 1) items) new
each_more {I} Means items i item words new low is read adds =
    let longer = take_more items i item low ∙ ap (λ x. take i items ++ x ∷ []) (sym is) in
    record {
      readings = read.readings ++ adds.one ∷ [];
      each = subst (λ (xs : List I). AllZip Means xs (read.readings ++ adds.one ∷ [])) (sym longer) (zip_push Means (take i items) read.readings item adds.one read.each adds.means);
      are = adds.are ∙ ap (λ w. joined w adds.one) read.are ∙ sym (all_of-push read.readings adds.one);
    }
