-- The spans of runs, and what stands in them.
use Rattle.std.proofs.Common.{◌≡◌, ℕ, zero, suc, ◌+◌, ◌-◌, ◌<◌, ◌≤◌, cond, Bool, true, false, List, [], ◌∷◌, ◌++◌, map, length, get_or, take, drop, append_assoc, length-append, refl, sym, ap, ◌∙◌, subst, arith}
use Rattle.std.proofs.lemmas.List.{length-map}
use Rattle.std.specs.List.{flat_map, zip}
use Rattle.pf_order.specs.Blocks.{runs_of, spans_from, with_run}
use Rattle.pf_order.specs.declared.block.Span.{Span}

-- what a list has behind its front
pub drop_front : {A : Type 0} (front xs : List A) → drop (length front) (front ++ xs) ≡ xs
drop_front [] xs = refl
drop_front (x ∷ front) xs = drop_front front xs

pub take_front : {A : Type 0} (front xs : List A) → take (length front) (front ++ xs) ≡ front
take_front [] xs = refl
take_front (x ∷ front) xs = ap (λ t. x ∷ t) (take_front front xs)

-- the run of this place stands in its span
pub record StandsIn {A : Type 0} (items : List A) (span : Span) (run : List A) : Type 0 where
  pub rising : span.start ≤ span.end
  pub within : span.end ≤ length items
  pub cut : take (span.end - span.start) (drop span.start items) ≡ run

stands_first : {A : Type 0} (front run behind : List A) (span : Span) → span ≡ record { start = length front; end = length front + length run } → StandsIn (front ++ (run ++ behind)) span run
stands_first {A = A} front run behind span e =
    let P : Span → Type 0 = λ s. StandsIn (front ++ (run ++ behind)) s run in
    let width : length front + length run - length front ≡ length run = omega arith in
    subst P (sym e) (record {
      rising = omega arith;
      within = omega (arith, length-append front (run ++ behind), length-append run behind);
      cut = ap (λ (n : ℕ). take n (drop (length front) (front ++ (run ++ behind)))) width ∙ ap (take (length run)) (drop_front front (run ++ behind)) ∙ take_front run behind;
    })

pub stands_at : {A : Type 0} (front : List A) (runs : List (List A)) (start k : ℕ) (s : Span) (r : List A) → start ≡ length front → k < length runs → StandsIn (front ++ flat_map (λ run. run) runs) (get_or (spans_from start runs) k s) (get_or runs k r)
stands_at front [] start k s r at h = absurd (omega arith)
stands_at front (run ∷ runs) start zero s r at h =
    stands_first front run (flat_map (λ run. run) runs) (record { start = start; end = start + length run }) (ap (λ (n : ℕ). record { start = n; end = n + length run }) at)
stands_at {A = A} front (run ∷ runs) start (suc k) s r at h =
    let P : List A → Type 0 = λ t. StandsIn t (get_or (spans_from (start + length run) runs) k s) (get_or runs k r) in
    subst P (append_assoc front run (flat_map (λ (one : List A). one) runs))
    (stands_at (front ++ run) runs (start + length run) k s r (omega (arith, length-append front run, at)) (omega arith))

-- the runs of a view are the views of runs
view_run : {A B : Type 0} (f : A → B) (test : B → B → Bool) (x : A) (runs : List (List A)) → map (map f) (with_run (λ one other. test (f one) (f other)) x runs) ≡ with_run test (f x) (map (map f) runs)
view_run f test x [] = refl
view_run f test x ([] ∷ runs) = refl
view_run f test x ((y ∷ ys) ∷ runs) =
    elim (test (f x) (f y)) as (λ b. map (map f) (cond b ((x ∷ (y ∷ ys)) ∷ runs) ((x ∷ []) ∷ ((y ∷ ys) ∷ runs))) ≡ cond b ((f x ∷ (f y ∷ map f ys)) ∷ map (map f) runs) ((f x ∷ []) ∷ ((f y ∷ map f ys) ∷ map (map f) runs))) [
      | true ↦ refl
      | false ↦ refl
    ]

view_runs : {A B : Type 0} (f : A → B) (test : B → B → Bool) (xs : List A) → map (map f) (runs_of (λ one other. test (f one) (f other)) xs) ≡ runs_of test (map f xs)
view_runs f test [] = refl
view_runs f test (x ∷ xs) =
    view_run f test x (runs_of (λ one other. test (f one) (f other)) xs) ∙ ap (with_run test (f x)) (view_runs f test xs)

view_spans : {A B : Type 0} (f : A → B) (start : ℕ) (runs : List (List A)) → spans_from start (map (map f) runs) ≡ spans_from start runs
view_spans f start [] = refl
view_spans f start (run ∷ runs) =
    ap (λ (n : ℕ). record { start = start; end = start + n } ∷ spans_from (start + n) (map (map f) runs)) (length-map run f)
    ∙ ap (λ t. record { start = start; end = start + length run } ∷ t) (view_spans f (start + length run) runs)

pub spans_of_view : {A B : Type 0} (f : A → B) (test : B → B → Bool) (xs : List A) (ys : List B) → map f xs ≡ ys → spans_from 0 (runs_of test ys) ≡ spans_from 0 (runs_of (λ one other. test (f one) (f other)) xs)
spans_of_view f test xs ys e =
    ap (λ t. spans_from 0 (runs_of test t)) (sym e)
    ∙ ap (spans_from 0) (sym (view_runs f test xs))
    ∙ view_spans f 0 (runs_of (λ one other. test (f one) (f other)) xs)

pub length_spans : {A : Type 0} (start : ℕ) (runs : List (List A)) → length (spans_from start runs) ≡ length runs
length_spans start [] = refl
length_spans start (run ∷ runs) = ap suc (length_spans (start + length run) runs)

-- parts of lists side by side
zip_take : {A B : Type 0} (m : ℕ) (xs : List A) (ys : List B) → length xs ≡ length ys → zip (take m xs) (take m ys) ≡ take m (zip xs ys)
zip_take zero xs ys e = refl
zip_take (suc m) [] [] e = refl
zip_take (suc m) [] (y ∷ ys) e = absurd (omega (arith, e))
zip_take (suc m) (x ∷ xs) [] e = absurd (omega (arith, e))
zip_take (suc m) (x ∷ xs) (y ∷ ys) e = ap (λ t. (x, y) ∷ t) (zip_take m xs ys (omega (arith, e)))

pub zip_part : {A B : Type 0} (n m : ℕ) (xs : List A) (ys : List B) → length xs ≡ length ys → zip (take m (drop n xs)) (take m (drop n ys)) ≡ take m (drop n (zip xs ys))
zip_part zero m xs ys e = zip_take m xs ys e
zip_part (suc n) m [] [] e = zip_take m [] [] refl
zip_part (suc n) m [] (y ∷ ys) e = absurd (omega (arith, e))
zip_part (suc n) m (x ∷ xs) [] e = absurd (omega (arith, e))
zip_part (suc n) m (x ∷ xs) (y ∷ ys) e = zip_part n m xs ys (omega (arith, e))
