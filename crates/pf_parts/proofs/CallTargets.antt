-- The path that a call leads to.
use Rattle.std.proofs.Common.{◌≡◌, ℕ, ◌+◌, ◌<◌, ◌≤◌, true, nat_lt, Some, List, [], ◌∷◌, ◌++◌, length, take, get_or, sym, ap, ◌∙◌, ⊎_elim, length-append, arith}
use Rattle.std.specs.List.{list_all}
use Rattle.std.specs.Result.{result_ok}
use Rattle.std.proofs.lemmas.Bool.{and_from, and_parts, cases_Bool, cond-true, cond-false, false≢true, lt-ltb, le-leb, le-ltb, lt-leb, cases_lt}
use Rattle.std.proofs.lemmas.List.{get_or-take, length-take, length-take-le, take_more}
use Rattle.std.proofs.lemmas.List.Folds.{list_all_at}
use Rattle.pf_base.specs.Path.{IsPath, child_path, is_path_name, is_written_name, joined_path}
use Rattle.pf_parts.specs.CallTarget.{within}

named_at : (names : List (List ℕ)) (i : ℕ) (d : List ℕ) → list_all (is_written_name true) names ≡ true → i < length names → is_path_name (get_or names i d) ≡ true
unfolding is_written_name
named_at names i d all inside =
    ⊎_elim (λ yes. (and_parts _ _ (and_parts _ _ yes).0).1)
    (λ no. absurd (false≢true (sym (list_all_at (is_written_name true) names i d inside no) ∙ all)))
    (cases_Bool (is_written_name true (get_or names i d)))

-- a front of a path with the next name is a front of it
pub front_more : (names : List (List ℕ)) (count i : ℕ) (name d : List ℕ) → IsPath names → i < length (take count names) → name ≡ get_or (take count names) i d → child_path (take i names) name ≡ Some (take (i + 1) names)
unfolding child_path
front_more names count i name d path inside is =
    let few = path.few in
    let short = length-take count names in
    let here : i < length names = omega (arith, short) in
    let before : i < count = omega (arith, short) in
    let same : name ≡ get_or names i d = is ∙ get_or-take count names i d before in
    let counted : length (take i names) ≡ i = length-take-le i names (omega arith) in
    let room : nat_lt (length (take i names)) 8 ≡ true = lt-ltb _ _ (omega arith) in
    cond-true _ _ _ (and_from _ _ room (ap is_path_name same ∙ named_at names i d path.named here))
    ∙ ap (λ n. Some (take i names ++ n ∷ [])) same
    ∙ ap Some (sym (take_more names i d here))

-- names joined to a path are a path where they are few
pub joined_within : (start names : List (List ℕ)) → result_ok (joined_path start names) ≡ within (start ++ names)
unfolding joined_path
joined_within start names =
    let counted : length (start ++ names) ≡ length start + length names = length-append start names in
    ⊎_elim
    (λ h. let deep : 8 < length start + length names = h in ap result_ok (cond-true _ _ _ (lt-ltb 8 (length start + length names) deep)) ∙ sym (cond-false _ _ _ (lt-leb (length (start ++ names)) 8 (omega arith))))
    (λ h. let few : length start + length names ≤ 8 = h in ap result_ok (cond-false _ _ _ (le-ltb 8 (length start + length names) few)) ∙ sym (cond-true _ _ _ (le-leb (length (start ++ names)) 8 (omega arith))))
    (cases_lt 8 (length start + length names))
