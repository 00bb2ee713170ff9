-- Lines of a text, one after another.
use Rattle.std.proofs.Common.{◌≡◌, ℕ, ◌+◌, Bool, true, List, [], ◌∷◌, ◌++◌, take, drop, refl, sym, ap, ◌∙◌, subst, append_assoc}
use Rattle.std.specs.List.{slice_split}
use Rattle.std.proofs.lemmas.Bool.{eqb-true}
use Rattle.pf_base.specs.Text.{is_newline, is_space, but_last, last_part, whole_lines, unfinished, fields_of, IsOneLine, CutsLine, EndsNoLine, LinesGoOn}
use Rattle.pf_base.specs.CutLaws.{IsFirst, NonePasses, split_at_first, split_none, none_append, split_append, last_is_one, first_part}

but_last_push : {X : Type 0} (p : X → Bool) (part : List X) (xs : List X) → but_last (part ∷ slice_split p xs) ≡ part ∷ but_last (slice_split p xs)
but_last_push p part xs = let parts = first_part p xs in rw parts.2 refl

last_part_push : {X : Type 0} (p : X → Bool) (part : List X) (xs : List X) → last_part (part ∷ slice_split p xs) ≡ last_part (slice_split p xs)
last_part_push p part xs = let parts = first_part p xs in rw parts.2 refl

newline_is : (byte : ℕ) → is_newline byte ≡ true → byte ≡ 10
newline_is byte h = eqb-true byte 10 h

-- the first newline ends the first line
pub cuts_line : (text : List ℕ) (i y : ℕ) → IsFirst is_newline text i y → CutsLine text (take i text) (drop (i + 1) text)
unfolding whole_lines unfinished
cuts_line text i y first =
    let newline : y ≡ 10 = newline_is y first.passes in
    let joined : text ≡ take i text ++ 10 ∷ drop (i + 1) text = subst (λ (b : ℕ). text ≡ take i text ++ b ∷ drop (i + 1) text) newline first.joined in
    let split = λ (before : List ℕ) (one : IsOneLine before).
    ap (slice_split is_newline) (ap (λ rest. before ++ rest) joined ∙ sym (append_assoc before (take i text) (10 ∷ drop (i + 1) text)))
    ∙ split_at_first is_newline (before ++ take i text) 10 (drop (i + 1) text) (none_append is_newline before (take i text) one first.before) refl in
    record {
      joined = joined;
      one = first.before;
      whole = λ before one. ap but_last (split before one) ∙ but_last_push is_newline (before ++ take i text) (drop (i + 1) text);
      behind = λ before one. ap last_part (split before one) ∙ last_part_push is_newline (before ++ take i text) (drop (i + 1) text);
    }

pub ends_no_line : (text : List ℕ) → NonePasses is_newline text → EndsNoLine text
unfolding whole_lines unfinished
ends_no_line text none =
    let split = λ (before : List ℕ) (one : IsOneLine before). split_none is_newline (before ++ text) (none_append is_newline before text one none) in
    record {
      one = none;
      whole = λ before one. ap but_last (split before one);
      behind = λ before one. ap last_part (split before one);
    }

but_last_append : {X : Type 0} (p : X → Bool) (front : List (List X)) (xs : List X) → but_last (front ++ slice_split p xs) ≡ front ++ but_last (slice_split p xs)
but_last_append p [] xs = refl
but_last_append p (part ∷ []) xs = but_last_push p part xs
but_last_append p (part ∷ next ∷ front) xs = ap (λ rest. part ∷ rest) (but_last_append p (next ∷ front) xs)

last_part_append : {X : Type 0} (p : X → Bool) (front : List (List X)) (xs : List X) → last_part (front ++ slice_split p xs) ≡ last_part (slice_split p xs)
last_part_append p [] xs = refl
last_part_append p (part ∷ []) xs = last_part_push p part xs
last_part_append p (part ∷ next ∷ front) xs = last_part_append p (next ∷ front) xs

pub lines_go_on_lem : (text more : List ℕ) → LinesGoOn text more
unfolding whole_lines unfinished
lines_go_on_lem text more =
    let split = split_append is_newline text more in
    record {
      whole = ap but_last split ∙ but_last_append is_newline (but_last (slice_split is_newline text)) (last_part (slice_split is_newline text) ++ more);
      behind = ap last_part split ∙ last_part_append is_newline (but_last (slice_split is_newline text)) (last_part (slice_split is_newline text) ++ more);
      one = last_is_one is_newline text;
    }

pub cuts_field : (text : List ℕ) (i y : ℕ) → IsFirst is_space text i y → fields_of text ≡ take i text ∷ fields_of (drop (i + 1) text)
unfolding fields_of
cuts_field text i y first = ap (slice_split is_space) first.joined ∙ split_at_first is_space (take i text) y (drop (i + 1) text) first.before first.passes

pub last_field : (text : List ℕ) → NonePasses is_space text → fields_of text ≡ text ∷ []
unfolding fields_of
last_field text none = split_none is_space text none
