-- The words of a line, from its front.
use Rattle.std.proofs.Common.{◌≡◌, ℕ, zero, suc, ◌+◌, ◌<◌, Bool, true, false, not, List, [], ◌∷◌, ◌++◌, length, take, drop, get_or, refl, sym, ap, ◌∙◌, add-one, drop-cons}
use Rattle.std.specs.List.{list_all, filter}
use Rattle.std.specs.Cmp.{first_so, second_so}
use Rattle.pf_base.specs.Text.{is_nothing}
use Rattle.pf_entries.specs.FileWords.{is_gap, words_in}
use Rattle.pf_base.specs.CutLaws.{IsFirst, NonePasses, split_at_first, split_none}

-- a byte that is no word's
abbrev is_inner : ℕ → Bool
is_inner byte = not (is_gap byte)

not_not_true : (b : Bool) → not (not b) ≡ true → b ≡ true
not_not_true true h = refl
not_not_true false h = h

skip_gap : (byte : ℕ) (text : List ℕ) → is_gap byte ≡ true → words_in (byte ∷ text) ≡ words_in text
unfolding words_in
skip_gap byte text h = rw h refl

-- gaps in front don't matter
pub skip_gaps : (front text : List ℕ) → NonePasses is_inner front → words_in (front ++ text) ≡ words_in text
skip_gaps [] text none = refl
skip_gaps (byte ∷ front) text none =
    let gap : is_gap byte ≡ true = not_not_true (is_gap byte) (first_so (not (is_inner byte)) (list_all (λ b. not (is_inner b)) front) none) in
    skip_gap byte (front ++ text) gap ∙ skip_gaps front text (second_so (not (is_inner byte)) (list_all (λ b. not (is_inner b)) front) none)

pub empty_has_none : words_in [] ≡ []
unfolding words_in
empty_has_none = refl

pub no_words : (text : List ℕ) → NonePasses is_inner text → words_in text ≡ []
no_words [] none = empty_has_none
no_words (byte ∷ text) none =
    let gap : is_gap byte ≡ true = not_not_true (is_gap byte) (first_so (not (is_inner byte)) (list_all (λ b. not (is_inner b)) text) none) in
    skip_gap byte text gap ∙ no_words text (second_so (not (is_inner byte)) (list_all (λ b. not (is_inner b)) text) none)

-- a text without a gap is one word
pub one_word : (byte : ℕ) (text : List ℕ) → NonePasses is_gap (byte ∷ text) → words_in (byte ∷ text) ≡ (byte ∷ text) ∷ words_in []
unfolding words_in
one_word byte text none = ap (filter (λ word. not (is_nothing word))) (split_none is_gap (byte ∷ text) none)

front_word : (byte : ℕ) (front rest : List ℕ) (gap : ℕ) → NonePasses is_gap (byte ∷ front) → is_gap gap ≡ true → words_in ((byte ∷ front) ++ gap ∷ rest) ≡ (byte ∷ front) ∷ words_in rest
unfolding words_in
front_word byte front rest gap none h = ap (filter (λ word. not (is_nothing word))) (split_at_first is_gap (byte ∷ front) gap rest none h)

-- the first word ends at the first gap
pub first_word : (byte : ℕ) (text : List ℕ) (i : ℕ) → is_gap byte ≡ false → IsFirst is_gap (byte ∷ text) i (get_or (byte ∷ text) i 0) → words_in (byte ∷ text) ≡ take i (byte ∷ text) ∷ words_in (drop i (byte ∷ text))
first_word byte text zero h first = let contra : is_gap byte ≡ true = first.passes in cc
first_word byte text (suc i) h first =
    let inside : suc i < length (byte ∷ text) = first.inside in
    let gap = get_or (byte ∷ text) (suc i) 0 in
    let rest = drop (suc i + 1) (byte ∷ text) in
    let behind : drop (suc i) (byte ∷ text) ≡ gap ∷ rest = drop-cons (byte ∷ text) (suc i) 0 inside ∙ ap (λ n. gap ∷ drop n (byte ∷ text)) (sym (add-one (suc i))) in
    ap words_in first.joined ∙ (front_word byte (take i text) rest gap first.before first.passes
    ∙ ap (λ ws. (byte ∷ take i text) ∷ ws) (sym (skip_gap gap rest first.passes) ∙ ap words_in (sym behind)))
