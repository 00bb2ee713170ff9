-- The words of a text, from its front.
use Rattle.std.proofs.Common.{◌≡◌, ℕ, zero, suc, ◌+◌, ◌<◌, Bool, true, false, not, List, [], ◌∷◌, ◌++◌, length, take, drop, get_or, refl, sym, ap, ◌∙◌, add-one, drop-cons}
use Rattle.std.specs.List.{list_all, filter}
use Rattle.std.specs.Cmp.{first_so, second_so}
use Rattle.pf_base.specs.Text.{is_blank, is_nothing, words_of}
use Rattle.pf_base.specs.CutLaws.{IsFirst, NonePasses, split_at_first, split_none}

-- a byte that is no word's
abbrev is_word_byte : ℕ → Bool
is_word_byte byte = not (is_blank byte)

not_not_true : (b : Bool) → not (not b) ≡ true → b ≡ true
not_not_true true h = refl
not_not_true false h = h

skip_blank : (byte : ℕ) (text : List ℕ) → is_blank byte ≡ true → words_of (byte ∷ text) ≡ words_of text
unfolding words_of
skip_blank byte text h = rw h refl

-- blanks in front don't matter
pub skip_blanks : (front text : List ℕ) → NonePasses is_word_byte front → words_of (front ++ text) ≡ words_of text
skip_blanks [] text none = refl
skip_blanks (byte ∷ front) text none =
    let blank : is_blank byte ≡ true = not_not_true (is_blank byte) (first_so (not (is_word_byte byte)) (list_all (λ b. not (is_word_byte b)) front) none) in
    skip_blank byte (front ++ text) blank ∙ skip_blanks front text (second_so (not (is_word_byte byte)) (list_all (λ b. not (is_word_byte b)) front) none)

pub empty_has_none : words_of [] ≡ []
unfolding words_of
empty_has_none = refl

pub no_words : (text : List ℕ) → NonePasses is_word_byte text → words_of text ≡ []
no_words [] none = empty_has_none
no_words (byte ∷ text) none =
    let blank : is_blank byte ≡ true = not_not_true (is_blank byte) (first_so (not (is_word_byte byte)) (list_all (λ b. not (is_word_byte b)) text) none) in
    skip_blank byte text blank ∙ no_words text (second_so (not (is_word_byte byte)) (list_all (λ b. not (is_word_byte b)) text) none)

-- a text without a blank is one word
pub one_word : (byte : ℕ) (text : List ℕ) → NonePasses is_blank (byte ∷ text) → words_of (byte ∷ text) ≡ (byte ∷ text) ∷ words_of []
unfolding words_of
one_word byte text none = ap (filter (λ word. not (is_nothing word))) (split_none is_blank (byte ∷ text) none)

front_word : (byte : ℕ) (front rest : List ℕ) (blank : ℕ) → NonePasses is_blank (byte ∷ front) → is_blank blank ≡ true → words_of ((byte ∷ front) ++ blank ∷ rest) ≡ (byte ∷ front) ∷ words_of rest
unfolding words_of
front_word byte front rest blank none h = ap (filter (λ word. not (is_nothing word))) (split_at_first is_blank (byte ∷ front) blank rest none h)

-- the first word ends at the first blank
pub first_word : (byte : ℕ) (text : List ℕ) (i : ℕ) → is_blank byte ≡ false → IsFirst is_blank (byte ∷ text) i (get_or (byte ∷ text) i 0) → words_of (byte ∷ text) ≡ take i (byte ∷ text) ∷ words_of (drop i (byte ∷ text))
first_word byte text zero h first = let contra : is_blank byte ≡ true = first.passes in cc
first_word byte text (suc i) h first =
    let inside : suc i < length (byte ∷ text) = first.inside in
    let blank = get_or (byte ∷ text) (suc i) 0 in
    let rest = drop (suc i + 1) (byte ∷ text) in
    let behind : drop (suc i) (byte ∷ text) ≡ blank ∷ rest = drop-cons (byte ∷ text) (suc i) 0 inside ∙ ap (λ n. blank ∷ drop n (byte ∷ text)) (sym (add-one (suc i))) in
    ap words_of first.joined ∙ (front_word byte (take i text) rest blank first.before first.passes
    ∙ ap (λ ws. (byte ∷ take i text) ∷ ws) (sym (skip_blank blank rest first.passes) ∙ ap words_of (sym behind)))
