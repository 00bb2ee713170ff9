use Rattle.std.proofs.Common.{◌≡◌, ℕ, zero, suc, ◌+◌, ◌-◌, ◌<◌, Bool, true, false, not, List, [], ◌∷◌, length, take, drop, get_or, sym, ap, ◌∙◌, subst, drop-cons, add-one, length-drop, arith}
use Rattle.std.proofs.lemmas.List.{length-take-le, take_rest}
use Rattle.pf_entries.specs.FileWords.{is_gap, words_in}
use Rattle.pf_base.specs.CutLaws.{IsFirst, NonePasses, not_true, first_of_position, none_of_position}
use Rattle.pf_entries.proofs.GapWords.{no_words, skip_gaps, one_word, first_word}
use Rattle.pf_entries.proofs.file_words.next_word.Goals as goal

pub returns-in_err-start-clause-none : goal.returns-in_err-start-clause-none
returns-in_err-start-clause-none c =
    rw c.from_residual.ensures (no_words c.args.text.now (none_of_position (λ b. not (is_gap b)) c.args.text.now (sym c.in_err-start.ensures)))

-- the gaps in front are passed over
from_start : (text : List ℕ) (start : ℕ) → IsFirst (λ b. not (is_gap b)) text start (get_or text start 0) → words_in text ≡ words_in (get_or text start 0 ∷ drop (start + 1) text)
from_start text start first = ap words_in first.joined ∙ skip_gaps (take start text) (get_or text start 0 ∷ drop (start + 1) text) first.before

begins : (text : List ℕ) (start : ℕ) → start < length text → drop start text ≡ get_or text start 0 ∷ drop (start + 1) text
begins text start inside = drop-cons text start 0 inside ∙ ap (λ n. get_or text start 0 ∷ drop n text) (sym (add-one start))

whole : (text : List ℕ) (start : ℕ) → IsFirst (λ b. not (is_gap b)) text start (get_or text start 0) → NonePasses is_gap (drop start text) → words_in text ≡ drop start text ∷ words_in []
whole text start first none =
    let e = begins text start first.inside in
    from_start text start first ∙ rw e (one_word (get_or text start 0) (drop (start + 1) text) (rw e at none))

part : (text : List ℕ) (start end : ℕ) → IsFirst (λ b. not (is_gap b)) text start (get_or text start 0) → IsFirst is_gap (drop start text) end (get_or (drop start text) end 0) → words_in text ≡ take end (drop start text) ∷ words_in (drop end (drop start text))
part text start end first last =
    let e = begins text start first.inside in
    let byte = get_or text start 0 in
    let rest = drop (start + 1) text in
    let at_end : IsFirst is_gap (byte ∷ rest) end (get_or (byte ∷ rest) end 0) = subst (λ (w : List ℕ). IsFirst is_gap w end (get_or w end 0)) e last in
    from_start text start first ∙ rw e (first_word byte rest end (not_true (is_gap byte) first.passes) at_end)

pub returns-in-None-clause-word : goal.returns-in-None-clause-word
returns-in-None-clause-word c =
    let text = c.args.text.now in
    let start = c.in_ok-start.start in
    let first = first_of_position (λ b. not (is_gap b)) text start 0 (sym c.in_ok-start.ensures) in
    let word : take (length text - start) (drop start text) ≡ drop start text = take_rest text start in
    rw word (whole text start first (none_of_position is_gap (drop start text) (rw word at (sym c.in-None.ensures))))

pub returns-in-Some-clause-word : goal.returns-in-Some-clause-word
returns-in-Some-clause-word c =
    let text = c.args.text.now in
    let start = c.in_ok-start.start in
    let end = c.in-Some.end in
    let first = first_of_position (λ b. not (is_gap b)) text start 0 (sym c.in_ok-start.ensures) in
    let word : take (length text - start) (drop start text) ≡ drop start text = take_rest text start in
    let last = first_of_position is_gap (drop start text) end 0 (rw word at (sym c.in-Some.ensures)) in
    rw (word, take_rest (drop start text) end) (part text start end first last)

-- a word has a byte
first_stays : (text : List ℕ) (start end : ℕ) → IsFirst (λ b. not (is_gap b)) text start (get_or text start 0) → IsFirst is_gap (drop start text) end (get_or (drop start text) end 0) → 0 < end
first_stays text start zero first last =
    let e = begins text start first.inside in
    let gap : is_gap (get_or text start 0) ≡ true = rw e at last.passes in
    let not_gap = not_true (is_gap (get_or text start 0)) first.passes in
    absurd (let both : true ≡ false = sym gap ∙ not_gap in cc)
first_stays text start (suc end) first last = omega arith

pub returns-in-Some-clause-some : goal.returns-in-Some-clause-some
returns-in-Some-clause-some c =
    let text = c.args.text.now in
    let start = c.in_ok-start.start in
    let end = c.in-Some.end in
    let first = first_of_position (λ b. not (is_gap b)) text start 0 (sym c.in_ok-start.ensures) in
    let word : take (length text - start) (drop start text) ≡ drop start text = take_rest text start in
    let last = first_of_position is_gap (drop start text) end 0 (rw word at (sym c.in-Some.ensures)) in
    let some : 0 < end = first_stays text start end first last in
    let inside : end < length (drop start text) = last.inside in
    let long : length (take end (drop start text)) ≡ end = length-take-le end (drop start text) (omega arith) in
    rw word (omega arith)
