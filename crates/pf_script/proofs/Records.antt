-- The record of a `test` line is the text behind its first word.
use Rattle.std.proofs.Common.{◌≡◌, ℕ, Bool, true, false, not, ◌&&◌, List, [], ◌∷◌, ◌++◌, codes, Some, refl, sym, ap, ◌∙◌, subst}
use Rattle.std.specs.List.{list_all, slice_split}
use Rattle.std.specs.Cmp.{first_so, second_so}
use Rattle.std.proofs.lemmas.Bool.{false≢true}
use Rattle.pf_base.specs.Cuts.{NonePasses}
use Rattle.pf_base.specs.Text.{is_blank, is_nothing, words_of}
use Rattle.pf_script.specs.Command.{Words, behind_first_word, test_of}
use Rattle.pf_script.specs.Grammar.{AreBlanks, IsTestLine}
use Rattle.pf_script.specs.Word.{behind_blanks, behind_word}
use Rattle.pf_script.specs.declared.command.Command.{Command}
use Rattle.pf_script.specs.declared.command.Command.TheVariants as command

-- what pf_base says of cuts
abbrev pub Splits : Type 0
Splits = (p : ℕ → Bool) (front back : List ℕ) (byte : ℕ) → NonePasses p front → p byte ≡ true → slice_split p (front ++ byte ∷ back) ≡ front ∷ slice_split p back

both : (a b : Bool) → a ≡ true → b ≡ true → (a && b) ≡ true
both a b h k = rw (h, k) refl

-- it is empty, or its first byte answers so
pub Begins : Bool → List ℕ → Type 0
Begins answer [] = Unit {0}
Begins answer (byte ∷ text) = is_blank byte ≡ answer

-- blanks off the front of a text
record BlanksOff (text : List ℕ) : Type 0 where
  blanks : List ℕ
  joined : text ≡ blanks ++ behind_blanks text
  are : AreBlanks blanks
  begins : Begins false (behind_blanks text)

blanks_by : (byte : ℕ) (text : List ℕ) → BlanksOff text → (b : Bool) → is_blank byte ≡ b → BlanksOff (byte ∷ text)
unfolding Begins
blanks_by byte text rest true e = record {
  blanks = byte ∷ rest.blanks;
  joined = rw e (ap (λ (others : List ℕ). byte ∷ others) rest.joined);
  are = both (is_blank byte) (list_all is_blank rest.blanks) e rest.are;
  begins = rw e rest.begins;
}
blanks_by byte text rest false e = record { blanks = []; joined = rw e refl; are = refl; begins = rw e e }

blanks_off : (text : List ℕ) → BlanksOff text
unfolding Begins
blanks_off [] = record { blanks = []; joined = refl; are = refl; begins = tt }
blanks_off (byte ∷ text) = blanks_by byte text (blanks_off text) (is_blank byte) refl

-- a word off the front of a text
record WordOff (text : List ℕ) : Type 0 where
  word : List ℕ
  joined : text ≡ word ++ behind_word text
  one : NonePasses is_blank word
  begins : Begins true (behind_word text)

word_by : (byte : ℕ) (text : List ℕ) → WordOff text → (b : Bool) → is_blank byte ≡ b → WordOff (byte ∷ text)
unfolding Begins
word_by byte text rest true e = record { word = []; joined = rw e refl; one = refl; begins = rw e e }
word_by byte text rest false e = record {
  word = byte ∷ rest.word;
  joined = rw e (ap (λ (others : List ℕ). byte ∷ others) rest.joined);
  one = both (not (is_blank byte)) (list_all (λ b. not (is_blank b)) rest.word) (ap not e) rest.one;
  begins = rw e rest.begins;
}

word_off : (text : List ℕ) → WordOff text
unfolding Begins
word_off [] = record { word = []; joined = refl; one = refl; begins = tt }
word_off (byte ∷ text) = word_by byte text (word_off text) (is_blank byte) refl

-- blanks in front change no word
in_front : (blanks text : List ℕ) → AreBlanks blanks → words_of (blanks ++ text) ≡ words_of text
unfolding words_of
in_front [] text h = refl
in_front (byte ∷ blanks) text h =
    rw (first_so (is_blank byte) (list_all is_blank blanks) h) (in_front blanks text (second_so (is_blank byte) (list_all is_blank blanks) h))

skipped : (blanks text : List ℕ) → AreBlanks blanks → behind_blanks (blanks ++ text) ≡ behind_blanks text
skipped [] text h = refl
skipped (byte ∷ blanks) text h =
    rw (first_so (is_blank byte) (list_all is_blank blanks) h) (skipped blanks text (second_so (is_blank byte) (list_all is_blank blanks) h))

module _ (splits : Splits) where
  -- a word and a blank in front
  word_in_front : (first : ℕ) (word : List ℕ) (blank : ℕ) (rest : List ℕ) → NonePasses is_blank (first ∷ word) → is_blank blank ≡ true → words_of ((first ∷ word) ++ blank ∷ rest) ≡ (first ∷ word) ∷ words_of rest
  unfolding words_of
  word_in_front first word blank rest one h = rw (splits is_blank (first ∷ word) rest blank one h) refl

  -- the first word of a text that begins with one
  first_is : (text word behind : List ℕ) (rest : Words) → text ≡ word ++ behind → NonePasses is_blank word → Begins true behind → Begins false text → is_nothing (behind_blanks behind) ≡ false → words_of text ≡ codes "test" ∷ rest → word ≡ codes "test"
  unfolding Begins
  first_is text word [] rest e one blank no_blank some h = cc
  first_is text [] (byte ∷ behind) rest e one blank no_blank some h = absurd (false≢true (sym (subst (Begins false) e no_blank) ∙ blank))
  first_is text (first ∷ word) (byte ∷ behind) rest e one blank no_blank some h =
      let cut : words_of text ≡ (first ∷ word) ∷ words_of behind = ap words_of e ∙ word_in_front first word byte behind one blank in
      cc

  test_text : (text : List ℕ) (said : Command) → test_of text ≡ Some said → (first : ℕ) × (others : List ℕ) × (text ≡ first ∷ others) × (command.Test text ≡ said)
  test_text [] said h = cc
  test_text (first ∷ others) said h = (first, others, refl, cc)

  some_between : (blanks behind others : List ℕ) (first : ℕ) → behind ≡ blanks ++ first ∷ others → Begins true behind → is_blank first ≡ false → is_nothing blanks ≡ false
  unfolding Begins
  some_between [] behind others first e blank no_blank = absurd (false≢true (sym no_blank ∙ subst (Begins true) e blank))
  some_between (byte ∷ blanks) behind others first e blank no_blank = refl

  no_blank_first : (text others : List ℕ) (first : ℕ) → text ≡ first ∷ others → Begins false text → is_blank first ≡ false
  unfolding Begins
  no_blank_first text others first e begins = subst (Begins false) e begins

  -- what a `test` line says is its record
  pub test_back : (line : List ℕ) (rest : Words) (said : Command) → words_of line ≡ codes "test" ∷ rest → test_of (behind_first_word line) ≡ Some said → (text : List ℕ) × IsTestLine line text × (command.Test text ≡ said)
  test_back line rest said h k =
      let front = blanks_off line in
      let text = behind_blanks line in
      let off = word_off text in
      let behind = behind_word text in
      let back = blanks_off behind in
      let found = test_text (behind_blanks behind) said k in
      let words : words_of text ≡ codes "test" ∷ rest = sym (in_front front.blanks text front.are) ∙ (ap words_of (sym front.joined) ∙ h) in
      let word : off.word ≡ codes "test" = first_is text off.word behind rest off.joined off.one off.begins front.begins (ap is_nothing found.2) words in
      let no_blank : is_blank found.0 ≡ false = no_blank_first (behind_blanks behind) found.1 found.0 found.2 back.begins in (
        behind_blanks behind,
        record {
          before = front.blanks;
          between = back.blanks;
          first = found.0;
          others = found.1;
          spelled = front.joined ∙ ap (λ (t : List ℕ). front.blanks ++ t) (off.joined ∙ (ap (λ (w : List ℕ). w ++ behind) word ∙ ap (λ (t : List ℕ). codes "test" ++ t) back.joined));
          begins = found.2;
          in_front = front.are;
          parted = back.are;
          some = some_between back.blanks behind found.1 found.0 (back.joined ∙ ap (λ (t : List ℕ). back.blanks ++ t) found.2) off.begins no_blank;
          no_blank = no_blank;
        },
        found.3,
      )

  record_by : (before between others : List ℕ) (first : ℕ) → AreBlanks before → AreBlanks between → is_nothing between ≡ false → is_blank first ≡ false
      → (rest : Words) × (words_of (before ++ (codes "test" ++ (between ++ first ∷ others))) ≡ codes "test" ∷ rest) × (behind_first_word (before ++ (codes "test" ++ (between ++ first ∷ others))) ≡ first ∷ others)
  record_by before [] others first in_line are some no_blank = cc
  record_by before (blank ∷ between) others first in_line are some no_blank =
      let text = first ∷ others in
      let rest = between ++ text in
      let is : is_blank blank ≡ true = first_so (is_blank blank) (list_all is_blank between) are in
      let kept : behind_blanks text ≡ text = rw no_blank refl in
      let behind : behind_word (codes "test" ++ (blank ∷ rest)) ≡ blank ∷ rest = rw is refl in (
        words_of rest,
        in_front before (codes "test" ++ (blank ∷ rest)) in_line ∙ word_in_front 116 (codes "est") blank rest refl is,
        ap (λ (t : List ℕ). behind_blanks (behind_word t)) (skipped before (codes "test" ++ (blank ∷ rest)) in_line)
            ∙ (ap behind_blanks behind ∙ (skipped (blank ∷ between) text are ∙ kept)),
      )

  -- the line of a record has `test` first, and the record behind it
  pub record_said : (line text : List ℕ) → IsTestLine line text → (rest : Words) × (words_of line ≡ codes "test" ∷ rest) × (behind_first_word line ≡ text)
  record_said line text h =
      let e : line ≡ h.before ++ (codes "test" ++ (h.between ++ h.first ∷ h.others)) = h.spelled ∙ ap (λ (t : List ℕ). h.before ++ (codes "test" ++ (h.between ++ t))) h.begins in
      let m = record_by h.before h.between h.others h.first h.in_front h.parted h.some h.no_blank in
      (m.0, ap words_of e ∙ m.1, ap behind_first_word e ∙ (m.2 ∙ sym h.begins))
