-- What may stand behind a part of a rule, and what therefore doesn't.
use Rattle.std.proofs.Common.{◌≡◌, ℕ, Bool, true, false, List, [], ◌∷◌, ◌++◌, Option, Some, refl, ap, sym, ◌∙◌, inl, inr}
use Rattle.std.specs.Prelude.{codes}
use Rattle.std.specs.Str.{bytes_eq}
use Rattle.std.proofs.lemmas.Bool.{cases_Bool, or_right}
use Rattle.std.proofs.lemmas.Slice.Eq.{bytes_eq-Decides}
use Rattle.pf_syntax.specs.Fault.{is_one_of}
use Rattle.pf_syntax.specs.Symbols.{Symbols, bare, quoted, mark, line_end, is_mark, is_word, next_is, next_are}

-- a value that was read, and what is left
abbrev pub as_read : {A : Type 0} → A → Symbols → Option (A × Symbols)
as_read value rest = Some (value, rest)

pub same_text : (word other : List ℕ) → bytes_eq word other ≡ true → word ≡ other
same_text word other same = (bytes_eq-Decides word other).0 same

-- a text that passes a test isn't one that doesn't
pub not_same : (test : List ℕ → Bool) (word other : List ℕ) → test word ≡ true → test other ≡ false → bytes_eq word other ≡ false
not_same test word other passes fails = elim (cases_Bool (bytes_eq word other)) [
  | inl same ↦
      let one : false ≡ true = sym fails ∙ ap test (sym (same_text word other same)) ∙ passes in
      absurd (cc)
  | inr unlike ↦ unlike
]

-- nothing, one of these words without quotes, or a `!`
abbrev pub begins : List (List ℕ) → Symbols → Bool
begins words [] = true
begins words (bare text ∷ rest) = is_one_of words text
begins words (mark text ∷ rest) = bytes_eq text (codes "!")
begins words (quoted text ∷ rest) = false
begins words (line_end ∷ rest) = false

pub begins-append : (words : List (List ℕ)) (front back : Symbols) → begins words front ≡ true → begins words back ≡ true → begins words (front ++ back) ≡ true
begins-append words [] back e f = f
begins-append words (bare text ∷ front) back e f = e
begins-append words (mark text ∷ front) back e f = e
begins-append words (quoted text ∷ front) back e f = absurd (cc)
begins-append words (line_end ∷ front) back e f = absurd (cc)

-- one word more may stand there
pub begins-more : (word : List ℕ) (words : List (List ℕ)) (rest : Symbols) → begins words rest ≡ true → begins (word ∷ words) rest ≡ true
begins-more word words [] e = refl
begins-more word words (bare text ∷ rest) e = or_right (bytes_eq text word) (is_one_of words text) e
begins-more word words (mark text ∷ rest) e = e
begins-more word words (quoted text ∷ rest) e = absurd (cc)
begins-more word words (line_end ∷ rest) e = absurd (cc)

-- a word that isn't one of them doesn't stand there
pub no_word : (words : List (List ℕ)) (word : List ℕ) (rest : Symbols) → begins words rest ≡ true → is_one_of words word ≡ false → next_is (is_word word) rest ≡ false
no_word words word [] e f = refl
no_word words word (bare text ∷ rest) e f = not_same (is_one_of words) text word e f
no_word words word (mark text ∷ rest) e f = refl
no_word words word (quoted text ∷ rest) e f = refl
no_word words word (line_end ∷ rest) e f = refl

-- no sign stands there but `!`
pub no_sign : (words : List (List ℕ)) (sign : List ℕ) (rest : Symbols) → begins words rest ≡ true → bytes_eq (codes "!") sign ≡ false → next_is (is_mark sign) rest ≡ false
no_sign words sign [] e f = refl
no_sign words sign (bare text ∷ rest) e f = refl
no_sign words sign (mark text ∷ rest) e f = ap (λ other. bytes_eq other sign) (same_text text (codes "!") e) ∙ f
no_sign words sign (quoted text ∷ rest) e f = refl
no_sign words sign (line_end ∷ rest) e f = refl

-- nor two of which the first is another
pub no_signs : (words : List (List ℕ)) (first second : List ℕ) (rest : Symbols) → begins words rest ≡ true → bytes_eq (codes "!") first ≡ false
    → next_are (is_mark first) (is_mark second) rest ≡ false
no_signs words first second [] e f = refl
no_signs words first second (bare text ∷ rest) e f = refl
no_signs words first second (mark text ∷ rest) e f = rw (ap (λ other. bytes_eq other first) (same_text text (codes "!") e) ∙ f) refl
no_signs words first second (quoted text ∷ rest) e f = refl
no_signs words first second (line_end ∷ rest) e f = refl
