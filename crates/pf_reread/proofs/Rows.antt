-- Parts in a row, and parts in brackets, as they are read.
use Rattle.std.proofs.Common.{◌≡◌, ℕ, zero, suc, ◌+◌, ◌≤◌, Bool, true, false, List, [], ◌∷◌, ◌++◌, length, Option, Some, None, refl, ap, sym, subst, ◌∙◌, arith, append_assoc, length-append}
use Rattle.std.specs.Prelude.{◌||◌, codes}
use Rattle.std.specs.Str.{bytes_eq}
use Rattle.pf_syntax.specs.Symbols.{Symbol, Symbols, bare, quoted, mark, line_end, is_end, is_mark, next_is}
use Rattle.pf_syntax.specs.Grammar.{Grammar}
use Rattle.pf_syntax.specs.Lists.{at_sign, behind_comma, in_brackets}
use Rattle.pf_syntax.specs.Productions.{Repeated, further}
use Rattle.pf_syntax.specs.Readings.{read_repeated, read_then}
use Rattle.pf_reread.proofs.Following.{begins, begins-append}

-- Behind `before` these symbols, where one of the words follows them, are parts in a row that come to `after`.
pub record Takes {A : Type 0} (words : List (List ℕ)) (step : A → Grammar A) (before : A) (symbols : Symbols) (after : A) : Type 0 where
  pub count : ℕ
  pub few : count ≤ length symbols
  pub steps : (rest : Symbols) → begins words rest ≡ true → (most : ℕ) (value : A) (left : Symbols)
      → Repeated is_end (λ item. (step item).derives) most after rest value left
      → Repeated is_end (λ item. (step item).derives) (count + most) before (symbols ++ rest) value left

-- no part
pub takes_none : {A : Type 0} (words : List (List ℕ)) (step : A → Grammar A) (before : A) → Takes words step before [] before
takes_none words step before = record {
  count = 0;
  few = omega arith;
  steps = λ rest follows most value left further. subst (λ n. Repeated is_end (λ item. (step item).derives) n before rest value left) (omega arith) further;
}

-- one part, which has a symbol
pub takes_one : {A : Type 0} (words : List (List ℕ)) (step : A → Grammar A) (before after : A) (first : Symbol) (symbols : Symbols)
    → ((rest : Symbols) → begins words rest ≡ true → (step before).reads ((first ∷ symbols) ++ rest) ≡ Some (after, rest))
    → Takes words step before (first ∷ symbols) after
takes_one words step before after first symbols reads = record {
  count = 1;
  few = omega arith;
  steps = λ rest follows most value left more.
      subst (λ n. Repeated is_end (λ item. (step item).derives) n before ((first ∷ symbols) ++ rest) value left) (omega arith)
      (further {most = most} refl ((step before).exact.sound ((first ∷ symbols) ++ rest) after rest (reads rest follows)) more);
}

-- one row and then another
pub takes_both : {A : Type 0} (words : List (List ℕ)) (step : A → Grammar A) (first second third : A) (front back : Symbols)
    → begins words back ≡ true → Takes words step first front second → Takes words step second back third → Takes words step first (front ++ back) third
takes_both words step first second third front back follows one other = record {
  count = one.count + other.count;
  few = let both : length (front ++ back) ≡ length front + length back = length-append front back in let a = one.few in let b = other.few in omega arith;
  steps = λ rest behind most value left more.
      let joined : (front ++ back) ++ rest ≡ front ++ (back ++ rest) = append_assoc front back rest in
      let inner = other.steps rest behind most value left more in
      let outer = one.steps (back ++ rest) (begins-append words back rest follows behind) (other.count + most) value left inner in
      subst (λ start. Repeated is_end (λ item. (step item).derives) (one.count + other.count + most) first start value left) (sym joined)
      (subst (λ n. Repeated is_end (λ item. (step item).derives) n first (front ++ (back ++ rest)) value left) (omega arith) outer);
}

-- what stands behind an item in brackets: a comma or the end
abbrev pub ends_item : Symbols → Bool
ends_item [] = false
ends_item (bare text ∷ rest) = false
ends_item (quoted text ∷ rest) = false
ends_item (mark text ∷ rest) = bytes_eq text (codes ",") || bytes_eq text (codes ")")
ends_item (line_end ∷ rest) = false

-- items, some of which are left out: each is read where a comma or the end follows it
pub data Items {A : Type 0} (part : A → Grammar A) : A → List (Option Symbols) → A → Type 0 where
  no_item : {before : A} → Items part before [] before
  left_out : {before after : A} {items : List (Option Symbols)} → Items part before items after → Items part before (None ∷ items) after
  stands : {before next after : A} {symbols : Symbols} {items : List (Option Symbols)}
      → ((rest : Symbols) → ends_item rest ≡ true → (part before).reads (symbols ++ rest) ≡ Some (next, rest))
      → Items part next items after → Items part before (Some symbols ∷ items) after

-- the items behind a first one
abbrev pub tail_symbols : List (Option Symbols) → Symbols
tail_symbols [] = mark (codes ")") ∷ []
tail_symbols (None ∷ items) = tail_symbols items
tail_symbols (Some symbols ∷ items) = mark (codes ",") ∷ (symbols ++ tail_symbols items)

abbrev pub bracketed : List (Option Symbols) → Symbols
bracketed [] = []
bracketed (None ∷ items) = bracketed items
bracketed (Some symbols ∷ items) = mark (codes "(") ∷ (symbols ++ tail_symbols items)

ends_tail : (items : List (Option Symbols)) (rest : Symbols) → ends_item (tail_symbols items ++ rest) ≡ true
ends_tail [] rest = refl
ends_tail (None ∷ items) rest = ends_tail items rest
ends_tail (Some symbols ∷ items) rest = refl

abbrev comma_reads : {A : Type 0} → (A → Grammar A) → A → Symbols → Option (A × Symbols)
comma_reads part before start = (behind_comma part before).reads start

abbrev at_close : Symbols → Bool
at_close = at_sign (codes ")")

tail_read : {A : Type 0} (part : A → Grammar A) (before after : A) (items : List (Option Symbols)) → Items part before items after
    → (rest : Symbols) (most : ℕ) → length (tail_symbols items ++ rest) ≤ most
    → read_repeated at_close (comma_reads part) most before (tail_symbols items ++ rest) ≡ Some (after, mark (codes ")") ∷ rest)
tail_read part before after [] no_item rest zero fits = refl
tail_read part before after [] no_item rest (suc most) fits = refl
tail_read part before after (None ∷ items) (left_out more) rest most fits = tail_read part before after items more rest most fits
tail_read part before after (Some symbols ∷ items) (stands reads more) rest zero fits = absurd (omega arith)
tail_read part before after (Some symbols ∷ items) (stands {next = next} reads more) rest (suc most) fits =
    let joined : (symbols ++ tail_symbols items) ++ rest ≡ symbols ++ (tail_symbols items ++ rest) = append_assoc symbols (tail_symbols items) rest in
    let long : length (symbols ++ (tail_symbols items ++ rest)) ≡ length symbols + length (tail_symbols items ++ rest) = length-append symbols (tail_symbols items ++ rest) in
    let same : length ((symbols ++ tail_symbols items) ++ rest) ≡ length (symbols ++ (tail_symbols items ++ rest)) = ap length joined in
    let one : (part before).reads ((symbols ++ tail_symbols items) ++ rest) ≡ Some (next, tail_symbols items ++ rest) =
    ap (part before).reads joined ∙ reads (tail_symbols items ++ rest) (ends_tail items rest) in
    ap (λ o. read_then o (read_repeated at_close (comma_reads part) most)) one
    ∙ tail_read part next after items more rest most (omega arith)

abbrev pub some_stands : List (Option Symbols) → Bool
some_stands [] = false
some_stands (None ∷ items) = some_stands items
some_stands (Some symbols ∷ items) = true

-- items in brackets are read
pub brackets_read : {A : Type 0} (part : A → Grammar A) (before after : A) (items : List (Option Symbols)) → Items part before items after → some_stands items ≡ true
    → (rest : Symbols) → (in_brackets part before).reads (bracketed items ++ rest) ≡ Some (after, rest)
brackets_read part before after [] no_item some rest = absurd (cc)
brackets_read part before after (None ∷ items) (left_out more) some rest = brackets_read part before after items more some rest
brackets_read part before after (Some symbols ∷ items) (stands {next = next} reads more) some rest =
    let joined : (symbols ++ tail_symbols items) ++ rest ≡ symbols ++ (tail_symbols items ++ rest) = append_assoc symbols (tail_symbols items) rest in
    let one : (part before).reads ((symbols ++ tail_symbols items) ++ rest) ≡ Some (next, tail_symbols items ++ rest) =
    ap (part before).reads joined ∙ reads (tail_symbols items ++ rest) (ends_tail items rest) in
    let others : read_repeated at_close (comma_reads part) (length (tail_symbols items ++ rest)) next (tail_symbols items ++ rest) ≡ Some (after, mark (codes ")") ∷ rest) =
    tail_read part next after items more rest (length (tail_symbols items ++ rest)) (omega arith) in
    rw (one, others) refl

-- brackets stand next where an item stands, and else what follows
pub no_bracket : (items : List (Option Symbols)) → some_stands items ≡ false → bracketed items ≡ []
no_bracket [] none = refl
no_bracket (None ∷ items) none = no_bracket items none
no_bracket (Some symbols ∷ items) none = absurd (cc)

pub at_bracket : (items : List (Option Symbols)) (rest : Symbols) → some_stands items ≡ true → next_is (is_mark (codes "(")) (bracketed items ++ rest) ≡ true
at_bracket [] rest some = absurd (cc)
at_bracket (None ∷ items) rest some = at_bracket items rest some
at_bracket (Some symbols ∷ items) rest some = refl
