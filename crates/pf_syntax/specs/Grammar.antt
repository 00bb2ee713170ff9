-- A production with its reading, and the ways to make one. `do` puts parts in a row.
use Rattle.std.specs.Prelude.{◌≡◌, ℕ, Bool, List, length, Option, Some, None, if◌then◌else◌}
use Rattle.pf_syntax.specs.Symbols.{Symbol, Symbols, is_word, is_mark, next_is}
use Rattle.pf_syntax.specs.Productions.{Production, Given, One, Then, Chosen, Repeated}
use Rattle.pf_syntax.specs.Readings.{Reading, with_rest, read_one, read_then, read_chosen, read_repeated}
use Rattle.pf_syntax.specs.Exactness.{Exact, given_exact, one_exact, then_exact, chosen_exact, repeated_exact}

-- `derives` is what is meant; `reads` is the same from left to right
pub record Grammar (A : Type 0) : Type 1 where
  pub derives : Production A
  pub reads : Reading A
  pub exact : Exact derives reads

-- this value, where there is one; no symbol is taken
abbrev pub from : {A : Type 0} → Option A → Grammar A
from offered = record { derives = Given offered; reads = λ start. with_rest start offered; exact = given_exact offered }

-- this value; no symbol is taken
abbrev pub give : {A : Type 0} → A → Grammar A
give value = from (Some value)

-- the next symbol, which says a value
abbrev pub symbol : {A : Type 0} → (Symbol → Option A) → Grammar A
symbol says = record { derives = One says; reads = read_one says; exact = one_exact says }

-- one part, and behind it another
infixl 10 ◌>>=◌
abbrev pub ◌>>=◌ : {A B : Type 0} → Grammar A → (A → Grammar B) → Grammar B
first >>= second = record {
  derives = Then first.derives (λ part. (second part).derives);
  reads = λ start. read_then (first.reads start) (λ part. (second part).reads);
  exact = then_exact first.derives (λ part. (second part).derives) first.reads (λ part. (second part).reads) first.exact (λ part. (second part).exact);
}

-- the first where the test of what stands next holds, else the second
abbrev pub where_next : {A : Type 0} → (Symbols → Bool) → Grammar A → Grammar A → Grammar A
where_next test first second = record {
  derives = Chosen test first.derives second.derives;
  reads = read_chosen test first.reads second.reads;
  exact = chosen_exact test first.derives second.derives first.reads second.reads first.exact second.exact;
}

-- parts in a row up to where the test holds, each laid on the value so far; there are no more of them than symbols
abbrev pub until : {A : Type 0} → (Symbols → Bool) → (A → Grammar A) → A → Grammar A
until ends step value = record {
  derives = λ start. Repeated ends (λ before. (step before).derives) (length start) value start;
  reads = λ start. read_repeated ends (λ before. (step before).reads) (length start) value start;
  exact = record {
    sound = λ start. (repeated_exact ends (λ before. (step before).derives) (λ before. (step before).reads) (λ before. (step before).exact) (length start) value).sound start;
    found = λ start. (repeated_exact ends (λ before. (step before).derives) (λ before. (step before).reads) (λ before. (step before).exact) (length start) value).found start;
  };
}

-- a keyword: a bare word
abbrev pub word : List ℕ → Grammar (Unit {0})
word text = symbol (λ next. if is_word text next then Some tt else None)

-- a sign
abbrev pub sign : List ℕ → Grammar (Unit {0})
sign text = symbol (λ next. if is_mark text next then Some tt else None)

-- where this keyword stands next it is the keyword, and the first stands behind it; else the second
abbrev pub on_word : {A : Type 0} → List ℕ → Grammar A → Grammar A → Grammar A
on_word text first second = where_next (next_is (is_word text)) (do
  _ ← word text
  first) second

-- the same for a sign
abbrev pub on_sign : {A : Type 0} → List ℕ → Grammar A → Grammar A → Grammar A
on_sign text first second = where_next (next_is (is_mark text)) (do
  _ ← sign text
  first) second
