-- What a production is (pf.conf(5), GRAMMAR): a relation between the symbols where it begins, the value that they say, and
-- the symbols that it leaves. All productions are made of the five below.
use Rattle.std.specs.Prelude.{◌≡◌, ℕ, suc, Bool, true, false, List, ◌∷◌, Option, Some}
use Rattle.pf_syntax.specs.Symbols.{Symbol, Symbols}

-- the symbols at the start say a value and leave a rest
abbrev pub Production : Type 0 → Type 1
Production A = Symbols → A → Symbols → Type 0

-- a value that takes no symbol, where there is one
pub data Given {A : Type 0} (offered : Option A) : Symbols → A → Symbols → Type 0 where
  given : {value : A} {rest : Symbols} → offered ≡ Some value → Given offered rest value rest

-- the next symbol, which says this value
pub data One {A : Type 0} (says : Symbol → Option A) : Symbols → A → Symbols → Type 0 where
  one : {symbol : Symbol} {value : A} {rest : Symbols} → says symbol ≡ Some value → One says (symbol ∷ rest) value rest

-- one part, and behind it another, which the first's value may decide
pub record Then {A B : Type 0} (first : Production A) (second : A → Production B) (start : Symbols) (value : B) (rest : Symbols) : Type 0 where
  pub part : A
  pub between : Symbols
  pub front : first start part between
  pub back : second part between value rest

-- one of two: the first where the test of what stands next holds, else the other
pub data Chosen {A : Type 0} (test : Symbols → Bool) (first second : Production A) : Symbols → A → Symbols → Type 0 where
  there : {start rest : Symbols} {value : A} → test start ≡ true → first start value rest → Chosen test first second start value rest
  otherwise : {start rest : Symbols} {value : A} → test start ≡ false → second start value rest → Chosen test first second start value rest

-- parts in a row up to where the test holds, at most so many, each laid on the value so far
pub data Repeated {A : Type 0} (ends : Symbols → Bool) (step : A → Production A) : ℕ → A → Symbols → A → Symbols → Type 0 where
  ended : {most : ℕ} {value : A} {rest : Symbols} → ends rest ≡ true → Repeated ends step most value rest value rest
  further : {most : ℕ} {before next value : A} {start between rest : Symbols}
      → ends start ≡ false
      → step before start next between
      → Repeated ends step most next between value rest
      → Repeated ends step (suc most) before start value rest
