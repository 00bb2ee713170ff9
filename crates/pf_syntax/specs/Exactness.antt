-- A production and its reading agree, and so do those that are made of such.
use Rattle.std.specs.Prelude.{◌≡◌, ℕ, zero, suc, Bool, true, false, List, [], ◌∷◌, Option, Some, None, refl, if◌then◌else◌}
use Rattle.std.proofs.Common.{◌∙◌, ap, subst}
use Rattle.pf_syntax.specs.Symbols.{Symbol, Symbols}
use Rattle.pf_syntax.specs.Productions.{Production, Given, given, One, one, Then, Chosen, there, otherwise, Repeated, ended, further}
use Rattle.pf_syntax.specs.Readings.{Reading, with_rest, read_one, read_then, read_chosen, read_repeated}

-- the reading gives exactly what is derived
pub record Exact {A : Type 0} (derives : Production A) (reads : Reading A) : Type 0 where
  pub sound : (start : Symbols) (value : A) (rest : Symbols) → reads start ≡ Some (value, rest) → derives start value rest
  pub found : (start : Symbols) (value : A) (rest : Symbols) → derives start value rest → reads start ≡ Some (value, rest)

abbrev HoldsOf : {A : Type 0} → (A → Symbols → Type 0) → Option (A × Symbols) → Type 0
HoldsOf P None = Unit {0}
HoldsOf P (Some (value, rest)) = P value rest

abbrev read : {A : Type 0} → A → Symbols → Option (A × Symbols)
read value rest = Some (value, rest)

-- what holds of a value and a rest holds of an equal pair
moved : {A : Type 0} (P : A → Symbols → Type 0) (value other : A) (rest end : Symbols) → read value rest ≡ read other end → P value rest → P other end
moved P value other rest end same holds = subst (HoldsOf P) same holds

given_sound : {A : Type 0} (offered : Option A) (start : Symbols) (value : A) (rest : Symbols) → with_rest start offered ≡ Some (value, rest) → Given offered start value rest
given_sound None start value rest said = absurd (cc)
given_sound (Some other) start value rest said = moved (Given (Some other) start) other value start rest said (given refl)

given_found : {A : Type 0} (offered : Option A) (start : Symbols) (value : A) (rest : Symbols) → Given offered start value rest → with_rest start offered ≡ Some (value, rest)
given_found offered start value rest (given is) = ap (with_rest start) is

pub given_exact : {A : Type 0} (offered : Option A) → Exact (Given offered) (λ start. with_rest start offered)
given_exact offered = record { sound = given_sound offered; found = given_found offered }

one_of : {A : Type 0} (says : Symbol → Option A) (symbol : Symbol) (start : Symbols) (value : A) (rest : Symbols) → Given (says symbol) start value rest → One says (symbol ∷ start) value rest
one_of says symbol start value rest (given is) = one is

one_sound : {A : Type 0} (says : Symbol → Option A) (start : Symbols) (value : A) (rest : Symbols) → read_one says start ≡ Some (value, rest) → One says start value rest
one_sound says [] value rest said = absurd (cc)
one_sound says (symbol ∷ others) value rest said = one_of says symbol others value rest (given_sound (says symbol) others value rest said)

one_found : {A : Type 0} (says : Symbol → Option A) (start : Symbols) (value : A) (rest : Symbols) → One says start value rest → read_one says start ≡ Some (value, rest)
one_found says start value rest (one is) = ap (with_rest rest) is

pub one_exact : {A : Type 0} (says : Symbol → Option A) → Exact (One says) (read_one says)
one_exact says = record { sound = one_sound says; found = one_found says }

then_sound : {A B : Type 0} (first : Production A) (second : A → Production B) (reads : Reading A) (others : A → Reading B)
    → Exact first reads → ((part : A) → Exact (second part) (others part))
    → (start : Symbols) (value : B) (rest : Symbols) (o : Option (A × Symbols)) → reads start ≡ o → read_then o others ≡ Some (value, rest) → Then first second start value rest
then_sound first second reads others one_way more start value rest None is said = absurd (cc)
then_sound first second reads others one_way more start value rest (Some (part, between)) is said = record {
  part = part;
  between = between;
  front = one_way.sound start part between is;
  back = (more part).sound between value rest said;
}

then_found : {A B : Type 0} (first : Production A) (second : A → Production B) (reads : Reading A) (others : A → Reading B)
    → Exact first reads → ((part : A) → Exact (second part) (others part))
    → (start : Symbols) (value : B) (rest : Symbols) → Then first second start value rest → read_then (reads start) others ≡ Some (value, rest)
then_found first second reads others one_way more start value rest parts =
    ap (λ o. read_then o others) (one_way.found start parts.part parts.between parts.front)
    ∙ (more parts.part).found parts.between value rest parts.back

pub then_exact : {A B : Type 0} (first : Production A) (second : A → Production B) (reads : Reading A) (others : A → Reading B)
    → Exact first reads → ((part : A) → Exact (second part) (others part)) → Exact (Then first second) (λ start. read_then (reads start) others)
then_exact first second reads others one_way more = record {
  sound = λ start value rest. then_sound first second reads others one_way more start value rest (reads start) refl;
  found = then_found first second reads others one_way more;
}

chosen_sound : {A : Type 0} (test : Symbols → Bool) (first second : Production A) (reads others : Reading A)
    → Exact first reads → Exact second others
    → (start : Symbols) (value : A) (rest : Symbols) (b : Bool) → test start ≡ b → if b then reads start else others start ≡ Some (value, rest) → Chosen test first second start value rest
chosen_sound test first second reads others one_way other_way start value rest true is said = there is (one_way.sound start value rest said)
chosen_sound test first second reads others one_way other_way start value rest false is said = otherwise is (other_way.sound start value rest said)

chosen_found : {A : Type 0} (test : Symbols → Bool) (first second : Production A) (reads others : Reading A)
    → Exact first reads → Exact second others
    → (start : Symbols) (value : A) (rest : Symbols) → Chosen test first second start value rest → read_chosen test reads others start ≡ Some (value, rest)
chosen_found test first second reads others one_way other_way start value rest (there is holds) =
    ap (λ b. if b then reads start else others start) is ∙ one_way.found start value rest holds
chosen_found test first second reads others one_way other_way start value rest (otherwise is holds) =
    ap (λ b. if b then reads start else others start) is ∙ other_way.found start value rest holds

pub chosen_exact : {A : Type 0} (test : Symbols → Bool) (first second : Production A) (reads others : Reading A)
    → Exact first reads → Exact second others → Exact (Chosen test first second) (read_chosen test reads others)
chosen_exact test first second reads others one_way other_way = record {
  sound = λ start value rest. chosen_sound test first second reads others one_way other_way start value rest (test start) refl;
  found = chosen_found test first second reads others one_way other_way;
}

-- parts in a row, as they are read: nothing more, or one part and then at most one fewer
none_more : {A : Type 0} (ends : Symbols → Bool) (step : A → Production A) (most : ℕ) (before : A) (start : Symbols) (value : A) (rest : Symbols)
    → ends start ≡ true → Given (Some before) start value rest → Repeated ends step most before start value rest
none_more ends step most before start value rest is (given same) =
    moved (Repeated ends step most before rest) before value rest rest (ap (with_rest rest) same) (ended is)

at_zero : {A : Type 0} (ends : Symbols → Bool) (step : A → Production A) (before : A) (start : Symbols) (value : A) (rest : Symbols)
    → Chosen ends (Given (Some before)) (Given None) start value rest → Repeated ends step zero before start value rest
at_zero ends step before start value rest (there is last) = none_more ends step zero before start value rest is last
at_zero ends step before start value rest (otherwise is (given same)) = absurd (cc)

from_zero : {A : Type 0} (ends : Symbols → Bool) (step : A → Production A) (before : A) (start : Symbols) (value : A) (rest : Symbols)
    → Repeated ends step zero before start value rest → Chosen ends (Given (Some before)) (Given None) start value rest
from_zero ends step before start value rest (ended is) = there is (given refl)

at_more : {A : Type 0} (ends : Symbols → Bool) (step : A → Production A) (most : ℕ) (before : A) (start : Symbols) (value : A) (rest : Symbols)
    → Chosen ends (Given (Some before)) (Then (step before) (Repeated ends step most)) start value rest → Repeated ends step (suc most) before start value rest
at_more ends step most before start value rest (there is last) = none_more ends step (suc most) before start value rest is last
at_more ends step most before start value rest (otherwise is parts) = further is parts.front parts.back

from_more : {A : Type 0} (ends : Symbols → Bool) (step : A → Production A) (most : ℕ) (before : A) (start : Symbols) (value : A) (rest : Symbols)
    → Repeated ends step (suc most) before start value rest → Chosen ends (Given (Some before)) (Then (step before) (Repeated ends step most)) start value rest
from_more ends step most before start value rest (ended is) = there is (given refl)
from_more ends step most before start value rest (further {next = next} {between = between} is front back) =
    otherwise is (record { part = next; between = between; front = front; back = back })

-- of two productions that derive the same the same reading is exact
along : {A : Type 0} (derives other : Production A) (reads : Reading A) → Exact derives reads
    → ((start : Symbols) (value : A) (rest : Symbols) → derives start value rest → other start value rest)
    → ((start : Symbols) (value : A) (rest : Symbols) → other start value rest → derives start value rest) → Exact other reads
along derives other reads exact into back = record {
  sound = λ start value rest said. into start value rest (exact.sound start value rest said);
  found = λ start value rest holds. exact.found start value rest (back start value rest holds);
}

pub repeated_exact : {A : Type 0} (ends : Symbols → Bool) (step : A → Production A) (reads : A → Reading A) → ((value : A) → Exact (step value) (reads value))
    → (most : ℕ) (before : A) → Exact (Repeated ends step most before) (read_repeated ends reads most before)
repeated_exact ends step reads each zero before =
    along (Chosen ends (Given (Some before)) (Given None)) (Repeated ends step zero before) (read_repeated ends reads zero before)
    (chosen_exact ends (Given (Some before)) (Given None) (λ start. with_rest start (Some before)) (λ start. with_rest start None) (given_exact (Some before)) (given_exact None))
    (at_zero ends step before) (from_zero ends step before)
repeated_exact ends step reads each (suc most) before =
    along (Chosen ends (Given (Some before)) (Then (step before) (Repeated ends step most))) (Repeated ends step (suc most) before) (read_repeated ends reads (suc most) before)
    (chosen_exact ends (Given (Some before)) (Then (step before) (Repeated ends step most)) (λ start. with_rest start (Some before))
    (λ start. read_then (reads before start) (read_repeated ends reads most)) (given_exact (Some before))
    (then_exact (step before) (Repeated ends step most) (reads before) (read_repeated ends reads most) (each before) (repeated_exact ends step reads each most)))
    (at_more ends step most before) (from_more ends step most before)
