-- A text is a profile or has a first line with a fault: it can't be that it is neither.
use Rattle.std.proofs.Common.{◌≡◌, ℕ, ◌+◌, ◌⊎◌, Bool, true, false, not, cond, List, [], ◌∷◌, ◌++◌, length, refl, sym, ap, subst, ◌∙◌, inl, inr, append_assoc}
use Rattle.std.specs.Prelude.{◌&&◌, ◌==◌}
use Rattle.std.specs.Cmp.{both_ways}
use Rattle.std.specs.List.{AllZip, list_any}
use Rattle.std.proofs.lemmas.Bool.{and_from, and_parts, eq-eqb, eqb-true, or_from, or_parts}
use Rattle.std.proofs.lemmas.List.{append-nil}
use Rattle.std.proofs.lemmas.List.Elements.{filter-append}
use Rattle.pf_base.specs.Equality.{lists, numbers}
use Rattle.pf_base.specs.Text.{lines_of}
use Rattle.pf_optim.specs.Profile.{AreApart, HasFault, IsFaultAt, IsProfileText, SayRows, Says, is_about, is_passed_over, is_told, said_lines}
use Rattle.pf_optim.specs.declared.rows.Row.{Row}

-- ---- what can't fail to be

abbrev pub Surely : Type 0 → Type 0
Surely P = (P → ⊥) → ⊥

pub surely : {P : Type 0} → P → Surely P
surely is nor = nor is

pub surely_then : {P Q : Type 0} → Surely P → (P → Surely Q) → Surely Q
surely_then h on nor = h (λ is. on is nor)

pub surely_either : {P : Type 0} → Surely (P ⊎ (P → ⊥))
surely_either nor = nor (inr (λ is. nor (inl is)))

-- ---- rows that are about different things

about_both : (path other : List (List ℕ)) (place number : ℕ) → ((lists (lists numbers)).same path other && place == number) ≡ true → (path ≡ other) × (place ≡ number)
about_both path other place number h =
    let parts = and_parts ((lists (lists numbers)).same path other) (place == number) h in
    (((lists (lists numbers)).decides path other).0 parts.0, eqb-true place number parts.1)

about_back : (a b : Row) → is_about a.path a.place b ≡ true → is_about b.path b.place a ≡ true
about_back a b h =
    let same = about_both a.path b.path a.place b.place h in
    and_from ((lists (lists numbers)).same b.path a.path) (b.place == a.place) (((lists (lists numbers)).decides b.path a.path).1 (sym same.0)) (eq-eqb b.place a.place (sym same.1))

about_same : (a b : Row) → is_about a.path a.place b ≡ is_about b.path b.place a
about_same a b = both_ways (is_about a.path a.place b) (is_about b.path b.place a) (about_back a b) (about_back b a)

any_last : {A : Type 0} (test : A → Bool) (xs : List A) (x : A) → list_any test xs ≡ false → test x ≡ false → list_any test (xs ++ x ∷ []) ≡ false
any_last test [] x none h = or_from (test x) false h refl
any_last test (y ∷ xs) x none h = let parts = or_parts (test y) (list_any test xs) none in or_from (test y) (list_any test (xs ++ x ∷ [])) parts.0 (any_last test xs x parts.1 h)

apart_last : (rows : List Row) (row : Row) → AreApart rows → is_told rows row ≡ false → AreApart (rows ++ row ∷ [])
apart_last [] row apart new = (refl, tt)
apart_last (first ∷ rows) row apart new =
    let parts = or_parts (is_about row.path row.place first) (list_any (is_about row.path row.place) rows) new in
    (any_last (is_about first.path first.place) rows row apart.0 (about_same first row ∙ parts.0), apart_last rows row apart.1 parts.1)

zip_last : {A B : Type 0} (R : A → B → Type 0) (xs : List A) (ys : List B) (x : A) (y : B) → AllZip R xs ys → R x y → AllZip R (xs ++ x ∷ []) (ys ++ y ∷ [])
zip_last R [] [] x y all is = (is, tt)
zip_last R [] (other ∷ ys) x y all is = absurd all
zip_last R (other ∷ xs) [] x y all is = absurd all
zip_last R (a ∷ xs) (b ∷ ys) x y all is = (all.0, zip_last R xs ys x y all.1 is)

-- ---- the lines of a text

abbrev is_said : List ℕ → Bool
is_said line = not (is_passed_over line)

last_line : (before : List (List ℕ)) (line : List ℕ) (passed : Bool) → is_passed_over line ≡ passed → said_lines (before ++ line ∷ []) ≡ said_lines before ++ cond (not passed) (line ∷ []) []
last_line before line passed is = filter-append is_said before (line ∷ []) ∙ ap (λ (b : Bool). said_lines before ++ cond (not b) (line ∷ []) []) is

passed_on : (before : List (List ℕ)) (line : List ℕ) (rows : List Row) → is_passed_over line ≡ true → SayRows before rows → SayRows (before ++ line ∷ []) rows
passed_on before line rows passed say = record {
  said = subst (λ (lines : List (List ℕ)). AllZip Says lines rows) (sym (last_line before line true passed ∙ append-nil (said_lines before))) say.said;
  apart = say.apart;
}

said_on : (before : List (List ℕ)) (line : List ℕ) (rows : List Row) (row : Row) → is_passed_over line ≡ false → SayRows before rows → Says line row → is_told rows row ≡ false → SayRows (before ++ line ∷ []) (rows ++ row ∷ [])
said_on before line rows row passed say says new = record {
  said = subst (λ (lines : List (List ℕ)). AllZip Says lines (rows ++ row ∷ [])) (sym (last_line before line false passed)) (zip_last Says (said_lines before) rows line row say.said says);
  apart = apart_last rows row say.apart new;
}

-- the lines say rows, or one of them is the first with a fault
record FaultIn (lines : List (List ℕ)) : Type 0 where
  before : List (List ℕ)
  line : List ℕ
  behind : List (List ℕ)
  is : lines ≡ before ++ line ∷ behind
  rows : List Row
  sound : SayRows before rows
  fault : HasFault rows line

record AllSaid (lines : List (List ℕ)) : Type 0 where
  rows : List Row
  say : SayRows lines rows

abbrev Outcome : List (List ℕ) → Type 0
Outcome lines = AllSaid lines ⊎ FaultIn lines

module _ (all : List (List ℕ)) where
  -- from a line on, behind lines that say rows
  scan : (before lines : List (List ℕ)) (rows : List Row) → all ≡ before ++ lines → SayRows before rows → Surely (Outcome all)
  scan before [] rows is say = surely (inl (record { rows = rows; say = subst (λ (ls : List (List ℕ)). SayRows ls rows) (sym (is ∙ append-nil before)) say }))
  scan before (line ∷ lines) rows is say =
      elim (is_passed_over line) as (λ b. is_passed_over line ≡ b → Surely (Outcome all)) [
        | true ↦ λ e. scan (before ++ line ∷ []) lines rows (is ∙ sym (append_assoc before (line ∷ []) lines)) (passed_on before line rows e say)
        | false ↦ λ e. surely_then (surely_either {P = (row : Row) × Says line row}) (λ says. elim says [
          | inr none ↦ surely (inr (record { before = before; line = line; behind = lines; is = is; rows = rows; sound = say; fault = record { said = e; fault = inl (λ row h. none (row, h)) } }))
          | inl some ↦ elim (is_told rows some.0) as (λ b. is_told rows some.0 ≡ b → Surely (Outcome all)) [
            | true ↦ λ told. surely (inr (record { before = before; line = line; behind = lines; is = is; rows = rows; sound = say; fault = record { said = e; fault = inr (record { row = some.0; says = some.1; told = told }) } }))
            | false ↦ λ new. scan (before ++ line ∷ []) lines (rows ++ some.0 ∷ []) (is ∙ sym (append_assoc before (line ∷ []) lines)) (said_on before line rows some.0 e say some.1 new)
          ] refl
        ])
      ] refl

pub rows_or_fault : (text : List ℕ) → Surely (((rows : List Row) × IsProfileText text rows) ⊎ ((line : ℕ) × IsFaultAt text line))
rows_or_fault text =
    surely_then (scan (lines_of text) [] (lines_of text) [] refl (record { said = tt; apart = tt })) (λ outcome. elim outcome [
      | inl all ↦ surely (inl (all.rows, all.say))
      | inr at ↦ surely (inr (length at.before + 1, record { before = at.before; line = at.line; behind = at.behind; is = at.is; counted = refl; rows = at.rows; sound = at.sound; fault = at.fault }))
    ])
