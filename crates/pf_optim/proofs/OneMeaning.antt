-- The text of a profile says one list of rows or has one first fault, and never both.
use Rattle.std.proofs.Common.{◌≡◌, ℕ, ◌+◌, cond, Bool, true, false, not, List, [], ◌∷◌, ◌++◌, length, suc, refl, sym, ap, ◌∙◌, subst, ◌⊎◌, inl, inr, ⊎_elim}
use Rattle.std.proofs.lemmas.Bool.{false≢true}
use Rattle.std.specs.List.{AllZip, list_any}
use Rattle.pf_base.specs.Text.{lines_of}
use Rattle.pf_optim.specs.Profile.{AreApart, HasFault, IsFaultAt, IsProfileText, Says, SayRows, TellOf, is_about, is_passed_over, is_told, said_lines}
use Rattle.pf_optim.specs.declared.rows.Row.{Row}
use Rattle.pf_optim.proofs.OnePath.{one_path}
use Rattle.pf_optim.proofs.SaidRows.{about_turned, either, filter_append, neither}

-- three words tell of one row, and so does a line
one_told : (path place count : List ℕ) (one other : Row) → TellOf path place count one → TellOf path place count other → one ≡ other
one_told path place count one other is also =
    let paths : one.path ≡ other.path = one_path true path one.path other.path is.named also.named in
    let one_placed = is.placed in
    let other_placed = also.placed in
    let places : one.place ≡ other.place = cc in
    let one_counted = is.counted in
    let other_counted = also.counted in
    let counts : one.count ≡ other.count = cc in
    λ i. record { path = paths i; place = places i; count = counts i }

one_row : (line : List ℕ) (one other : Row) → Says line one → Says line other → one ≡ other
one_row line one other is also =
    let same : is.path ∷ (is.place ∷ (is.count ∷ [])) ≡ also.path ∷ (also.place ∷ (also.count ∷ [])) = sym is.words ∙ also.words in
    let path : also.path ≡ is.path = cc in
    let place : also.place ≡ is.place = cc in
    let count : also.count ≡ is.count = cc in
    one_told is.path is.place is.count one other is.tells (subst (λ t. TellOf t is.place is.count other) path (subst (λ t. TellOf also.path t is.count other) place (subst (λ t. TellOf also.path also.place t other) count also.tells)))

zip_one : {A B : Type 0} (R : A → B → Type 0) → ((x : A) (y z : B) → R x y → R x z → y ≡ z) → (xs : List A) (ys zs : List B) → AllZip R xs ys → AllZip R xs zs → ys ≡ zs
zip_one R one [] [] [] a b = refl
zip_one R one [] [] (z ∷ zs) a b = absurd b
zip_one R one [] (y ∷ ys) zs a b = absurd a
zip_one R one (x ∷ xs) [] zs a b = absurd a
zip_one R one (x ∷ xs) (y ∷ ys) [] a b = absurd b
zip_one R one (x ∷ xs) (y ∷ ys) (z ∷ zs) a b = λ i. one x y z a.0 b.0 i ∷ zip_one R one xs ys zs a.1 b.1 i

pub one_meaning : (text : List ℕ) (rows others : List Row) → IsProfileText text rows → IsProfileText text others → rows ≡ others
one_meaning text rows others is also = zip_one Says one_row (said_lines (lines_of text)) rows others is.said also.said

-- where lists go together place by place, so do their parts
record Parts {A B : Type 0} (R : A → B → Type 0) (xs : List A) (x : A) (ys : List B) : Type 0 where
  first : List B
  item : B
  more : List B
  is : ys ≡ first ++ item ∷ more
  firsts : AllZip R xs first
  here : R x item

zip_parts : {A B : Type 0} (R : A → B → Type 0) (xs : List A) (x : A) (zs : List A) (ys : List B) → AllZip R (xs ++ x ∷ zs) ys → Parts R xs x ys
zip_parts R [] x zs [] a = absurd a
zip_parts R [] x zs (y ∷ ys) a = record { first = []; item = y; more = ys; is = refl; firsts = tt; here = a.0 }
zip_parts R (w ∷ xs) x zs [] a = absurd a
zip_parts R (w ∷ xs) x zs (y ∷ ys) a =
    let parts = zip_parts R xs x zs ys a.1 in
    record { first = y ∷ parts.first; item = parts.item; more = parts.more; is = ap (λ t. y ∷ t) parts.is; firsts = (a.0, parts.firsts); here = parts.here }

-- a line that is not passed over stands among the said ones
said_at : (before : List (List ℕ)) (line : List ℕ) (behind : List (List ℕ)) → is_passed_over line ≡ false → said_lines (before ++ line ∷ behind) ≡ said_lines before ++ line ∷ said_lines behind
said_at before line behind e =
    filter_append (λ line. not (is_passed_over line)) before (line ∷ behind)
    ∙ ap (λ (t : Bool). said_lines before ++ cond (not t) (line ∷ said_lines behind) (said_lines behind)) e

-- rows that are apart: none before tells of what a row is about
any_within : {A : Type 0} (test : A → Bool) (xs : List A) (x : A) (ys : List A) → list_any test (xs ++ x ∷ ys) ≡ false → test x ≡ false
any_within test [] x ys none = (either (test x) (list_any test ys) none).0
any_within test (w ∷ xs) x ys none = any_within test xs x ys (either (test w) (list_any test (xs ++ x ∷ ys)) none).1

not_told : (first : List Row) (row : Row) (more : List Row) → AreApart (first ++ row ∷ more) → is_told first row ≡ false
not_told [] row more apart = refl
not_told (one ∷ first) row more apart =
    neither (is_about row.path row.place one) (is_told first row)
    (about_turned one row (any_within (is_about one.path one.place) first row more apart.0))
    (not_told first row more apart.1)

-- no line among lines that say rows has a fault
no_fault : (before : List (List ℕ)) (line : List ℕ) (behind : List (List ℕ)) (rows told : List Row) → SayRows (before ++ line ∷ behind) rows → SayRows before told → HasFault told line → ⊥
no_fault before line behind rows told say sound fault =
    let all : AllZip Says (said_lines before ++ line ∷ said_lines behind) rows = subst (λ t. AllZip Says t rows) (said_at before line behind fault.said) say.said in
    let parts = zip_parts Says (said_lines before) line (said_lines behind) rows all in
    let same : parts.first ≡ told = zip_one Says one_row (said_lines before) parts.first told parts.firsts sound.said in
    let free : is_told parts.first parts.item ≡ false = not_told parts.first parts.item parts.more (subst AreApart parts.is say.apart) in
    ⊎_elim
    (λ none. none parts.item parts.here)
    (λ again.
    let here : again.row ≡ parts.item = one_row line again.row parts.item again.says parts.here in
    false≢true (sym free ∙ ap (λ t. is_told t parts.item) same ∙ ap (is_told told) (sym here) ∙ again.told))
    fault.fault

pub never_both : (text : List ℕ) (rows : List Row) (line : ℕ) → IsProfileText text rows → IsFaultAt text line → ⊥
never_both text rows line is at =
    no_fault at.before at.line at.behind rows at.rows (subst (λ t. SayRows t rows) at.is is) at.sound at.fault

-- a list that is cut at two places: they are one, or one of them lies before the other
record Within {A : Type 0} (front : List A) (x : A) (other : List A) : Type 0 where
  more : List A
  is : other ≡ front ++ x ∷ more

cut_twice : {A : Type 0} (one : List A) (x : A) (xs : List A) (other : List A) (y : A) (ys : List A) → one ++ x ∷ xs ≡ other ++ y ∷ ys → (length one ≡ length other) ⊎ (Within one x other ⊎ Within other y one)
cut_twice [] x xs [] y ys e = inl refl
cut_twice [] x xs (b ∷ other) y ys e =
    let first : b ≡ x = cc in
    inr (inl (record { more = other; is = ap (λ t. t ∷ other) first }))
cut_twice (a ∷ one) x xs [] y ys e =
    let first : a ≡ y = cc in
    inr (inr (record { more = one; is = ap (λ t. t ∷ one) first }))
cut_twice {A} (a ∷ one) x xs (b ∷ other) y ys e =
    let first : a ≡ b = cc in
    let rest : one ++ x ∷ xs ≡ other ++ y ∷ ys = cc in
    ⊎_elim
    (λ long. inl (ap (λ n. suc n) long))
    (λ within. inr (⊎_elim
    (λ before. inl (record { more = before.more; is = λ i. sym first i ∷ before.is i }))
    (λ behind. inr (record { more = behind.more; is = λ i. first i ∷ behind.is i }))
    within))
    (cut_twice one x xs other y ys rest)

pub one_fault : (text : List ℕ) (line other : ℕ) → IsFaultAt text line → IsFaultAt text other → line ≡ other
one_fault text line other one two =
    ⊎_elim
    (λ long. one.counted ∙ ap (λ n. n + 1) long ∙ sym two.counted)
    (λ within. absurd (⊎_elim
    (λ before. no_fault one.before one.line before.more two.rows one.rows (subst (λ t. SayRows t two.rows) before.is two.sound) one.sound one.fault)
    (λ behind. no_fault two.before two.line behind.more one.rows two.rows (subst (λ t. SayRows t one.rows) behind.is one.sound) two.sound two.fault)
    within))
    (cut_twice one.before one.line one.behind two.before two.line two.behind (sym one.is ∙ two.is))
