-- Lines that say rows.
use Rattle.std.proofs.Common.{◌≡◌, ℕ, cond, Bool, true, false, not, ◌||◌, List, [], ◌∷◌, ◌++◌, Option, Some, None, refl, sym, ap, ◌∙◌, subst}
use Rattle.std.proofs.lemmas.Bool.{false≢true}
use Rattle.std.proofs.lemmas.List.{map-append}
use Rattle.std.proofs.Common.{Bor, Result, Ok, Err, is_some, inr}
use Rattle.std.specs.List.{AllZip, filter, find, list_any, onto_first, slice_split}
use Rattle.std.specs.Map.{lookup}
use Rattle.std.specs.Option.{IfSome, option_map_or, unwrap_or}
use Rattle.indexmap.proofs.CallerLemmas.{insert_entry-new}
use Rattle.indexmap.specs.IndexMap.{IndexMap, get, insert_entry}
use Rattle.pf_base.specs.Text.{fields_of, is_space}
use Rattle.pf_base.specs.Equality.{Equality, lists, numbers, pairs}
use Rattle.pf_optim.specs.Profile.{AreApart, Says, SayRows, is_about, is_passed_over, is_told, said_lines, weight_at}
use Rattle.pf_optim.specs.Keys.{keys}
use Rattle.pf_optim.specs.ProfileSteps.{AddsRow, NoWords, TakesOr, TakesRowOr, row_of, rows_of}
use Rattle.pf_optim.specs.declared.fault.LineFault.{LineFault}
use Rattle.pf_optim.specs.declared.fault.LineFault.TheVariants as fault
use Rattle.pf_optim.specs.declared.key.Key.{Key}
use Rattle.pf_optim.specs.declared.rows.Row.{Row}

pub nothing_said : (entries : List (Key × ℕ)) → entries ≡ [] → SayRows [] (rows_of entries)
nothing_said entries e =
    let P : List (Key × ℕ) → Type 0 = λ t. SayRows [] (rows_of t) in
    subst P (sym e) (record { said = tt; apart = tt })

-- a line more, which is passed over or not
pub filter_append : {X : Type 0} (test : X → Bool) (xs ys : List X) → filter test (xs ++ ys) ≡ filter test xs ++ filter test ys
filter_append test [] ys = refl
filter_append test (x ∷ xs) ys = cases (test x) (filter_append test xs ys)
  where
    cases : (b : Bool) → filter test (xs ++ ys) ≡ filter test xs ++ filter test ys → cond b (x ∷ filter test (xs ++ ys)) (filter test (xs ++ ys)) ≡ cond b (x ∷ filter test xs) (filter test xs) ++ filter test ys
    cases true e = ap (λ t. x ∷ t) e
    cases false e = e

said_more : (before : List (List ℕ)) (line : List ℕ) (b : Bool) → is_passed_over line ≡ b → said_lines (before ++ line ∷ []) ≡ said_lines before ++ cond (not b) (line ∷ []) []
said_more before line b e =
    filter_append (λ line. not (is_passed_over line)) before (line ∷ [])
    ∙ ap (λ (t : Bool). said_lines before ++ cond (not t) (line ∷ []) []) e

-- a row more, about what no row before it is about
pub either : (a b : Bool) → (a || b) ≡ false → (a ≡ false) × (b ≡ false)
either true b e = absurd (false≢true (sym e))
either false b e = (refl, e)

pub neither : (a b : Bool) → a ≡ false → b ≡ false → (a || b) ≡ false
neither a b e h = ap (λ (t : Bool). t || b) e ∙ h

any_more : {X : Type 0} (test : X → Bool) (xs : List X) (x : X) → list_any test xs ≡ false → test x ≡ false → list_any test (xs ++ x ∷ []) ≡ false
any_more test [] x none e = neither (test x) false e refl
any_more test (y ∷ ys) x none e =
    let parts = either (test y) (list_any test ys) none in
    neither (test y) (list_any test (ys ++ x ∷ [])) parts.0 (any_more test ys x parts.1 e)

abbrev places : Equality (List (List ℕ) × ℕ)
places = pairs (lists (lists numbers)) numbers

pub about_turned : (one other : Row) → is_about one.path one.place other ≡ false → is_about other.path other.place one ≡ false
about_turned one other e = cases (is_about other.path other.place one) refl
  where
    cases : (b : Bool) → is_about other.path other.place one ≡ b → b ≡ false
    cases false h = refl
    cases true h =
        let same = (places.decides (other.path, other.place) (one.path, one.place)).0 h in
        absurd (false≢true (sym e ∙ (places.decides (one.path, one.place) (other.path, other.place)).1 (sym same)))

apart_more : (rows : List Row) (row : Row) → AreApart rows → is_told rows row ≡ false → AreApart (rows ++ row ∷ [])
apart_more [] row a none = (refl, tt)
apart_more (first ∷ rows) row a none =
    let parts = either (is_about row.path row.place first) (is_told rows row) none in
    (any_more (is_about first.path first.place) rows row a.0 (about_turned row first parts.0), apart_more rows row a.1 parts.1)

zip_more : {A B : Type 0} (R : A → B → Type 0) (xs : List A) (ys : List B) (x : A) (y : B) → AllZip R xs ys → R x y → AllZip R (xs ++ x ∷ []) (ys ++ y ∷ [])
zip_more R [] [] x y all r = (r, tt)
zip_more R [] (b ∷ ys) x y all r = absurd all
zip_more R (a ∷ xs) [] x y all r = absurd all
zip_more R (a ∷ xs) (b ∷ ys) x y all r = (all.0, zip_more R xs ys x y all.1 r)

pub row_more : (before : List (List ℕ)) (line : List ℕ) (old new : List Row) (row : Row) → is_passed_over line ≡ false → Says line row → AddsRow row old new → SayRows before old → SayRows (before ++ line ∷ []) new
row_more before line old new row e says adds say =
    let P : List Row → Type 0 = λ t. SayRows (before ++ line ∷ []) t in
    let Q : List (List ℕ) → Type 0 = λ t. AllZip Says t (old ++ row ∷ []) in
    subst P (sym adds.added) (record {
      said = subst Q (sym (said_more before line false e)) (zip_more Says (said_lines before) old line row say.said says);
      apart = apart_more old row say.apart adds.apart;
    })

-- a line with a row is taken or has a fault
pub takes_row : (result : Result Unit LineFault) (line : List ℕ) (row : Row) (old new : List Row) → is_passed_over line ≡ false → Says line row → TakesRowOr result row old new → TakesOr result line old new
takes_row (Ok done) line row old new e says takes = λ before say. row_more before line old new row e says takes say
takes_row (Err fault.Outside) line row old new e says takes = record { said = e; fault = inr (record { row = row; says = says; told = takes }) }
takes_row (Err fault.NoMemory) line row old new e says takes = tt

-- what is kept under a key is what a row tells
abbrev pub key_of : Row → Key
key_of row = record { path = row.path; place = row.place }

pub told_by_lookup : (entries : List (Key × ℕ)) (row : Row) → is_some (lookup (keys.same (key_of row)) entries) ≡ is_told (rows_of entries) row
told_by_lookup [] row = refl
told_by_lookup (entry ∷ entries) row = cases (keys.same (key_of row) entry.0) (told_by_lookup entries row)
  where
    cases : (b : Bool) → is_some (lookup (keys.same (key_of row)) entries) ≡ is_told (rows_of entries) row → is_some (cond b (Some entry.1) (lookup (keys.same (key_of row)) entries)) ≡ (b || is_told (rows_of entries) row)
    cases true e = refl
    cases false e = e

pub weight_by_lookup : (entries : List (Key × ℕ)) (path : List (List ℕ)) (place : ℕ) → unwrap_or (lookup (keys.same (record { path = path; place = place })) entries) 0 ≡ weight_at (rows_of entries) path place
weight_by_lookup [] path place = refl
weight_by_lookup (entry ∷ entries) path place = cases (keys.same (record { path = path; place = place }) entry.0) (weight_by_lookup entries path place)
  where
    cases : (b : Bool) → unwrap_or (lookup (keys.same (record { path = path; place = place })) entries) 0 ≡ weight_at (rows_of entries) path place → unwrap_or (cond b (Some entry.1) (lookup (keys.same (record { path = path; place = place })) entries)) 0 ≡ option_map_or (λ (row : Row). row.count) (cond b (Some (row_of entry)) (find (is_about path place) (rows_of entries))) 0
    cases true e = refl
    cases false e = e

none_of : (found : Option ℕ) → is_some found ≡ false → found ≡ None
none_of None e = refl
none_of (Some n) e = absurd (false≢true (sym e))

pub row_added : {S : Type 0} (old new : IndexMap Key ℕ S) (row : Row) → is_some (get keys.same old (key_of row)) ≡ false → new.entries ≡ insert_entry keys.same old.entries (key_of row) row.count → AddsRow row (rows_of old.entries) (rows_of new.entries)
row_added old new row none put = record {
  added = ap rows_of (put ∙ insert_entry-new keys.same old (key_of row) row.count (none_of (get keys.same old (key_of row)) none)) ∙ map-append row_of old.entries ((key_of row, row.count) ∷ []);
  apart = sym (told_by_lookup old.entries row) ∙ none;
}

-- words behind the third
fields_some : (text : List ℕ) → fields_of text ≡ [] → ⊥
unfolding fields_of
fields_some [] e = cc
fields_some (x ∷ text) e = cases (is_space x) (slice_split is_space text) e
  where
    cases : (b : Bool) (parts : List (List ℕ)) → cond b ([] ∷ parts) (onto_first x parts) ≡ [] → ⊥
    cases true parts e = cc
    cases false [] e = cc
    cases false (part ∷ parts) e = cc

pub record HasRest (text word : List ℕ) : Type 0 where
  pub rest : List ℕ
  pub is : fields_of text ≡ word ∷ fields_of rest

pub has_rest : (found : Option (Bor (List ℕ))) (text word : List ℕ) → is_some found ≡ true → IfSome found (λ rest. fields_of text ≡ word ∷ fields_of rest.now) → HasRest text word
has_rest None text word e h = absurd (false≢true e)
has_rest (Some rest) text word e h = record { rest = rest.now; is = h }

pub too_many : (line one two a b : List ℕ) (c : List ℕ) → fields_of line ≡ a ∷ fields_of one → fields_of one ≡ b ∷ fields_of two → HasRest two c → NoWords line
too_many line one two a b c first second third path place count e =
    fields_some third.rest (tail_of (fields_of third.rest) (sym (first ∙ ap (λ t. a ∷ t) (second ∙ ap (λ t. b ∷ t) third.is)) ∙ e))
  where
    tail_of : (rest : List (List ℕ)) → a ∷ (b ∷ (c ∷ rest)) ≡ path ∷ (place ∷ (count ∷ [])) → rest ≡ []
    tail_of rest e = cc
