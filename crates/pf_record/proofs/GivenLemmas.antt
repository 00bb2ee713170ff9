-- The words of the keys that are given, and the values that are taken from them.
use Rattle.std.proofs.Common.{◌≡◌, ℕ, Bool, true, false, not, List, [], ◌∷◌, ◌++◌, Option, Some, None, length, drop, refl, ap, sym, ◌∙◌, append_assoc, rules, nat_eq, codes}
use Rattle.std.specs.List.{list_any, starts_with}
use Rattle.std.specs.Option.{is_some}
use Rattle.std.proofs.lemmas.Bool.Decides.{Decides-eqb}
use Rattle.std.proofs.lemmas.List.{append-nil}
use Rattle.std.proofs.lemmas.Slice.Eq.{starts_is}
use Rattle.pf_record.specs.Reading.{TakesValue, TakesAll, AreCut, beginnings, behind_first, first_value, is_empty, list_of, rest_behind, values_in}
use Rattle.pf_record.specs.Record.{Values, given, key_words}
use Rattle.pf_record.proofs.KeyLemmas.{TakesAll-more, TakesAll-none}

-- the words of keys with these values
abbrev pub given_all : List (List ℕ) → List (Option (List ℕ)) → List (List ℕ)
given_all [] values = []
given_all (begins ∷ keys) [] = []
given_all (begins ∷ keys) (value ∷ values) = given begins value ++ given_all keys values

pub key_words-all : (v : Values) → key_words v ≡ given_all beginnings (list_of v)
key_words-all v = rw (append-nil (given (codes "tag=") v.tag)) refl

-- ---- words that are given join to those that were read

spelled_test : (begins word : List ℕ) → (b : Bool) → starts_with nat_eq word begins ≡ b → b ≡ true → word ≡ begins ++ drop (length begins) word
spelled_test begins word b h pass = (starts_is Decides-eqb word begins _ (sym h)).0 pass

step : (begins word : List ℕ) (words : List (List ℕ)) (b : Bool) → starts_with nat_eq word begins ≡ b → word ∷ words ≡ given begins (first_value begins (word ∷ words)) ++ behind_first begins (word ∷ words)
step begins word words true h = rw h (ap (λ (w : List ℕ). w ∷ words) (spelled_test begins word true h refl))
step begins word words false h = rw h refl

joined_first : (begins : List ℕ) (words : List (List ℕ)) → words ≡ given begins (first_value begins words) ++ behind_first begins words
joined_first begins [] = refl
joined_first begins (word ∷ words) = step begins word words _ refl

joined_all : (keys words : List (List ℕ)) → words ≡ given_all keys (values_in keys words) ++ rest_behind keys words
joined_all [] words = refl
joined_all (begins ∷ keys) words =
    joined_first begins words
    ∙ ap (λ (rest : List (List ℕ)). given begins (first_value begins words) ++ rest) (joined_all keys (behind_first begins words))
    ∙ sym (append_assoc (given begins (first_value begins words)) _ _)

nothing : (words : List (List ℕ)) → false ≡ not (is_empty words) → words ≡ []
nothing [] h = refl
nothing (word ∷ words) h = absurd cc

-- words of which nothing is left are those of the values
pub key_words-cut : (words : List (List ℕ)) (v : Values) → AreCut words v false → words ≡ key_words v
key_words-cut words v h =
    joined_all beginnings words
    ∙ ap (λ (values : List (Option (List ℕ))). given_all beginnings values ++ rest_behind beginnings words) (sym h.all.taken)
    ∙ ap (λ (rest : List (List ℕ)). given_all beginnings (list_of v) ++ rest) (sym h.all.left ∙ nothing h.rest h.more)
    ∙ append-nil _
    ∙ sym (key_words-all v)

-- ---- the values are taken from the words that are given

-- no word of these keys begins like this
abbrev pub Others : List ℕ → List (List ℕ) → Type 0
Others begins [] = Unit {0}
Others begins (key ∷ keys) = ((text : List ℕ) → starts_with nat_eq (key ++ text) begins ≡ false) × Others begins keys

no_value : (begins : List ℕ) (keys : List (List ℕ)) (values : List (Option (List ℕ))) → Others begins keys → TakesValue begins (given_all keys values) None (given_all keys values)
no_value begins [] values h = record { taken = refl; left = refl }
no_value begins (key ∷ keys) [] h = record { taken = refl; left = refl }
no_value begins (key ∷ keys) (None ∷ values) h = no_value begins keys values h.1
no_value begins (key ∷ keys) (Some text ∷ values) h = record { taken = rw (h.0 text) refl; left = rw (h.0 text) refl }

own_value : (begins text : List ℕ) (words : List (List ℕ)) → starts_with nat_eq (begins ++ text) begins ≡ true → drop (length begins) (begins ++ text) ≡ text → TakesValue begins (given begins (Some text) ++ words) (Some text) words
own_value begins text words h behind = record { taken = rw (h, behind) refl; left = rw h refl }

-- the words of keys that are given have these values, where no other key begins like one
abbrev pub Apart : List (List ℕ) → Type 0
Apart [] = Unit {0}
Apart (begins ∷ keys) = Others begins keys × ((text : List ℕ) → starts_with nat_eq (begins ++ text) begins ≡ true) × ((text : List ℕ) → drop (length begins) (begins ++ text) ≡ text) × Apart keys

-- as many values as keys
abbrev pub SameLength : List (List ℕ) → List (Option (List ℕ)) → Type 0
SameLength [] [] = Unit {0}
SameLength [] (value ∷ values) = ⊥
SameLength (begins ∷ keys) [] = ⊥
SameLength (begins ∷ keys) (value ∷ values) = SameLength keys values

pub TakesAll-given : (keys : List (List ℕ)) (values : List (Option (List ℕ))) → SameLength keys values → Apart keys → TakesAll keys (given_all keys values) values []
TakesAll-given [] [] h apart = TakesAll-none []
TakesAll-given [] (value ∷ values) h apart = absurd h
TakesAll-given (begins ∷ keys) [] h apart = absurd h
TakesAll-given (begins ∷ keys) (None ∷ values) h apart =
    TakesAll-more (no_value begins keys values apart.0) (TakesAll-given keys values h apart.3)
TakesAll-given (begins ∷ keys) (Some text ∷ values) h apart =
    TakesAll-more (own_value begins text _ (apart.1 text) (apart.2 text)) (TakesAll-given keys values h apart.3)

-- no key of a record begins like another
beginnings_apart : Apart beginnings
beginnings_apart = search rules

pub AreCut-key_words : (v : Values) → AreCut (key_words v) v false
AreCut-key_words v = record {
  rest = [];
  all = rw (key_words-all v) (TakesAll-given beginnings (list_of v) tt beginnings_apart);
  more = refl;
}

-- ---- whether a key stands among the words that are given

abbrev pub stands : List ℕ → List (List ℕ) → Bool
stands begins words = list_any (λ word. starts_with nat_eq word begins) words

stands_none : (begins : List ℕ) (keys : List (List ℕ)) (values : List (Option (List ℕ))) → Others begins keys → stands begins (given_all keys values) ≡ false
stands_none begins [] values h = refl
stands_none begins (key ∷ keys) [] h = refl
stands_none begins (key ∷ keys) (None ∷ values) h = stands_none begins keys values h.1
stands_none begins (key ∷ keys) (Some text ∷ values) h = rw (h.0 text) (stands_none begins keys values h.1)

stands_own : (begins : List ℕ) (keys : List (List ℕ)) (value : Option (List ℕ)) (values : List (Option (List ℕ))) → ((text : List ℕ) → starts_with nat_eq (begins ++ text) begins ≡ true) → Others begins keys → stands begins (given_all (begins ∷ keys) (value ∷ values)) ≡ is_some value
stands_own begins keys None values own h = stands_none begins keys values h
stands_own begins keys (Some text) values own h = rw (own text) refl

stands_later : (begins key : List ℕ) (keys : List (List ℕ)) (value : Option (List ℕ)) (values : List (Option (List ℕ))) → ((text : List ℕ) → starts_with nat_eq (key ++ text) begins ≡ false) → stands begins (given_all (key ∷ keys) (value ∷ values)) ≡ stands begins (given_all keys values)
stands_later begins key keys None values other = refl
stands_later begins key keys (Some text) values other = rw (other text) refl

pub stands-sport : (v : Values) → stands (codes "sport=") (key_words v) ≡ is_some v.sport
stands-sport v =
    rw (key_words-all v) (stands_own (codes "sport=") (drop 1 beginnings) v.sport (drop 1 (list_of v)) (λ text. refl) beginnings_apart.0)

pub stands-dport : (v : Values) → stands (codes "dport=") (key_words v) ≡ is_some v.dport
stands-dport v =
    rw (key_words-all v)
    (stands_later (codes "dport=") (codes "sport=") (drop 1 beginnings) v.sport (drop 1 (list_of v)) (λ text. refl)
    ∙ stands_own (codes "dport=") (drop 2 beginnings) v.dport (drop 2 (list_of v)) (λ text. refl) beginnings_apart.3.0)

pub stands-icmptype : (v : Values) → stands (codes "icmptype=") (key_words v) ≡ is_some v.icmptype
stands-icmptype v =
    rw (key_words-all v)
    (stands_later (codes "icmptype=") (codes "sport=") (drop 1 beginnings) v.sport (drop 1 (list_of v)) (λ text. refl)
    ∙ stands_later (codes "icmptype=") (codes "dport=") (drop 2 beginnings) v.dport (drop 2 (list_of v)) (λ text. refl)
    ∙ stands_later (codes "icmptype=") (codes "flags=") (drop 3 beginnings) v.flags (drop 3 (list_of v)) (λ text. refl)
    ∙ stands_own (codes "icmptype=") (drop 4 beginnings) v.icmptype (drop 4 (list_of v)) (λ text. refl) beginnings_apart.3.3.3.0)

pub stands-code : (v : Values) → stands (codes "code=") (key_words v) ≡ is_some v.code
stands-code v =
    rw (key_words-all v)
    (stands_later (codes "code=") (codes "sport=") (drop 1 beginnings) v.sport (drop 1 (list_of v)) (λ text. refl)
    ∙ stands_later (codes "code=") (codes "dport=") (drop 2 beginnings) v.dport (drop 2 (list_of v)) (λ text. refl)
    ∙ stands_later (codes "code=") (codes "flags=") (drop 3 beginnings) v.flags (drop 3 (list_of v)) (λ text. refl)
    ∙ stands_later (codes "code=") (codes "icmptype=") (drop 4 beginnings) v.icmptype (drop 4 (list_of v)) (λ text. refl)
    ∙ stands_own (codes "code=") (drop 5 beginnings) v.code (drop 5 (list_of v)) (λ text. refl) beginnings_apart.3.3.3.3.0)
