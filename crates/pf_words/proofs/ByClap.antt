-- What clap's contract says of the program's command, in the words of the definition.
use Rattle.std.proofs.Common.{◌≡◌, ◌≢◌, ℕ, true, List, [], ◌∷◌, Option, None, Result, Ok, Err, inl, inr, refl, ap, sym, subst, ◌∙◌, codes}
use Rattle.clap.specs.Kinds.{HasKind, IsAmong, Kinds}
use Rattle.clap.specs.Words.{App, HasMatchesOf, fault_of, first_of, first_value, found_of, is_simple, kind_of, matches_of, rows_of}
use Rattle.clap.specs.Faults.{is_simple_and_free}
use Rattle.clap.specs.declared.error.Error.{Error}
use Rattle.clap.specs.declared.error.kind.ErrorKind.{ErrorKind}
use Rattle.clap.specs.declared.error.kind.ErrorKind.TheVariants.{OutOfMemory}
use Rattle.clap.specs.declared.parser.matches.ArgMatches.{ArgMatches}
use Rattle.clap.proofs.WalkLemmas.{first_value-rows}
use Rattle.pf_words.specs.Program.{program, refusals_of, value_in}
use Rattle.pf_words.specs.Said.{Task, given_by, given_in, read_unless, said_by, words_read}

our_command : is_simple_and_free program ≡ true
our_command = refl

our_matches : is_simple program ≡ true
our_matches = refl

-- values that are told alike
given_same : (f g : List ℕ → Option (List ℕ)) → ((id : List ℕ) → f id ≡ g id) → given_by f ≡ given_by g
given_same f g same =
    rw (same (codes "file"), same (codes "script"), same (codes "generate"), same (codes "hosts"), same (codes "level"), same (codes "path"), same (codes "profile"), same (codes "define")) refl

value_is : (words : List (List ℕ)) (id : List ℕ) → value_in words id ≡ first_of id (matches_of program words)
unfolding value_in
value_is words id = refl

refusals_are : (words : List (List ℕ)) → refusals_of words ≡ fault_of program words
unfolding refusals_of
refusals_are words = refl

-- where clap takes the words, they say what its values say
pub taken : (app : App) (words : List (List ℕ)) (m : ArgMatches) → app ≡ program → (is_simple_and_free app ≡ true → fault_of app words ≡ []) → HasMatchesOf app words m
    → words_read words ≡ said_by (given_by (first_value (found_of m)))
taken app words m same fine has =
    let fine' : refusals_of words ≡ [] = refusals_are words ∙ ap (λ (a : App). fault_of a words) (sym same) ∙ fine (ap is_simple_and_free same ∙ our_command) in
    let rows : rows_of (found_of m) ≡ matches_of program words = (has (ap is_simple same ∙ our_matches)).0 ∙ ap (λ (a : App). matches_of a words) same in
    let values : given_in words ≡ given_by (first_value (found_of m)) =
    given_same (value_in words) (first_value (found_of m)) (λ id. value_is words id ∙ ap (first_of id) (sym rows) ∙ sym (first_value-rows (found_of m) id)) in
    ap (λ (kinds : Kinds). read_unless kinds (said_by (given_in words))) fine' ∙ ap said_by values

none_left : (kind : ErrorKind) (kinds : Kinds) (said : Option Task) → IsAmong kind kinds → read_unless kinds said ≡ None
none_left kind [] said among = absurd among
none_left kind (x ∷ xs) said among = refl

-- where it refuses them, and memory isn't short, they aren't read
pub refused : (app : App) (words : List (List ℕ)) (e : Error) → app ≡ program → (is_simple_and_free app ≡ true → HasKind (fault_of app words) e) → kind_of e ≢ OutOfMemory
    → words_read words ≡ None
refused app words e same fails enough = go (fails (ap is_simple_and_free same ∙ our_command))
  where
    go : HasKind (fault_of app words) e → words_read words ≡ None
    go (inl short) = absurd (enough short)
    go (inr among) = none_left (kind_of e) (refusals_of words) (said_by (given_in words))
        (subst (λ (kinds : Kinds). IsAmong (kind_of e) kinds) (ap (λ (a : App). fault_of a words) same ∙ sym (refusals_are words)) among)

module _ {A B : Type 0} where
  abbrev err_or : B → Result A B → B
  err_or other (Ok a) = other
  err_or other (Err e) = e

  pub err_same : (x y : B) → ◌≡◌ {A = Result A B} (Err x) (Err y) → x ≡ y
  err_same x y same = ap (err_or x) same
