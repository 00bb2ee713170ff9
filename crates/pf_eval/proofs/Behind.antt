-- The child names behind one, in byte order.
use Rattle.std.proofs.Common.{◌≡◌, ℕ, ◌+◌, cond, Bool, true, false, not, T, List, [], ◌∷◌, ◌++◌, map, Option, Some, None, refl, sym, ap, ◌∙◌, subst, arith, if◌then◌else◌}
use Rattle.std.proofs.lemmas.Bool.{and_parts, false≢true}
use Rattle.std.specs.Cmp.{tied_itself}
use Rattle.std.specs.FinMap as fin
use Rattle.std.specs.FinMap.{is_sorted}
use Rattle.std.specs.FinMap.Entries.{below_all}
use Rattle.std.specs.List.{filter, filter_map, find}
use Rattle.std.specs.Ordering.{is_lt, ordering_reverse}
use Rattle.std.specs.declared.cmp.Ordering.{Ordering}
use Rattle.std.specs.declared.cmp.Ordering.TheVariants.{Less, Equal, Greater}
use Rattle.pf_base.specs.Path.{is_reserved}
use Rattle.pf_eval.specs.Chain.{tests_below}
use Rattle.pf_eval.specs.Rulesets.{Rulesets}
use Rattle.pf_eval.specs.Steps.{names_after}
use Rattle.pf_eval.specs.World.{Walker, each_child, has_stopped}
use Rattle.pf_tree.specs.GrownLaws.{name_total}
use Rattle.pf_tree.specs.Order.{name_cmp}
use Rattle.pf_tree.specs.Paths.{child_names, is_after, name_behind}

-- entries, of which the names alone count
abbrev Entries : Type 0
Entries = List (List ℕ × Unit {0})

abbrev names_of : Entries → List (List ℕ)
names_of entries = map (λ (e : List ℕ × Unit {0}). e.0) entries

is_so : (b : Bool) → T b → b ≡ true
is_so true h = refl
is_so false h = absurd h

less_is : (o : Ordering) → is_lt o ≡ true → o ≡ Less
less_is Less h = refl
less_is Equal h = absurd (false≢true h)
less_is Greater h = absurd (false≢true h)

-- what is behind a name is behind each that stands before it
before_that : (last : Option (List ℕ)) (name next : List ℕ) → is_after last name ≡ true → name_cmp name next ≡ Less → is_after last next ≡ true
before_that None name next h less = refl
before_that (Some first) name next h less =
    ap is_lt (name_total.trans first name next (less_is (name_cmp first name) h) less)

-- a name isn't behind itself, nor behind one that stands behind it
not_itself : (name : List ℕ) → is_after (Some name) name ≡ false
not_itself name = ap is_lt (tied_itself name_total name)

not_before : (name next : List ℕ) → name_cmp name next ≡ Less → is_after (Some next) name ≡ false
not_before name next less = ap is_lt (name_total.antisymm next name ∙ ap ordering_reverse less)

-- all names behind one that passes
all_behind : (last : Option (List ℕ)) (name : List ℕ) (entries : Entries) → is_after last name ≡ true → below_all name_cmp name entries ≡ true → filter (is_after last) (names_of entries) ≡ names_of entries
all_behind last name [] h below = refl
all_behind last name (e ∷ entries) h below =
    let parts = and_parts (is_lt (name_cmp name e.0)) (below_all name_cmp name entries) below in
    ap (λ (b : Bool). cond b (e.0 ∷ filter (is_after last) (names_of entries)) (filter (is_after last) (names_of entries))) (before_that last name e.0 h (less_is (name_cmp name e.0) parts.0))
    ∙ ap (λ (names : List (List ℕ)). e.0 ∷ names) (all_behind last name entries h parts.1)

-- those behind the name itself too
all_after : (name : List ℕ) (entries : Entries) → below_all name_cmp name entries ≡ true → filter (is_after (Some name)) (names_of entries) ≡ names_of entries
all_after name [] below = refl
all_after name (e ∷ entries) below =
    let parts = and_parts (is_lt (name_cmp name e.0)) (below_all name_cmp name entries) below in
    ap (λ (b : Bool). cond b (e.0 ∷ filter (is_after (Some name)) (names_of entries)) (filter (is_after (Some name)) (names_of entries))) parts.0
    ∙ ap (λ (names : List (List ℕ)). e.0 ∷ names) (all_after name entries parts.1)

found_below : (test : List ℕ → Bool) (first name : List ℕ) (entries : Entries) → below_all name_cmp first entries ≡ true → find test (names_of entries) ≡ Some name → name_cmp first name ≡ Less
found_below test first name [] below found = absurd (let none : None ≡ Some name = found in cc)
found_below test first name (e ∷ entries) below found =
    let parts = and_parts (is_lt (name_cmp first e.0)) (below_all name_cmp first entries) below in
    elim (test e.0) as (λ b. cond b (Some e.0) (find test (names_of entries)) ≡ Some name → name_cmp first name ≡ Less) [
      | true ↦ λ found. let same : e.0 ≡ name = cc in subst (λ (n : List ℕ). name_cmp first n ≡ Less) same (less_is (name_cmp first e.0) parts.0)
      | false ↦ λ found. found_below test first name entries parts.1 found
    ] found

-- the first name that is behind one, and those behind it
next_behind : (last : Option (List ℕ)) (name : List ℕ) (entries : Entries) → is_sorted name_cmp entries ≡ true → find (is_after last) (names_of entries) ≡ Some name → filter (is_after last) (names_of entries) ≡ name ∷ filter (is_after (Some name)) (names_of entries)
next_behind last name [] sorted found = absurd (let none : None ≡ Some name = found in cc)
next_behind last name (e ∷ entries) sorted found =
    let parts = and_parts (below_all name_cmp e.0 entries) (is_sorted name_cmp entries) sorted in
    elim (is_after last e.0) as (λ b. is_after last e.0 ≡ b → cond b (Some e.0) (find (is_after last) (names_of entries)) ≡ Some name → cond b (e.0 ∷ filter (is_after last) (names_of entries)) (filter (is_after last) (names_of entries)) ≡ name ∷ cond (is_after (Some name) e.0) (e.0 ∷ filter (is_after (Some name)) (names_of entries)) (filter (is_after (Some name)) (names_of entries))) [
      | true ↦ λ is found.
          let same : e.0 ≡ name = cc in
          subst (λ (n : List ℕ). e.0 ∷ filter (is_after last) (names_of entries) ≡ n ∷ cond (is_after (Some n) e.0) (e.0 ∷ filter (is_after (Some n)) (names_of entries)) (filter (is_after (Some n)) (names_of entries))) same
          (ap (λ (names : List (List ℕ)). e.0 ∷ names)
          (all_behind last e.0 entries is parts.0
          ∙ sym (all_after e.0 entries parts.0)
          ∙ sym (ap (λ (b : Bool). cond b (e.0 ∷ filter (is_after (Some e.0)) (names_of entries)) (filter (is_after (Some e.0)) (names_of entries))) (not_itself e.0))))
      | false ↦ λ is found.
          next_behind last name entries parts.1 found
          ∙ ap (λ (names : List (List ℕ)). name ∷ names)
          (sym (ap (λ (b : Bool). cond b (e.0 ∷ filter (is_after (Some name)) (names_of entries)) (filter (is_after (Some name)) (names_of entries))) (not_before e.0 name (found_below (is_after last) e.0 name entries parts.0 found))))
    ] refl found

none_behind : (test : List ℕ → Bool) (names : List (List ℕ)) → find test names ≡ None → filter test names ≡ []
none_behind test [] found = refl
none_behind test (name ∷ names) found =
    elim (test name) as (λ b. cond b (Some name) (find test names) ≡ None → cond b (name ∷ filter test names) (filter test names) ≡ []) [
      | true ↦ λ found. absurd cc
      | false ↦ λ found. none_behind test names found
    ] found

-- all names are behind none
pub all_names : (names : List (List ℕ)) → names_after None names ≡ names
all_names [] = refl
all_names (name ∷ names) = ap (λ (rest : List (List ℕ)). name ∷ rest) (all_names names)

module _ (trees : Rulesets) (at : List (List ℕ)) where
  abbrev names : List (List ℕ)
  names = child_names trees at

  pub no_more : (last : Option (List ℕ)) → find (is_after last) names ≡ None → names_after last names ≡ []
  no_more last found = none_behind (is_after last) names found

  pub one_more : (last : Option (List ℕ)) (name : List ℕ) → find (is_after last) names ≡ Some name → names_after last names ≡ name ∷ names_after (Some name) names
  one_more last name found =
      let children = fin.from_entries {R = name_cmp} (map (λ (n : List ℕ). (n, tt {0})) (filter_map (name_behind at) (fin.keys trees))) in
      next_behind last name (fin.entries children) (is_so (is_sorted name_cmp (fin.entries children)) (fin.entries_sorted children)) found

-- the walk of the children that are left
module _ {W : Type 0} (by : Walker W) (call : List (List ℕ) → W → W) (tests : List (List ℕ) → W → ℕ) (at : List (List ℕ)) (walk : W) where
  abbrev named : List (List ℕ) → List (List ℕ)
  named names = filter (λ (name : List ℕ). not (is_reserved name)) names

  pub stopped_children : (names : List (List ℕ)) → has_stopped by walk ≡ true → each_child by call at names walk ≡ walk
  stopped_children [] stop = refl
  stopped_children (name ∷ names) stop = ap (λ (b : Bool). cond b walk (each_child by call at names (call (at ++ name ∷ []) walk))) stop

  pub stopped_below : (names : List (List ℕ)) → has_stopped by walk ≡ true → tests_below by call tests at names walk ≡ 0
  stopped_below [] stop = refl
  stopped_below (name ∷ names) stop =
      ap (λ (b : Bool). cond b 0 (tests (at ++ name ∷ []) walk + tests_below by call tests at names (call (at ++ name ∷ []) walk))) stop

  pub next_child : (name : List ℕ) (names : List (List ℕ)) → has_stopped by walk ≡ false → each_child by call at (named (name ∷ names)) walk ≡ each_child by call at (named names) (if is_reserved name then walk else call (at ++ name ∷ []) walk)
  next_child name names going =
      elim (is_reserved name) as (λ b. each_child by call at (cond (not b) (name ∷ named names) (named names)) walk ≡ each_child by call at (named names) (cond b walk (call (at ++ name ∷ []) walk))) [
        | true ↦ refl
        | false ↦ ap (λ (b : Bool). cond b walk (each_child by call at (named names) (call (at ++ name ∷ []) walk))) going
      ]

  pub next_below : (name : List ℕ) (names : List (List ℕ)) → has_stopped by walk ≡ false →
      tests_below by call tests at (named (name ∷ names)) walk
      ≡ (if is_reserved name then 0 else tests (at ++ name ∷ []) walk) + tests_below by call tests at (named names) (if is_reserved name then walk else call (at ++ name ∷ []) walk)
  next_below name names going =
      elim (is_reserved name) as (λ b. tests_below by call tests at (cond (not b) (name ∷ named names) (named names)) walk ≡ cond b 0 (tests (at ++ name ∷ []) walk) + tests_below by call tests at (named names) (cond b walk (call (at ++ name ∷ []) walk))) [
        | true ↦ omega arith
        | false ↦ ap (λ (b : Bool). cond b 0 (tests (at ++ name ∷ []) walk + tests_below by call tests at (named names) (call (at ++ name ∷ []) walk))) going
      ]
