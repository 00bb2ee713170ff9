-- Lists as replies, and the names of the rulesets right below a path.
use Rattle.std.proofs.Common.{◌≡◌, ℕ, ◌+◌, ◌<◌, Bool, true, false, cond, not, T, List, [], ◌∷◌, ◌++◌, map, length, Option, Some, None, zero, suc, refl, sym, ap, subst, ◌∙◌, append_assoc, arith, if◌then◌else◌}
use Rattle.std.proofs.lemmas.Bool.{and_parts, false≢true}
use Rattle.std.specs.Cmp.{tied_itself}
use Rattle.std.specs.FinMap as fin
use Rattle.std.specs.FinMap.{is_sorted}
use Rattle.std.specs.FinMap.Entries.{below_all}
use Rattle.std.specs.List.{filter, filter_map, find, range_with_len}
use Rattle.std.specs.Ordering.{is_lt, ordering_reverse}
use Rattle.std.specs.declared.cmp.Ordering.{Ordering}
use Rattle.std.specs.declared.cmp.Ordering.TheVariants.{Less, Equal, Greater}
use Rattle.pf_base.specs.Path.{is_reserved}
use Rattle.pf_eval.specs.Rulesets.{Rulesets}
use Rattle.pf_eval.specs.Steps.{names_after}
use Rattle.pf_reply.specs.Replies as replies
use Rattle.pf_reply.specs.declared.reply.Listing.{Listing}
use Rattle.pf_reply.specs.declared.reply.Reply.TheVariants.{Listed}
use Rattle.pf_rule.specs.declared.rule.Rule.{Rule}
use Rattle.pf_runs.specs.Runs.{reply_text}
use Rattle.pf_script.specs.declared.command.Show.{Show}
use Rattle.pf_script.specs.declared.command.Show.TheVariants as shows
use Rattle.pf_shelf.specs.declared.decl.Shelved.{Shelved}
use Rattle.pf_show.specs.Shelves.{declared_line}
use Rattle.pf_show.specs.Skipping.{skip_line, skip_lines}
use Rattle.pf_state.specs.declared.machine.Machine.{Machine}
use Rattle.pf_tree.specs.GrownLaws.{name_total}
use Rattle.pf_tree.specs.Order.{name_cmp}
use Rattle.pf_tree.specs.Paths.{child_names, is_after, name_behind}
use Rattle.pf_engine.specs.ShowLines.{lines_of_tables, show}
use Rattle.pf_engine.specs.Steps.{list_text}

none_more : (text : List ℕ) → text ++ [] ≡ text
none_more [] = refl
none_more (byte ∷ text) = ap (λ (rest : List ℕ). byte ∷ rest) (none_more text)

-- a list of lines behind its first line
pub list_is : (listing : Listing) (count : ℕ) (lines : List (List ℕ)) (head all : List ℕ)
    → head ≡ reply_text (replies.reply_text (Listed listing count) ∷ []) → all ≡ head ++ reply_text lines → count ≡ length lines
    → all ≡ reply_text (list_text listing lines)
list_is listing count lines head all h a n =
    a ∙ ap (λ (t : List ℕ). t ++ reply_text lines) (h ∙ none_more (replies.reply_text (Listed listing count) ++ 10 ∷ []))
    ∙ ap (λ (k : ℕ). (replies.reply_text (Listed listing k) ++ 10 ∷ []) ++ reply_text lines) n

-- ---- the child names behind one, in byte order

-- entries, of which the names alone count
abbrev Entries : Type 0
Entries = List (List ℕ × Unit {0})

abbrev names_of : Entries → List (List ℕ)
names_of entries = map (λ (e : List ℕ × Unit {0}). e.0) entries

is_so : (b : Bool) → T b → b ≡ true
is_so true h = refl
is_so false h = absurd h

less_is : (o : Ordering) → is_lt o ≡ true → o ≡ Less
less_is Less h = refl
less_is Equal h = absurd (false≢true h)
less_is Greater h = absurd (false≢true h)

-- what is behind a name is behind each that stands before it
before_that : (last : Option (List ℕ)) (name next : List ℕ) → is_after last name ≡ true → name_cmp name next ≡ Less → is_after last next ≡ true
before_that None name next h less = refl
before_that (Some first) name next h less =
    ap is_lt (name_total.trans first name next (less_is (name_cmp first name) h) less)

-- a name isn't behind itself, nor behind one that stands behind it
not_itself : (name : List ℕ) → is_after (Some name) name ≡ false
not_itself name = ap is_lt (tied_itself name_total name)

not_before : (name next : List ℕ) → name_cmp name next ≡ Less → is_after (Some next) name ≡ false
not_before name next less = ap is_lt (name_total.antisymm next name ∙ ap ordering_reverse less)

-- all names behind one that passes
all_behind : (last : Option (List ℕ)) (name : List ℕ) (entries : Entries) → is_after last name ≡ true → below_all name_cmp name entries ≡ true → filter (is_after last) (names_of entries) ≡ names_of entries
all_behind last name [] h below = refl
all_behind last name (e ∷ entries) h below =
    let parts = and_parts (is_lt (name_cmp name e.0)) (below_all name_cmp name entries) below in
    ap (λ (b : Bool). cond b (e.0 ∷ filter (is_after last) (names_of entries)) (filter (is_after last) (names_of entries))) (before_that last name e.0 h (less_is (name_cmp name e.0) parts.0))
    ∙ ap (λ (names : List (List ℕ)). e.0 ∷ names) (all_behind last name entries h parts.1)

-- those behind the name itself too
all_after : (name : List ℕ) (entries : Entries) → below_all name_cmp name entries ≡ true → filter (is_after (Some name)) (names_of entries) ≡ names_of entries
all_after name [] below = refl
all_after name (e ∷ entries) below =
    let parts = and_parts (is_lt (name_cmp name e.0)) (below_all name_cmp name entries) below in
    ap (λ (b : Bool). cond b (e.0 ∷ filter (is_after (Some name)) (names_of entries)) (filter (is_after (Some name)) (names_of entries))) parts.0
    ∙ ap (λ (names : List (List ℕ)). e.0 ∷ names) (all_after name entries parts.1)

found_below : (test : List ℕ → Bool) (first name : List ℕ) (entries : Entries) → below_all name_cmp first entries ≡ true → find test (names_of entries) ≡ Some name → name_cmp first name ≡ Less
found_below test first name [] below found = absurd (let none : None ≡ Some name = found in cc)
found_below test first name (e ∷ entries) below found =
    let parts = and_parts (is_lt (name_cmp first e.0)) (below_all name_cmp first entries) below in
    elim (test e.0) as (λ b. cond b (Some e.0) (find test (names_of entries)) ≡ Some name → name_cmp first name ≡ Less) [
      | true ↦ λ found. let same : e.0 ≡ name = cc in subst (λ (n : List ℕ). name_cmp first n ≡ Less) same (less_is (name_cmp first e.0) parts.0)
      | false ↦ λ found. found_below test first name entries parts.1 found
    ] found

-- the first name that is behind one, and those behind it
next_behind : (last : Option (List ℕ)) (name : List ℕ) (entries : Entries) → is_sorted name_cmp entries ≡ true → find (is_after last) (names_of entries) ≡ Some name → filter (is_after last) (names_of entries) ≡ name ∷ filter (is_after (Some name)) (names_of entries)
next_behind last name [] sorted found = absurd (let none : None ≡ Some name = found in cc)
next_behind last name (e ∷ entries) sorted found =
    let parts = and_parts (below_all name_cmp e.0 entries) (is_sorted name_cmp entries) sorted in
    elim (is_after last e.0) as (λ b. is_after last e.0 ≡ b → cond b (Some e.0) (find (is_after last) (names_of entries)) ≡ Some name → cond b (e.0 ∷ filter (is_after last) (names_of entries)) (filter (is_after last) (names_of entries)) ≡ name ∷ cond (is_after (Some name) e.0) (e.0 ∷ filter (is_after (Some name)) (names_of entries)) (filter (is_after (Some name)) (names_of entries))) [
      | true ↦ λ is found.
          let same : e.0 ≡ name = cc in
          subst (λ (n : List ℕ). e.0 ∷ filter (is_after last) (names_of entries) ≡ n ∷ cond (is_after (Some n) e.0) (e.0 ∷ filter (is_after (Some n)) (names_of entries)) (filter (is_after (Some n)) (names_of entries))) same
          (ap (λ (names : List (List ℕ)). e.0 ∷ names)
          (all_behind last e.0 entries is parts.0
          ∙ sym (all_after e.0 entries parts.0)
          ∙ sym (ap (λ (b : Bool). cond b (e.0 ∷ filter (is_after (Some e.0)) (names_of entries)) (filter (is_after (Some e.0)) (names_of entries))) (not_itself e.0))))
      | false ↦ λ is found.
          next_behind last name entries parts.1 found
          ∙ ap (λ (names : List (List ℕ)). name ∷ names)
          (sym (ap (λ (b : Bool). cond b (e.0 ∷ filter (is_after (Some name)) (names_of entries)) (filter (is_after (Some name)) (names_of entries))) (not_before e.0 name (found_below (is_after last) e.0 name entries parts.0 found))))
    ] refl found

none_behind : (test : List ℕ → Bool) (names : List (List ℕ)) → find test names ≡ None → filter test names ≡ []
none_behind test [] found = refl
none_behind test (name ∷ names) found =
    elim (test name) as (λ b. cond b (Some name) (find test names) ≡ None → cond b (name ∷ filter test names) (filter test names) ≡ []) [
      | true ↦ λ found. absurd cc
      | false ↦ λ found. none_behind test names found
    ] found

-- all names are behind none
pub all_names : (names : List (List ℕ)) → names_after None names ≡ names
all_names [] = refl
all_names (name ∷ names) = ap (λ (rest : List (List ℕ)). name ∷ rest) (all_names names)

abbrev pub named : List (List ℕ) → List (List ℕ)
named names = filter (λ (name : List ℕ). not (is_reserved name)) names

module _ (trees : Rulesets) (at : List (List ℕ)) where
  abbrev names : List (List ℕ)
  names = child_names trees at

  no_more : (last : Option (List ℕ)) → find (is_after last) names ≡ None → names_after last names ≡ []
  no_more last found = none_behind (is_after last) names found

  pub one_more : (last : Option (List ℕ)) (name : List ℕ) → find (is_after last) names ≡ Some name → names_after last names ≡ name ∷ names_after (Some name) names
  one_more last name found =
      let children = fin.from_entries {R = name_cmp} (map (λ (n : List ℕ). (n, tt {0})) (filter_map (name_behind at) (fin.keys trees))) in
      next_behind last name (fin.entries children) (is_so (is_sorted name_cmp (fin.entries children)) (fin.entries_sorted children)) found

  -- the names so far, and those that are left
  pub name_more : (last : Option (List ℕ)) (name : List ℕ) (so_far more all : List (List ℕ)) → find (is_after last) names ≡ Some name → more ≡ so_far ++ (if is_reserved name then [] else name ∷ []) → so_far ++ named (names_after last names) ≡ all → more ++ named (names_after (Some name) names) ≡ all
  name_more last name so_far more all found m h =
      let rest = named (names_after (Some name) names) in
      ap (λ (ns : List (List ℕ)). ns ++ rest) m
      ∙ append_assoc so_far (if is_reserved name then [] else name ∷ []) rest
      ∙ ap (λ (ns : List (List ℕ)). so_far ++ ns) (chosen (is_reserved name) rest)
      ∙ ap (λ (ns : List (List ℕ)). so_far ++ named ns) (sym (one_more last name found)) ∙ h
    where
      chosen : (b : Bool) (rest : List (List ℕ)) → cond b [] (name ∷ []) ++ rest ≡ cond (not b) (name ∷ rest) rest
      chosen true rest = refl
      chosen false rest = refl

  -- fewer are left
  pub name_less : (last : Option (List ℕ)) (name : List ℕ) → find (is_after last) names ≡ Some name → length (names_after (Some name) names) < length (names_after last names)
  name_less last name found = let e = ap length (one_more last name found) in omega arith

  -- behind the last
  pub names_done : (last : Option (List ℕ)) (so_far all : List (List ℕ)) → find (is_after last) names ≡ None → so_far ++ named (names_after last names) ≡ all → so_far ≡ all
  names_done last so_far all found h =
      sym (nil_more so_far) ∙ ap (λ (ns : List (List ℕ)). so_far ++ named ns) (sym (no_more last found)) ∙ h
    where
      nil_more : (xs : List (List ℕ)) → xs ++ [] ≡ xs
      nil_more [] = refl
      nil_more (x ∷ xs) = ap (λ (rest : List (List ℕ)). x ∷ rest) (nil_more xs)

-- ---- what a `show` line leaves

pub show_stays : (machine : Machine) (what : Show) → machine ≡ (show machine what).machine
show_stays machine (shows.Rules path) = refl
show_stays machine (shows.Written path) = refl
show_stays machine (shows.Tables path) = refl
show_stays machine (shows.Anchors path) = refl
show_stays machine (shows.Skips path) = refl
show_stays machine shows.Queues = refl
show_stays machine shows.Options = refl

pub show_done : (machine : Machine) (what : Show) → false ≡ (show machine what).refused
show_done machine (shows.Rules path) = refl
show_done machine (shows.Written path) = refl
show_done machine (shows.Tables path) = refl
show_done machine (shows.Anchors path) = refl
show_done machine (shows.Skips path) = refl
show_done machine shows.Queues = refl
show_done machine shows.Options = refl

-- ---- where there is no ruleset

no_items : {A : Type 0} (xs : List A) → length xs ≡ 0 → xs ≡ []
no_items [] e = refl
no_items (x ∷ xs) e = absurd (omega arith)

pub no_tables : lines_of_tables None ≡ []
no_tables = ap (λ (entries : List (List ℕ × Shelved)). map (λ (table : List ℕ × Shelved). declared_line table.0 table.1) entries ++ [])
    (no_items (fin.entries (fin.empty {X = Shelved} {R = name_cmp})) (sym (fin.len-entries (fin.empty {X = Shelved} {R = name_cmp})) ∙ fin.len-empty name_cmp Shelved))

-- as many lines of skips as rules
length_places : (n start : ℕ) → length (range_with_len start n) ≡ n
length_places zero start = refl
length_places (suc n) start = ap suc (length_places n (start + 1))

length_of : {A B : Type 0} (f : A → B) (xs : List A) → length (map f xs) ≡ length xs
length_of f [] = refl
length_of f (x ∷ xs) = ap suc (length_of f xs)

pub skips_counted : (rules : List Rule) → length rules ≡ length (skip_lines rules)
skips_counted rules = sym (length_of (skip_line rules) (range_with_len 0 (length rules)) ∙ length_places (length rules) 0)
