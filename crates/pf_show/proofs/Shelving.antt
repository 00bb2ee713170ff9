-- The tables of a shelf, found by their names, are its entries.
use Rattle.std.proofs.Common.{◌≡◌, ℕ, Bool, true, false, cond, T, List, [], ◌∷◌, map, Option, Some, refl, ap, ◌∙◌}
use Rattle.std.specs.Prelude.{◌&&◌}
use Rattle.std.specs.Cmp.{tied_itself}
use Rattle.std.specs.Cmp.Lexicographic.{nat_list_cmp_total}
use Rattle.std.specs.FinMap as finite
use Rattle.std.specs.FinMap.{entries_sorted, find, get-entries, is_sorted}
use Rattle.std.specs.FinMap.Entries.{below_all}
use Rattle.std.specs.List.{cons_option, filter_map}
use Rattle.std.specs.Option.{option_map}
use Rattle.std.specs.Ordering.{is_eq, is_lt}
use Rattle.std.specs.declared.cmp.Ordering.{Ordering}
use Rattle.std.specs.declared.cmp.Ordering.TheVariants.{Less, Equal, Greater}
use Rattle.std.specs.Cmp.{IsTotalOrder, eq_by_cmp_equiv}
use Rattle.pf_shelf.specs.Shelf.{Tables, name_cmp}
use Rattle.pf_shelf.specs.declared.decl.Shelved.{Shelved}
use Rattle.pf_show.specs.Shelves.{declared_line, declared_lines, line_at}

names_total : IsTotalOrder name_cmp
names_total = nat_list_cmp_total

lower : (r : Ordering) → T (is_lt r) → is_eq r ≡ false
lower Less h = refl
lower Equal h = absurd h
lower Greater h = absurd h

first : (a b : Bool) → T (a && b) → T a
first true b h = tt
first false b h = h

second : (a b : Bool) → T (a && b) → T b
second true b h = h
second false b h = absurd h

abbrev Entries : Type 0
Entries = List (List ℕ × Shelved)

abbrev names_of : Entries → List (List ℕ)
names_of entries = map (λ (entry : List ℕ × Shelved). entry.0) entries

-- the line of the table of this name among entries
abbrev line_in : Entries → List ℕ → Option (List ℕ)
line_in entries name = option_map (declared_line name) (find name_cmp name entries)

passed : (e : List ℕ × Shelved) (es : Entries) (s : List ℕ × Shelved) → T (is_lt (name_cmp e.0 s.0)) → line_in (e ∷ es) s.0 ≡ line_in es s.0
passed e es s h = ap (λ b. option_map (declared_line s.0) (cond b (Some e.1) (find name_cmp s.0 es))) ((eq_by_cmp_equiv names_total).symm s.0 e.0 ∙ lower (name_cmp e.0 s.0) h)

passed_all : (e : List ℕ × Shelved) (es sub : Entries) → T (below_all name_cmp e.0 sub) → filter_map (line_in (e ∷ es)) (names_of sub) ≡ filter_map (line_in es) (names_of sub)
passed_all e es [] h = refl
passed_all e es (s ∷ sub) h = λ i. cons_option (passed e es s (first _ _ h) i) (passed_all e es sub (second _ _ h) i)

found_all : (es : Entries) → T (is_sorted name_cmp es) → filter_map (line_in es) (names_of es) ≡ map (λ (entry : List ℕ × Shelved). declared_line entry.0 entry.1) es
found_all [] h = refl
found_all (e ∷ es) h = λ i.
    cons_option (option_map (declared_line e.0) (cond (is_eq (tied_itself names_total e.0 i)) (Some e.1) (find name_cmp e.0 es)))
    ((passed_all e es es (first _ _ h) ∙ found_all es (second _ _ h)) i)

-- the tables found by their names
pub found_by_names : (tables : Tables) → filter_map (line_at tables) (finite.keys tables) ≡ declared_lines tables
found_by_names tables =
    (λ i. filter_map (λ (name : List ℕ). option_map (declared_line name) (get-entries tables name i)) (finite.keys tables))
    ∙ found_all (finite.entries tables) (entries_sorted tables)
