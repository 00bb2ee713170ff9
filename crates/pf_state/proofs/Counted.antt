-- How many entries stand after a change of one table, and why it is refused.
use Rattle.std.proofs.Common.{◌≡◌, ℕ, ◌+◌, ◌-◌, ◌<◌, ◌≤◌, Bool, true, false, List, [], ◌∷◌, Option, Some, None, refl, sym, ap, subst, ◌∙◌, arith}
use Rattle.std.specs.Prelude.{Result, Ok, Err, is_none, nat_lt, if◌then◌else◌}
use Rattle.std.specs.Option.{option_map}
use Rattle.std.specs.FinMap as finite
use Rattle.std.proofs.lemmas.Bool.Decides.{Decides-ltb, same_from_decides}
use Rattle.pf_optim.specs.declared.node.Node.{Node}
use Rattle.pf_reply.specs.declared.refusal.Refusal.{Refusal}
use Rattle.pf_reply.specs.declared.refusal.Refusal.TheVariants as refusals
use Rattle.pf_shelf.specs.Change.{answer, changed, changed_at, counts, fitted, is_const, with_change as table_with}
use Rattle.pf_shelf.specs.Renewed.{standing}
use Rattle.pf_shelf.specs.Shelf.{Tables, entries_in, name_cmp, total}
use Rattle.pf_shelf.specs.declared.change.ChangeKind.{ChangeKind}
use Rattle.pf_shelf.specs.declared.change.Counts.{Counts}
use Rattle.pf_shelf.specs.declared.change.TableFault.{TableFault}
use Rattle.pf_shelf.specs.declared.change.TableFault.TheVariants.{Const, Full, Missing, NoMemory}
use Rattle.pf_shelf.specs.declared.decl.Shelved.{Shelved}
use Rattle.pf_table.specs.declared.entry.Entry.{Entry}
use Rattle.pf_tree.specs.GrownLaws.{name_same, name_total, path_same, path_total}
use Rattle.pf_state.specs.Limits.{first_of, most_entries, over}
use Rattle.pf_state.specs.Rulesets.{Rulesets, count_entries, tables_in}
use Rattle.pf_state.specs.Tables.{change_counts, change_refusal, changed_rulesets, table_at, with_change}
use Rattle.pf_state.proofs.Sums.{found_within, sum_changed, sum_in, sum_of, sum_of_values}

none_some : (found : Shelved) → None ≡ Some found → ⊥
none_some found e = cc

-- a table that isn't there has no entry
pub none_standing : (found : Option Shelved) → None ≡ option_map (λ (table : Shelved). table.table) found → finite.len (standing found) ≡ 0
none_standing None h = finite.len-empty _ _
none_standing (Some found) h = absurd (nothing found h)
  where
    nothing : (found : Shelved) → None ≡ Some found.table → ⊥
    nothing found e = cc

-- ---- the entries of one ruleset, and of all

abbrev table_count : Shelved → ℕ
table_count found = finite.len found.table

abbrev node_count : Node → ℕ
node_count node = total node.shelf

shelf_sum : (es : List (List ℕ × Shelved)) → entries_in es ≡ sum_of table_count es
shelf_sum [] = refl
shelf_sum (e ∷ es) = ap (λ n. finite.len e.1.table + n) (shelf_sum es)

all_sum : (rulesets : Rulesets) → count_entries rulesets ≡ sum_in path_total path_same node_count rulesets
all_sum rulesets = sum_of_values node_count (finite.entries rulesets)

moved : (a b c d p q : ℕ) → p ≡ a → q ≡ c → a + b ≡ c + d → p + b ≡ q + d
moved a b c d p q e h k = omega arith

within : (a c q : ℕ) → q ≡ c → a ≤ c → a ≤ q
within a c q e h = omega arith

shelf_after : (shelf : Tables) (name : List ℕ) (found : Shelved) → finite.get shelf name ≡ Some found → (new : Shelved) → total (finite.insert shelf name new) + finite.len found.table ≡ total shelf + finite.len new.table
shelf_after shelf name found is new =
    moved _ _ _ _ _ _ (shelf_sum (finite.entries (finite.insert shelf name new))) (shelf_sum (finite.entries shelf)) (sum_changed name_total name_same table_count shelf name found is new)

shelf_within : (shelf : Tables) (name : List ℕ) (found : Shelved) → finite.get shelf name ≡ Some found → finite.len found.table ≤ total shelf
shelf_within shelf name found is = within _ _ _ (shelf_sum (finite.entries shelf)) (found_within name_total name_same table_count shelf name found is)

all_after : (rulesets : Rulesets) (path : List (List ℕ)) (node : Node) → finite.get rulesets path ≡ Some node → (new : Node) → count_entries (finite.insert rulesets path new) + total node.shelf ≡ count_entries rulesets + total new.shelf
all_after rulesets path node is new =
    moved _ _ _ _ _ _ (all_sum (finite.insert rulesets path new)) (all_sum rulesets) (sum_changed path_total path_same node_count rulesets path node is new)

all_within : (rulesets : Rulesets) (path : List (List ℕ)) (node : Node) → finite.get rulesets path ≡ Some node → total node.shelf ≤ count_entries rulesets
all_within rulesets path node is = within _ _ _ (all_sum rulesets) (found_within path_total path_same node_count rulesets path node is)

-- ---- a change of one table

joined : (all shelf table new after whole changed : ℕ) → after ≡ whole → whole + shelf ≡ all + changed → changed + table ≡ shelf + new → after + table ≡ all + new
joined all shelf table new after whole changed e h k = omega arith

two : (a b c : ℕ) → a ≤ b → b ≤ c → a ≤ c
two a b c h k = omega arith

module _ (rulesets : Rulesets) (path : List (List ℕ)) (name : List ℕ) where
  of_node : (node : Node) (found : Shelved) (kind : ChangeKind) (words : List Entry) → finite.get rulesets path ≡ Some node → finite.get node.shelf name ≡ Some found
      → count_entries (changed_rulesets rulesets path name kind words) + finite.len found.table ≡ count_entries rulesets + finite.len (changed kind words found.table)
  of_node node found kind words here has =
      let new : Shelved = record found { table = changed kind words found.table } in
      let shelf : Tables = finite.insert node.shelf name new in
      let same : changed_rulesets rulesets path name kind words ≡ finite.insert rulesets path (record node { shelf = shelf }) =
      ap (with_change rulesets path name kind words) here ∙ ap (λ (tables : Tables). finite.insert rulesets path (record node { shelf = tables })) (ap (table_with node.shelf name kind words) has) in
      joined _ _ _ _ _ _ _ (ap count_entries same) (all_after rulesets path node here (record node { shelf = shelf })) (shelf_after node.shelf name found has new)

  -- the entries of the others stay, and those of the table are those that it has then
  counted_after : (found : Shelved) (kind : ChangeKind) (words : List Entry) → table_at rulesets path name ≡ Some found
      → count_entries (changed_rulesets rulesets path name kind words) + finite.len found.table ≡ count_entries rulesets + finite.len (changed kind words found.table)
  counted_after found kind words is = by_case (finite.get rulesets path) refl is
    where
      by_case : (node : Option Node) → finite.get rulesets path ≡ node → finite.get (tables_in node) name ≡ Some found
          → count_entries (changed_rulesets rulesets path name kind words) + finite.len found.table ≡ count_entries rulesets + finite.len (changed kind words found.table)
      by_case None e h = absurd (none_some found (sym (finite.get-empty name_cmp name) ∙ h))
      by_case (Some node) e h = of_node node found kind words e h

  counted_within : (found : Shelved) → table_at rulesets path name ≡ Some found → finite.len found.table ≤ count_entries rulesets
  counted_within found is = by_case (finite.get rulesets path) refl is
    where
      by_case : (node : Option Node) → finite.get rulesets path ≡ node → finite.get (tables_in node) name ≡ Some found → finite.len found.table ≤ count_entries rulesets
      by_case None e h = absurd (none_some found (sym (finite.get-empty name_cmp name) ∙ h))
      by_case (Some node) e h = two _ _ _ (shelf_within node.shelf name found h) (all_within rulesets path node e)

  -- a table has no more entries than there are
  pub table_within : finite.len (standing (table_at rulesets path name)) ≤ count_entries rulesets
  table_within = by_case (table_at rulesets path name) refl
    where
      by_case : (found : Option Shelved) → table_at rulesets path name ≡ found → finite.len (standing found) ≤ count_entries rulesets
      by_case None e = let none : finite.len (standing None) ≡ 0 = finite.len-empty _ _ in omega arith
      by_case (Some found) e = counted_within found e

-- ---- the refusals of a change, in their order

settle : (after table all new others : ℕ) → after + table ≡ all + new → others + table ≡ all → after ≡ others + new
settle after table all new others h k = omega arith

abbrev answered : Counts → Result Counts TableFault
answered told = Ok told

abbrev faulted : TableFault → Result Counts TableFault
faulted fault = Err fault

ok_err : (told : Counts) (fault : TableFault) → answered told ≡ faulted fault → ⊥
ok_err told fault e = cc

same_told : (told made : Counts) → answered told ≡ answered made → told ≡ made
same_told told made e = cc

full_not_const : (count : ℕ) → faulted (Full count) ≡ faulted Const → ⊥
full_not_const count e = cc

same_full : (count n : ℕ) → faulted (Full count) ≡ faulted (Full n) → count ≡ n
same_full count n e = cc

fits : (constant full : Bool) (told made : Counts) (n : ℕ) → Ok told ≡ (if constant then Err Const else (if full then Err (Full n) else Ok made)) → (constant ≡ false) × ((full ≡ false) × (told ≡ made))
fits true full told made n h = absurd (ok_err told Const h)
fits false true told made n h = absurd (ok_err told (Full n) h)
fits false false told made n h = (refl, (refl, same_told told made h))

overflows : (constant full : Bool) (count n : ℕ) (made : Counts) → Err (Full count) ≡ (if constant then Err Const else (if full then Err (Full n) else Ok made)) → (constant ≡ false) × ((full ≡ true) × (count ≡ n))
overflows true full count n made h = absurd (full_not_const count h)
overflows false true count n made h = (refl, (refl, same_full count n h))
overflows false false count n made h = absurd (ok_err made (Full count) (sym h))

full_not_missing : (count : ℕ) → faulted (Full count) ≡ faulted Missing → ⊥
full_not_missing count e = cc

full_never : (count : ℕ) → faulted (Full count) ≡ faulted NoMemory → ⊥
full_never count e = cc

module _ (rulesets : Rulesets) (path : List (List ℕ)) (name : List ℕ) (kind : ChangeKind) (words : List Entry) (others room : ℕ)
    (all : others + finite.len (standing (table_at rulesets path name)) ≡ count_entries rulesets) (left : room + others ≡ 262144) where
  abbrev entries_then : Shelved → ℕ
  entries_then found = finite.len (changed kind words found.table)

  abbrev refused_by : Bool → Bool → ℕ → Option Refusal
  refused_by constant full count = first_of ((if constant then Some (refusals.TableConst name) else None) ∷ ((if full then Some (refusals.TablesFull count) else None) ∷ []))

  refusal_is : (found : Shelved) → table_at rulesets path name ≡ Some found → change_refusal rulesets path name kind words ≡ refused_by found.flags.constant (nat_lt most_entries (others + entries_then found)) (others + entries_then found)
  refusal_is found is =
      let after : count_entries (changed_rulesets rulesets path name kind words) ≡ others + entries_then found =
      settle _ _ _ _ _ (counted_after rulesets path name found kind words is) (ap (λ (o : Option Shelved). others + finite.len (standing o)) (sym is) ∙ all) in
      λ i. first_of ((if is_none (is i) then Some (refusals.TableMissing name) else None) ∷ ((if is_const (is i) then Some (refusals.TableConst name) else None) ∷ (over most_entries (after i) (refusals.TablesFull (after i)) ∷ [])))

  -- too many for the room are too many for all
  too_many : (n : ℕ) → nat_lt most_entries (others + n) ≡ nat_lt room n
  too_many n = same_from_decides _ _ (Decides-ltb most_entries (others + n))
      (λ h. let more : room < n = (Decides-ltb room n).0 h in omega arith, λ (h : most_entries < others + n). (Decides-ltb room n).1 (omega arith))

  pub allowed : (told : Counts) → Ok told ≡ answer (table_at rulesets path name) kind words room → (change_refusal rulesets path name kind words ≡ None) × (told ≡ change_counts rulesets path name kind words)
  allowed told h = by_case (table_at rulesets path name) refl h
    where
      by_case : (found : Option Shelved) → table_at rulesets path name ≡ found → Ok told ≡ answer found kind words room → (change_refusal rulesets path name kind words ≡ None) × (told ≡ change_counts rulesets path name kind words)
      by_case None e h = absurd (ok_err told Missing h)
      by_case (Some found) e h =
          let new = changed kind words found.table in
          let is = fits found.flags.constant (nat_lt room (finite.len new)) told (counts found.table new) (finite.len new) h in (
            refusal_is found e ∙ (λ i. refused_by (is.0 i) ((too_many (finite.len new) ∙ is.1.0) i) (others + finite.len new)),
            is.1.1 ∙ ap (λ (o : Option Shelved). counts (standing o) (changed kind words (standing o))) (sym e),
          )

  too_full : (count : ℕ) → Err (Full count) ≡ answer (table_at rulesets path name) kind words room → change_refusal rulesets path name kind words ≡ Some (refusals.TablesFull (others + count))
  too_full count h = by_case (table_at rulesets path name) refl h
    where
      by_case : (found : Option Shelved) → table_at rulesets path name ≡ found → Err (Full count) ≡ answer found kind words room → change_refusal rulesets path name kind words ≡ Some (refusals.TablesFull (others + count))
      by_case None e h = absurd (full_not_missing count h)
      by_case (Some found) e h =
          let new = changed kind words found.table in
          let is = overflows found.flags.constant (nat_lt room (finite.len new)) count (finite.len new) (counts found.table new) h in
          refusal_is found e ∙ (λ i. refused_by (is.0 i) ((too_many (finite.len new) ∙ is.1.0) i) (others + sym is.1.1 i))

  -- the same of a fault that is told to be this one
  pub full_is : (fault : TableFault) (count : ℕ) → fault ≡ Full count → ((faulted fault ≡ faulted NoMemory → ⊥) → faulted fault ≡ answer (table_at rulesets path name) kind words room)
      → change_refusal rulesets path name kind words ≡ Some (refusals.TablesFull (others + count))
  full_is fault count is h = too_full count (ap faulted (sym is) ∙ h (λ e. full_never count (ap faulted (sym is) ∙ e)))

-- ---- the code's differences

pub no_more : (len all t c : ℕ) → len ≡ t → all ≡ c → t ≤ c → len ≤ all
no_more len all t c e h k = omega arith

pub parted : (len all t c : ℕ) → len ≡ t → all ≡ c → t ≤ c → (all - len) + t ≡ c
parted len all t c e h k = omega arith

pub room_left : (len all c : ℕ) → all ≡ c → c ≤ 262144 → (262144 - (all - len)) + (all - len) ≡ 262144
room_left len all c h k = omega arith

pub never_none : (told : Counts) (fault : TableFault) → answered told ≡ faulted fault → ⊥
never_none = ok_err
