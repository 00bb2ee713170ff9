-- Changes and loads computed by their definitions.
use Rattle.std.proofs.Common.{◌≡◌, ℕ, Bool, true, false, not, List, [], ◌∷◌, ◌++◌, length, Option, Some, None, Result, Ok, Err, refl, sym, ap, ◌∙◌, arith, lit≤}
use Rattle.std.specs.Prelude.{map, nat_lt, if◌then◌else◌}
use Rattle.std.specs.List.{filter}
use Rattle.std.specs.FinMap as finite
use Rattle.std.specs.FinMap.{find, from_entries, entries-insert, get-from_entries, len-empty, len-entries}
use Rattle.std.specs.FinMap.Entries.{put}
use Rattle.std.specs.declared.cmp.Ordering.{Ordering}
use Rattle.std.specs.Cmp.{IsTotalOrder}
use Rattle.pf_addr.specs.declared.addr.Addr.TheVariants.{V4}
use Rattle.pf_addr.specs.PrefixOrder.{prefix_cmp, prefix_cmp-total}
use Rattle.pf_table.specs.declared.entry.Entry.{Entry}
use Rattle.pf_table.specs.Table.{entries_of, entry, is_sign, paired, table_of}
use Rattle.pf_shelf.specs.declared.change.Counts.{Counts}
use Rattle.pf_shelf.specs.declared.change.TableFault.{TableFault}
use Rattle.pf_shelf.specs.declared.change.TableFault.TheVariants.{Const, Full, Missing}
use Rattle.pf_shelf.specs.declared.change.ChangeKind.TheVariants.{Add, Delete, Flush, Replace}
use Rattle.pf_shelf.specs.declared.decl.TableFlags.{TableFlags}
use Rattle.pf_shelf.specs.declared.decl.TableDecl.{TableDecl}
use Rattle.pf_shelf.specs.declared.decl.Shelved.{Shelved}
use Rattle.pf_shelf.specs.Shelf.{name_cmp}
use Rattle.pf_shelf.specs.Change.{answer, changed, counts, fitted, has_entry, lacking}
use Rattle.pf_shelf.specs.Renewed.{flags_of, persists, renewed, standing}
use Rattle.pf_shelf.proofs.Signed.{get_table, sign_in}
use Rattle.pf_shelf.proofs.Counted.{counts_lost, split_deleted}
use Rattle.pf_shelf.proofs.Totals.{names_total}

no_items : {A : Type 0} (xs : List A) → length xs ≡ 0 → xs ≡ []
no_items [] h = refl
no_items (x ∷ xs) h = absurd (omega arith)

-- the entries of the map of a list, each put in its place
abbrev puts : {K X : Type 0} (R : K → K → Ordering) → List (K × X) → List (K × X)
puts R [] = []
puts R (e ∷ es) = put R e.0 e.1 (puts R es)

entries_put : {K X : Type 0} {R : K → K → Ordering} → IsTotalOrder R → (es : List (K × X)) → finite.entries (from_entries {R = R} es) ≡ puts R es
entries_put {X = X} {R = R} o [] = no_items (finite.entries finite.empty) (sym (len-entries finite.empty) ∙ len-empty R X)
entries_put {R = R} o (e ∷ es) = entries-insert o (from_entries es) e.0 e.1 ∙ ap (put R e.0 e.1) (entries_put o es)

abbrev listed : List Entry → List Entry
listed words = map entry (puts prefix_cmp (map paired words))

listed_is : (words : List Entry) → entries_of (table_of words) ≡ listed words
listed_is words = ap (map entry) (entries_put prefix_cmp-total (map paired words))

len_is : (words : List Entry) → finite.len (table_of words) ≡ length (puts prefix_cmp (map paired words))
len_is words = len-entries (table_of words) ∙ ap length (entries_put prefix_cmp-total (map paired words))

abbrev lacked : List Entry → List Entry → List Entry
lacked xs ys = filter (λ e. not (is_sign (sign_in ys e.prefix) e.negated)) (listed xs)

lacked_is : (xs ys : List Entry) → lacking (table_of xs) (table_of ys) ≡ lacked xs ys
lacked_is xs ys = λ i. filter (λ e. not (is_sign (get_table ys e.prefix i) e.negated)) (listed_is xs i)

abbrev told : List Entry → List Entry → ℕ → Result Counts TableFault
told old new room =
    if nat_lt room (length (puts prefix_cmp (map paired new))) then Err (Full (length (puts prefix_cmp (map paired new)))) else Ok (record { added = length (lacked new old); deleted = length (lacked old new) })

told_is : (old new : List Entry) (room : ℕ) → fitted (table_of old) (table_of new) room ≡ told old new room
told_is old new room = λ i.
    if nat_lt room (len_is new i) then Err (Full (len_is new i)) else Ok (record { added = length (lacked_is new old i); deleted = length (lacked_is old new i) })

-- 10/8, !10.1/16, 10.1/16 and 10.1.2/24
wide : Entry
wide = record { prefix = record { addr = V4 167772160; len = 8; fits = lit≤ tt; no_host_bits = refl }; negated = false }

middle : Entry
middle = record { prefix = record { addr = V4 167837696; len = 16; fits = lit≤ tt; no_host_bits = refl }; negated = true }

turned : Entry
turned = record { prefix = record { addr = V4 167837696; len = 16; fits = lit≤ tt; no_host_bits = refl }; negated = false }

narrow : Entry
narrow = record { prefix = record { addr = V4 167838208; len = 24; fits = lit≤ tt; no_host_bits = refl }; negated = false }

plain : TableFlags
plain = record { persist = false; constant = false; counters = false }

stay : TableFlags
stay = record { persist = true; constant = true; counters = false }

holding : TableFlags → List Entry → Shelved
holding flags words = record { flags = flags; table = table_of words }

-- a shelf without the table
missing : answer None Add (wide ∷ []) 9 ≡ Err Missing
missing = refl

-- a constant table isn't flushed
constant : answer (Some (holding stay (wide ∷ []))) Flush [] 9 ≡ Err Const
unfolding holding stay
constant = refl

-- one more entry in a table of one, with room for one and with room for two
full : answer (Some (holding plain (wide ∷ []))) Add (middle ∷ []) 1 ≡ Err (Full 2)
unfolding holding plain wide middle
full = ap (λ (t : List Entry). fitted (table_of (wide ∷ [])) (table_of (t ++ middle ∷ [])) 1) (listed_is (wide ∷ [])) ∙ told_is (wide ∷ []) (listed (wide ∷ []) ++ middle ∷ []) 1

-- a prefix that is there is passed over, with either sign, and one that the line has twice
added : answer (Some (holding plain (wide ∷ middle ∷ []))) Add (turned ∷ narrow ∷ wide ∷ narrow ∷ []) 3 ≡ Ok (record { added = 1; deleted = 0 })
unfolding holding plain wide middle turned narrow
added =
    ap (λ (t : List Entry). fitted (table_of (wide ∷ middle ∷ [])) (table_of (t ++ turned ∷ narrow ∷ wide ∷ narrow ∷ [])) 3) (listed_is (wide ∷ middle ∷ []))
    ∙ told_is (wide ∷ middle ∷ []) (listed (wide ∷ middle ∷ []) ++ turned ∷ narrow ∷ wide ∷ narrow ∷ []) 3

-- a sign that changes is one entry added and one deleted
replaced : answer (Some (holding plain (wide ∷ middle ∷ []))) Replace (turned ∷ narrow ∷ middle ∷ wide ∷ []) 3 ≡ Ok (record { added = 2; deleted = 1 })
unfolding holding plain wide middle turned narrow
replaced = told_is (wide ∷ middle ∷ []) (turned ∷ narrow ∷ middle ∷ wide ∷ []) 3

-- a word deletes its entry once, and only with the same sign
deleted : counts (table_of (wide ∷ middle ∷ [])) (changed Delete (wide ∷ turned ∷ wide ∷ narrow ∷ []) (table_of (wide ∷ middle ∷ []))) ≡ record { added = 0; deleted = 1 }
unfolding wide middle turned narrow
deleted =
    let words = wide ∷ turned ∷ wide ∷ narrow ∷ [] in
    let old = wide ∷ middle ∷ [] in
    counts_lost (table_of old) (changed Delete words (table_of old)) (table_of (filter (has_entry (table_of old)) words)) (split_deleted (table_of old) (table_of (filter (has_entry (table_of old)) words)) words refl)
    ∙ ap (λ (n : ℕ). record { added = 0; deleted = n }) (ap (λ (t : List Entry). finite.len (table_of t)) (λ i. filter (λ e. is_sign (get_table old e.prefix i) e.negated) words) ∙ len_is (wide ∷ wide ∷ []))

-- what a load leaves under a name
abbrev left_in : List (List ℕ × Shelved) → List TableDecl → List ℕ → Option Shelved
left_in old decls q =
    find name_cmp q
    (map (λ d. (d.name, record { flags = flags_of d; table = if d.filled then table_of d.entries else standing (find name_cmp d.name old) })) decls ++ filter persists (puts name_cmp old))

left_is : (old : List (List ℕ × Shelved)) (decls : List TableDecl) (q : List ℕ) → finite.get (renewed (from_entries old) decls) q ≡ left_in old decls q
left_is old decls q =
    get-from_entries names_total _ q
    ∙ (λ i.
    find name_cmp q
    (map (λ d. (d.name, record { flags = flags_of d; table = if d.filled then table_of d.entries else standing (get-from_entries names_total old d.name i) })) decls
    ++ filter persists (entries_put names_total old i)))

first : List ℕ
first = 116 ∷ []

second : List ℕ
second = 117 ∷ []

shelf : List (List ℕ × Shelved)
shelf = (first, holding plain (wide ∷ [])) ∷ (second, holding stay (middle ∷ [])) ∷ []

declares : List ℕ → Bool → List Entry → TableDecl
declares name filled words = record { name = name; persist = false; constant = false; counters = false; filled = filled; entries = words }

-- a table without braces and file keeps what stands there
keeps : finite.get (renewed (from_entries shelf) (declares first false [] ∷ [])) first ≡ Some (holding plain (wide ∷ []))
unfolding shelf declares first second holding plain stay
keeps = left_is shelf (declares first false [] ∷ []) first

-- one with empty braces is emptied
empties : finite.get (renewed (from_entries shelf) (declares first true [] ∷ [])) first ≡ Some (holding plain [])
unfolding shelf declares first second holding plain stay
empties = left_is shelf (declares first true [] ∷ []) first

-- one that isn't declared goes, and stays with the persist flag
goes : finite.get (renewed (from_entries shelf) []) first ≡ None
unfolding shelf declares first second holding plain stay
goes = left_is shelf [] first

stays : finite.get (renewed (from_entries shelf) []) second ≡ Some (holding stay (middle ∷ []))
unfolding shelf declares first second holding plain stay
stays = left_is shelf [] second
