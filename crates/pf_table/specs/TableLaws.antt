-- Laws of tables.
use Rattle.std.specs.Prelude.{◌≡◌, ◌++◌, ◌∷◌, [], List, map, Bool, refl}
use Rattle.std.proofs.Common.{ap, ◌∙◌}
use Rattle.std.proofs.lemmas.List.{map-append}
use Rattle.std.specs.FinMap as finite
use Rattle.std.specs.FinMap.{IsAntisymmetric}
use Rattle.std.specs.Ordering.{is_eq}
use Rattle.pf_addr.specs.declared.prefix.Prefix.{Prefix}
use Rattle.pf_addr.specs.PrefixOrder.{prefix_cmp, prefix_cmp-total, prefix_eq-prefix_cmp, prefixes}
use Rattle.pf_table.specs.declared.entry.Entry.{Entry}
use Rattle.pf_table.specs.Table.{Signs, entries_of, entry, paired, table_of, with_entry}
use Rattle.pf_table.specs.Pushed.{entries_back, from_entries_more}

-- prefixes that tie are one
pub prefixes_tie : IsAntisymmetric prefix_cmp
prefixes_tie p q e = (prefixes.decides p q).0 (prefix_eq-prefix_cmp p q ∙ ap is_eq e)

-- the table of a list with one more entry
pub table_more : (es : List Entry) (e : Entry) → table_of (es ++ e ∷ []) ≡ with_entry (table_of es) e
table_more es e =
    ap (λ (t : List (Prefix × Bool)). finite.from_entries {R = prefix_cmp} t) (map-append paired es (e ∷ []))
    ∙ from_entries_more prefix_cmp prefix_cmp-total prefixes_tie (map paired es) e.prefix e.negated

pub paired_back : (es : List (Prefix × Bool)) → map paired (map entry es) ≡ es
paired_back [] = refl
paired_back (e ∷ es) = ap (λ l. e ∷ l) (paired_back es)

-- the table of a table's entries is the table
pub table_back : (m : Signs) → table_of (entries_of m) ≡ m
table_back m =
    ap (λ (t : List (Prefix × Bool)). finite.from_entries {R = prefix_cmp} t) (paired_back (finite.entries m))
    ∙ entries_back prefix_cmp prefix_cmp-total prefixes_tie m
