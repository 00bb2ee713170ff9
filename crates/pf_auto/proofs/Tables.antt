-- What the table of a group has: the addresses of its prefixes.
use Rattle.std.proofs.Common.{◌≡◌, ℕ, Bool, true, false, not, ◌&&◌, ◌||◌, cond, is_some, nat_lt, List, [], ◌∷◌, map, length, Option, Some, None, refl, sym, ap, ◌∙◌, arith}
use Rattle.std.proofs.lemmas.Bool.{and_from, and_parts}
use Rattle.std.specs.FinMap as finite
use Rattle.std.specs.FinMap.Entries.{by_order, put}
use Rattle.std.specs.List.{cons_option, list_all, list_any}
use Rattle.std.specs.Option.{option_map, option_map_or}
use Rattle.std.specs.declared.cmp.Ordering.TheVariants.{Less, Equal, Greater}
use Rattle.pf_addr.specs.Prefix.{contains}
use Rattle.pf_addr.specs.PrefixOrder.{prefix_cmp, prefix_cmp-total}
use Rattle.pf_addr.specs.declared.addr.Addr.{Addr}
use Rattle.pf_addr.specs.declared.prefix.Prefix.{Prefix}
use Rattle.pf_auto.specs.Ends.{prefix_at}
use Rattle.pf_auto.specs.Merged.{entries_at, entry_of, group_table}
use Rattle.pf_auto.specs.declared.place.End.{End}
use Rattle.pf_rule.specs.declared.rule.Rule.{Rule}
use Rattle.pf_table.specs.Table.{entries_of, entry, member, narrower, narrowest, paired, table_of}
use Rattle.pf_table.specs.TableLaws.{prefixes_tie}
use Rattle.pf_table.specs.declared.entry.Entry.{Entry}

abbrev is_positive : Entry → Bool
is_positive e = not e.negated

-- of positive entries the longest that contains an address is positive, and there is one where some entry contains it
narrower_positive : (e : Entry) (o : Option Entry) → is_positive e ≡ true → option_map_or is_positive o true ≡ true → is_positive (narrower e o) ≡ true
narrower_positive e None h k = h
narrower_positive e (Some f) h k = elim (nat_lt e.prefix.len f.prefix.len) as (λ b. is_positive (cond b f e) ≡ true) [ true ↦ k | false ↦ h ]

narrowest_positive : (es : List Entry) (a : Addr) → list_all is_positive es ≡ true → option_map_or is_positive (narrowest es a) true ≡ true
narrowest_positive [] a h = refl
narrowest_positive (e ∷ es) a h =
    let parts = and_parts (is_positive e) (list_all is_positive es) h in
    elim (contains e.prefix a) as (λ b. option_map_or is_positive (cond b (Some (narrower e (narrowest es a))) (narrowest es a)) true ≡ true) [
      | true ↦ narrower_positive e (narrowest es a) parts.0 (narrowest_positive es a parts.1)
      | false ↦ narrowest_positive es a parts.1
    ]

narrowest_found : (es : List Entry) (a : Addr) → is_some (narrowest es a) ≡ list_any (λ e. contains e.prefix a) es
narrowest_found [] a = refl
narrowest_found (e ∷ es) a =
    elim (contains e.prefix a) as (λ b. is_some (cond b (Some (narrower e (narrowest es a))) (narrowest es a)) ≡ (b || list_any (λ e. contains e.prefix a) es)) [
      | true ↦ refl
      | false ↦ narrowest_found es a
    ]

sign_found : (o : Option Entry) → option_map_or is_positive o true ≡ true → option_map_or is_positive o false ≡ is_some o
sign_found None h = refl
sign_found (Some e) h = h

member_positive : (es : List Entry) (a : Addr) → list_all is_positive es ≡ true → member es a ≡ list_any (λ e. contains e.prefix a) es
member_positive es a h = sign_found (narrowest es a) (narrowest_positive es a h) ∙ narrowest_found es a

-- the entries of a finite map that is made of a list
nil_of_length : {A : Type 0} (xs : List A) → length xs ≡ 0 → xs ≡ []
nil_of_length [] e = refl
nil_of_length (x ∷ xs) e = absurd (omega arith)

none_in_empty : finite.entries (finite.empty {X = Bool} {R = prefix_cmp}) ≡ []
none_in_empty = nil_of_length (finite.entries (finite.empty {X = Bool} {R = prefix_cmp})) (sym (finite.len-entries finite.empty) ∙ finite.len-empty prefix_cmp Bool)

or_same : (a r : Bool) → (a || r) ≡ (a || (a || r))
or_same true r = refl
or_same false r = refl

or_swap : (a b r : Bool) → (a || (b || r)) ≡ (b || (a || r))
or_swap true true r = refl
or_swap true false r = refl
or_swap false b r = refl

any_put : (t : Prefix → Bool) (k : Prefix) (v : Bool) (es : List (Prefix × Bool)) → list_any (λ p. t p.0) (put prefix_cmp k v es) ≡ (t k || list_any (λ p. t p.0) es)
any_put t k v [] = refl
any_put t k v (e ∷ es) =
    elim (prefix_cmp k e.0) as (λ r. prefix_cmp k e.0 ≡ r → list_any (λ p. t p.0) (by_order r ((k, v) ∷ e ∷ es) ((e.0, v) ∷ es) (e ∷ put prefix_cmp k v es)) ≡ (t k || (t e.0 || list_any (λ p. t p.0) es))) [
      | Less ↦ λ h. refl
      | Equal ↦ λ h.
          let same = ap t (prefixes_tie k e.0 h) in
          or_same (t e.0) (list_any (λ p. t p.0) es) ∙ ap (λ b. b || (t e.0 || list_any (λ p. t p.0) es)) (sym same)
      | Greater ↦ λ h. ap (λ b. t e.0 || b) (any_put t k v es) ∙ or_swap (t e.0) (t k) (list_any (λ p. t p.0) es)
    ] refl

positive_put : (k : Prefix) (es : List (Prefix × Bool)) → list_all (λ p. not p.1) es ≡ true → list_all (λ p. not p.1) (put prefix_cmp k false es) ≡ true
positive_put k [] h = refl
positive_put k (e ∷ es) h =
    let parts = and_parts (not e.1) (list_all (λ p. not p.1) es) h in
    elim (prefix_cmp k e.0) as (λ r. list_all (λ p. not p.1) (by_order r ((k, false) ∷ e ∷ es) ((e.0, false) ∷ es) (e ∷ put prefix_cmp k false es)) ≡ true) [
      | Less ↦ h
      | Equal ↦ parts.1
      | Greater ↦ and_from (not e.1) (list_all (λ p. not p.1) (put prefix_cmp k false es)) parts.0 (positive_put k es parts.1)
    ]

put_in : (k : Prefix) (v : Bool) (ps : List (Prefix × Bool)) → finite.entries (finite.insert (finite.from_entries {R = prefix_cmp} ps) k v) ≡ put prefix_cmp k v (finite.entries (finite.from_entries {R = prefix_cmp} ps))
put_in k v ps = finite.entries-insert prefix_cmp-total (finite.from_entries ps) k v

any_entries : (t : Prefix → Bool) (es : List Entry) → list_any (λ p. t p.0) (finite.entries (table_of es)) ≡ list_any (λ e. t e.prefix) es
any_entries t [] = ap (list_any (λ p. t p.0)) none_in_empty
any_entries t (e ∷ es) =
    ap (list_any (λ p. t p.0)) (put_in e.prefix e.negated (map paired es))
    ∙ any_put t e.prefix e.negated (finite.entries (table_of es))
    ∙ ap (λ b. t e.prefix || b) (any_entries t es)

positive_entries : (es : List Entry) → list_all is_positive es ≡ true → list_all (λ p. not p.1) (finite.entries (table_of es)) ≡ true
positive_entries [] h = ap (list_all (λ p. not p.1)) none_in_empty
positive_entries (e ∷ es) h =
    let parts = and_parts (is_positive e) (list_all is_positive es) h in
    ap (list_all (λ p. not p.1)) (put_in e.prefix e.negated (map paired es))
    ∙ ap (λ v. list_all (λ p. not p.1) (put prefix_cmp e.prefix v (finite.entries (table_of es)))) (negative e.negated parts.0)
    ∙ positive_put e.prefix (finite.entries (table_of es)) (positive_entries es parts.1)
  where
    negative : (b : Bool) → not b ≡ true → b ≡ false
    negative true k = sym k
    negative false k = refl

any_listed : (t : Prefix → Bool) (ps : List (Prefix × Bool)) → list_any (λ e. t e.prefix) (map entry ps) ≡ list_any (λ p. t p.0) ps
any_listed t [] = refl
any_listed t (p ∷ ps) = ap (λ b. t p.0 || b) (any_listed t ps)

all_listed : (ps : List (Prefix × Bool)) → list_all is_positive (map entry ps) ≡ list_all (λ p. not p.1) ps
all_listed [] = refl
all_listed (p ∷ ps) = ap (λ b. not p.1 && b) (all_listed ps)

-- the prefixes of a group are positive entries
positive_at : (end : End) (group : List (Rule × ℕ)) → list_all is_positive (entries_at end group) ≡ true
positive_at end [] = refl
positive_at end (item ∷ group) =
    elim (prefix_at end item.0) as (λ o. list_all is_positive (cons_option (option_map entry_of o) (entries_at end group)) ≡ true) [
      | None ↦ positive_at end group
      | Some p ↦ positive_at end group
    ]

-- an address is in the table of a group where one of its prefixes contains it
pub table_member : (end : End) (group : List (Rule × ℕ)) (a : Addr) → member (group_table end group) a ≡ list_any (λ e. contains e.prefix a) (entries_at end group)
table_member end group a =
    let es = entries_at end group in
    member_positive (entries_of (table_of es)) a (all_listed (finite.entries (table_of es)) ∙ positive_entries es (positive_at end group))
    ∙ any_listed (λ p. contains p a) (finite.entries (table_of es))
    ∙ any_entries (λ p. contains p a) es
