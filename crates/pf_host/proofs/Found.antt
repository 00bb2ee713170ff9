-- What is found interface by interface is what is found among all addresses.
use Rattle.std.proofs.Common.{◌≡◌, ℕ, Bool, true, false, cond, ◌&&◌, ◌||◌, not, if◌then◌else◌, List, [], ◌∷◌, ◌++◌, filter, map, refl, sym, ap, ◌∙◌, subst, ⊎_elim}
use Rattle.std.specs.List.{list_all, list_any}
use Rattle.std.specs.Str.{bytes_eq}
use Rattle.std.proofs.lemmas.Bool.{and_from, and_parts, or_cases, or_left, or_right}
use Rattle.std.proofs.lemmas.List.Folds.{list_all-append, list_all-map}
use Rattle.std.proofs.lemmas.List.Elements.{filter-append}
use Rattle.std.proofs.lemmas.List.{append-nil, map-append}
use Rattle.std.proofs.lemmas.Slice.Eq.{bytes_eq-Decides}
use Rattle.std.specs.Cmp.{both_ways, first_so, second_so}
use Rattle.pf_addr.specs.Addr.{same_family}
use Rattle.pf_addr.specs.Prefix.{contains}
use Rattle.pf_addr.specs.declared.addr.Addr.{Addr}
use Rattle.pf_addr.specs.declared.ifaces.DynIf.{DynIf}
use Rattle.pf_addr.specs.declared.parse.Masked.{Masked}
use Rattle.pf_addr.specs.declared.prefix.Prefix.{Prefix}
use Rattle.pf_host.specs.declared.entry.Entry.{Entry}
use Rattle.pf_host.specs.declared.row.Row.{Row}
use Rattle.pf_host.specs.Addresses.{addresses_listed, first_of_each, is_beside, prefix_listed}
use Rattle.pf_host.specs.Kept.{AreKept, holds_own, is_chosen, is_first, shown}
use Rattle.pf_host.specs.Facts.{HostFacts}
use Rattle.pf_host.specs.Queries.{dynamic, is_meant}
use Rattle.pf_host.specs.Rows.{is_listed, values_of}
use Rattle.pf_host.proofs.Firsts.{firsts_grow, firsts_stay}

same_name : (name : List ℕ) → bytes_eq name name ≡ true
same_name name = (bytes_eq-Decides name name).1 refl

-- ---- one test on the values of a name

pub any_of_name : {T : Type 0} (test : T → Bool) (rows : List (Row T)) (name : List ℕ) → list_any test (values_of rows name) ≡ list_any (λ row. bytes_eq row.name name && test row.value) rows
any_of_name test [] name = refl
any_of_name test (row ∷ rows) name =
    elim (bytes_eq row.name name) as (λ b. list_any test (map (λ r. r.value) (if b then row ∷ filter (λ r. bytes_eq r.name name) rows else filter (λ r. bytes_eq r.name name) rows)) ≡ ((b && test row.value) || list_any (λ r. bytes_eq r.name name && test r.value) rows)) [
      | true ↦ ap (λ t. test row.value || t) (any_of_name test rows name)
      | false ↦ any_of_name test rows name
    ]

-- ---- what is listed

-- with `first` the marked ones are listed, and else all
pub chosen_listed : (first : Bool) (rows : List (Row Entry)) → map shown (filter is_first rows) ≡ first_of_each (map shown rows) → map shown (filter (λ row. is_chosen first row.value) rows) ≡ addresses_listed first (map shown rows)
chosen_listed true rows firsts = firsts
chosen_listed false rows firsts = ap (map shown) (all rows)
  where
    all : (rows : List (Row Entry)) → filter (λ row. is_chosen false row.value) rows ≡ rows
    all [] = refl
    all (row ∷ rows) = ap (λ t. row ∷ t) (all rows)

module _ (first : Bool) (pre : Masked → Prefix) where
  -- the prefixes of those that are chosen and meant
  collected_from : (meant : List ℕ → Bool) (rows : List (Row Entry)) → map (λ row. pre row.value.address) (filter (λ row. is_chosen first row.value && meant row.name) rows) ≡ map (λ row. pre row.value) (filter (λ row. meant row.name) (map shown (filter (λ row. is_chosen first row.value) rows)))
  collected_from meant [] = refl
  collected_from meant (row ∷ rows) =
      let more = filter (λ row. is_chosen first row.value && meant row.name) rows in
      let rest = filter (λ row. is_chosen first row.value) rows in
      let later = filter (λ row. meant row.name) (map shown rest) in
      let same = collected_from meant rows in
      elim (is_chosen first row.value) as (λ c. map (λ row. pre row.value.address) (if (c && meant row.name) then row ∷ more else more) ≡ map (λ row. pre row.value) (filter (λ row. meant row.name) (map shown (if c then row ∷ rest else rest)))) [
        | true ↦
            elim (meant row.name) as (λ m. map (λ row. pre row.value.address) (if m then row ∷ more else more) ≡ map (λ row. pre row.value) (if m then shown row ∷ later else later)) [
              | true ↦ ap (λ t. pre row.value.address ∷ t) same
              | false ↦ same
            ]
        | false ↦ same
      ]

  -- a test on those of one name
  held_from : (name : List ℕ) (test : Prefix → Bool) (rows : List (Row Entry)) → list_any (λ row. bytes_eq row.name name && (is_chosen first row.value && test (pre row.value.address))) rows ≡ list_any (λ row. bytes_eq row.name name && test (pre row.value)) (map shown (filter (λ row. is_chosen first row.value) rows))
  held_from name test [] = refl
  held_from name test (row ∷ rows) =
      let more = list_any (λ row. bytes_eq row.name name && (is_chosen first row.value && test (pre row.value.address))) rows in
      let rest = filter (λ row. is_chosen first row.value) rows in
      let same = held_from name test rows in
      elim (is_chosen first row.value) as (λ c. ((bytes_eq row.name name && (c && test (pre row.value.address))) || more) ≡ list_any (λ row. bytes_eq row.name name && test (pre row.value)) (map shown (if c then row ∷ rest else rest))) [
        | true ↦ ap (λ t. (bytes_eq row.name name && test (pre row.value.address)) || t) same
        | false ↦ none (bytes_eq row.name name) more ∙ same
      ]
    where
      none : (b more : Bool) → ((b && false) || more) ≡ more
      none true more = refl
      none false more = refl

-- the prefixes of the addresses that are asked for
pub collected : (first network : Bool) (meant : List ℕ → Bool) (rows : List (Row Entry)) → map shown (filter is_first rows) ≡ first_of_each (map shown rows)
    → map (λ row. prefix_listed network row.value.address) (filter (λ row. is_chosen first row.value && meant row.name) rows) ≡ map (λ row. prefix_listed network row.value) (filter (λ row. meant row.name) (addresses_listed first (map shown rows)))
collected first network meant rows firsts =
    collected_from first (prefix_listed network) meant rows ∙ ap (λ listed. map (λ row. prefix_listed network row.value) (filter (λ row. meant row.name) listed)) (chosen_listed first rows firsts)

-- whether an address is one that is asked for of an interface
pub held : (rows : List (Row Entry)) (what : DynIf) (addr : Addr) (iface : List ℕ) → map shown (filter is_first rows) ≡ first_of_each (map shown rows)
    → list_any (λ entry. is_chosen what.first entry && contains (prefix_listed what.network entry.address) addr) (values_of rows iface) ≡ holds_own (map shown rows) what addr iface
held rows what addr iface firsts =
    any_of_name (λ (entry : Entry). is_chosen what.first entry && contains (prefix_listed what.network entry.address) addr) rows iface
    ∙ held_from what.first (prefix_listed what.network) iface (λ prefix. contains prefix addr) rows
    ∙ ap (list_any (λ row. bytes_eq row.name iface && contains (prefix_listed what.network row.value) addr)) (chosen_listed what.first rows firsts)

-- those of one interface, without their marks
pub own_shown : (rows : List (Row Entry)) (name : List ℕ) → map (λ entry. entry.address) (values_of rows name) ≡ values_of (map shown rows) name
own_shown [] name = refl
own_shown (row ∷ rows) name =
    let rest = filter (λ row. bytes_eq row.name name) rows in
    let later = filter (λ row. bytes_eq row.name name) (map shown rows) in
    elim (bytes_eq row.name name) as (λ b. map (λ entry. entry.address) (map (λ row. row.value) (if b then row ∷ rest else rest)) ≡ map (λ row. row.value) (if b then shown row ∷ later else later)) [
      | true ↦ ap (λ t. row.value.address ∷ t) (own_shown rows name)
      | false ↦ own_shown rows name
    ]

pub map_twice : {A B C : Type 0} (f : A → B) (g : B → C) (xs : List A) → map (λ x. g (f x)) xs ≡ map g (map f xs)
map_twice f g [] = refl
map_twice f g (x ∷ xs) = ap (λ t. g (f x) ∷ t) (map_twice f g xs)

-- whether some address is beside another
pub beside_of_name : (rows : List (Row Entry)) (name : List ℕ) (address : Masked) → list_any (λ (entry : Entry). same_family entry.address.addr address.addr) (values_of rows name) ≡ list_any (λ row. is_beside (shown row) (record { name = name; value = address })) rows
beside_of_name rows name address = any_of_name (λ (entry : Entry). same_family entry.address.addr address.addr) rows name

-- ---- each interface asked once

module _ (meant : List ℕ → Bool) (hit : Masked → Bool) where
  -- an address of an interface that is meant
  from_one : (iface : List ℕ) (rows : List (Row Masked)) → meant iface ≡ true → list_any (λ row. bytes_eq row.name iface && hit row.value) rows ≡ true → list_any (λ row. meant row.name && hit row.value) rows ≡ true
  from_one iface [] is h = h
  from_one iface (row ∷ rows) is h =
      ⊎_elim
      (λ head.
      let parts = and_parts (bytes_eq row.name iface) (hit row.value) head in
      let same : row.name ≡ iface = (bytes_eq-Decides row.name iface).0 parts.0 in
      or_left (meant row.name && hit row.value) _ (and_from (meant row.name) (hit row.value) (ap meant same ∙ is) parts.1))
      (λ tail. or_right (meant row.name && hit row.value) _ (from_one iface rows is tail))
      (or_cases (bytes_eq row.name iface && hit row.value) _ h)

  asked : List (Row Masked) → List ℕ → Bool
  asked rows iface = meant iface && list_any (λ row. bytes_eq row.name iface && hit row.value) rows

  from_some : (ifaces : List (List ℕ)) (rows : List (Row Masked)) → list_any (asked rows) ifaces ≡ true → list_any (λ row. meant row.name && hit row.value) rows ≡ true
  unfolding asked
  from_some [] rows h = absurd cc
  from_some (iface ∷ ifaces) rows h =
      ⊎_elim
      (λ head. let parts = and_parts (meant iface) _ head in from_one iface rows parts.0 parts.1)
      (λ tail. from_some ifaces rows tail)
      (or_cases (asked rows iface) _ h)

  -- an interface that is meant, is listed, and has the address
  record Witness (ifaces : List (List ℕ)) (rows : List (Row Masked)) : Type 0 where
    iface : List ℕ
    listed : is_listed ifaces iface ≡ true
    is : meant iface ≡ true
    has : list_any (λ row. bytes_eq row.name iface && hit row.value) rows ≡ true

  witness : (ifaces : List (List ℕ)) (rows : List (Row Masked)) → list_all (λ row. is_listed ifaces row.name) rows ≡ true → list_any (λ row. meant row.name && hit row.value) rows ≡ true → Witness ifaces rows
  witness ifaces [] all h = absurd cc
  witness ifaces (row ∷ rows) all h =
      ⊎_elim
      (λ head.
      let parts = and_parts (meant row.name) (hit row.value) head in
      record {
        iface = row.name;
        listed = first_so _ _ all;
        is = parts.0;
        has = or_left _ _ (and_from (bytes_eq row.name row.name) (hit row.value) (same_name row.name) parts.1);
      })
      (λ tail.
      let w = witness ifaces rows (second_so _ _ all) tail in
      record { iface = w.iface; listed = w.listed; is = w.is; has = or_right (bytes_eq row.name w.iface && hit row.value) _ w.has })
      (or_cases (meant row.name && hit row.value) _ h)

  to_some : (ifaces : List (List ℕ)) (rows : List (Row Masked)) (iface : List ℕ) → is_listed ifaces iface ≡ true → asked rows iface ≡ true → list_any (asked rows) ifaces ≡ true
  to_some [] rows iface listed h = listed
  to_some (other ∷ ifaces) rows iface listed h =
      ⊎_elim
      (λ head. or_left _ _ (ap (asked rows) ((bytes_eq-Decides other iface).0 head) ∙ h))
      (λ tail. or_right (asked rows other) _ (to_some ifaces rows iface tail h))
      (or_cases (bytes_eq other iface) _ listed)

  pub asked_once : (ifaces : List (List ℕ)) (rows : List (Row Masked)) → list_all (λ row. is_listed ifaces row.name) rows ≡ true → list_any (λ iface. meant iface && list_any (λ row. bytes_eq row.name iface && hit row.value) rows) ifaces ≡ list_any (λ row. meant row.name && hit row.value) rows
  unfolding asked
  asked_once ifaces rows all =
      both_ways _ _ (from_some ifaces rows) (λ h.
      let w = witness ifaces rows all h in
      to_some ifaces rows w.iface w.listed (and_from (meant w.iface) _ w.is w.has))

-- a test on the prefixes of those that are meant
any_mapped : (meant : List ℕ → Bool) (pre : Masked → Prefix) (test : Prefix → Bool) (rows : List (Row Masked)) → list_any test (map (λ row. pre row.value) (filter (λ row. meant row.name) rows)) ≡ list_any (λ row. meant row.name && test (pre row.value)) rows
any_mapped meant pre test [] = refl
any_mapped meant pre test (row ∷ rows) =
    let rest = filter (λ row. meant row.name) rows in
    elim (meant row.name) as (λ m. list_any test (map (λ row. pre row.value) (if m then row ∷ rest else rest)) ≡ ((m && test (pre row.value)) || list_any (λ row. meant row.name && test (pre row.value)) rows)) [
      | true ↦ ap (λ t. test (pre row.value) || t) (any_mapped meant pre test rows)
      | false ↦ any_mapped meant pre test rows
    ]

-- the names of the first ones are names of all
filter_all : {A : Type 0} (p q : A → Bool) (xs : List A) → list_all p xs ≡ true → list_all p (filter q xs) ≡ true
filter_all p q [] h = refl
filter_all p q (x ∷ xs) h =
    let rest = filter_all p q xs (second_so (p x) _ h) in
    elim (q x) as (λ b. list_all p (if b then x ∷ filter q xs else filter q xs) ≡ true) [
      | true ↦ and_from (p x) _ (first_so (p x) _ h) rest
      | false ↦ rest
    ]

firsts_all : (p : Row Masked → Bool) (xs : List (Row Masked)) → list_all p xs ≡ true → list_all p (first_of_each xs) ≡ true
firsts_all p [] h = refl
firsts_all p (x ∷ xs) h =
    and_from (p x) _ (first_so (p x) _ h) (filter_all p (λ b. not (is_beside x b)) (first_of_each xs) (firsts_all p xs (second_so (p x) _ h)))

listed_all : (p : Row Masked → Bool) (first : Bool) (xs : List (Row Masked)) → list_all p xs ≡ true → list_all p (addresses_listed first xs) ≡ true
listed_all p true xs h = firsts_all p xs h
listed_all p false xs h = h

-- the interfaces that have addresses, each asked once, tell whether an address is asked for
pub found : (facts : HostFacts) (what : DynIf) (addr : Addr) (ifaces : List (List ℕ)) → list_all (λ row. is_listed ifaces row.name) facts.addresses ≡ true
    → list_any (λ iface. is_meant facts what.name iface && holds_own facts.addresses what addr iface) ifaces ≡ dynamic facts what addr
found facts what addr ifaces all =
    asked_once (is_meant facts what.name) (λ address. contains (prefix_listed what.network address) addr) ifaces (addresses_listed what.first facts.addresses) (listed_all _ what.first facts.addresses all)
    ∙ sym (any_mapped (is_meant facts what.name) (prefix_listed what.network) (λ prefix. contains prefix addr) (addresses_listed what.first facts.addresses))

-- ---- one address more

listed_more : (ifaces more : List (List ℕ)) → ((name : List ℕ) → is_listed ifaces name ≡ true → is_listed more name ≡ true) → (rows : List (Row Entry)) → list_all (λ row. is_listed ifaces row.name) rows ≡ true → list_all (λ row. is_listed more row.name) rows ≡ true
listed_more ifaces more grows [] h = refl
listed_more ifaces more grows (row ∷ rows) h =
    and_from (is_listed more row.name) _ (grows row.name (first_so (is_listed ifaces row.name) _ h)) (listed_more ifaces more grows rows (second_so (is_listed ifaces row.name) _ h))

-- with more names
pub kept_names : (rows : List (Row Entry)) (ifaces more : List (List ℕ)) → ((name : List ℕ) → is_listed ifaces name ≡ true → is_listed more name ≡ true) → AreKept rows ifaces → AreKept rows more
kept_names rows ifaces more grows kept = record { firsts = kept.firsts; listed = listed_more ifaces more grows rows kept.listed }

shown_any : (test : Row Masked → Bool) (rows : List (Row Entry)) → list_any test (map shown rows) ≡ list_any (λ row. test (shown row)) rows
shown_any test [] = refl
shown_any test (row ∷ rows) = ap (λ t. test (shown row) || t) (shown_any test rows)

first_push : (rows : List (Row Entry)) (new : Row Entry) → map shown (filter is_first rows) ≡ first_of_each (map shown rows) → (beside : Bool) → beside ≡ list_any (λ row. is_beside (shown row) (shown new)) rows → new.value.first ≡ not beside → map shown (filter is_first rows ++ (if new.value.first then new ∷ [] else [])) ≡ first_of_each (map shown rows ++ shown new ∷ [])
first_push rows new firsts true beside marked =
    rw (marked, append-nil {A = Row Entry}) (firsts ∙ sym (firsts_stay (map shown rows) (shown new) (shown_any (λ a. is_beside a (shown new)) rows ∙ sym beside)))
first_push rows new firsts false beside marked =
    rw (marked, map-append {A = Row Entry}) (ap (λ t. t ++ shown new ∷ []) firsts ∙ sym (firsts_grow (map shown rows) (shown new) (shown_any (λ a. is_beside a (shown new)) rows ∙ sym beside)))

-- with one address more, marked where none is beside it
pub kept_more : (rows : List (Row Entry)) (ifaces : List (List ℕ)) (new : Row Entry) (beside : Bool) → AreKept rows ifaces → is_listed ifaces new.name ≡ true → beside ≡ list_any (λ row. is_beside (shown row) (shown new)) rows → new.value.first ≡ not beside → AreKept (rows ++ new ∷ []) ifaces
kept_more rows ifaces new beside kept named is marked = record {
  firsts =
      ap (map shown) (filter-append is_first rows (new ∷ [])) ∙ first_push rows new kept.firsts beside is marked ∙ ap first_of_each (sym (map-append shown rows (new ∷ [])));
  listed = list_all-append (λ row. is_listed ifaces row.name) rows (new ∷ []) ∙ and_from _ _ kept.listed (and_from _ true named refl);
}

pub listed_shown : (ifaces : List (List ℕ)) (rows : List (Row Entry)) → list_all (λ row. is_listed ifaces row.name) rows ≡ true → list_all (λ row. is_listed ifaces row.name) (map shown rows) ≡ true
listed_shown ifaces rows h = list_all-map (λ (row : Row Masked). is_listed ifaces row.name) shown rows ∙ h
