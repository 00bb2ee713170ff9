-- The combinations of lists, member by member.
use Rattle.std.proofs.Common.{◌≡◌, ℕ, zero, suc, ◌+◌, ◌<◌, Bool, true, false, cond, ◌&&◌, ◌||◌, if◌then◌else◌, List, [], ◌∷◌, ◌++◌, length, map, filter, take, get_or, Option, Some, None, refl, sym, ap, ◌∙◌}
use Rattle.std.specs.List.{filter_map, cons_option, flat_map, list_all, list_any, slice_get}
use Rattle.std.specs.Option.{option_or, option_to_list}
use Rattle.std.proofs.lemmas.Bool.{or_left, or_right}
use Rattle.std.proofs.lemmas.List.{append-nil, append_assoc, map-append, take_more}
use Rattle.std.proofs.lemmas.List.Concat.{flat_map-append}
use Rattle.std.proofs.lemmas.List.Elements.{filter-append}
use Rattle.std.proofs.lemmas.List.Folds.{list_all-append}
use Rattle.pf_base.specs.declared.kind.Family.{Family}
use Rattle.pf_base.specs.declared.kind.Family.TheVariants.{Inet, Inet6}
use Rattle.pf_rule.specs.declared.criteria.Criteria.{Criteria}
use Rattle.pf_combine.specs.Combinations.{combined, criteria_of, families, is_one, is_same, product}
use Rattle.pf_combine.specs.Members.{names, with_member, with_members}
use Rattle.pf_combine.specs.Walk.{combined_with, completes, fits, is_open, next_family}
use Rattle.pf_combine.specs.declared.member.Member.{Member}

-- what is cut twice is cut once
pub take_on : {A : Type 0} (room : ℕ) (xs ys : List A) → take room (take room xs ++ ys) ≡ take room (xs ++ ys)
take_on zero xs ys = refl
take_on (suc n) [] ys = refl
take_on (suc n) (x ∷ xs) ys = ap (λ t. x ∷ t) (take_on n xs ys)

same_kept : {A B C : Type 0} (g : A → B) (K : B → Bool) (F : B → C) (L : A → Bool) (G : A → C) → ((a : A) → K (g a) ≡ L a) → ((a : A) → F (g a) ≡ G a) → (xs : List A) → map F (filter K (map g xs)) ≡ map G (filter L xs)
same_kept g K F L G keeps gives [] = refl
same_kept g K F L G keeps gives (x ∷ xs) =
    let rest = filter K (map g xs) in
    let later = filter L xs in
    let same = same_kept g K F L G keeps gives xs in
    ap (λ b. map F (cond b (g x ∷ rest) rest)) (keeps x)
    ∙ elim (L x) as (λ b. map F (cond b (g x ∷ rest) rest) ≡ map G (cond b (x ∷ later) later)) [ true ↦ (λ i. gives x i ∷ same i) | false ↦ same ]

none_kept : {A B C : Type 0} (g : A → B) (K : B → Bool) (F : B → C) → ((a : A) → K (g a) ≡ false) → (xs : List A) → map F (filter K (map g xs)) ≡ []
none_kept g K F keeps [] = refl
none_kept g K F keeps (x ∷ xs) =
    let rest = filter K (map g xs) in
    ap (λ b. map F (cond b (g x ∷ rest) rest)) (keeps x) ∙ none_kept g K F keeps xs

kept_with : (chosen named : Option Family) (others : List Family) → is_one (option_to_list chosen ++ cons_option named others) ≡ (fits chosen named && is_one (option_to_list (option_or chosen named) ++ others))
kept_with None None others = refl
kept_with None (Some other) others = refl
kept_with (Some family) None others = refl
kept_with (Some family) (Some other) others = refl

family_with : (chosen named : Option Family) (others : List Family) → slice_get (option_to_list chosen ++ cons_option named others) 0 ≡ slice_get (option_to_list (option_or chosen named) ++ others) 0
family_with None None others = refl
family_with None (Some other) others = refl
family_with (Some family) None others = refl
family_with (Some family) (Some other) others = refl

module _ (chosen : Option Family) (start : Criteria) (lists : List (List Member)) where
  with_one : (member : Member) → map (criteria_of (option_to_list chosen) start) (filter (λ members. is_one (families (option_to_list chosen) members)) (map (λ others. member ∷ others) (product lists))) ≡ combined_with chosen start lists member
  with_one member = by_fit (fits chosen (names member)) refl
    where
      by_fit : (b : Bool) → fits chosen (names member) ≡ b
          → map (criteria_of (option_to_list chosen) start) (filter (λ members. is_one (families (option_to_list chosen) members)) (map (λ others. member ∷ others) (product lists))) ≡ combined_with chosen start lists member
      by_fit true is =
          same_kept (λ others. member ∷ others) (λ members. is_one (families (option_to_list chosen) members)) (criteria_of (option_to_list chosen) start)
          (λ members. is_one (families (option_to_list (option_or chosen (names member))) members)) (criteria_of (option_to_list (option_or chosen (names member))) (with_member start member))
          (λ others. kept_with chosen (names member) (filter_map names others) ∙ ap (λ b. b && is_one (option_to_list (option_or chosen (names member)) ++ filter_map names others)) is)
          (λ others. ap (λ family. record (with_members (with_member start member) others) { family = family }) (family_with chosen (names member) (filter_map names others)))
          (product lists)
          ∙ ap (λ b. if b then combined (option_to_list (option_or chosen (names member))) (with_member start member) lists else []) (sym is)
      by_fit false is =
          none_kept (λ others. member ∷ others) (λ members. is_one (families (option_to_list chosen) members)) (criteria_of (option_to_list chosen) start)
          (λ others. kept_with chosen (names member) (filter_map names others) ∙ ap (λ b. b && is_one (option_to_list (option_or chosen (names member)) ++ filter_map names others)) is)
          (product lists)
          ∙ ap (λ b. if b then combined (option_to_list (option_or chosen (names member))) (with_member start member) lists else []) (sym is)

  -- the combinations of a list and others, by the members of the list
  pub combined_by_member : (members : List Member) → combined (option_to_list chosen) start (members ∷ lists) ≡ flat_map (combined_with chosen start lists) members
  combined_by_member [] = refl
  combined_by_member (member ∷ others) =
      let front = map (λ rest. member ∷ rest) (product lists) in
      let back = flat_map (λ m. map (λ rest. m ∷ rest) (product lists)) others in
      ap (map (criteria_of (option_to_list chosen) start)) (filter-append (λ members. is_one (families (option_to_list chosen) members)) front back)
      ∙ map-append (criteria_of (option_to_list chosen) start) (filter (λ members. is_one (families (option_to_list chosen) members)) front) (filter (λ members. is_one (families (option_to_list chosen) members)) back)
      ∙ (λ i. with_one member i ++ combined_by_member others i)

-- ---- what isn't walked

joined_fits : (chosen named : Option Family) (family : Family) → fits chosen named ≡ true → fits (option_or chosen named) (Some family) ≡ true → (fits chosen (Some family) ≡ true) × (fits (Some family) named ≡ true)
joined_fits None None family h k = (refl, refl)
joined_fits None (Some Inet) Inet h k = (refl, refl)
joined_fits None (Some Inet) Inet6 h k = absurd (cc)
joined_fits None (Some Inet6) Inet h k = absurd (cc)
joined_fits None (Some Inet6) Inet6 h k = (refl, refl)
joined_fits (Some one) None family h k = (k, refl)
joined_fits (Some Inet) (Some Inet) Inet h k = (refl, refl)
joined_fits (Some Inet) (Some Inet) Inet6 h k = absurd (cc)
joined_fits (Some Inet) (Some Inet6) family h k = absurd (cc)
joined_fits (Some Inet6) (Some Inet) family h k = absurd (cc)
joined_fits (Some Inet6) (Some Inet6) Inet h k = absurd (cc)
joined_fits (Some Inet6) (Some Inet6) Inet6 h k = (refl, refl)

-- no family that fits completes
abbrev Closed : Option Family → List (List Member) → Type 0
Closed chosen lists = (family : Family) → fits chosen (Some family) ≡ true → completes family lists ≡ false

none_open : (chosen : Option Family) → Closed chosen [] → ⊥
none_open None closed = let h = closed Inet refl in cc
none_open (Some Inet) closed = let h = closed Inet refl in cc
none_open (Some Inet6) closed = let h = closed Inet6 refl in cc

and_second : (a b : Bool) → a ≡ true → (a && b) ≡ false → b ≡ false
and_second true b is h = h
and_second false b is h = absurd (cc)

none_of_members : (chosen : Option Family) (start : Criteria) (lists : List (List Member)) → ((next : Option Family) (other : Criteria) → Closed next lists → combined (option_to_list next) other lists ≡ []) → (members : List Member)
    → ((family : Family) → fits chosen (Some family) ≡ true → list_any (λ member. fits (Some family) (names member)) members ≡ true → completes family lists ≡ false)
    → flat_map (combined_with chosen start lists) members ≡ []
none_of_members chosen start lists below [] closed = refl
none_of_members chosen start lists below (member ∷ members) closed =
    λ i. by_fit (fits chosen (names member)) refl i ++ none_of_members chosen start lists below members (λ family fit some. closed family fit (or_right (fits (Some family) (names member)) _ some)) i
  where
    by_fit : (b : Bool) → fits chosen (names member) ≡ b → combined_with chosen start lists member ≡ []
    by_fit true is =
        ap (λ b. if b then combined (option_to_list (option_or chosen (names member))) (with_member start member) lists else []) is
        ∙ below (option_or chosen (names member)) (with_member start member)
        (λ family fit. let parts = joined_fits chosen (names member) family is fit in closed family parts.0 (or_left (fits (Some family) (names member)) _ parts.1))
    by_fit false is = ap (λ b. if b then combined (option_to_list (option_or chosen (names member))) (with_member start member) lists else []) is

-- then nothing is combined
pub none_combined : (chosen : Option Family) (start : Criteria) (lists : List (List Member)) → Closed chosen lists → combined (option_to_list chosen) start lists ≡ []
none_combined chosen start [] closed = absurd (none_open chosen closed)
none_combined chosen start (members ∷ lists) closed =
    combined_by_member chosen start lists members
    ∙ none_of_members chosen start lists (λ next other. none_combined next other lists) members (λ family fit some. and_second (list_any (λ member. fits (Some family) (names member)) members) (completes family lists) some (closed family fit))

neither : (a b : Bool) → (a || b) ≡ false → (a ≡ false) × (b ≡ false)
neither true b h = absurd (cc)
neither false b h = (refl, h)

closed_by : (next : Option Family) (lists : List (List Member)) → is_open next (completes Inet lists) (completes Inet6 lists) ≡ false → Closed next lists
closed_by None lists h Inet fit = (neither (completes Inet lists) (completes Inet6 lists) h).0
closed_by None lists h Inet6 fit = (neither (completes Inet lists) (completes Inet6 lists) h).1
closed_by (Some Inet) lists h Inet fit = h
closed_by (Some Inet) lists h Inet6 fit = absurd (cc)
closed_by (Some Inet6) lists h Inet fit = absurd (cc)
closed_by (Some Inet6) lists h Inet6 fit = h

-- a member that is passed over gives nothing
pub nothing_with : (chosen : Option Family) (start : Criteria) (lists : List (List Member)) (member : Member) (inet inet6 : Bool) → inet ≡ completes Inet lists → inet6 ≡ completes Inet6 lists
    → next_family chosen (names member) inet inet6 ≡ None → combined_with chosen start lists member ≡ []
nothing_with chosen start lists member inet inet6 e f passed = by_fit (fits chosen (names member)) refl
  where
    given : (b c : Bool) → if (b && c) then Some (option_or chosen (names member)) else None ≡ None → b ≡ true → c ≡ false
    given true true h is = absurd (cc)
    given true false h is = refl
    given false c h is = absurd (cc)

    by_fit : (b : Bool) → fits chosen (names member) ≡ b → combined_with chosen start lists member ≡ []
    by_fit true is =
        ap (λ b. if b then combined (option_to_list (option_or chosen (names member))) (with_member start member) lists else []) is
        ∙ none_combined (option_or chosen (names member)) (with_member start member) lists
        (closed_by (option_or chosen (names member)) lists
        (ap (λ b. is_open (option_or chosen (names member)) b (completes Inet6 lists)) (sym e) ∙ ap (is_open (option_or chosen (names member)) inet) (sym f)
        ∙ given (fits chosen (names member)) (is_open (option_or chosen (names member)) inet inet6) passed is))
    by_fit false is = ap (λ b. if b then combined (option_to_list (option_or chosen (names member))) (with_member start member) lists else []) is

-- a member that is walked gives the combinations behind it
pub walked_with : (chosen : Option Family) (start : Criteria) (lists : List (List Member)) (member : Member) (inet inet6 : Bool) (next : Option Family)
    → next_family chosen (names member) inet inet6 ≡ Some next → combined_with chosen start lists member ≡ combined (option_to_list next) (with_member start member) lists
walked_with chosen start lists member inet inet6 next given =
    by_test (fits chosen (names member)) (is_open (option_or chosen (names member)) inet inet6) refl given
  where
    by_test : (b c : Bool) → fits chosen (names member) ≡ b → ◌≡◌ {A = Option (Option Family)} (if (b && c) then Some (option_or chosen (names member)) else None) (Some next)
        → combined_with chosen start lists member ≡ combined (option_to_list next) (with_member start member) lists
    by_test true true is e =
        let same : option_or chosen (names member) ≡ next = cc in
        ap (λ b. if b then combined (option_to_list (option_or chosen (names member))) (with_member start member) lists else []) is
        ∙ ap (λ (o : Option Family). combined (option_to_list o) (with_member start member) lists) same
    by_test true false is e = absurd (cc)
    by_test false c is e = absurd (cc)

-- one more member
pub more_members : {A B : Type 0} (give : A → List B) (xs : List A) (i : ℕ) (x : A) → i < length xs → x ≡ get_or xs i x → flat_map give (take (i + 1) xs) ≡ flat_map give (take i xs) ++ give x
more_members give xs i x low is =
    ap (flat_map give) (take_more xs i x low ∙ ap (λ y. take i xs ++ y ∷ []) (sym is))
    ∙ flat_map-append give (take i xs) (x ∷ [])
    ∙ ap (λ t. flat_map give (take i xs) ++ t) (append-nil (give x))

-- criteria added behind those so far, as far as there is room
pub added_within : {A : Type 0} (room : ℕ) (first so_far more found new : List A) → found ≡ take room (first ++ so_far) → new ≡ take room (found ++ more) → new ≡ take room (first ++ (so_far ++ more))
added_within room first so_far more found new are adds =
    adds ∙ ap (λ t. take room (t ++ more)) are ∙ take_on room (first ++ so_far) more ∙ ap (take room) (append_assoc first so_far more)

-- ---- families that the statement names as a whole (not yet checked)

alike_kept : {A C : Type 0} (K L : A → Bool) (F G : A → C) → ((a : A) → K a ≡ L a) → ((a : A) → F a ≡ G a) → (xs : List A) → map F (filter K xs) ≡ map G (filter L xs)
alike_kept K L F G keeps gives [] = refl
alike_kept K L F G keeps gives (x ∷ xs) =
    let rest = filter K xs in
    let later = filter L xs in
    let same = alike_kept K L F G keeps gives xs in
    ap (λ b. map F (cond b (x ∷ rest) rest)) (keeps x)
    ∙ elim (L x) as (λ b. map F (cond b (x ∷ rest) rest) ≡ map G (cond b (x ∷ later) later)) [ true ↦ (λ i. gives x i ∷ same i) | false ↦ same ]

empty_kept : {A C : Type 0} (K : A → Bool) (F : A → C) → ((a : A) → K a ≡ false) → (xs : List A) → map F (filter K xs) ≡ []
empty_kept K F keeps [] = refl
empty_kept K F keeps (x ∷ xs) = ap (λ b. map F (cond b (x ∷ filter K xs) (filter K xs))) (keeps x) ∙ empty_kept K F keeps xs

one_from_first : (named more : List Family) → is_one named ≡ true → is_one (named ++ more) ≡ is_one (option_to_list (slice_get named 0) ++ more)
one_from_first [] more is = refl
one_from_first (family ∷ named) more is = list_all-append (is_same family) named more ∙ ap (λ b. b && list_all (is_same family) more) is

first_from_first : (named more : List Family) → slice_get (named ++ more) 0 ≡ slice_get (option_to_list (slice_get named 0) ++ more) 0
first_from_first [] more = refl
first_from_first (family ∷ named) more = refl

two_and_more : (named more : List Family) → is_one named ≡ false → is_one (named ++ more) ≡ false
two_and_more [] more is = absurd (cc)
two_and_more (family ∷ named) more is = list_all-append (is_same family) named more ∙ ap (λ b. b && list_all (is_same family) more) is

-- of families that are one the first tells all
pub combined_from_first : (named : List Family) (start : Criteria) (lists : List (List Member)) → is_one named ≡ true → combined named start lists ≡ combined (option_to_list (slice_get named 0)) start lists
combined_from_first named start lists is =
    alike_kept (λ members. is_one (families named members)) (λ members. is_one (families (option_to_list (slice_get named 0)) members)) (criteria_of named start) (criteria_of (option_to_list (slice_get named 0)) start)
    (λ members. one_from_first named (filter_map names members) is)
    (λ members. ap (λ family. record (with_members start members) { family = family }) (first_from_first named (filter_map names members)))
    (product lists)

-- where they are two nothing is left
pub none_of_two : (named : List Family) (start : Criteria) (lists : List (List Member)) → is_one named ≡ false → combined named start lists ≡ []
none_of_two named start lists is = empty_kept (λ members. is_one (families named members)) (criteria_of named start) (λ members. two_and_more named (filter_map names members) is) (product lists)
