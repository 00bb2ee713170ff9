-- The map of groups, as it takes in one rule after the other.
use Rattle.std.proofs.Common.{◌≡◌, ℕ, suc, ◌+◌, ◌<◌, ◌≤◌, Bool, true, false, not, ◌&&◌, ◌||◌, cond, is_some, List, [], ◌∷◌, ◌++◌, length, sum, take, get_or, Option, Some, None, refl, sym, ap, ◌∙◌, arith, append-nil}
use Rattle.std.proofs.lemmas.Bool.{false≢true}
use Rattle.std.proofs.lemmas.List.{take_all, take_more, length-take}
use Rattle.std.proofs.lemmas.List.Elements.{filter-append, filter_map-append}
use Rattle.std.proofs.lemmas.List.Filters.{sum_by-filter_both}
use Rattle.std.proofs.lemmas.List.Folds.{list_any-append}
use Rattle.std.proofs.lemmas.List.Sums.{sum-map, sum_by-append, sum_by-cons, sum_by-take-le}
use Rattle.std.proofs.lemmas.Slice.Zip.{get_or-zip, length-zip, seconds-zip}
use Rattle.std.specs.List.{cons_option, filter, list_any, position_or_len, zip}
use Rattle.std.specs.Option.{option_map, unwrap_or}
use Rattle.pf_addr.specs.declared.prefix.Prefix.{Prefix}
use Rattle.pf_auto.specs.Ends.{beside, prefix_at}
use Rattle.pf_auto.specs.Groups.{after, begun, gathered, grown, grown_by, is_member, members, weight_of}
use Rattle.pf_auto.specs.Merged.{entries_at, entry_of, group_weight}
use Rattle.pf_auto.specs.declared.group.Group.{Group}
use Rattle.pf_auto.specs.declared.place.End.{End}
use Rattle.pf_rule.specs.Equal.{rules}
use Rattle.pf_rule.specs.declared.rule.Rule.{Rule}

pub weight_begun : (o : Option Group) (place : ℕ) → (unwrap_or o (begun place)).weight ≡ weight_of o
weight_begun None place = refl
weight_begun (Some group) place = refl

-- what the map has once the group of a rule was taken out and put back with the rule
pub put_back : (end : End) (place : ℕ) (rule : Rule) (weight : ℕ) (prefix : Prefix) (key : Rule) (old : Rule → Option Group) → prefix_at end rule ≡ Some prefix → cond (rules.same (beside end rule) key) (Some (grown prefix weight (unwrap_or (old (beside end rule)) (begun place)))) (cond (rules.same (beside end rule) key) None (old key)) ≡ after end place (rule, weight) key (old key)
put_back end place rule weight prefix key old e =
    let b = rules.same (beside end rule) key in
    let group : Rule → Option Group = λ k. Some (grown prefix weight (unwrap_or (old k) (begun place))) in
    let step : cond b (group (beside end rule)) (cond b None (old key)) ≡ cond b (group key) (old key) =
    elim b as (λ t. b ≡ t → cond t (group (beside end rule)) (cond t None (old key)) ≡ cond t (group key) (old key)) [
      | true ↦ λ same. ap group ((rules.decides (beside end rule) key).0 same)
      | false ↦ λ same. refl
    ] refl in
    step ∙ sym (ap (λ (o : Option Prefix). cond (is_some o && b) (grown_by o weight (unwrap_or (old key) (begun place))) (old key)) e)

-- one rule more in the list
any_one : (x : Bool) → (x || false) ≡ x
any_one true = refl
any_one false = refl

position_more : {X : Type 0} (p : X → Bool) (xs : List X) (x : X) → position_or_len p (xs ++ x ∷ []) ≡ cond (list_any p xs) (position_or_len p xs) (cond (p x) (length xs) (suc (length xs)))
position_more p [] x = elim (p x) as (λ b. cond (not b) (1 + 0) 0 ≡ cond b 0 1) [ true ↦ refl | false ↦ refl ]
position_more p (y ∷ ys) x =
    elim (p y) as (λ b. cond (not b) (1 + position_or_len p (ys ++ x ∷ [])) 0 ≡ cond (b || list_any p ys) (cond (not b) (1 + position_or_len p ys) 0) (cond (p x) (suc (length ys)) (suc (suc (length ys))))) [
      | true ↦ refl
      | false ↦ ap (λ n. 1 + n) (position_more p ys x) ∙ inside (list_any p ys) (p x) (position_or_len p ys) (length ys)
    ]
  where
    inside : (a b : Bool) (m n : ℕ) → 1 + cond a m (cond b n (suc n)) ≡ cond a (1 + m) (cond b (suc n) (suc (suc n)))
    inside true b m n = refl
    inside false true m n = omega arith
    inside false false m n = omega arith

-- what isn't there has no members
pub no_members : {X : Type 0} (p : X → Bool) (xs : List X) → list_any p xs ≡ false → filter p xs ≡ []
no_members p [] e = refl
no_members p (x ∷ xs) e0 =
    elim (p x) as (λ b. (b || list_any p xs) ≡ false → cond b (x ∷ filter p xs) (filter p xs) ≡ []) [
      | true ↦ λ e. absurd (false≢true (sym e))
      | false ↦ λ e. no_members p xs e
    ] e0

-- a group by what is found in front, and what its members are
abbrev grouped : Bool → ℕ → End → List (Rule × ℕ) → Option Group
grouped some first end group = cond some (Some (record { first = first; weight = group_weight group; entries = entries_at end group })) None

more_weight : (xs : List (Rule × ℕ)) (item : Rule × ℕ) → group_weight (xs ++ item ∷ []) ≡ group_weight xs + item.1
more_weight xs item =
    let both = sum_by-append (λ (one : Rule × ℕ). one.1) xs (item ∷ []) in
    let last = sum_by-cons (λ (one : Rule × ℕ). one.1) item [] in
    omega arith

more_entries : (end : End) (xs : List (Rule × ℕ)) (item : Rule × ℕ) (prefix : Prefix) → prefix_at end item.0 ≡ Some prefix → entries_at end (xs ++ item ∷ []) ≡ entries_at end xs ++ entry_of prefix ∷ []
more_entries end xs item prefix e =
    filter_map-append (λ (one : Rule × ℕ). option_map entry_of (prefix_at end one.0)) xs (item ∷ [])
    ∙ ap (λ (o : Option Prefix). entries_at end xs ++ cons_option (option_map entry_of o) []) e

joined : (end : End) (first place : ℕ) (item : Rule × ℕ) (some : Bool) (xs : List (Rule × ℕ)) → (some ≡ false → xs ≡ []) → (o : Option Prefix) → prefix_at end item.0 ≡ o → (same : Bool) → grouped (some || (is_some o && same)) (cond some first (cond (is_some o && same) place (suc place))) end (xs ++ cond (is_some o && same) (item ∷ []) []) ≡ cond (is_some o && same) (grown_by o item.1 (unwrap_or (grouped some first end xs) (begun place))) (grouped some first end xs)
joined end first place item true xs none None e same = ap (grouped true first end) (append-nil xs)
joined end first place item true xs none (Some prefix) e false = ap (grouped true first end) (append-nil xs)
joined end first place item true xs none (Some prefix) e true =
    ap (λ n. Some (record { first = first; weight = n; entries = entries_at end (xs ++ item ∷ []) })) (more_weight xs item)
    ∙ ap (λ t. Some (record { first = first; weight = group_weight xs + item.1; entries = t })) (more_entries end xs item prefix e)
joined end first place item false xs none None e same = refl
joined end first place item false xs none (Some prefix) e false = refl
joined end first place item false xs none (Some prefix) e true =
    ap (λ t. grouped true place end (t ++ item ∷ [])) (none refl)
    ∙ ap (λ t. Some (record { first = place; weight = 0 + item.1; entries = t })) (more_entries end [] item prefix e)

pub one_more : (end : End) (front : List (Rule × ℕ)) (item : Rule × ℕ) (key : Rule) → gathered end (front ++ item ∷ []) key ≡ after end (length front) item key (gathered end front key)
one_more end front item key =
    let p = is_member end key in
    ap (λ b. grouped b (position_or_len p (front ++ item ∷ [])) end (members end (front ++ item ∷ []) key)) (list_any-append p front (item ∷ []) ∙ ap (λ b. list_any p front || b) (any_one (p item)))
    ∙ ap (λ n. grouped (list_any p front || p item) n end (members end (front ++ item ∷ []) key)) (position_more p front item)
    ∙ ap (λ t. grouped (list_any p front || p item) (cond (list_any p front) (position_or_len p front) (cond (p item) (length front) (suc (length front)))) end t) (filter-append p front (item ∷ []))
    ∙ joined end (position_or_len p front) (length front) item (list_any p front) (members end front key) (no_members p front) (prefix_at end item.0) refl (rules.same (beside end item.0) key)

-- the rule at a place, with its weight
pub next_item : (rules : List Rule) (weights : List ℕ) (i : ℕ) (rule : Rule) → length rules ≡ length weights → i < length rules → rule ≡ get_or rules i rule → take (i + 1) (zip rules weights) ≡ take i (zip rules weights) ++ (rule, get_or weights i 0) ∷ []
next_item rules weights i rule e h is =
    let d : Rule × ℕ = (rule, 0) in
    let size : length (zip rules weights) ≡ length rules = omega (arith, length-zip rules weights) in
    let inside : i < length (zip rules weights) = omega arith in
    let second : i < length weights = omega arith in
    take_more (zip rules weights) i d inside
    ∙ ap (λ (t : Rule × ℕ). take i (zip rules weights) ++ t ∷ []) (get_or-zip rules weights i d h second ∙ ap (λ (r : Rule). (r, get_or weights i 0)) (sym is))

pub so_many : (rules : List Rule) (weights : List ℕ) (i : ℕ) → length rules ≡ length weights → i ≤ length rules → length (take i (zip rules weights)) ≡ i
so_many rules weights i e h =
    let size : length (zip rules weights) ≡ length rules = omega (arith, length-zip rules weights) in
    omega (arith, length-take i (zip rules weights))

-- a group weighs no more than all rules, also with one rule more
gathered_weighs : (end : End) (items : List (Rule × ℕ)) (key : Rule) → weight_of (gathered end items key) ≤ group_weight items
gathered_weighs end items key =
    elim (list_any (is_member end key) items) as (λ b. weight_of (grouped b (position_or_len (is_member end key) items) end (members end items key)) ≤ group_weight items) [
      | true ↦ omega (arith, sum_by-filter_both (is_member end key) (λ item. not (is_member end key item)) (λ _. refl) (λ (item : Rule × ℕ). item.1) items)
      | false ↦ omega arith
    ]

pub weight_fits : (end : End) (rules : List Rule) (weights : List ℕ) (i : ℕ) (rule key : Rule) → length rules ≡ length weights → i < length rules → rule ≡ get_or rules i rule → weight_of (gathered end (take i (zip rules weights)) key) + get_or weights i 0 ≤ sum weights
weight_fits end rules weights i rule key e h is =
    let items = zip rules weights in
    let whole : group_weight items ≡ sum weights = sym (sum-map (λ (item : Rule × ℕ). item.1) items) ∙ ap sum (seconds-zip rules weights (sym e)) in
    let next : group_weight (take (i + 1) items) ≡ group_weight (take i items) + get_or weights i 0 = ap group_weight (next_item rules weights i rule e h is) ∙ more_weight (take i items) (rule, get_or weights i 0) in
    omega (arith, gathered_weighs end (take i items) key, sum_by-take-le (λ (item : Rule × ℕ). item.1) items (i + 1))

pub gathered_next : (end : End) (rules : List Rule) (weights : List ℕ) (i : ℕ) (rule key : Rule) → length rules ≡ length weights → i < length rules → rule ≡ get_or rules i rule → gathered end (take (i + 1) (zip rules weights)) key ≡ after end i (rule, get_or weights i 0) key (gathered end (take i (zip rules weights)) key)
gathered_next end rules weights i rule key e h is =
    let items = zip rules weights in
    let size : length (take i items) ≡ i = so_many rules weights i e (omega arith) in
    ap (λ t. gathered end t key) (next_item rules weights i rule e h is)
    ∙ one_more end (take i items) (rule, get_or weights i 0) key
    ∙ ap (λ n. after end n (rule, get_or weights i 0) key (gathered end (take i items) key)) size

pub gathered_all : (end : End) (rules : List Rule) (weights : List ℕ) (i : ℕ) (key : Rule) → length rules ≡ length weights → length rules ≤ i → gathered end (take i (zip rules weights)) key ≡ gathered end (zip rules weights) key
gathered_all end rules weights i key e h =
    let size : length (zip rules weights) ≤ i = omega (arith, length-zip rules weights) in
    ap (λ t. gathered end t key) (take_all i (zip rules weights) size)
