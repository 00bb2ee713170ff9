-- What is put of a rule, by its group in the map, is what becomes of it.
use Rattle.std.proofs.Common.{◌≡◌, ℕ, suc, ◌+◌, ◌<◌, ◌≤◌, Bool, true, false, not, ◌&&◌, ◌||◌, cond, nat_le, nat_lt, is_some, List, [], ◌∷◌, ◌++◌, map, length, sum, take, drop, get_or, Option, Some, None, refl, sym, ap, ◌∙◌, inl, inr, subst, arith, append-nil, append_assoc}
use Rattle.std.proofs.lemmas.Bool.{cases_lt, false≢true, le-ltb, lt-ltb}
use Rattle.std.proofs.lemmas.List.{at_drop_more, drop_all, length-append, length-map, take-append-drop}
use Rattle.std.proofs.lemmas.List.Elements.{filter_agree}
use Rattle.std.proofs.lemmas.List.Sums.{sum-map}
use Rattle.std.proofs.lemmas.Slice.Zip.{get_or-zip, length-zip, seconds-zip}
use Rattle.std.specs.List.{cons_option, filter, list_any, position_or_len, zip}
use Rattle.std.specs.Option.{option_map}
use Rattle.pf_addr.specs.declared.prefix.Prefix.{Prefix}
use Rattle.pf_auto.proofs.Both.{step_few, step_total}
use Rattle.pf_auto.proofs.Gathering.{next_item, no_members, so_many}
use Rattle.pf_auto.proofs.Mates.{mates_are}
use Rattle.pf_auto.specs.Ends.{beside, prefix_at}
use Rattle.pf_auto.specs.Groups.{gathered, is_member}
use Rattle.pf_auto.specs.Merged.{are_mates, entries_at, entry_of, group_of, group_table, group_weight, is_large, merge_of, merged_at, merged_behind, merged_from, merged_rule, with_group, with_item}
use Rattle.pf_auto.specs.Putting.{behind, put_by, with_kept, with_lead}
use Rattle.pf_auto.specs.declared.group.Group.{Group}
use Rattle.pf_auto.specs.declared.merging.AutoTable.{AutoTable}
use Rattle.pf_auto.specs.declared.merging.Merged.{Merged}
use Rattle.pf_auto.specs.declared.place.End.{End}
use Rattle.pf_auto.specs.declared.place.End.TheVariants.{Source, Target}
use Rattle.pf_rule.specs.Equal.{rules}
use Rattle.pf_rule.specs.declared.rule.Rule.{Rule}

-- some item in front of a place passes where the first that passes stands there
any_before : {X : Type 0} (p : X → Bool) (front rest : List X) → list_any p front ≡ nat_lt (position_or_len p (front ++ rest)) (length front)
any_before p [] rest = sym (le-ltb (position_or_len p rest) 0 (omega arith))
any_before p (x ∷ xs) rest =
    elim (p x) as (λ b. (b || list_any p xs) ≡ nat_lt (cond (not b) (1 + position_or_len p (xs ++ rest)) 0) (suc (length xs))) [
      | true ↦ sym (lt-ltb 0 (suc (length xs)) (omega arith))
      | false ↦ any_before p xs rest ∙ one_later (position_or_len p (xs ++ rest)) (length xs)
    ]
  where
    one_later : (m n : ℕ) → nat_lt m n ≡ nat_lt (1 + m) (suc n)
    one_later m n = elim (cases_lt m n) [
      | inl h ↦ lt-ltb m n h ∙ sym (lt-ltb (1 + m) (suc n) (omega arith))
      | inr h ↦ le-ltb m n h ∙ sym (le-ltb (1 + m) (suc n) (omega arith))
    ]

-- each member of a group has its entry
entry_each : (end : End) (q : Rule × ℕ → Bool) → ((x : Rule × ℕ) → q x ≡ true → is_some (prefix_at end x.0) ≡ true) → (xs : List (Rule × ℕ)) → length (entries_at end (filter q xs)) ≡ length (filter q xs)
entry_each end q has [] = refl
entry_each end q has (x ∷ xs) =
    elim (q x) as (λ b. q x ≡ b → length (entries_at end (cond b (x ∷ filter q xs) (filter q xs))) ≡ length (cond b (x ∷ filter q xs) (filter q xs))) [
      | true ↦ λ e. one (prefix_at end x.0) (has x e) (entries_at end (filter q xs)) (length (filter q xs)) (entry_each end q has xs)
      | false ↦ λ e. entry_each end q has xs
    ] refl
  where
    one : (o : Option Prefix) → is_some o ≡ true → (es : List _) (n : ℕ) → length es ≡ n → length (cons_option (option_map entry_of o) es) ≡ suc n
    one None h es n e = absurd (false≢true h)
    one (Some prefix) h es n e = ap suc e

-- what the map has at the key of a rule, told by a test of the rules of its group
abbrev told : End → (Rule × ℕ → Bool) → List (Rule × ℕ) → Option Group
told end q all = cond (list_any q all) (Some (record { first = position_or_len q all; weight = group_weight (filter q all); entries = entries_at end (filter q all) })) None

-- what becomes of a rule
abbrev put_of : End → ℕ → List (Rule × ℕ) → Bool → Rule × ℕ → Merged → Merged
put_of end number group mate item merged =
    cond (is_large group) (cond mate merged (with_lead end number (record { first = 0; weight = group_weight group; entries = entries_at end group }) item.0 merged)) (with_kept item merged)

told_put : (end : End) (q : Rule × ℕ → Bool) → ((x : Rule × ℕ) → q x ≡ true → is_some (prefix_at end x.0) ≡ true) → (number : ℕ) (front rest : List (Rule × ℕ)) (item : Rule × ℕ) (merged : Merged) → put_by end number (told end q (front ++ rest)) (length front) item merged ≡ put_of end number (filter q (front ++ rest)) (list_any q front) item merged
told_put end q has number front rest item merged =
    let all = front ++ rest in
    elim (list_any q all) as (λ b. list_any q all ≡ b → put_by end number (cond b (Some (record { first = position_or_len q all; weight = group_weight (filter q all); entries = entries_at end (filter q all) })) None) (length front) item merged ≡ put_of end number (filter q all) (list_any q front) item merged) [
      | true ↦ λ e.
          let lead = with_lead end number (record { first = 0; weight = group_weight (filter q all); entries = entries_at end (filter q all) }) item.0 merged in
          ap (λ n. cond (nat_le 6 n) (cond (nat_lt (position_or_len q all) (length front)) merged lead) (with_kept item merged)) (entry_each end q has all)
          ∙ ap (λ b. cond (is_large (filter q all)) (cond b merged lead) (with_kept item merged)) (sym (any_before q front rest))
      | false ↦ λ e. ap (λ t. put_of end number t (list_any q front) item merged) (sym (no_members q all e))
    ] refl

-- the group in the map
and_true_and : (a s : Bool) → (a && s) ≡ ((a && true) && s)
and_true_and true s = refl
and_true_and false s = refl

and_false_and : (a s : Bool) → ((a && false) && s) ≡ false
and_false_and true s = refl
and_false_and false s = refl

member_mate : (end : End) (rule : Rule) (prefix : Prefix) → prefix_at end rule ≡ Some prefix → (x : Rule × ℕ) → is_member end (beside end rule) x ≡ are_mates end x.0 rule
unfolding are_mates
member_mate end rule prefix e x =
    and_true_and (is_some (prefix_at end x.0)) (rules.same (beside end x.0) (beside end rule))
    ∙ sym (ap (λ (o : Option Prefix). (is_some (prefix_at end x.0) && is_some o) && rules.same (beside end x.0) (beside end rule)) e)

no_mate : (end : End) (rule : Rule) → prefix_at end rule ≡ None → (x : Rule × ℕ) → are_mates end x.0 rule ≡ false
unfolding are_mates
no_mate end rule e x =
    ap (λ (o : Option Prefix). (is_some (prefix_at end x.0) && is_some o) && rules.same (beside end x.0) (beside end rule)) e
    ∙ and_false_and (is_some (prefix_at end x.0)) (rules.same (beside end x.0) (beside end rule))

filter_none : {X : Type 0} (xs : List X) → filter (λ _. false) xs ≡ []
filter_none [] = refl
filter_none (x ∷ xs) = filter_none xs

abbrev pub found_at : End → List (Rule × ℕ) → Rule → Option Group
found_at end all rule = cond (is_some (prefix_at end rule)) (gathered end all (beside end rule)) None

put_found : (end : End) (number : ℕ) (front rest : List (Rule × ℕ)) (item : Rule × ℕ) (merged : Merged) → put_by end number (found_at end (front ++ rest) item.0) (length front) item merged ≡ put_of end number (group_of end (front ++ rest) item.0) (list_any (λ x. are_mates end x.0 item.0) front) item merged
put_found end number front rest item merged = by_prefix (prefix_at end item.0) refl
  where
    by_prefix : (o : Option Prefix) → prefix_at end item.0 ≡ o → put_by end number (found_at end (front ++ rest) item.0) (length front) item merged ≡ put_of end number (group_of end (front ++ rest) item.0) (list_any (λ x. are_mates end x.0 item.0) front) item merged
    by_prefix None e =
        ap (λ (o : Option Prefix). put_by end number (cond (is_some o) (gathered end (front ++ rest) (beside end item.0)) None) (length front) item merged) e
        ∙ sym (ap (λ t. put_of end number t (list_any (λ x. are_mates end x.0 item.0) front) item merged) (filter_agree (λ x. are_mates end x.0 item.0) (λ _. false) (no_mate end item.0 e) (front ++ rest) ∙ filter_none (front ++ rest)))
    by_prefix (Some prefix) e =
        let same : ◌≡◌ {A = Rule × ℕ → Bool} (is_member end (beside end item.0)) (λ x. are_mates end x.0 item.0) = λ i x. member_mate end item.0 prefix e x i in
        ap (λ (o : Option Prefix). put_by end number (cond (is_some o) (gathered end (front ++ rest) (beside end item.0)) None) (length front) item merged) e
        ∙ ap (λ (q : Rule × ℕ → Bool). put_by end number (told end q (front ++ rest)) (length front) item merged) same
        ∙ told_put end (λ x. are_mates end x.0 item.0) (λ x h. (mates_are end x.0 item.0 h).first) number front rest item merged

-- what stands once a rule is put, with what becomes of those behind it
put_of_step : (end : End) (all front rest : List (Rule × ℕ)) (first : ℕ) (item : Rule × ℕ) (merged : Merged) → let put = put_of end (first + length merged.tables) (group_of end all item.0) (list_any (λ x. are_mates end x.0 item.0) front) item merged in behind put (merged_behind end all (first + length put.tables) (front ++ item ∷ []) rest) ≡ behind merged (merged_behind end all (first + length merged.tables) front (item ∷ rest))
put_of_step end all front rest first item merged =
    let next = first + length merged.tables in
    let more = front ++ item ∷ [] in
    let group = group_of end all item.0 in
    let lead = with_lead end next (record { first = 0; weight = group_weight group; entries = entries_at end group }) item.0 merged in
    let kept = with_kept item merged in
    let table : AutoTable = record { number = next; entries = group_table end group } in
    let goes = merged_behind end all next more rest in
    let later = merged_behind end all (next + 1) more rest in
    let leads = with_group end next group item.0 later in
    let mate = list_any (λ x. are_mates end x.0 item.0) front in
    elim (is_large group) as (λ l. let put = cond l (cond mate merged lead) kept in behind put (merged_behind end all (first + length put.tables) more rest) ≡ behind merged (cond l (cond mate goes leads) (with_item item goes))) [
      | true ↦ elim mate as (λ m. let put = cond m merged lead in behind put (merged_behind end all (first + length put.tables) more rest) ≡ behind merged (cond m goes leads)) [
        | true ↦ refl
        | false ↦
            let size : first + length lead.tables ≡ next + 1 = lead_size first merged.tables _ in
            ap (λ n. behind lead (merged_behind end all n more rest)) size
            ∙ (λ i. record {
              rules = append_assoc merged.rules (merged_rule end next item.0 ∷ []) (map (λ item. item.0) later.items) i;
              weights = append_assoc merged.weights (group_weight group ∷ []) (map (λ item. item.1) later.items) i;
              tables = append_assoc merged.tables (table ∷ []) later.tables i;
            })
      ]
      | false ↦ λ i. record {
        rules = append_assoc merged.rules (item.0 ∷ []) (map (λ item. item.0) goes.items) i;
        weights = append_assoc merged.weights (item.1 ∷ []) (map (λ item. item.1) goes.items) i;
        tables = merged.tables ++ goes.tables;
      }
    ]
  where
    lead_size : {T : Type 0} (n : ℕ) (ts : List T) (t : T) → n + length (ts ++ t ∷ []) ≡ (n + length ts) + 1
    lead_size n ts t = omega (arith, length-append ts (t ∷ []))

pub put_step : (end : End) (front rest : List (Rule × ℕ)) (first : ℕ) (item : Rule × ℕ) (merged : Merged) → let all = front ++ item ∷ rest in let put = put_by end (first + length merged.tables) (found_at end all item.0) (length front) item merged in behind put (merged_behind end all (first + length put.tables) (front ++ item ∷ []) rest) ≡ behind merged (merged_behind end all (first + length merged.tables) front (item ∷ rest))
put_step end front rest first item merged =
    let all = front ++ item ∷ rest in
    ap (λ (put : Merged). behind put (merged_behind end all (first + length put.tables) (front ++ item ∷ []) rest)) (put_found end (first + length merged.tables) front (item ∷ rest) item merged)
    ∙ put_of_step end all front rest first item merged

-- at most one table more
pub put_tables : (end : End) (number : ℕ) (group : Option Group) (place : ℕ) (item : Rule × ℕ) (merged : Merged) → length (put_by end number group place item merged).tables ≤ length merged.tables + 1
put_tables end number None place item merged = omega arith
put_tables end number (Some group) place item merged =
    elim (nat_le 6 (length group.entries)) as (λ l. length (cond l (cond (nat_lt group.first place) merged (with_lead end number group item.0 merged)) (with_kept item merged)).tables ≤ length merged.tables + 1) [
      | true ↦ elim (nat_lt group.first place) as (λ m. length (cond m merged (with_lead end number group item.0 merged)).tables ≤ length merged.tables + 1) [
        | true ↦ omega arith
        | false ↦ one_table merged.tables _
      ]
      | false ↦ omega arith
    ]
  where
    one_table : {T : Type 0} (ts : List T) (t : T) → length (ts ++ t ∷ []) ≤ length ts + 1
    one_table ts t = omega (arith, length-append ts (t ∷ []))

-- nothing is left to put
pub put_end : (merged : Merged) → behind merged (record { items = []; tables = [] }) ≡ merged
put_end merged = λ i. record { rules = append-nil merged.rules i; weights = append-nil merged.weights i; tables = append-nil merged.tables i }

pub rest_from : (rules : List Rule) (weights : List ℕ) (i : ℕ) (rule : Rule) → length rules ≡ length weights → i < length rules → rule ≡ get_or rules i rule → drop i (zip rules weights) ≡ (rule, get_or weights i 0) ∷ drop (i + 1) (zip rules weights)
rest_from rules weights i rule e h is =
    let d : Rule × ℕ = (rule, 0) in
    let inside : i < length (zip rules weights) = omega (arith, length-zip rules weights) in
    let second : i < length weights = omega arith in
    at_drop_more (λ (t : List (Rule × ℕ)). t) (zip rules weights) i d inside
    ∙ ap (λ (t : Rule × ℕ). t ∷ drop (i + 1) (zip rules weights)) (get_or-zip rules weights i d h second ∙ ap (λ (r : Rule). (r, get_or weights i 0)) (sym is))

pub rest_end : (rules : List Rule) (weights : List ℕ) (i : ℕ) → length rules ≡ length weights → length rules ≤ i → drop i (zip rules weights) ≡ []
rest_end rules weights i e h = drop_all i (zip rules weights) (omega (arith, length-zip rules weights))

-- one turn of the loop
pub put_at : (end : End) (rules : List Rule) (weights : List ℕ) (i : ℕ) (rule : Rule) (first : ℕ) (merged : Merged) → length rules ≡ length weights → i < length rules → rule ≡ get_or rules i rule → let all = zip rules weights in let put = put_by end (first + length merged.tables) (found_at end all rule) i (rule, get_or weights i 0) merged in behind put (merged_behind end all (first + length put.tables) (take (i + 1) all) (drop (i + 1) all)) ≡ behind merged (merged_behind end all (first + length merged.tables) (take i all) (drop i all))
put_at end rules weights i rule first merged e h is =
    let all = zip rules weights in
    let item : Rule × ℕ = (rule, get_or weights i 0) in
    let front = take i all in
    let rest = drop (i + 1) all in
    let here : drop i all ≡ item ∷ rest = rest_from rules weights i rule e h is in
    let joined : front ++ item ∷ rest ≡ all = ap (λ (t : List (Rule × ℕ)). front ++ t) (sym here) ∙ take-append-drop i all in
    let size : length front ≡ i = so_many rules weights i e (omega arith) in
    let next : take (i + 1) all ≡ front ++ item ∷ [] = next_item rules weights i rule e h is in
    let put : List (Rule × ℕ) → ℕ → Merged = λ t k. put_by end (first + length merged.tables) (found_at end t rule) k item merged in
    ap (λ (k : ℕ). behind (put all k) (merged_behind end all (first + length (put all k).tables) (take (i + 1) all) rest)) (sym size)
    ∙ ap (λ (t : List (Rule × ℕ)). behind (put all (length front)) (merged_behind end all (first + length (put all (length front)).tables) t rest)) next
    ∙ subst (λ (t : List (Rule × ℕ)). behind (put t (length front)) (merged_behind end t (first + length (put t (length front)).tables) (front ++ item ∷ []) rest) ≡ behind merged (merged_behind end t (first + length merged.tables) front (item ∷ rest))) joined (put_step end front rest first item merged)
    ∙ ap (λ (t : List (Rule × ℕ)). behind merged (merged_behind end all (first + length merged.tables) front t)) (sym here)

-- the two steps
zip_parts : (items : List (Rule × ℕ)) → zip (map (λ item. item.0) items) (map (λ item. item.1) items) ≡ items
zip_parts [] = refl
zip_parts (item ∷ items) = ap (λ t. item ∷ t) (zip_parts items)

abbrev pub nothing_with : List AutoTable → Merged
nothing_with tables = record { rules = []; weights = []; tables = tables }

first_is : (rules : List Rule) (weights : List ℕ) (next : ℕ) (none : List AutoTable) (one : Merged) → none ≡ [] → one ≡ behind (nothing_with none) (merged_at Source (next + length none) (zip rules weights)) → one ≡ behind (nothing_with []) (merged_at Source next (zip rules weights))
first_is rules weights next none one e is =
    let start : next + 0 ≡ next = omega arith in
    is
    ∙ ap (λ (t : List AutoTable). behind (nothing_with t) (merged_at Source (next + length t) (zip rules weights))) e
    ∙ ap (λ (n : ℕ). behind (nothing_with []) (merged_at Source n (zip rules weights))) start

pub record First (rules : List Rule) (weights : List ℕ) (one : Merged) : Type 0 where
  pub total : sum one.weights ≡ sum weights
  pub few : length one.rules + length one.tables ≤ length rules
  pub each : length one.rules ≡ length one.weights

pub first_step : (rules : List Rule) (weights : List ℕ) (next : ℕ) (none : List AutoTable) (one : Merged) → none ≡ [] → one ≡ behind (nothing_with none) (merged_at Source (next + length none) (zip rules weights)) → length rules ≡ length weights → First rules weights one
first_step rules weights next none one e is same =
    let out = merged_at Source next (zip rules weights) in
    let whole = first_is rules weights next none one e is in
    let size : length (map (λ (item : Rule × ℕ). item.0) out.items) ≡ length out.items = length-map out.items (λ (item : Rule × ℕ). item.0) in
    let shares : length (map (λ (item : Rule × ℕ). item.1) out.items) ≡ length out.items = length-map out.items (λ (item : Rule × ℕ). item.1) in
    let within = step_few next Source (zip rules weights) in
    subst (λ (m : Merged). First rules weights m) (sym whole) (record {
      total = sum-map (λ (item : Rule × ℕ). item.1) out.items ∙ step_total next Source (zip rules weights) ∙ sym (sum-map (λ (item : Rule × ℕ). item.1) (zip rules weights)) ∙ ap sum (seconds-zip rules weights (sym same));
      few = omega (arith, within, length-zip rules weights);
      each = size ∙ sym shares;
    })

pub merged_twice : (rules : List Rule) (weights : List ℕ) (next : ℕ) (none : List AutoTable) (one two : Merged) → none ≡ [] → one ≡ behind (nothing_with none) (merged_at Source (next + length none) (zip rules weights)) → two ≡ behind (nothing_with one.tables) (merged_at Target (next + length one.tables) (zip one.rules one.weights)) → two ≡ merge_of rules weights next
unfolding merged_from
merged_twice rules weights next none one two e is then =
    let out = merged_at Source next (zip rules weights) in
    then
    ∙ ap (λ (m : Merged). behind (nothing_with m.tables) (merged_at Target (next + length m.tables) (zip m.rules m.weights))) (first_is rules weights next none one e is)
    ∙ ap (λ (t : List (Rule × ℕ)). behind (nothing_with out.tables) (merged_at Target (next + length out.tables) t)) (zip_parts out.items)
