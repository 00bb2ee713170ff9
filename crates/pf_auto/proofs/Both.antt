-- The laws of combining at both ends.
use Rattle.std.proofs.Common.{◌≡◌, ℕ, zero, suc, ◌+◌, ◌<◌, ◌≤◌, Bool, true, false, ◌&&◌, cond, nat_le, nat_lt, List, [], ◌∷◌, ◌++◌, map, length, refl, sym, ap, ◌∙◌, arith}
use Rattle.std.proofs.lemmas.Bool.{and_from, and_parts, le-leb, lt-ltb, ltb-true}
use Rattle.std.proofs.lemmas.List.{length-append, map-append}
use Rattle.std.proofs.lemmas.List.Elements.{All-cons, All-head, All-nil, All-tail, All-weaker}
use Rattle.std.proofs.lemmas.List.Sums.{AllPass-from_list_all, list_all-from_AllPass}
use Rattle.std.specs.List.{All, list_all, list_any, range_with_len, sum_by}
use Rattle.pf_auto.proofs.Hits.{Stands, behind_hits}
use Rattle.pf_auto.proofs.Kept.{all_behind, behind_weighs, few_behind, numbered_behind, ones}
use Rattle.pf_auto.proofs.Leading.{left_passes_same}
use Rattle.pf_auto.proofs.Mates.{grouping, mates_at}
use Rattle.pf_auto.proofs.Weighing.{left_weighs_same}
use Rattle.pf_auto.specs.Merged.{Combined, group_of, merged_at, merged_from, merged_rule, with_group}
use Rattle.pf_auto.specs.Standing.{StandFor, names_between, names_none, test_names_between}
use Rattle.pf_auto.specs.declared.merging.AutoTable.{AutoTable}
use Rattle.pf_auto.specs.declared.place.End.{End}
use Rattle.pf_auto.specs.declared.place.End.TheVariants.{Source, Target}
use Rattle.pf_rule.specs.Around.{Around}
use Rattle.pf_rule.specs.Hit.{hits_at}
use Rattle.pf_rule.specs.declared.criteria.AddrSet.TheVariants.{Prefix, Range, Table, Dynamic, Auto}
use Rattle.pf_rule.specs.declared.criteria.AddrTest.{AddrTest}
use Rattle.pf_rule.specs.declared.criteria.AddrTest.TheVariants.{Any, Test}
use Rattle.pf_rule.specs.declared.effect.Effect.{Effect}
use Rattle.pf_rule.specs.declared.rule.Rule.{Rule}
use Rattle.pf_rule.specs.declared.walk.Walk.{Walk}

all_left : {A : Type 0} (P : A → Type 0) (xs ys : List A) → All P (xs ++ ys) → All P xs
all_left P [] ys h = All-nil P
all_left P (x ∷ xs) ys h = All-cons P x xs (All-head P x (xs ++ ys) h) (all_left P xs ys (All-tail P x (xs ++ ys) h))

all_right : {A : Type 0} (P : A → Type 0) (xs ys : List A) → All P (xs ++ ys) → All P ys
all_right P [] ys h = h
all_right P (x ∷ xs) ys h = all_right P xs ys (All-tail P x (xs ++ ys) h)

-- the two steps
abbrev sources : ℕ → List (Rule × ℕ) → Combined
sources next items = merged_at Source next items

abbrev targets : ℕ → List (Rule × ℕ) → Combined
targets next items = merged_at Target (next + length (sources next items).tables) (sources next items).items

pub match_together : (around : Around) (next : ℕ) (items : List (Rule × ℕ)) (walk : Walk) → StandFor around (merged_from next items).tables → list_any (λ item. hits_at around item.0 walk) (merged_from next items).items ≡ list_any (λ item. hits_at around item.0 walk) items
unfolding merged_from
match_together around next items walk stands =
    let one = sources next items in
    let two = targets next items in
    let hit : Rule × ℕ → Bool = λ item. hits_at around item.0 walk in
    behind_hits Target around walk one.items (next + length one.tables) [] one.items (all_right (Stands around) one.tables two.tables stands)
    ∙ left_passes_same (mates_at Target) (grouping Target) hit one.items
    ∙ behind_hits Source around walk items next [] items (all_left (Stands around) one.tables two.tables stands)
    ∙ left_passes_same (mates_at Source) (grouping Source) hit items

-- what holds of each rule
pub all_merged : (P : Rule → Type 0) (next : ℕ) (items : List (Rule × ℕ)) (high : ℕ) → next + length (merged_from next items).tables ≤ high → ((end : End) (rule : Rule) (n : ℕ) → next ≤ n → n < high → P rule → P (merged_rule end n rule)) → All (λ item. P item.0) items → All (λ item. P item.0) (merged_from next items).items
unfolding merged_from
all_merged P next items high most step each =
    let one = sources next items in
    let two = targets next items in
    let size = length-append one.tables two.tables in
    let within : next + length one.tables ≤ high = omega arith in
    let whole : (next + length one.tables) + length two.tables ≤ high = omega arith in
    let from : next ≤ next + length one.tables = omega arith in
    all_behind P next high Target (step Target) one.items (next + length one.tables) [] one.items from whole
    (all_behind P next high Source (step Source) items next [] items (omega arith) within each)

lead_effect : (test : Effect → Bool) (end : End) (rule : Rule) (n : ℕ) → test rule.effect ≡ true → test (merged_rule end n rule).effect ≡ true
lead_effect test Source rule n h = h
lead_effect test Target rule n h = h

pub effects_stay : (test : Effect → Bool) (next : ℕ) (items : List (Rule × ℕ)) → list_all (λ item. test item.0.effect) items ≡ true → list_all (λ item. test item.0.effect) (merged_from next items).items ≡ true
effects_stay test next items each =
    let passes : Rule × ℕ → Bool = λ item. test item.0.effect in
    list_all-from_AllPass passes (merged_from next items).items
    (all_merged (λ rule. test rule.effect ≡ true) next items (next + length (merged_from next items).tables) (omega arith)
    (λ end rule n l h k. lead_effect test end rule n k) (AllPass-from_list_all passes items each))

-- the tables that rules name
none_is_any : (low high : ℕ) (test : AddrTest) → test_names_between 0 0 test ≡ true → test_names_between low high test ≡ true
none_is_any low high Any h = refl
none_is_any low high (Test negated (Prefix prefix)) h = refl
none_is_any low high (Test negated (Range range)) h = refl
none_is_any low high (Test negated (Table name)) h = refl
none_is_any low high (Test negated (Dynamic what)) h = refl
none_is_any low high (Test negated (Auto number)) h =
    let less : number < 0 = ltb-true number 0 (and_parts (nat_le 0 number) (nat_lt number 0) h).1 in absurd (omega arith)

rule_names_any : (low high : ℕ) (rule : Rule) → names_none rule ≡ true → names_between low high rule ≡ true
rule_names_any low high rule h =
    let parts = and_parts (test_names_between 0 0 rule.criteria.source) (test_names_between 0 0 rule.criteria.target) h in
    and_from (test_names_between low high rule.criteria.source) (test_names_between low high rule.criteria.target)
    (none_is_any low high rule.criteria.source parts.0) (none_is_any low high rule.criteria.target parts.1)

lead_names : (low high : ℕ) (end : End) (rule : Rule) (n : ℕ) → low ≤ n → n < high → names_between low high rule ≡ true → names_between low high (merged_rule end n rule) ≡ true
lead_names low high Source rule n l h k =
    and_from (nat_le low n && nat_lt n high) (test_names_between low high rule.criteria.target)
    (and_from (nat_le low n) (nat_lt n high) (le-leb low n l) (lt-ltb n high h))
    (and_parts (test_names_between low high rule.criteria.source) (test_names_between low high rule.criteria.target) k).1
lead_names low high Target rule n l h k =
    and_from (test_names_between low high rule.criteria.source) (nat_le low n && nat_lt n high)
    (and_parts (test_names_between low high rule.criteria.source) (test_names_between low high rule.criteria.target) k).0
    (and_from (nat_le low n) (nat_lt n high) (le-leb low n l) (lt-ltb n high h))

pub names_these : (next : ℕ) (items : List (Rule × ℕ)) → list_all (λ item. names_none item.0) items ≡ true → list_all (λ item. names_between next (next + length (merged_from next items).tables) item.0) (merged_from next items).items ≡ true
names_these next items h =
    let high = next + length (merged_from next items).tables in
    let none : Rule × ℕ → Bool = λ item. names_none item.0 in
    let these : Rule × ℕ → Bool = λ item. names_between next high item.0 in
    list_all-from_AllPass these (merged_from next items).items
    (all_merged (λ rule. names_between next high rule ≡ true) next items high (omega arith)
    (λ end rule n l k named. lead_names next high end rule n l k named)
    (All-weaker (λ item. none item ≡ true) (λ item. these item ≡ true) (λ item. rule_names_any next high item.0) items (AllPass-from_list_all none items h)))

-- how many, and what they weigh
pub step_few : (next : ℕ) (end : End) (items : List (Rule × ℕ)) → length (merged_at end next items).items + length (merged_at end next items).tables ≤ length items
step_few next end items =
    omega (arith, few_behind end items next [] items, left_weighs_same (mates_at end) (grouping end) (λ _. 1) items, ones items)

pub few : (next : ℕ) (items : List (Rule × ℕ)) → length (merged_from next items).items + length (merged_from next items).tables ≤ length items
unfolding merged_from
few next items =
    let one = sources next items in
    let two = targets next items in
    omega (arith, length-append one.tables two.tables, step_few (next + length one.tables) Target one.items, step_few next Source items)

pub step_total : (next : ℕ) (end : End) (items : List (Rule × ℕ)) → sum_by (λ item. item.1) (merged_at end next items).items ≡ sum_by (λ item. item.1) items
step_total next end items =
    behind_weighs end items next [] items
    ∙ left_weighs_same (mates_at end) (grouping end) (λ item. item.1) items

pub total_stays : (next : ℕ) (items : List (Rule × ℕ)) → sum_by (λ item. item.1) (merged_from next items).items ≡ sum_by (λ item. item.1) items
unfolding merged_from
total_stays next items =
    let one = sources next items in
    step_total (next + length one.tables) Target one.items ∙ step_total next Source items

-- a rule alone
step_single : (end : End) (next : ℕ) (item : Rule × ℕ) → merged_at end next (item ∷ []) ≡ record { items = item ∷ []; tables = [] }
step_single end next item =
    elim (mates_at end item item) as (λ b. cond (nat_le 6 (length (cond b (item ∷ []) []))) (with_group end next (group_of end (item ∷ []) item.0) item.0 (record { items = []; tables = [] })) (record { items = item ∷ []; tables = [] }) ≡ record { items = item ∷ []; tables = [] }) [
      | true ↦ refl
      | false ↦ refl
    ]

pub single : (next : ℕ) (item : Rule × ℕ) → merged_from next (item ∷ []) ≡ record { items = item ∷ []; tables = [] }
unfolding merged_from
single next item =
    ap (λ (one : Combined). let two = merged_at Target (next + length one.tables) one.items in record { items = two.items; tables = one.tables ++ two.tables }) (step_single Source next item)
    ∙ ap (λ (two : Combined). record { items = two.items; tables = [] ++ two.tables }) (step_single Target (next + 0) item)

-- the tables' numbers
range_joins : (n a b m : ℕ) → m ≡ n + a → range_with_len n a ++ range_with_len m b ≡ range_with_len n (a + b)
range_joins n zero b m e =
    let same : m ≡ n = omega arith in
    let size : b ≡ 0 + b = omega arith in
    ap (λ i. range_with_len i b) same ∙ ap (range_with_len n) size
range_joins n (suc a) b m e =
    let later : m ≡ (n + 1) + a = omega arith in
    let size : suc (a + b) ≡ suc a + b = omega arith in
    ap (λ t. n ∷ t) (range_joins (n + 1) a b m later) ∙ ap (range_with_len n) size

pub numbered : (next : ℕ) (items : List (Rule × ℕ)) → map (λ table. table.number) (merged_from next items).tables ≡ range_with_len next (length (merged_from next items).tables)
unfolding merged_from
numbered next items =
    let one = sources next items in
    let two = targets next items in
    map-append (λ (table : AutoTable). table.number) one.tables two.tables
    ∙ ap (λ t. t ++ map (λ (table : AutoTable). table.number) two.tables) (numbered_behind Source items next [] items)
    ∙ ap (λ t. range_with_len next (length one.tables) ++ t) (numbered_behind Target one.items (next + length one.tables) [] one.items)
    ∙ range_joins next (length one.tables) (length two.tables) (next + length one.tables) refl
    ∙ ap (range_with_len next) (sym (length-append one.tables two.tables))
