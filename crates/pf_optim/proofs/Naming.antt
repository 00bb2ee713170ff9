-- Which tables the optimised rules name, and which anchors they have.
use Rattle.std.proofs.Common.{◌≡◌, ℕ, zero, suc, ◌+◌, ◌≤◌, nat_le, nat_lt, Bool, true, false, not, ◌&&◌, ◌||◌, List, [], ◌∷◌, ◌++◌, map, length, length-append, refl, sym, ap, ◌∙◌, arith, inl, inr}
use Rattle.std.proofs.lemmas.Bool.{and_from, and_parts, le-leb, ltb-true, lt-ltb}
use Rattle.std.proofs.lemmas.List.{map-append}
use Rattle.std.proofs.lemmas.List.Folds.{list_all-append}
use Rattle.std.proofs.lemmas.Slice.Zip.{firsts-zip}
use Rattle.std.specs.List.{flat_map, list_all, range_with_len, zip}
use Rattle.pf_auto.specs.Merged.{merged_from}
use Rattle.pf_auto.specs.Standing.{names_between, names_none, test_names_between}
use Rattle.pf_auto.specs.declared.merging.AutoTable.{AutoTable}
use Rattle.pf_base.specs.declared.kind.Level.{Level}
use Rattle.pf_base.specs.declared.kind.Level.TheVariants as level_is
use Rattle.pf_optim.specs.Meaning.{are_written}
use Rattle.pf_optim.specs.Optimised.{block_optimised, blocks_in, blocks_optimised, kept_in, optimised, ordered, rules_in}
use Rattle.pf_optim.proofs.Keeping.{RunLaws, StepLaws, all_kept, any_ordered, block_effects, block_of_one, both_join, joined_parts, linked_effects, rules_kept, true_or_false}
use Rattle.pf_optim.proofs.Lists.{all_alike, all_map, all_weaken, none_all}
use Rattle.pf_order.specs.Runs.{is_linked}
use Rattle.pf_rule.specs.Effect.{is_anchor}
use Rattle.pf_rule.specs.Equal.{effects}
use Rattle.pf_rule.specs.declared.criteria.AddrSet.TheVariants.{Prefix, Range, Table, Dynamic, Auto}
use Rattle.pf_rule.specs.declared.criteria.AddrTest.{AddrTest}
use Rattle.pf_rule.specs.declared.criteria.AddrTest.TheVariants.{Any, Test}
use Rattle.pf_rule.specs.declared.effect.Effect.{Effect}
use Rattle.pf_rule.specs.declared.rule.Rule.{Rule}

-- what the crates below promise of tables
pub record NameLaws : Type 0 where
  pub numbers : (next : ℕ) (items : List (Rule × ℕ)) → map (λ table. table.number) (merged_from next items).tables ≡ range_with_len next (length (merged_from next items).tables)
  pub names : (next : ℕ) (items : List (Rule × ℕ)) → list_all (λ item. names_none item.0) items ≡ true → list_all (λ item. names_between next (next + length (merged_from next items).tables) item.0) (merged_from next items).items ≡ true

range_append : (n a b : ℕ) → range_with_len n a ++ range_with_len (n + a) b ≡ range_with_len n (a + b)
range_append n zero b =
    let e : n + 0 ≡ n = omega arith in
    let f : 0 + b ≡ b = omega arith in
    ap (λ (m : ℕ). range_with_len m b) e ∙ sym (ap (range_with_len n) f)
range_append n (suc a) b =
    let e : n + suc a ≡ n + 1 + a = omega arith in
    let f : suc a + b ≡ suc (a + b) = omega arith in
    ap (λ (m : ℕ). n ∷ (range_with_len (n + 1) a ++ range_with_len m b)) e
    ∙ ap (λ t. n ∷ t) (range_append (n + 1) a b)
    ∙ sym (ap (range_with_len n) f)

block_numbers : NameLaws → (level : Level) (next : ℕ) (block : List (Rule × ℕ)) → map (λ table. table.number) (block_optimised level next block).tables ≡ range_with_len next (length (block_optimised level next block).tables)
unfolding block_optimised
block_numbers laws level next block = laws.numbers next (kept_in block)

blocks_numbers : NameLaws → (level : Level) (next : ℕ) (blocks : List (List (Rule × ℕ))) → map (λ table. table.number) (blocks_optimised level next blocks).tables ≡ range_with_len next (length (blocks_optimised level next blocks).tables)
blocks_numbers laws level next [] = refl
blocks_numbers laws level next (block ∷ blocks) =
    let first = block_optimised level next block in
    let rest = blocks_optimised level (next + length first.tables) blocks in
    map-append (λ (table : AutoTable). table.number) first.tables rest.tables
    ∙ ap (λ t. t ++ map (λ (table : AutoTable). table.number) rest.tables) (block_numbers laws level next block)
    ∙ ap (λ t. range_with_len next (length first.tables) ++ t) (blocks_numbers laws level (next + length first.tables) blocks)
    ∙ range_append next (length first.tables) (length rest.tables)
    ∙ ap (range_with_len next) (sym (length-append first.tables rest.tables))

-- table i has the number i
pub numbers_are : NameLaws → (level : Level) (rules : List Rule) (weights : List ℕ) → map (λ table. table.number) (optimised level rules weights).tables ≡ range_with_len 0 (length (optimised level rules weights).tables)
numbers_are laws level_is.None rules weights = refl
numbers_are laws level_is.Basic rules weights = blocks_numbers laws level_is.Basic 0 (blocks_in (zip rules weights))
numbers_are laws level_is.Profile rules weights = blocks_numbers laws level_is.Profile 0 (blocks_in (zip rules weights))

-- a test that names tables between two numbers names tables below a greater one
number_wider : (low high most number : ℕ) → high ≤ most → (nat_le low number && nat_lt number high) ≡ true → (nat_le 0 number && nat_lt number most) ≡ true
number_wider low high most number h e =
    let below = ltb-true number high (and_parts (nat_le low number) (nat_lt number high) e).1 in
    and_from (nat_le 0 number) (nat_lt number most) (le-leb 0 number (omega arith)) (lt-ltb number most (omega (arith, below, h)))

test_wider : (low high most : ℕ) → high ≤ most → (test : AddrTest) → test_names_between low high test ≡ true → test_names_between 0 most test ≡ true
test_wider low high most h Any e = refl
test_wider low high most h (Test negated (Prefix prefix)) e = refl
test_wider low high most h (Test negated (Range range)) e = refl
test_wider low high most h (Test negated (Table name)) e = refl
test_wider low high most h (Test negated (Dynamic what)) e = refl
test_wider low high most h (Test negated (Auto number)) e = number_wider low high most number h e

names_wider : (low high most : ℕ) → high ≤ most → (rule : Rule) → names_between low high rule ≡ true → names_between 0 most rule ≡ true
names_wider low high most h rule e =
    let parts = and_parts (test_names_between low high rule.criteria.source) (test_names_between low high rule.criteria.target) e in
    and_from (test_names_between 0 most rule.criteria.source) (test_names_between 0 most rule.criteria.target)
    (test_wider low high most h rule.criteria.source parts.0) (test_wider low high most h rule.criteria.target parts.1)

block_names : StepLaws → NameLaws → (level : Level) (next : ℕ) (block : List (Rule × ℕ)) → list_all (λ item. names_none item.0) block ≡ true → list_all (names_between next (next + length (block_optimised level next block).tables)) (block_optimised level next block).rules ≡ true
unfolding block_optimised
block_names steps laws level next block h =
    let combined = merged_from next (kept_in block) in
    let test = names_between next (next + length combined.tables) in
    all_alike (ordered level combined.items) (rules_in combined.items) (λ t. any_ordered steps t level combined.items) test
    ∙ all_map test (λ (item : Rule × ℕ). item.0) combined.items
    ∙ laws.names next (kept_in block)
    (sym (all_map names_none (λ (item : Rule × ℕ). item.0) (kept_in block))
    ∙ ap (list_all names_none) (rules_kept steps block)
    ∙ all_kept names_none (rules_in block) (all_map names_none (λ (item : Rule × ℕ). item.0) block ∙ h))

blocks_names : StepLaws → NameLaws → (level : Level) (next : ℕ) (blocks : List (List (Rule × ℕ))) → list_all (λ item. names_none item.0) (flat_map (λ block. block) blocks) ≡ true → list_all (names_between 0 (next + length (blocks_optimised level next blocks).tables)) (blocks_optimised level next blocks).rules ≡ true
blocks_names steps laws level next [] h = refl
blocks_names steps laws level next (block ∷ blocks) h =
    let behind = flat_map (λ (one : List (Rule × ℕ)). one) blocks in
    let first = block_optimised level next block in
    let rest = blocks_optimised level (next + length first.tables) blocks in
    let most = next + length (first.tables ++ rest.tables) in
    let parts = and_parts (list_all (λ (item : Rule × ℕ). names_none item.0) block) (list_all (λ (item : Rule × ℕ). names_none item.0) behind) (sym (list_all-append (λ (item : Rule × ℕ). names_none item.0) block behind) ∙ h) in
    let wide : next + length first.tables ≤ most = omega (arith, length-append first.tables rest.tables) in
    let all : next + length first.tables + length rest.tables ≤ most = omega (arith, length-append first.tables rest.tables) in
    list_all-append (names_between 0 most) first.rules rest.rules
    ∙ and_from (list_all (names_between 0 most) first.rules) (list_all (names_between 0 most) rest.rules)
    (all_weaken (names_between next (next + length first.tables)) (names_between 0 most) (names_wider next (next + length first.tables) most wide) first.rules (block_names steps laws level next block parts.0))
    (all_weaken (names_between 0 (next + length first.tables + length rest.tables)) (names_between 0 most) (names_wider 0 (next + length first.tables + length rest.tables) most all) rest.rules (blocks_names steps laws level (next + length first.tables) blocks parts.1))

sorted_names : StepLaws → NameLaws → RunLaws → (level : Level) (rules : List Rule) (weights : List ℕ) → length rules ≡ length weights → are_written rules ≡ true → list_all (names_between 0 (0 + length (blocks_optimised level 0 (blocks_in (zip rules weights))).tables)) (blocks_optimised level 0 (blocks_in (zip rules weights))).rules ≡ true
sorted_names steps laws runs level rules weights long written =
    blocks_names steps laws level 0 (blocks_in (zip rules weights))
    (ap (list_all (λ (item : Rule × ℕ). names_none item.0)) (runs.whole both_join (zip rules weights)) ∙ sym (all_map names_none (λ (item : Rule × ℕ). item.0) (zip rules weights)) ∙ ap (list_all names_none) (firsts-zip rules weights (sym long)) ∙ written)

-- the optimised rules name no other tables than those that were made
pub names_are : StepLaws → NameLaws → RunLaws → (level : Level) (rules : List Rule) (weights : List ℕ) → length rules ≡ length weights → are_written rules ≡ true → list_all (names_between 0 (length (optimised level rules weights).tables)) (optimised level rules weights).rules ≡ true
names_are steps laws runs level_is.None rules weights long written = written
names_are steps laws runs level_is.Basic rules weights long written =
    let tables = (blocks_optimised level_is.Basic 0 (blocks_in (zip rules weights))).tables in
    let e : 0 + length tables ≡ length tables = omega arith in
    sym (ap (λ (n : ℕ). list_all (names_between 0 n) (blocks_optimised level_is.Basic 0 (blocks_in (zip rules weights))).rules) e) ∙ sorted_names steps laws runs level_is.Basic rules weights long written
names_are steps laws runs level_is.Profile rules weights long written =
    let tables = (blocks_optimised level_is.Profile 0 (blocks_in (zip rules weights))).tables in
    let e : 0 + length tables ≡ length tables = omega arith in
    sym (ap (λ (n : ℕ). list_all (names_between 0 n) (blocks_optimised level_is.Profile 0 (blocks_in (zip rules weights))).rules) e) ∙ sorted_names steps laws runs level_is.Profile rules weights long written

-- an anchor rule passes the test
abbrev pub anchors_pass : (Rule → Bool) → Rule → Bool
anchors_pass test rule = not (is_anchor rule.effect.action) || test rule

plain_passes : (test : Rule → Bool) (rule : Rule) → not (is_anchor rule.effect.action) ≡ true → anchors_pass test rule ≡ true
plain_passes test rule e = ap (λ (b : Bool). b || test rule) e

plain_block : StepLaws → (test : Rule → Bool) (level : Level) (next : ℕ) (block : List (Rule × ℕ)) (effect : Effect) → is_anchor effect.action ≡ false → list_all (λ item. effects.same effect item.0.effect) block ≡ true → list_all (anchors_pass test) (block_optimised level next block).rules ≡ true
plain_block steps test level next block effect plain same =
    all_weaken (λ rule. not (is_anchor rule.effect.action)) (anchors_pass test) (plain_passes test) (block_optimised level next block).rules
    (block_effects steps (λ one. not (is_anchor one.action)) level next block
    (all_weaken (λ (item : Rule × ℕ). effects.same effect item.0.effect) (λ item. not (is_anchor item.0.effect.action)) (λ item e. ap (λ (one : Effect). not (is_anchor one.action)) (sym ((effects.decides effect item.0.effect).0 e)) ∙ ap not plain) block same))

block_anchors : StepLaws → (test : Rule → Bool) (level : Level) (next : ℕ) (block : List (Rule × ℕ)) → is_linked both_join block ≡ true → list_all (λ item. anchors_pass test item.0) block ≡ true → list_all (anchors_pass test) (block_optimised level next block).rules ≡ true
block_anchors steps test level next [] linked h =
    ap (list_all (anchors_pass test)) (none_all (block_optimised level next []).rules (block_effects steps (λ effect. false) level next [] refl))
block_anchors steps test level next (item ∷ []) linked h =
    elim (true_or_false (is_anchor item.0.effect.action)) [
      | inl anchor ↦ ap (list_all (anchors_pass test)) (block_of_one steps level next item) ∙ h
      | inr plain ↦ plain_block steps test level next (item ∷ []) item.0.effect plain (linked_effects item.0.effect item [] refl linked)
    ]
block_anchors steps test level next (item ∷ (other ∷ more)) linked h =
    let parts = and_parts (both_join item other) (is_linked both_join (other ∷ more)) linked in
    plain_block steps test level next (item ∷ (other ∷ more)) item.0.effect (joined_parts item.0 other.0 parts.0).0 (linked_effects item.0.effect item (other ∷ more) refl linked)

blocks_anchors : StepLaws → (test : Rule → Bool) (level : Level) (next : ℕ) (blocks : List (List (Rule × ℕ))) → list_all (is_linked both_join) blocks ≡ true → list_all (λ item. anchors_pass test item.0) (flat_map (λ block. block) blocks) ≡ true → list_all (anchors_pass test) (blocks_optimised level next blocks).rules ≡ true
blocks_anchors steps test level next [] linked h = refl
blocks_anchors steps test level next (block ∷ blocks) linked h =
    let behind = flat_map (λ (one : List (Rule × ℕ)). one) blocks in
    let first = block_optimised level next block in
    let rest = blocks_optimised level (next + length first.tables) blocks in
    let links = and_parts (is_linked both_join block) (list_all (is_linked both_join) blocks) linked in
    let parts = and_parts (list_all (λ (item : Rule × ℕ). anchors_pass test item.0) block) (list_all (λ (item : Rule × ℕ). anchors_pass test item.0) behind) (sym (list_all-append (λ (item : Rule × ℕ). anchors_pass test item.0) block behind) ∙ h) in
    list_all-append (anchors_pass test) first.rules rest.rules
    ∙ and_from (list_all (anchors_pass test) first.rules) (list_all (anchors_pass test) rest.rules)
    (block_anchors steps test level next block links.0 parts.0)
    (blocks_anchors steps test level (next + length first.tables) blocks links.1 parts.1)

sorted_anchors : StepLaws → RunLaws → (test : Rule → Bool) (level : Level) (rules : List Rule) (weights : List ℕ) → length rules ≡ length weights → list_all (anchors_pass test) rules ≡ true → list_all (anchors_pass test) (blocks_optimised level 0 (blocks_in (zip rules weights))).rules ≡ true
sorted_anchors steps runs test level rules weights long h =
    blocks_anchors steps test level 0 (blocks_in (zip rules weights)) (runs.linked both_join (zip rules weights))
    (ap (list_all (λ (item : Rule × ℕ). anchors_pass test item.0)) (runs.whole both_join (zip rules weights)) ∙ sym (all_map (anchors_pass test) (λ (item : Rule × ℕ). item.0) (zip rules weights)) ∙ ap (list_all (anchors_pass test)) (firsts-zip rules weights (sym long)) ∙ h)

-- what all anchor rules pass, all anchor rules of the optimised form pass
pub anchors_are : StepLaws → RunLaws → (test : Rule → Bool) (level : Level) (rules : List Rule) (weights : List ℕ) → length rules ≡ length weights → list_all (anchors_pass test) rules ≡ true → list_all (anchors_pass test) (optimised level rules weights).rules ≡ true
anchors_are steps runs test level_is.None rules weights long h = h
anchors_are steps runs test level_is.Basic rules weights long h = sorted_anchors steps runs test level_is.Basic rules weights long h
anchors_are steps runs test level_is.Profile rules weights long h = sorted_anchors steps runs test level_is.Profile rules weights long h
