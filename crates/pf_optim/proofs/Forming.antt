-- The optimised form, block by block.
use Rattle.std.proofs.Common.{◌≡◌, ℕ, zero, suc, append-nil, ◌+◌, ◌-◌, ◌<◌, ◌≤◌, cond, Bool, true, false, ◌&&◌, List, [], ◌∷◌, ◌++◌, map, length, take, drop, get_or, append_assoc, length-append, refl, sym, ap, ◌∙◌, subst, arith}
use Rattle.std.proofs.lemmas.List.{at_drop_more, length-map}
use Rattle.std.proofs.lemmas.List.Sorted.{length_permutation}
use Rattle.std.proofs.lemmas.List.Sums.{sum_by-take-drop, sum_by-take-le}
use Rattle.std.proofs.lemmas.Slice.Zip.{firsts-zip}
use Rattle.std.specs.List.{flat_map, sum, zip}
use Rattle.std.specs.List.Sorted.{IsPermutation}
use Rattle.pf_auto.specs.Merged.{merge_of, merged_from}
use Rattle.pf_auto.specs.declared.merging.AutoTable.{AutoTable}
use Rattle.pf_auto.specs.declared.merging.Merged.{Merged}
use Rattle.pf_base.specs.declared.kind.Level.{Level}
use Rattle.pf_cover.specs.Kept.{kept_rules, kept_weights}
use Rattle.pf_optim.specs.FormSteps.{with_block}
use Rattle.pf_optim.specs.Optimised.{Listed, block_optimised, blocks_in, blocks_optimised, is_profiled, is_quick, joined, kept_in, ordered, rules_in, weights_in}
use Rattle.pf_optim.proofs.Spans.{StandsIn, length_spans, spans_of_view, stands_at, zip_part}
use Rattle.pf_order.specs.Blocks.{blocks_of, joins, spans_from}
use Rattle.pf_order.specs.declared.block.Span.{Span}
use Rattle.pf_order.specs.Order.{gain_order, profile_order}
use Rattle.pf_rule.specs.declared.rule.Rule.{Rule}

-- the second parts of pairs, and pairs of their parts
seconds_zip : {A B : Type 0} (xs : List A) (ys : List B) → length xs ≡ length ys → map (λ (item : A × B). item.1) (zip xs ys) ≡ ys
seconds_zip [] [] e = refl
seconds_zip [] (y ∷ ys) e = absurd (omega (arith, e))
seconds_zip (x ∷ xs) [] e = absurd (omega (arith, e))
seconds_zip (x ∷ xs) (y ∷ ys) e = ap (λ t. y ∷ t) (seconds_zip xs ys (omega (arith, e)))

zip_parts : {A B : Type 0} (items : List (A × B)) → zip (map (λ (item : A × B). item.0) items) (map (λ (item : A × B). item.1) items) ≡ items
zip_parts [] = refl
zip_parts (item ∷ items) = ap (λ t. item ∷ t) (zip_parts items)

-- rules with tables
abbrev with_tables : List Rule → List AutoTable → Listed
with_tables rules tables = record { rules = rules; tables = tables }

-- what is made of a block
pub block_formed : (level : Level) (rules : List Rule) (weights : List ℕ) (next : ℕ) (kept : List Rule) (given : List ℕ) (merged : Merged) (sorted : List Rule) → length rules ≡ length weights → kept ≡ kept_rules rules → given ≡ kept_weights rules weights → merged ≡ merge_of kept given next → sorted ≡ ordered level (zip merged.rules merged.weights) → ◌≡◌ {A = Listed} (record { rules = sorted; tables = merged.tables }) (block_optimised level next (zip rules weights))
unfolding block_optimised
block_formed level rules weights next kept given merged sorted long k g m s =
    let block = zip rules weights in
    let firsts = firsts-zip rules weights (sym long) in
    let seconds = seconds_zip rules weights long in
    let pairs = ap (λ t. zip t given) k ∙ ap (zip (kept_rules rules)) g ∙ sym (ap (λ t. zip (kept_rules t) (kept_weights t (weights_in block))) firsts ∙ ap (λ t. zip (kept_rules rules) (kept_weights rules t)) seconds) in
    let items = (merged_from next (zip kept given)).items in
    ap (λ (r : List Rule). with_tables r merged.tables) (s ∙ ap (λ (t : Merged). ordered level (zip t.rules t.weights)) m ∙ ap (ordered level) (zip_parts items))
    ∙ ap (λ (t : Merged). with_tables (ordered level items) t.tables) m
    ∙ ap (λ t. with_tables (ordered level (merged_from next t).items) (merged_from next t).tables) pairs

-- how long what is made is
pub record SizeLaws : Type 0 where
  pub gain : (rules : List Rule) → IsPermutation rules (gain_order rules)
  pub profile : (rules : List Rule) (weights : List ℕ) → length rules ≡ length weights → IsPermutation rules (profile_order rules weights)
  pub fewer : (rules : List Rule) → length (kept_rules rules) ≤ length rules
  pub few : (next : ℕ) (items : List (Rule × ℕ)) → length (merged_from next items).items + length (merged_from next items).tables ≤ length items

ordered_size : SizeLaws → (level : Level) (items : List (Rule × ℕ)) → length (ordered level items) ≡ length items
ordered_size laws level items = cases (is_profiled level && is_quick (rules_in items))
  where
    long : length (rules_in items) ≡ length (weights_in items)
    long = length-map items (λ item. item.0) ∙ sym (length-map items (λ item. item.1))

    cases : (b : Bool) → length (cond b (profile_order (rules_in items) (weights_in items)) (gain_order (rules_in items))) ≡ length items
    cases true = length_permutation (rules_in items) (profile_order (rules_in items) (weights_in items)) (laws.profile (rules_in items) (weights_in items) long) ∙ length-map items (λ item. item.0)
    cases false = length_permutation (rules_in items) (gain_order (rules_in items)) (laws.gain (rules_in items)) ∙ length-map items (λ item. item.0)

zip_most : {A B : Type 0} (xs : List A) (ys : List B) → length (zip xs ys) ≤ length xs
zip_most [] ys = omega arith
zip_most (x ∷ xs) [] = omega arith
zip_most (x ∷ xs) (y ∷ ys) = omega (arith, zip_most xs ys)

-- the optimised form of a block has no more rules and tables together than the block has rules
pub block_size : SizeLaws → (level : Level) (next : ℕ) (block : List (Rule × ℕ)) → length (block_optimised level next block).rules + length (block_optimised level next block).tables ≤ length block
unfolding block_optimised
block_size laws level next block =
    omega (arith, ordered_size laws level (merged_from next (kept_in block)).items, laws.few next (kept_in block), zip_most (kept_rules (rules_in block)) (kept_weights (rules_in block) (weights_in block)), laws.fewer (rules_in block), length-map block (λ (item : Rule × ℕ). item.0))

-- the blocks so far with those behind them are all
pub block_more : (level : Level) (before after : Listed) (block : List (Rule × ℕ)) (blocks : List (List (Rule × ℕ))) → after ≡ joined before (block_optimised level (length before.tables) block) → joined after (blocks_optimised level (length after.tables) blocks) ≡ joined before (blocks_optimised level (length before.tables) (block ∷ blocks))
block_more level before after block blocks e =
    let first = block_optimised level (length before.tables) block in
    ap (λ (t : Listed). joined t (blocks_optimised level (length t.tables) blocks)) e
    ∙ ap (λ (n : ℕ). joined (joined before first) (blocks_optimised level n blocks)) (length-append before.tables first.tables)
    ∙ (λ i. record {
      rules = append_assoc before.rules first.rules (blocks_optimised level (length before.tables + length first.tables) blocks).rules i;
      tables = append_assoc before.tables first.tables (blocks_optimised level (length before.tables + length first.tables) blocks).tables i;
    })

-- the order by weights, and by gain
pub by_weights : (level : Level) (rules : List Rule) (weights : List ℕ) (b : Bool) → length rules ≡ length weights → b ≡ (is_profiled level && is_quick rules) → b ≡ true → profile_order rules weights ≡ ordered level (zip rules weights)
by_weights level rules weights b long is e =
    let firsts = firsts-zip rules weights (sym long) in
    let seconds = seconds_zip rules weights long in
    sym (ap (λ (t : Bool). cond t (profile_order (rules_in (zip rules weights)) (weights_in (zip rules weights))) (gain_order (rules_in (zip rules weights)))) (ap (λ t. is_profiled level && is_quick t) firsts ∙ sym is ∙ e)
    ∙ ap (λ t. profile_order t (weights_in (zip rules weights))) firsts
    ∙ ap (profile_order rules) seconds)

pub by_gain : (level : Level) (rules : List Rule) (weights : List ℕ) (b : Bool) → length rules ≡ length weights → b ≡ (is_profiled level && is_quick rules) → b ≡ false → gain_order rules ≡ ordered level (zip rules weights)
by_gain level rules weights b long is e =
    let firsts = firsts-zip rules weights (sym long) in
    sym (ap (λ (t : Bool). cond t (profile_order (rules_in (zip rules weights)) (weights_in (zip rules weights))) (gain_order (rules_in (zip rules weights)))) (ap (λ t. is_profiled level && is_quick t) firsts ∙ sym is ∙ e)
    ∙ ap gain_order firsts)

-- one block more
pub record BlockMore (level : Level) (rules : List Rule) (weights : List ℕ) (after : Listed) (rest : List (List (Rule × ℕ))) : Type 0 where
  pub found : joined after (blocks_optimised level (length after.tables) rest) ≡ blocks_optimised level 0 (blocks_in (zip rules weights))
  pub room : length after.rules + length after.tables + length (flat_map (λ block. block) rest) ≤ length rules

pub block_added : SizeLaws → (level : Level) (rules part : List Rule) (weights given : List ℕ) (before after : Listed) (left rest : List (List (Rule × ℕ))) (block : List (Rule × ℕ)) → left ≡ block ∷ rest → zip part given ≡ block → after ≡ with_block level before part given → BlockMore level rules weights before left → BlockMore level rules weights after rest
block_added laws level rules part weights given before after left rest block front is e so_far =
    let made : after ≡ joined before (block_optimised level (length before.tables) block) = e ∙ ap (λ t. joined before (block_optimised level (length before.tables) t)) is in
    let size = block_size laws level (length before.tables) block in
    let first = block_optimised level (length before.tables) block in
    let long_rules = ap (λ (t : Listed). length t.rules) made ∙ length-append before.rules first.rules in
    let long_tables = ap (λ (t : Listed). length t.tables) made ∙ length-append before.tables first.tables in
    let left_long = ap (λ t. length (flat_map (λ (one : List (Rule × ℕ)). one) t)) front ∙ length-append block (flat_map (λ (one : List (Rule × ℕ)). one) rest) in
    record {
      found = block_more level before after block rest made ∙ ap (λ t. joined before (blocks_optimised level (length before.tables) t)) (sym front) ∙ so_far.found;
      room = omega (arith, size, long_rules, long_tables, left_long, so_far.room);
    }

-- the part of weights in a span
pub sum_part : (weights : List ℕ) (start width : ℕ) → sum (take width (drop start weights)) ≤ sum weights
sum_part weights start width =
    omega (arith, sum_by-take-le (λ (x : ℕ). x) (drop start weights) width, sum_by-take-drop (λ (x : ℕ). x) weights start)

-- a block more behind what there is
pub form_added : (level : Level) (rules : List Rule) (weights : List ℕ) (old : Listed) (new_rules : List Rule) (new_tables : List AutoTable) (next : ℕ) (kept : List Rule) (given : List ℕ) (merged : Merged) (sorted : List Rule) → length rules ≡ length weights → next ≡ length old.tables → kept ≡ kept_rules rules → given ≡ kept_weights rules weights → merged ≡ merge_of kept given next → sorted ≡ ordered level (zip merged.rules merged.weights) → new_rules ≡ old.rules ++ sorted → new_tables ≡ old.tables ++ merged.tables → with_tables new_rules new_tables ≡ with_block level old rules weights
form_added level rules weights old new_rules new_tables next kept given merged sorted long n k g m s r t =
    (λ i. with_tables (r i) (t i))
    ∙ ap (joined old) (block_formed level rules weights next kept given merged sorted long k g m s)
    ∙ ap (λ (number : ℕ). joined old (block_optimised level number (zip rules weights))) n

pub merged_small : ((next : ℕ) (items : List (Rule × ℕ)) → length (merged_from next items).items + length (merged_from next items).tables ≤ length items) → (kept : List Rule) (given : List ℕ) (next : ℕ) (merged : Merged) → merged ≡ merge_of kept given next → length merged.rules ≤ length kept
merged_small few kept given next merged m =
    omega (arith, ap (λ (t : Merged). length t.rules) m, length-map (merged_from next (zip kept given)).items (λ (item : Rule × ℕ). item.0), few next (zip kept given), zip_most kept given)

-- the spans of the blocks, beside the blocks of rules with weights
zip_long : (rules : List Rule) (weights : List ℕ) → length rules ≡ length weights → length (zip rules weights) ≡ length rules
zip_long rules weights long = sym (length-map (zip rules weights) (λ (item : Rule × ℕ). item.0)) ∙ ap length (firsts-zip rules weights (sym long))

pub record SpanFacts (rules : List Rule) (weights : List ℕ) (k : ℕ) (span : Span) : Type 0 where
  pub rising : span.start ≤ span.end
  pub in_rules : span.end ≤ length rules
  pub in_weights : span.end ≤ length weights
  pub front : drop k (blocks_in (zip rules weights)) ≡ get_or (blocks_in (zip rules weights)) k [] ∷ drop (k + 1) (blocks_in (zip rules weights))
  pub part : zip (take (span.end - span.start) (drop span.start rules)) (take (span.end - span.start) (drop span.start weights)) ≡ get_or (blocks_in (zip rules weights)) k []

spans_are : (rules : List Rule) (weights : List ℕ) → length rules ≡ length weights → (spans : List Span) → spans ≡ spans_from 0 (blocks_of rules) → spans ≡ spans_from 0 (blocks_in (zip rules weights))
spans_are rules weights long spans e =
    e ∙ spans_of_view (λ (item : Rule × ℕ). item.0) joins (zip rules weights) rules (firsts-zip rules weights (sym long))

pub runs_long : (rules : List Rule) (weights : List ℕ) → length rules ≡ length weights → (spans : List Span) → spans ≡ spans_from 0 (blocks_of rules) → length spans ≡ length (blocks_in (zip rules weights))
runs_long rules weights long spans e = ap length (spans_are rules weights long spans e) ∙ length_spans 0 (blocks_in (zip rules weights))

pub span_facts : (rules : List Rule) (weights : List ℕ) (spans : List Span) (k : ℕ) (s : Span) → length rules ≡ length weights → spans ≡ spans_from 0 (blocks_of rules) → flat_map (λ run. run) (blocks_in (zip rules weights)) ≡ zip rules weights → k < length spans → SpanFacts rules weights k (get_or spans k s)
span_facts rules weights spans k s long e whole low =
    let runs = blocks_in (zip rules weights) in
    let are = spans_are rules weights long spans e in
    let inside : k < length runs = omega (arith, low, runs_long rules weights long spans e) in
    let stands = stands_at [] runs 0 k s [] refl inside in
    let P : List (Rule × ℕ) → Type 0 = λ t. StandsIn t (get_or (spans_from 0 runs) k s) (get_or runs k []) in
    let Q : List Span → Type 0 = λ t. StandsIn (zip rules weights) (get_or t k s) (get_or runs k []) in
    let facts = subst Q (sym are) (subst P whole stands) in
    let span = get_or spans k s in
    record {
      rising = facts.rising;
      in_rules = omega (arith, facts.within, zip_long rules weights long);
      in_weights = omega (arith, facts.within, zip_long rules weights long, long);
      front = at_drop_more (λ (t : List (List (Rule × ℕ))). t) runs k [] inside;
      part = zip_part span.start (span.end - span.start) rules weights long ∙ facts.cut;
    }

pub none_yet : (level : Level) (rules : List Rule) (weights : List ℕ) (no_rules : List Rule) (no_tables : List AutoTable) → length rules ≡ length weights → no_rules ≡ [] → no_tables ≡ [] → flat_map (λ run. run) (blocks_in (zip rules weights)) ≡ zip rules weights → BlockMore level rules weights (with_tables no_rules no_tables) (blocks_in (zip rules weights))
none_yet level rules weights no_rules no_tables long r t whole =
    let P : List Rule → List AutoTable → Type 0 = λ a b. BlockMore level rules weights (with_tables a b) (blocks_in (zip rules weights)) in
    let Q : List Rule → Type 0 = λ a. P a no_tables in
    let start : BlockMore level rules weights (with_tables [] []) (blocks_in (zip rules weights)) = record { found = refl; room = omega (arith, ap length whole, zip_long rules weights long) } in
    let R : List AutoTable → Type 0 = λ b. P [] b in
    subst Q (sym r) (subst R (sym t) start)

drop_none : {A : Type 0} (xs : List A) (n : ℕ) → length xs ≤ n → drop n xs ≡ []
drop_none [] zero h = refl
drop_none [] (suc n) h = refl
drop_none (x ∷ xs) zero h = absurd (omega arith)
drop_none (x ∷ xs) (suc n) h = drop_none xs n (omega arith)

pub all_made : (level : Level) (rules : List Rule) (weights : List ℕ) (made : Listed) (k : ℕ) → length (blocks_in (zip rules weights)) ≤ k → joined made (blocks_optimised level (length made.tables) (drop k (blocks_in (zip rules weights)))) ≡ blocks_optimised level 0 (blocks_in (zip rules weights)) → made ≡ blocks_optimised level 0 (blocks_in (zip rules weights))
all_made level rules weights made k past found =
    (λ i. with_tables (sym (append-nil made.rules) i) (sym (append-nil made.tables) i))
    ∙ sym (ap (λ t. joined made (blocks_optimised level (length made.tables) t)) (drop_none (blocks_in (zip rules weights)) k past))
    ∙ found
