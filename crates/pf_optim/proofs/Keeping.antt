-- The walk through the optimised rules of blocks is the walk through their written rules.
use Rattle.std.proofs.Common.{◌≡◌, ℕ, ◌+◌, cond, Bool, true, false, not, ◌&&◌, ◌||◌, List, [], ◌∷◌, ◌++◌, map, length, refl, sym, ap, ◌∙◌, subst, arith, ◌⊎◌, inl, inr}
use Rattle.std.proofs.lemmas.Bool.{and_parts, and_from, false≢true}
use Rattle.std.proofs.lemmas.List.{length-map, map-append}
use Rattle.std.proofs.lemmas.List.Folds.{list_all-append}
use Rattle.std.proofs.lemmas.Slice.Zip.{firsts-zip}
use Rattle.std.specs.List.{flat_map, list_all, list_any, zip}
use Rattle.pf_addr.specs.declared.addr.Addr.{Addr}
use Rattle.pf_auto.specs.Merged.{merged_from}
use Rattle.pf_auto.specs.Standing.{StandFor, names_none}
use Rattle.pf_auto.specs.declared.merging.AutoTable.{AutoTable}
use Rattle.pf_cover.specs.Cover.{covers}
use Rattle.pf_cover.specs.Kept.{is_dropped, kept_rules, kept_weights, placed}
use Rattle.pf_optim.specs.Meaning.{KeepsTheWalk, KeepsWalks, StandBeside, WalksRules, are_written}
use Rattle.pf_optim.specs.Optimised.{block_optimised, blocks_in, blocks_optimised, is_profiled, is_quick, kept_in, ordered, rules_in, weights_in}
use Rattle.pf_base.specs.declared.kind.Level.{Level}
use Rattle.pf_base.specs.declared.kind.Level.TheVariants as level_is
use Rattle.pf_optim.proofs.Alike.{hits_alike}
use Rattle.pf_optim.proofs.Lists.{all_alike, all_all, all_filter, all_left, all_map, all_placed, all_right, any_map, any_same, any_same_at, none_all}
use Rattle.pf_order.specs.Blocks.{is_barrier, joins, runs_of}
use Rattle.pf_order.specs.Order.{gain_order, profile_order}
use Rattle.pf_order.specs.Runs.{is_linked}
use Rattle.pf_rule.specs.Around.{Around}
use Rattle.pf_rule.specs.Effect.{effect_on, is_anchor}
use Rattle.pf_rule.specs.Equal.{effects}
use Rattle.pf_rule.specs.Hit.{hits_at}
use Rattle.pf_rule.specs.Walk.{walking_by}
use Rattle.pf_rule.specs.Walking.{DoAlike, OneEffect, Walking, once, some_hits, walked_through}
use Rattle.pf_rule.specs.declared.criteria.AddrSet.TheVariants.{Auto}
use Rattle.pf_rule.specs.declared.effect.Effect.{Effect}
use Rattle.pf_table.specs.Table.{member}
use Rattle.pf_rule.specs.declared.rule.Rule.{Rule}
use Rattle.pf_rule.specs.declared.walk.Walk.{Walk}

-- what the crates below promise of the steps within a block
pub record StepLaws : Type 0 where
  pub together : (around : Around) (rules : List Rule) (walk : Walk) → list_any (λ rule. hits_at around rule walk) (kept_rules rules) ≡ list_any (λ rule. hits_at around rule walk) rules
  pub each : (rules : List Rule) (weights : List ℕ) → length rules ≡ length weights → length (kept_weights rules weights) ≡ length (kept_rules rules)
  pub hits : (around : Around) (next : ℕ) (items : List (Rule × ℕ)) (walk : Walk) → StandFor around (merged_from next items).tables → list_any (λ item. hits_at around item.0 walk) (merged_from next items).items ≡ list_any (λ item. hits_at around item.0 walk) items
  pub effect : (test : Effect → Bool) (next : ℕ) (items : List (Rule × ℕ)) → list_all (λ item. test item.0.effect) items ≡ true → list_all (λ item. test item.0.effect) (merged_from next items).items ≡ true
  pub single : (next : ℕ) (item : Rule × ℕ) → merged_from next (item ∷ []) ≡ record { items = item ∷ []; tables = [] }
  pub some_gain : (test : Rule → Bool) (rules : List Rule) → list_any test (gain_order rules) ≡ list_any test rules
  pub some_profile : (test : Rule → Bool) (rules : List Rule) (weights : List ℕ) → length rules ≡ length weights → list_any test (profile_order rules weights) ≡ list_any test rules

-- what they promise of walks and runs
pub record WalkLaws (W : Type 0) : Type 0 where
  pub joined : (on : Walking W Rule) (front back : List Rule) (walk : W) → walked_through on (front ++ back) walk ≡ walked_through on back (walked_through on front walk)
  pub alike : (one other : Walking W Rule) (rules : List Rule) (walk : W) → DoAlike one other rules → walked_through one rules walk ≡ walked_through other rules walk
  pub once : (on : Walking W Rule) (effect : W → W) (rules : List Rule) (walk : W) → OneEffect on effect rules → walked_through on rules walk ≡ once on effect rules walk

pub record RunLaws : Type 0 where
  pub whole : (joins : Rule × ℕ → Rule × ℕ → Bool) (items : List (Rule × ℕ)) → flat_map (λ run. run) (runs_of joins items) ≡ items
  pub linked : (joins : Rule × ℕ → Rule × ℕ → Bool) (items : List (Rule × ℕ)) → list_all (is_linked joins) (runs_of joins items) ≡ true

-- two neighbours of a block
abbrev pub both_join : Rule × ℕ → Rule × ℕ → Bool
both_join one other = joins one.0 other.0

firsts_and_seconds : (items : List (Rule × ℕ)) → length (rules_in items) ≡ length (weights_in items)
firsts_and_seconds items = length-map items (λ item. item.0) ∙ sym (length-map items (λ item. item.1))

-- a test passes at some rule in the new order exactly where it passes at some rule
pub any_ordered : StepLaws → (test : Rule → Bool) (level : Level) (items : List (Rule × ℕ)) → list_any test (ordered level items) ≡ list_any test (rules_in items)
any_ordered laws test level items = cases (is_profiled level && is_quick (rules_in items))
  where
    cases : (b : Bool) → list_any test (cond b (profile_order (rules_in items) (weights_in items)) (gain_order (rules_in items))) ≡ list_any test (rules_in items)
    cases true = laws.some_profile test (rules_in items) (weights_in items) (firsts_and_seconds items)
    cases false = laws.some_gain test (rules_in items)

pub rules_kept : StepLaws → (block : List (Rule × ℕ)) → rules_in (kept_in block) ≡ kept_rules (rules_in block)
rules_kept laws block =
    firsts-zip (kept_rules (rules_in block)) (kept_weights (rules_in block) (weights_in block)) (laws.each (rules_in block) (weights_in block) (firsts_and_seconds block))

-- some optimised rule of a block hits exactly where some rule of it hits
pub block_hits : StepLaws → (around : Around) (level : Level) (next : ℕ) (block : List (Rule × ℕ)) (walk : Walk) → StandFor around (block_optimised level next block).tables → list_any (λ rule. hits_at around rule walk) (block_optimised level next block).rules ≡ list_any (λ rule. hits_at around rule walk) (rules_in block)
unfolding block_optimised
block_hits laws around level next block walk stands =
    any_ordered laws (λ rule. hits_at around rule walk) level (merged_from next (kept_in block)).items
    ∙ any_map (λ rule. hits_at around rule walk) (λ (item : Rule × ℕ). item.0) (merged_from next (kept_in block)).items
    ∙ laws.hits around next (kept_in block) walk stands
    ∙ sym (any_map (λ rule. hits_at around rule walk) (λ (item : Rule × ℕ). item.0) (kept_in block))
    ∙ ap (list_any (λ rule. hits_at around rule walk)) (rules_kept laws block)
    ∙ laws.together around (rules_in block) walk

-- what all effects of a block pass, all effects of its optimised rules pass
pub all_kept : (test : Rule → Bool) (rules : List Rule) → list_all test rules ≡ true → list_all test (kept_rules rules) ≡ true
all_kept test rules h =
    all_map test (λ (rule : ℕ × Rule). rule.1) _
    ∙ all_filter (λ (rule : ℕ × Rule). test rule.1) (λ rule. not (is_dropped rules rule)) (placed rules) (all_placed test 0 rules ∙ h)

pub block_effects : StepLaws → (test : Effect → Bool) (level : Level) (next : ℕ) (block : List (Rule × ℕ)) → list_all (λ item. test item.0.effect) block ≡ true → list_all (λ rule. test rule.effect) (block_optimised level next block).rules ≡ true
unfolding block_optimised
block_effects laws test level next block h =
    all_alike (ordered level (merged_from next (kept_in block)).items) (rules_in (merged_from next (kept_in block)).items) (λ t. any_ordered laws t level (merged_from next (kept_in block)).items) (λ rule. test rule.effect)
    ∙ all_map (λ (rule : Rule). test rule.effect) (λ (item : Rule × ℕ). item.0) (merged_from next (kept_in block)).items
    ∙ laws.effect test next (kept_in block)
    (sym (all_map (λ (rule : Rule). test rule.effect) (λ (item : Rule × ℕ). item.0) (kept_in block))
    ∙ ap (list_all (λ (rule : Rule). test rule.effect)) (rules_kept laws block)
    ∙ all_kept (λ rule. test rule.effect) (rules_in block) (all_map (λ (rule : Rule). test rule.effect) (λ (item : Rule × ℕ). item.0) block ∙ h))

-- a block of one rule
kept_one : (rule : Rule) → kept_rules (rule ∷ []) ≡ rule ∷ []
unfolding is_dropped
kept_one rule =
    elim (covers rule.criteria rule.criteria) as (λ b. map (λ (one : ℕ × Rule). one.1) (cond (not ((b && (not b || false)) || false)) ((0, rule) ∷ []) []) ≡ rule ∷ []) [
      | true ↦ refl
      | false ↦ refl
    ]

one_weight : (weights : List ℕ) → length weights ≡ 1 → (weight : ℕ) × (weights ≡ weight ∷ [])
one_weight [] e = absurd (omega (arith, e))
one_weight (weight ∷ []) e = (weight, refl)
one_weight (weight ∷ (other ∷ weights)) e = absurd (omega (arith, e))

ordered_one : (level : Level) (rule : Rule) (weight : ℕ) → ordered level ((rule, weight) ∷ []) ≡ rule ∷ []
ordered_one level rule weight =
    elim (is_profiled level && is_quick (rule ∷ [])) as (λ b. cond b (profile_order (rule ∷ []) (weight ∷ [])) (gain_order (rule ∷ [])) ≡ rule ∷ []) [
      | true ↦ refl
      | false ↦ refl
    ]

pub block_of_one : StepLaws → (level : Level) (next : ℕ) (item : Rule × ℕ) → (block_optimised level next (item ∷ [])).rules ≡ item.0 ∷ []
unfolding block_optimised
block_of_one laws level next item =
    let weight = one_weight (kept_weights (item.0 ∷ []) (item.1 ∷ [])) (laws.each (item.0 ∷ []) (item.1 ∷ []) refl ∙ ap length (kept_one item.0)) in
    ap (λ t. ordered level (merged_from next t).items) (ap (λ t. zip t (kept_weights (item.0 ∷ []) (item.1 ∷ []))) (kept_one item.0) ∙ ap (λ t. zip (item.0 ∷ []) t) weight.1)
    ∙ ap (λ t. ordered level t.items) (laws.single next (item.0, weight.0))
    ∙ ordered_one level item.0 weight.0

-- rules of one effect, that of no anchor
pub one_effect : {W : Type 0} (on : Walking W Rule) (view : W → Walk) (act : Effect → W → W) (around : Around) → WalksRules on view act around → (effect : Effect) → is_anchor effect.action ≡ false → (rules : List Rule) → list_all (λ rule. effects.same effect rule.effect) rules ≡ true → OneEffect on (act effect) rules
one_effect {W = W} on view act around walks effect plain rules same = record {
  one = all_all (λ rule. effects.same effect rule.effect) (λ rule. (walk : W) → on.deed rule walk ≡ act effect walk) (λ rule e walk. of_one rule ((effects.decides effect rule.effect).0 e) walk) rules same;
  twice = λ walk. walks.twice effect walk plain;
}
  where
    of_one : (rule : Rule) → effect ≡ rule.effect → (walk : W) → on.deed rule walk ≡ act effect walk
    of_one rule e walk =
        walks.deeds rule walk (ap (λ (t : Effect). is_anchor t.action) (sym e) ∙ plain) ∙ ap (λ (t : Effect). act t walk) (sym e)

-- a block of one effect that is no anchor's acts once, and so do its optimised rules
block_once : {W : Type 0} → StepLaws → WalkLaws W → (on other : Walking W Rule) (view : W → Walk) (act : Effect → W → W) (around before : Around) → (level : Level) (next : ℕ) (block : List (Rule × ℕ)) (effect : Effect) (walk : W) → StandBeside on other view act around before (rules_in block) → is_anchor effect.action ≡ false → list_all (λ item. effects.same effect item.0.effect) block ≡ true → list_all (λ item. names_none item.0) block ≡ true → StandFor around (block_optimised level next block).tables → walked_through on (block_optimised level next block).rules walk ≡ walked_through other (rules_in block) walk
block_once {W = W} steps laws on other view act around before level next block effect walk stand plain same written stands =
    laws.once on (act effect) fast walk (one_effect on view act around stand.walks effect plain fast (block_effects steps (λ t. effects.same effect t) level next block same))
    ∙ ap (λ (b : Bool). cond b walk (cond (some_hits on fast walk) (act effect walk) walk)) (stand.alike.stops walk)
    ∙ ap (λ (b : Bool). cond (other.stopped walk) walk (cond b (act effect walk) walk)) some
    ∙ sym (laws.once other (act effect) (rules_in block) walk (one_effect other view act before stand.others effect plain (rules_in block) (all_map (λ (rule : Rule). effects.same effect rule.effect) (λ (item : Rule × ℕ). item.0) block ∙ same)))
  where
    fast : List Rule
    fast = (block_optimised level next block).rules

    some : some_hits on fast walk ≡ some_hits other (rules_in block) walk
    some =
        any_same (λ rule. on.hits rule walk) (λ rule. hits_at around rule (view walk)) (λ rule. stand.walks.hits rule walk) fast
        ∙ block_hits steps around level next block (view walk) stands
        ∙ any_same_at names_none (λ rule. hits_at around rule (view walk)) (λ rule. hits_at before rule (view walk)) (λ rule w. hits_alike around before stand.agree rule (view walk) w) (rules_in block) (all_map names_none (λ (item : Rule × ℕ). item.0) block ∙ written)
        ∙ sym (any_same (λ rule. other.hits rule walk) (λ rule. hits_at before rule (view walk)) (λ rule. stand.others.hits rule walk) (rules_in block))

-- neighbours that join have one effect, which is no anchor's
pub joined_parts : (one other : Rule) → joins one other ≡ true → (is_anchor one.effect.action ≡ false) × (one.effect ≡ other.effect)
unfolding is_barrier
joined_parts one other h =
    let parts = and_parts (not (is_barrier one) && not (is_barrier other)) (effects.same one.effect other.effect) h in
    let alone = and_parts (not (is_barrier one)) (not (is_barrier other)) parts.0 in
    (first_of (is_anchor one.effect.action) _ _ alone.0, (effects.decides one.effect other.effect).0 parts.1)
  where
    first_of : (a b c : Bool) → not ((a || b) || c) ≡ true → a ≡ false
    first_of true b c e = absurd (false≢true e)
    first_of false b c e = refl

pub linked_effects : (effect : Effect) (item : Rule × ℕ) (more : List (Rule × ℕ)) → effect ≡ item.0.effect → is_linked both_join (item ∷ more) ≡ true → list_all (λ other. effects.same effect other.0.effect) (item ∷ more) ≡ true
linked_effects effect item [] e h = and_from (effects.same effect item.0.effect) true ((effects.decides effect item.0.effect).1 e) refl
linked_effects effect item (next ∷ more) e h =
    let parts = and_parts (both_join item next) (is_linked both_join (next ∷ more)) h in
    and_from (effects.same effect item.0.effect) (list_all (λ other. effects.same effect other.0.effect) (next ∷ more))
    ((effects.decides effect item.0.effect).1 e)
    (linked_effects effect next more (e ∙ (joined_parts item.0 next.0 parts.0).1) parts.1)

pub true_or_false : (b : Bool) → (b ≡ true) ⊎ (b ≡ false)
true_or_false true = inl refl
true_or_false false = inr refl

-- written rules are walked alike in both ways
written_walk : {W : Type 0} → WalkLaws W → (on other : Walking W Rule) (view : W → Walk) (act : Effect → W → W) (around before : Around) (rules : List Rule) (walk : W) → StandBeside on other view act around before rules → are_written rules ≡ true → walked_through on rules walk ≡ walked_through other rules walk
written_walk {W = W} laws on other view act around before rules walk stand written = laws.alike on other rules walk (record {
  stops = stand.alike.stops;
  hits = all_all names_none (λ rule. (at : W) → on.stopped at ≡ false → on.hits rule at ≡ other.hits rule at) (λ rule w at _. stand.walks.hits rule at ∙ hits_alike around before stand.agree rule (view at) w ∙ sym (stand.others.hits rule at)) rules written;
  deeds = stand.alike.deeds;
})

block_walk : {W : Type 0} → StepLaws → WalkLaws W → (on other : Walking W Rule) (view : W → Walk) (act : Effect → W → W) (around before : Around) (level : Level) (next : ℕ) (block : List (Rule × ℕ)) (walk : W) → StandBeside on other view act around before (rules_in block) → is_linked both_join block ≡ true → list_all (λ item. names_none item.0) block ≡ true → StandFor around (block_optimised level next block).tables → walked_through on (block_optimised level next block).rules walk ≡ walked_through other (rules_in block) walk
block_walk steps laws on other view act around before level next [] walk stand linked written stands =
    ap (λ t. walked_through on t walk) (none_all (block_optimised level next []).rules (block_effects steps (λ effect. false) level next [] refl))
block_walk steps laws on other view act around before level next (item ∷ []) walk stand linked written stands =
    elim (true_or_false (is_anchor item.0.effect.action)) [
      | inl anchor ↦
          ap (λ t. walked_through on t walk) (block_of_one steps level next item)
          ∙ written_walk laws on other view act around before (item.0 ∷ []) walk stand written
      | inr plain ↦
          block_once steps laws on other view act around before level next (item ∷ []) item.0.effect walk stand plain (linked_effects item.0.effect item [] refl linked) written stands
    ]
block_walk steps laws on other view act around before level next (item ∷ (other_item ∷ more)) walk stand linked written stands =
    let parts = and_parts (both_join item other_item) (is_linked both_join (other_item ∷ more)) linked in
    block_once steps laws on other view act around before level next (item ∷ (other_item ∷ more)) item.0.effect walk stand (joined_parts item.0 other_item.0 parts.0).0 (linked_effects item.0.effect item (other_item ∷ more) refl linked) written stands

-- what stands beside rules in a row stands beside each part
beside_parts : {W : Type 0} (on other : Walking W Rule) (view : W → Walk) (act : Effect → W → W) (around before : Around) (front back : List Rule) → StandBeside on other view act around before (front ++ back) → StandBeside on other view act around before front × StandBeside on other view act around before back
beside_parts {W = W} on other view act around before front back stand = (
  record { walks = stand.walks; others = stand.others; alike = record { stops = stand.alike.stops; deeds = all_left (λ rule. (walk : W) → on.stopped walk ≡ false → on.hits rule walk ≡ true → on.deed rule walk ≡ other.deed rule walk) front back stand.alike.deeds }; agree = stand.agree },
  record { walks = stand.walks; others = stand.others; alike = record { stops = stand.alike.stops; deeds = all_right (λ rule. (walk : W) → on.stopped walk ≡ false → on.hits rule walk ≡ true → on.deed rule walk ≡ other.deed rule walk) front back stand.alike.deeds }; agree = stand.agree },
)

-- a table stands for its entries
abbrev StandsFor : Around → AutoTable → Type 0
StandsFor around table = (addr : Addr) → around.member (Auto table.number) addr ≡ member table.entries addr

blocks_walk : {W : Type 0} → StepLaws → WalkLaws W → (on other : Walking W Rule) (view : W → Walk) (act : Effect → W → W) (around before : Around) (level : Level) (next : ℕ) (blocks : List (List (Rule × ℕ))) (walk : W) → StandBeside on other view act around before (rules_in (flat_map (λ block. block) blocks)) → list_all (is_linked both_join) blocks ≡ true → list_all (λ item. names_none item.0) (flat_map (λ block. block) blocks) ≡ true → StandFor around (blocks_optimised level next blocks).tables → walked_through on (blocks_optimised level next blocks).rules walk ≡ walked_through other (rules_in (flat_map (λ block. block) blocks)) walk
blocks_walk steps laws on other view act around before level next [] walk stand linked written stands = refl
blocks_walk steps laws on other view act around before level next (block ∷ blocks) walk stand linked written stands =
    let behind = flat_map (λ (one : List (Rule × ℕ)). one) blocks in
    let first = block_optimised level next block in
    let rest = blocks_optimised level (next + length first.tables) blocks in
    let links = and_parts (is_linked both_join block) (list_all (is_linked both_join) blocks) linked in
    let writes = and_parts (list_all (λ (item : Rule × ℕ). names_none item.0) block) (list_all (λ (item : Rule × ℕ). names_none item.0) behind) (sym (list_all-append (λ (item : Rule × ℕ). names_none item.0) block behind) ∙ written) in
    let P : List Rule → Type 0 = λ t. StandBeside on other view act around before t in
    let beside = beside_parts on other view act around before (rules_in block) (rules_in behind) (subst P (map-append (λ (item : Rule × ℕ). item.0) block behind) stand) in
    laws.joined on first.rules rest.rules walk
    ∙ blocks_walk steps laws on other view act around before level (next + length first.tables) blocks (walked_through on first.rules walk) beside.1 links.1 writes.1 (all_right (StandsFor around) first.tables rest.tables stands)
    ∙ ap (walked_through other (rules_in behind)) (block_walk steps laws on other view act around before level next block walk beside.0 links.0 writes.0 (all_left (StandsFor around) first.tables rest.tables stands))
    ∙ sym (laws.joined other (rules_in block) (rules_in behind) walk)
    ∙ ap (λ t. walked_through other t walk) (sym (map-append (λ (item : Rule × ℕ). item.0) block behind))

sorted_walk : {W : Type 0} → StepLaws → WalkLaws W → RunLaws → (on other : Walking W Rule) (view : W → Walk) (act : Effect → W → W) (around before : Around) (level : Level) (rules : List Rule) (weights : List ℕ) (walk : W) → length rules ≡ length weights → are_written rules ≡ true → StandBeside on other view act around before rules → StandFor around (blocks_optimised level 0 (blocks_in (zip rules weights))).tables → walked_through on (blocks_optimised level 0 (blocks_in (zip rules weights))).rules walk ≡ walked_through other rules walk
sorted_walk steps laws runs on other view act around before level rules weights walk long written stand stands =
    let whole = runs.whole both_join (zip rules weights) in
    let firsts = firsts-zip rules weights (sym long) in
    let P : List Rule → Type 0 = λ t. StandBeside on other view act around before t in
    blocks_walk steps laws on other view act around before level 0 (blocks_in (zip rules weights)) walk
    (subst P (sym (ap rules_in whole ∙ firsts)) stand)
    (runs.linked both_join (zip rules weights))
    (ap (list_all (λ (item : Rule × ℕ). names_none item.0)) whole ∙ sym (all_map names_none (λ (item : Rule × ℕ). item.0) (zip rules weights)) ∙ ap (list_all names_none) firsts ∙ written)
    stands
    ∙ ap (λ t. walked_through other t walk) (ap rules_in whole ∙ firsts)

-- the walk through the optimised rules is that through the written ones
pub optimised_walk : {W : Type 0} → StepLaws → WalkLaws W → RunLaws → (on other : Walking W Rule) (view : W → Walk) (act : Effect → W → W) (around before : Around) (level : Level) (rules : List Rule) (weights : List ℕ) → KeepsWalks on other view act around before level rules weights
optimised_walk steps laws runs on other view act around before level_is.None rules weights long written stand stands walk = written_walk laws on other view act around before rules walk stand written
optimised_walk steps laws runs on other view act around before level_is.Basic rules weights long written stand stands walk = sorted_walk steps laws runs on other view act around before level_is.Basic rules weights walk long written stand stands
optimised_walk steps laws runs on other view act around before level_is.Profile rules weights long written stand stands walk = sorted_walk steps laws runs on other view act around before level_is.Profile rules weights walk long written stand stands

-- the same of a packet's walk
pub packet_walk : ((on other : Walking Walk Rule) (view : Walk → Walk) (act : Effect → Walk → Walk) (around before : Around) (level : Level) (rules : List Rule) (weights : List ℕ) → KeepsWalks on other view act around before level rules weights) → ((effect : Effect) (walk : Walk) → effect_on effect (effect_on effect walk) ≡ effect_on effect walk) → (level : Level) (rules : List Rule) (weights : List ℕ) → KeepsTheWalk level rules weights
packet_walk law twice level rules weights long written deed around before acts agree stands walk =
    law (walking_by deed around) (walking_by deed before) (λ at. at) effect_on around before level rules weights long written
    (record {
      walks = record { hits = λ rule at. refl; deeds = acts; twice = λ effect at plain. twice effect at };
      others = record { hits = λ rule at. refl; deeds = acts; twice = λ effect at plain. twice effect at };
      alike = record { stops = λ at. refl; deeds = λ k d low at going hit. refl };
      agree = agree;
    }) stands walk
