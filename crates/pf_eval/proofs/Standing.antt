-- The optimised rules of a ruleset stand for its written rules, wherever it is walked.
use Rattle.std.proofs.Common.{◌≡◌, ℕ, zero, suc, ◌<◌, false, List, [], map, length, get_or, Option, Some, None, refl, sym, ap, ◌∙◌, subst, arith}
use Rattle.std.proofs.lemmas.Bool.{false≢true}
use Rattle.std.proofs.lemmas.List.FromFn.{get_or-range_with_len}
use Rattle.std.proofs.lemmas.Option.{get_or_from_slice_get, slice_get-get_or, slice_get-map}
use Rattle.std.specs.FinMap as fin
use Rattle.std.specs.List.{range_with_len, slice_get}
use Rattle.std.specs.Option.{option_map, option_map_or}
use Rattle.pf_auto.specs.Standing.{StandFor}
use Rattle.pf_auto.specs.declared.merging.AutoTable.{AutoTable}
use Rattle.pf_base.specs.declared.kind.Level.{Level}
use Rattle.pf_eval.specs.Answers.{optimised_world, written_world}
use Rattle.pf_eval.specs.Rulesets.{AreSound, Rulesets, around_in, automatic_in, named_children, optimised_in, tables_in, written_in}
use Rattle.pf_eval.specs.World.{ActsOnce, StandForEachOther, Walker, World, acted, has_stopped, walk_within, walking_at}
use Rattle.pf_host.specs.Facts.{HostFacts}
use Rattle.pf_optim.specs.Meaning.{KeepsWalks, StandBeside, WalksRules}
use Rattle.pf_optim.specs.Optimised.{optimised}
use Rattle.pf_optim.specs.Ruleset.{IsSound, Written, form_of}
use Rattle.pf_optim.specs.declared.node.Node.{Node}
use Rattle.pf_rule.specs.Around.{Around}
use Rattle.pf_rule.specs.Effect.{is_anchor}
use Rattle.pf_rule.specs.Hit.{hits_at}
use Rattle.pf_rule.specs.Walking.{Walking, walked_through}
use Rattle.pf_rule.specs.declared.effect.Action.{Action}
use Rattle.pf_rule.specs.declared.effect.Action.TheVariants.{Pass, Block, Match, Anchor}
use Rattle.pf_rule.specs.declared.effect.Effect.{Effect}
use Rattle.pf_rule.specs.declared.rule.Rule.{Rule}
use Rattle.pf_rule.specs.declared.walk.Walk.{Walk}
use Rattle.pf_shelf.specs.Shelf.{Tables}
use Rattle.pf_table.specs.Table.{member}

-- what is promised of optimised rules
pub record Laws (W : Type 0) : Type 0 where
  pub keeps : (on other : Walking W Rule) (view : W → Walk) (act : Effect → W → W) (around before : Around) (level : Level) (rules : List Rule) (weights : List ℕ) → KeepsWalks on other view act around before level rules weights
  pub numbers : (level : Level) (rules : List Rule) (weights : List ℕ) → map (λ table. table.number) (optimised level rules weights).tables ≡ range_with_len 0 (length (optimised level rules weights).tables)

-- the table at a place is the one with that number
number_of : (tables : List AutoTable) → map (λ table. table.number) tables ≡ range_with_len 0 (length tables) → (k : ℕ) (d : AutoTable) → k < length tables → (get_or tables k d).number ≡ k
number_of tables numbers k d low =
    let here = slice_get-get_or tables k d low in
    let seen : slice_get (map (λ (table : AutoTable). table.number) tables) k ≡ Some (get_or tables k d).number =
    slice_get-map (λ (table : AutoTable). table.number) tables k ∙ ap (option_map (λ (table : AutoTable). table.number)) here in
    let named = get_or_from_slice_get (map (λ (table : AutoTable). table.number) tables) k (get_or tables k d).number 0 seen in
    let listed = ap (λ (numbers : List ℕ). get_or numbers k 0) numbers in
    let counted = get_or-range_with_len 0 (length tables) k 0 low in
    omega (arith, named, listed, counted)

tables_stand : (facts : HostFacts) (own main : Tables) (tables : List AutoTable) → map (λ table. table.number) tables ≡ range_with_len 0 (length tables) → StandFor (around_in facts own main tables) tables
tables_stand facts own main tables numbers k d low = λ addr.
    ap (λ (found : Option AutoTable). member (option_map_or (λ (table : AutoTable). table.entries) found []) addr)
    (ap (slice_get tables) (number_of tables numbers k d low) ∙ slice_get-get_or tables k d low)

module _ {W : Type 0} (by : Walker W) (children_at : List (List ℕ) → List (List ℕ)) (call : List (List ℕ) → W → W) (at : List (List ℕ)) where
  -- what a rule does that is no anchor
  pub acted_plain : (action : Action) (effect : Effect) (walk : W) → is_anchor action ≡ false → acted by children_at call at action effect walk ≡ by.act effect walk
  acted_plain Pass effect walk h = refl
  acted_plain (Block kind) effect walk h = refl
  acted_plain Match effect walk h = refl
  acted_plain (Anchor to) effect walk h = absurd (false≢true (sym h))

  -- the walk through rules there, in these surroundings
  abbrev pub going : Around → Walking W Rule
  going around = record {
    stopped = has_stopped by;
    hits = λ rule walk. hits_at around rule (by.seen walk);
    deed = λ rule walk. acted by children_at call at rule.effect.action rule.effect walk;
  }

  walks_rules : ActsOnce by → (around : Around) → WalksRules (going around) by.seen by.act around
  walks_rules once around = record {
    hits = λ rule walk. refl;
    deeds = λ rule walk plain. acted_plain rule.effect.action rule.effect walk plain;
    twice = once.twice;
  }

  module _ (laws : Laws W) (once : ActsOnce by) (facts : HostFacts) (own main : Tables) (written : Written) where
    stand_beside : StandBeside (going (around_in facts own main (form_of written).tables)) (going (around_in facts own main [])) by.seen by.act (around_in facts own main (form_of written).tables) (around_in facts own main []) written.rules
    stand_beside = record {
      walks = walks_rules once (around_in facts own main (form_of written).tables);
      others = walks_rules once (around_in facts own main []);
      alike = record { stops = λ walk. refl; deeds = λ k d low walk going_on hits. refl };
      agree = record { tables = λ name addr. refl; groups = λ name iface. refl; dynamic = λ what addr. refl };
    }

    pub ruleset_stands : IsSound written → (walk : W) → walked_through (going (around_in facts own main (form_of written).tables)) (form_of written).rules walk ≡ walked_through (going (around_in facts own main [])) written.rules walk
    ruleset_stands sound walk =
        laws.keeps (going (around_in facts own main (form_of written).tables)) (going (around_in facts own main [])) by.seen by.act (around_in facts own main (form_of written).tables) (around_in facts own main []) written.level written.rules written.weights
        sound.weighed sound.plain stand_beside
        (tables_stand facts own main (form_of written).tables (laws.numbers written.level written.rules written.weights))
        walk

  -- the same of what stands at a path
  pub stands_in : Laws W → ActsOnce by → (facts : HostFacts) (main : Tables) (there : Option Node) → ((node : Node) → there ≡ Some node → IsSound node.rules) → (walk : W) →
      walked_through (going (around_in facts (tables_in there) main (automatic_in there))) (optimised_in there) walk
      ≡ walked_through (going (around_in facts (tables_in there) main [])) (written_in there) walk
  stands_in laws once facts main None sound walk = refl
  stands_in laws once facts main (Some node) sound walk = ruleset_stands laws once facts node.shelf main node.rules (sound node refl) walk

module _ {W : Type 0} (laws : Laws W) (by : Walker W) (once : ActsOnce by) (trees : Rulesets) (facts : HostFacts) where
  pub worlds_stand : AreSound trees → StandForEachOther by (optimised_world trees facts) (written_world trees facts)
  worlds_stand sound = record {
    alike = λ call at walk. stands_in by (named_children trees) call at laws once facts (tables_in (fin.get trees [])) (fin.get trees at) (sound.each at) walk;
  }

  same_node : (one other : Node) → Some one ≡ Some other → one ≡ other
  same_node one other e = cc

  -- the ruleset at one path
  pub path_stands : (call : List (List ℕ) → W → W) (at : List (List ℕ)) (node : Node) → fin.get trees at ≡ Some node → IsSound node.rules → (walk : W) →
      walked_through (walking_at by (optimised_world trees facts) call at) (form_of node.rules).rules walk
      ≡ walked_through (walking_at by (written_world trees facts) call at) node.rules.rules walk
  path_stands call at node there sound walk =
      ap (λ (o : Option Node). walked_through (walking_at by (optimised_world trees facts) call at) (optimised_in o) walk) (sym there)
      ∙ stands_in by (named_children trees) call at laws once facts (tables_in (fin.get trees [])) (fin.get trees at)
      (λ other is. subst (λ (n : Node). IsSound n.rules) (same_node node other (sym there ∙ is)) sound) walk
      ∙ ap (λ (o : Option Node). walked_through (walking_at by (written_world trees facts) call at) (written_in o) walk) there

-- worlds that stand for each other at each path are walked alike from each path
pub walks_stand : {W : Type 0} (by : Walker W) (one other : World) → StandForEachOther by one other → (bound : ℕ) (at : List (List ℕ)) (walk : W) → walk_within by one bound at walk ≡ walk_within by other bound at walk
walks_stand by one other stand zero at walk = refl
walks_stand {W} by one other stand (suc bound) at walk =
    stand.alike (walk_within by one bound) at walk
    ∙ ap (λ (call : List (List ℕ) → W → W). walked_through (walking_at by other call at) (other.rules at) walk) (λ i path w. walks_stand by one other stand bound path w i)
