-- What is left of a ruleset's walk after the test of a rule, by what it finds.
use Rattle.std.proofs.Common.{◌≡◌, ℕ, ◌+◌, ◌<◌, cond, true, false, List, [], length, get_or, drop, Option, Some, None, refl, sym, ap, ◌∙◌, arith}
use Rattle.std.specs.FinMap as fin
use Rattle.pf_eval.proofs.Skipping as skipping
use Rattle.pf_eval.specs.Answers.{optimised_world}
use Rattle.pf_eval.specs.Rulesets.{Rulesets, around_in, automatic_in, member_by, tables_in}
use Rattle.pf_eval.specs.Steps.{deed_at, found_at, list_tests, on_optimised, rule_tests}
use Rattle.pf_host.specs.Facts.{HostFacts}
use Rattle.pf_host.specs.Queries.{dynamic, in_group}
use Rattle.pf_optim.specs.Ruleset.{form_of}
use Rattle.pf_optim.specs.Skips.{skip}
use Rattle.pf_optim.specs.declared.node.Node.{Node}
use Rattle.pf_rule.specs.Around.{Around, around_by}
use Rattle.pf_rule.specs.Fields.{AgreeIn}
use Rattle.pf_rule.specs.Hit.{Finds, fails_at, hits_at, missed_at}
use Rattle.pf_rule.specs.Walking.{walked_through}
use Rattle.pf_rule.specs.declared.rule.Rule.{Rule}
use Rattle.pf_rule.specs.declared.testing.Tested.{Tested}
use Rattle.pf_rule.specs.declared.testing.Tested.TheVariants.{Hit, Field, Other}
use Rattle.pf_rule.specs.declared.walk.Walk.{Walk}

-- what stands around the rules at a path with this node
pub around_here : (trees : Rulesets) (facts : HostFacts) (at : List (List ℕ)) (node : Node) (main : Option Node) → fin.get trees at ≡ Some node → main ≡ fin.get trees [] → around_by (member_by node.shelf (tables_in main) (form_of node.rules).tables) (in_group facts) (dynamic facts) ≡ (optimised_world trees facts).around at
around_here trees facts at node main there main_is =
    ap (λ (o : Option Node). around_in facts (tables_in o) (tables_in main) (automatic_in o)) (sym there)
    ∙ ap (λ (m : Option Node). around_in facts (tables_in (fin.get trees at)) (tables_in m) (automatic_in (fin.get trees at))) main_is

module _ (around : Around) (rule : Rule) (walk : Walk) where
  no_hit : (found : Tested) → Finds around rule walk found → (found ≡ Hit → ⊥) → hits_at around rule walk ≡ false
  no_hit found finds apart =
      elim (hits_at around rule walk) as (λ b. found ≡ cond b Hit (missed_at (fails_at around rule walk)) → b ≡ false) [
        | true ↦ λ e. absurd (apart e)
        | false ↦ λ e. refl
      ] finds.value

  pub hit_found : Finds around rule walk Hit → hits_at around rule walk ≡ true
  hit_found finds =
      elim (hits_at around rule walk) as (λ b. Hit ≡ cond b Hit (missed_at (fails_at around rule walk)) → b ≡ true) [
        | true ↦ λ e. refl
        | false ↦ λ e. absurd (missed (fails_at around rule walk) e)
      ] finds.value
    where
      missed : (o : Option ℕ) → Hit ≡ missed_at o → ⊥
      missed None e = cc
      missed (Some n) e = cc

  field_apart : (n : ℕ) → Field n ≡ Hit → ⊥
  field_apart n e = cc

  other_apart : Other ≡ Hit → ⊥
  other_apart e = cc

  pub field_found : (n : ℕ) → Finds around rule walk (Field n) → (hits_at around rule walk ≡ false) × (fails_at around rule walk ≡ Some n)
  field_found n finds = (no_hit (Field n) finds (field_apart n), (finds.field n).0 refl)

  pub other_found : Finds around rule walk Other → hits_at around rule walk ≡ false
  other_found finds = no_hit Other finds other_apart

-- what is promised of rules that are equal in a field
pub record FieldLaw : Type 0 where
  pub missed : (around : Around) (one other : Rule) (walk : Walk) (field : ℕ) → fails_at around one walk ≡ Some field → AgreeIn field one.criteria other.criteria → hits_at around other walk ≡ false

module _ (trees : Rulesets) (facts : HostFacts) (left : ℕ) (at : List (List ℕ)) (rules : List Rule) (place : ℕ) (rule : Rule) (inside : place < length rules) (is : rule ≡ get_or rules place rule) (walk : Walk) (going : walk.stop ≡ false) where
  abbrev around : Around
  around = (optimised_world trees facts).around at

  pub hit_walk : Finds around rule walk Hit → (new : Walk) → new ≡ deed_at trees facts left at rule.effect.action rule.effect walk → walked_through (on_optimised trees facts left at) (drop (place + 1) rules) new ≡ walked_through (on_optimised trees facts left at) (drop place rules) walk
  hit_walk finds new e =
      ap (λ (w : Walk). walked_through (on_optimised trees facts left at) (drop (place + 1) rules) w) e
      ∙ skipping.hit_walk (on_optimised trees facts left at) walk going rules place rule inside is (hit_found around rule walk finds)

  pub hit_tests : Finds around rule walk Hit → (new : Walk) (before tested after : ℕ) → new ≡ deed_at trees facts left at rule.effect.action rule.effect walk → tested ≡ before + 1 → after ≡ tested + rule_tests trees facts left at rule walk → after + list_tests trees facts left at (drop (place + 1) rules) new ≡ before + list_tests trees facts left at (drop place rules) walk
  hit_tests finds new before tested after e one more =
      let here : list_tests trees facts left at (drop place rules) walk ≡ 1 + rule_tests trees facts left at rule walk + list_tests trees facts left at (drop (place + 1) rules) (deed_at trees facts left at rule.effect.action rule.effect walk) =
      skipping.hit_tests (on_optimised trees facts left at) (found_at trees facts left at) (rule_tests trees facts left at) walk going rules place rule inside is (hit_found around rule walk finds) (sym finds.value) in
      let moved : list_tests trees facts left at (drop (place + 1) rules) new ≡ list_tests trees facts left at (drop (place + 1) rules) (deed_at trees facts left at rule.effect.action rule.effect walk) =
      ap (λ (w : Walk). list_tests trees facts left at (drop (place + 1) rules) w) e in
      omega (arith, one, more, here, moved)

  pub other_walk : Finds around rule walk Other → walked_through (on_optimised trees facts left at) (drop (place + 1) rules) walk ≡ walked_through (on_optimised trees facts left at) (drop place rules) walk
  other_walk finds =
      skipping.miss_walk (on_optimised trees facts left at) walk going rules place rule inside is (other_found around rule walk finds)

  pub other_tests : Finds around rule walk Other → (before tested : ℕ) → tested ≡ before + 1 → tested + list_tests trees facts left at (drop (place + 1) rules) walk ≡ before + list_tests trees facts left at (drop place rules) walk
  other_tests finds before tested one =
      let here : list_tests trees facts left at (drop place rules) walk ≡ 1 + list_tests trees facts left at (drop (place + 1) rules) walk =
      skipping.other_tests (on_optimised trees facts left at) (found_at trees facts left at) (rule_tests trees facts left at) walk going rules place rule inside is (other_found around rule walk finds) (sym finds.value) in
      omega (arith, one, here)

  pub skip_walk : FieldLaw → (field : ℕ) → Finds around rule walk (Field field) → walked_through (on_optimised trees facts left at) (drop (skip rules place field) rules) walk ≡ walked_through (on_optimised trees facts left at) (drop place rules) walk
  skip_walk law field finds =
      skipping.skip_walk (on_optimised trees facts left at) walk going rules place rule inside is field
      (λ other same. law.missed around rule other walk field (field_found around rule walk field finds).1 (sym same))

  pub skip_tests : (field : ℕ) → Finds around rule walk (Field field) → (before tested : ℕ) → tested ≡ before + 1 → tested + list_tests trees facts left at (drop (skip rules place field) rules) walk ≡ before + list_tests trees facts left at (drop place rules) walk
  skip_tests field finds before tested one =
      let here : list_tests trees facts left at (drop place rules) walk ≡ 1 + list_tests trees facts left at (drop (skip rules place field) rules) walk =
      skipping.skip_tests (on_optimised trees facts left at) (found_at trees facts left at) (rule_tests trees facts left at) walk going rules place rule inside is field (field_found around rule walk field finds).0 (sym finds.value) in
      omega (arith, one, here)
