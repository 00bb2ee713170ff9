-- How many rules are tested in a walk through the optimised rules by skip steps: a rule that fails in a field lets all be
-- passed over that follow it and are equal in that field.
use Rattle.std.specs.Prelude.{◌≡◌, ℕ, zero, suc, ◌+◌, Bool, true, false, List, [], ◌∷◌, ◌++◌, Option, Some, None, if◌then◌else◌}
use Rattle.pf_eval.specs.Answers.{optimised_world, written_world, is_skipped}
use Rattle.pf_eval.specs.Rulesets.{Rulesets}
use Rattle.pf_eval.specs.World.{Walker, World, has_stopped, packet_walker, walk_within, walking_at}
use Rattle.pf_host.specs.Facts.{HostFacts}
use Rattle.pf_optim.specs.Skips.{run_of}
use Rattle.pf_order.specs.Order.{value_at}
use Rattle.pf_parts.specs.CallTarget.{target_of}
use Rattle.pf_rule.specs.Hit.{tested_at}
use Rattle.pf_rule.specs.Walking.{Walking, walked_past}
use Rattle.pf_rule.specs.declared.effect.Action.{Action}
use Rattle.pf_rule.specs.declared.effect.Action.TheVariants.{Pass, Block, Match, Anchor}
use Rattle.pf_rule.specs.declared.rule.Rule.{Rule}
use Rattle.pf_rule.specs.declared.testing.Tested.{Tested}
use Rattle.pf_rule.specs.declared.testing.Tested.TheVariants.{Hit, Field, Other}
use Rattle.pf_rule.specs.declared.walk.Walk.{Walk}

-- how many of the rules behind a rule are passed over after its test: those in a row that are equal in the failing field
abbrev pub passed_over : Tested → Rule → List Rule → ℕ
passed_over Hit rule behind = 0
passed_over (Field field) rule behind = run_of (Some (value_at field rule)) field behind
passed_over Other rule behind = 0

-- the tests in a list of rules of which so many of the first are passed over, with those that a rule costs which matches
abbrev pub tests_in : {W : Type 0} → Walking W Rule → (Rule → W → Tested) → (Rule → W → ℕ) → List Rule → ℕ → W → ℕ
tests_in on test cost [] passed walk = 0
tests_in on test cost (rule ∷ rules) (suc passed) walk = tests_in on test cost rules passed walk
tests_in on test cost (rule ∷ rules) zero walk =
    if on.stopped walk then 0
    else 1 + (if on.hits rule walk then cost rule walk else 0)
    + tests_in on test cost rules (passed_over (test rule walk) rule rules) (walked_past on rule walk)

module _ {W : Type 0} (by : Walker W) (call : List (List ℕ) → W → W) (tests : List (List ℕ) → W → ℕ) where
  -- in the rulesets with these names right below a path
  abbrev pub tests_below : List (List ℕ) → List (List ℕ) → W → ℕ
  tests_below at [] walk = 0
  tests_below at (name ∷ names) walk =
      if has_stopped by walk then 0 else tests (at ++ name ∷ []) walk + tests_below at names (call (at ++ name ∷ []) walk)

module _ {W : Type 0} (by : Walker W) (children_at : List (List ℕ) → List (List ℕ)) (call : List (List ℕ) → W → W) (tests : List (List ℕ) → W → ℕ) where
  -- in the rulesets that are called
  abbrev pub tests_called : Bool → Option (List (List ℕ)) → W → ℕ
  tests_called children None walk = 0
  tests_called false (Some target) walk = tests target walk
  tests_called true (Some target) walk = tests_below by call tests target (children_at target) walk

  -- in what a rule calls that matches
  abbrev pub tests_acted : List (List ℕ) → Action → W → ℕ
  tests_acted at (Anchor to) walk = tests_called to.children (target_of to at) (by.enter walk)
  tests_acted at Pass walk = 0
  tests_acted at (Block kind) walk = 0
  tests_acted at Match walk = 0

module _ {W : Type 0} (by : Walker W) (world : World) where
  -- The tests of the walk from a path through the rules of this world, with no more than so many rulesets calling one
  -- another. Where a rule calls rulesets, the walk goes on as it does after their rules in the other world, as they are written.
  abbrev pub tests_within : World → ℕ → List (List ℕ) → W → ℕ
  tests_within written zero at walk = 0
  tests_within written (suc more) at walk =
      tests_in (walking_at by world (walk_within by written more) at) (λ rule walk. tested_at (world.around at) rule (by.seen walk))
      (λ rule walk. tests_acted by world.children (walk_within by written more) (tests_within written more) at rule.effect.action walk)
      (world.rules at) 0 walk

module _ {W : Type 0} (by : Walker W) (world : World) where
  -- The tests of the walk from each path, where the rulesets that rules call are walked like this: those of the rules there,
  -- and those from each path that they call.
  pub record IsChain (walk_from : List (List ℕ) → W → W) (tests_from : List (List ℕ) → W → ℕ) : Type 0 where
    pub is : (at : List (List ℕ)) (walk : W) → tests_from at walk ≡
        tests_in (walking_at by world walk_from at) (λ rule walk. tested_at (world.around at) rule (by.seen walk))
        (λ rule walk. tests_acted by world.children walk_from tests_from at rule.effect.action walk) (world.rules at) 0 walk

  -- the tests from a path of a tree in which at most 64 rulesets call one another in a chain
  unfoldable pub tests_at : World → List (List ℕ) → W → ℕ
  tests_at written = tests_within by world written 64

-- the tests of a walk through the optimised rules by skip steps, from the main ruleset on
abbrev pub tests_from_main : Rulesets → HostFacts → Walk → ℕ
tests_from_main trees facts walk = tests_at packet_walker (optimised_world trees facts) (written_world trees facts) [] walk

-- a packet on a skipped interface meets no test
abbrev pub tests_of : Rulesets → HostFacts → List (List ℕ) → Walk → ℕ
tests_of trees facts skip walk = if is_skipped facts skip walk then 0 else tests_from_main trees facts walk
