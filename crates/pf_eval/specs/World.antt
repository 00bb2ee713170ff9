-- The walk of a packet through a tree of rulesets (pf.conf(5), ANCHORS): the rules of the main ruleset in their order, and
-- at each anchor rule that matches the rules of the rulesets that it calls.
use Rattle.std.specs.Prelude.{◌≡◌, ℕ, zero, suc, Bool, true, false, ◌&&◌, ◌||◌, List, [], ◌∷◌, ◌++◌, Option, Some, None, if◌then◌else◌}
use Rattle.pf_parts.specs.CallTarget.{target_of}
use Rattle.pf_parts.specs.declared.call.Call.{Call}
use Rattle.pf_rule.specs.Around.{Around}
use Rattle.pf_rule.specs.Effect.{effect_on, is_anchor}
use Rattle.pf_rule.specs.Hit.{hits_at}
use Rattle.pf_rule.specs.Walking.{Walking, walked_through}
use Rattle.pf_rule.specs.declared.effect.Action.{Action}
use Rattle.pf_rule.specs.declared.effect.Action.TheVariants.{Pass, Block, Match, Anchor}
use Rattle.pf_rule.specs.declared.effect.Effect.{Effect}
use Rattle.pf_rule.specs.declared.rule.Rule.{Rule}
use Rattle.pf_rule.specs.declared.walk.Walk.{Walk}

-- what a walk meets at each path
pub record World : Type 0 where
  -- the rules there, in their order
  pub rules : List (List ℕ) → List Rule
  -- what stands around them
  pub around : List (List ℕ) → Around
  -- the names of the rulesets right below that a wildcard calls, in their order
  pub children : List (List ℕ) → List (List ℕ)

-- a kind of walk W, of each of which the packet's walk can be seen
pub record Walker (W : Type 0) : Type 0 where
  pub seen : W → Walk
  -- what a rule that matches and is no anchor does
  pub act : Effect → W → W
  -- before the rules of an anchor
  pub enter : W → W
  -- behind them: whether the anchor rule is quick, the walk before them, and the walk after them
  pub leave : Bool → W → W → W

-- within an anchor no pass or block rule has matched yet
abbrev pub inside_anchor : Walk → Walk
inside_anchor walk = record walk { matched = false }

-- A quick anchor rule ends the walk where a pass or block rule has matched within. Outside one has matched where one had
-- before the anchor, or has within.
abbrev pub behind_anchor : Bool → Walk → Walk → Walk
behind_anchor quick before after =
    record after { stop = after.stop || (quick && after.matched); matched = before.matched || after.matched }

-- the packet's walk itself
abbrev pub packet_walker : Walker Walk
packet_walker = record { seen = λ walk. walk; act = effect_on; enter = inside_anchor; leave = behind_anchor }

module _ {W : Type 0} (by : Walker W) where
  abbrev pub has_stopped : W → Bool
  has_stopped walk = (by.seen walk).stop

  -- the rulesets with these names right below a path, one after the other, up to a walk that has stopped
  abbrev pub each_child : (List (List ℕ) → W → W) → List (List ℕ) → List (List ℕ) → W → W
  each_child call at [] walk = walk
  each_child call at (name ∷ names) walk =
      if has_stopped walk then walk else each_child call at names (call (at ++ name ∷ []) walk)

module _ {W : Type 0} (by : Walker W) (children_at : List (List ℕ) → List (List ℕ)) (call : List (List ℕ) → W → W) where
  -- the ruleset that is called, or with a wildcard those right below it; where there is none, nothing
  abbrev pub called : Bool → Option (List (List ℕ)) → W → W
  called children None walk = walk
  called false (Some target) walk = call target walk
  called true (Some target) walk = each_child by call target (children_at target) walk

  -- an anchor rule at a path
  abbrev pub anchored : List (List ℕ) → Call → Bool → W → W
  anchored at to quick walk = by.leave quick walk (called to.children (target_of to at) (by.enter walk))

  -- what a rule that matches does, by its action
  abbrev pub acted : List (List ℕ) → Action → Effect → W → W
  acted at (Anchor to) effect walk = anchored at to effect.quick walk
  acted at Pass effect walk = by.act effect walk
  acted at (Block kind) effect walk = by.act effect walk
  acted at Match effect walk = by.act effect walk

module _ {W : Type 0} (by : Walker W) (world : World) where
  -- the rules at a path, where the rulesets that they call are walked like this
  abbrev pub walking_at : (List (List ℕ) → W → W) → List (List ℕ) → Walking W Rule
  walking_at call at = record {
    stopped = has_stopped by;
    hits = λ rule walk. hits_at (world.around at) rule (by.seen walk);
    deed = λ rule walk. acted by world.children call at rule.effect.action rule.effect walk;
  }

  -- The walk from each path: it goes through the rules there, and from each path that they call.
  pub record IsWalk (walk_from : List (List ℕ) → W → W) : Type 0 where
    pub is : (at : List (List ℕ)) (walk : W) → walk_from at walk ≡ walked_through (walking_at walk_from at) (world.rules at) walk

  -- the same, with no more than so many rulesets calling one another
  abbrev pub walk_within : ℕ → List (List ℕ) → W → W
  walk_within zero at walk = walk
  walk_within (suc more) at walk = walked_through (walking_at (walk_within more) at) (world.rules at) walk

  -- the walk from a path of a tree in which at most 64 rulesets call one another in a chain
  unfoldable pub walk_at : List (List ℕ) → W → W
  walk_at = walk_within 64

-- rulesets at the same path stand for each other, whatever the rulesets do that they call
pub record StandForEachOther {W : Type 0} (by : Walker W) (one other : World) : Type 0 where
  pub alike : (call : List (List ℕ) → W → W) (at : List (List ℕ)) (walk : W) →
      walked_through (walking_at by one call at) (one.rules at) walk ≡ walked_through (walking_at by other call at) (other.rules at) walk

-- what a rule does that is no anchor, done twice is done once
pub record ActsOnce {W : Type 0} (by : Walker W) : Type 0 where
  pub twice : (effect : Effect) (walk : W) → is_anchor effect.action ≡ false → by.act effect (by.act effect walk) ≡ by.act effect walk
