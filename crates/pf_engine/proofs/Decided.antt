-- What a walk through the rulesets of a tree has decided is always to pass or to block.
use Rattle.std.proofs.Common.{◌≡◌, ℕ, zero, suc, Bool, true, false, cond, List, [], ◌∷◌, ◌++◌, Option, Some, None, refl, ap}
use Rattle.pf_eval.specs.Answers.{answer_from, answer_of, is_skipped, skipped_answer, walked_from_main, written_world}
use Rattle.pf_eval.specs.Rulesets.{Rulesets, named_children}
use Rattle.pf_eval.specs.World.{World, acted, called, each_child, has_stopped, packet_walker, walk_at, walk_within, walking_at}
use Rattle.pf_host.specs.Facts.{HostFacts}
use Rattle.pf_parts.specs.CallTarget.{target_of}
use Rattle.pf_parts.specs.declared.call.Call.{Call}
use Rattle.pf_rule.specs.Answer.{answer_of_walk}
use Rattle.pf_rule.specs.Effect.{acted_on, effect_on, is_deciding}
use Rattle.pf_rule.specs.Hit.{hits_at}
use Rattle.pf_rule.specs.Opening.{opening_walk}
use Rattle.pf_rule.specs.Walking.{walked_through}
use Rattle.pf_rule.specs.declared.effect.Action.{Action}
use Rattle.pf_rule.specs.declared.effect.Action.TheVariants.{Pass, Block, Match, Anchor}
use Rattle.pf_rule.specs.declared.effect.Effect.{Effect}
use Rattle.pf_rule.specs.declared.packet.Packet.{Packet}
use Rattle.pf_rule.specs.declared.rule.Rule.{Rule}
use Rattle.pf_rule.specs.declared.walk.Answer.{Answer}
use Rattle.pf_rule.specs.declared.walk.Walk.{Walk}

abbrev Decides : Walk → Type 0
Decides walk = is_deciding walk.last.action ≡ true

acting : (action : Action) (effect : Effect) (walk : Walk) → effect.action ≡ action → Decides walk → Decides (acted_on action effect walk)
acting Pass effect walk same was = ap is_deciding same
acting (Block kind) effect walk same was = ap is_deciding same
acting Match effect walk same was = was
acting (Anchor call) effect walk same was = was

effect_decides : (effect : Effect) (walk : Walk) → Decides walk → Decides (effect_on effect walk)
unfolding effect_on
effect_decides effect walk was = acting effect.action effect walk refl was

either : (b : Bool) (x y : Walk) → Decides x → Decides y → Decides (cond b x y)
either true x y left right = left
either false x y left right = right

module _ (world : World) (call : List (List ℕ) → Walk → Walk) (calls : (at : List (List ℕ)) (walk : Walk) → Decides walk → Decides (call at walk)) where
  children_decide : (at names : List (List ℕ)) (walk : Walk) → Decides walk → Decides (each_child packet_walker call at names walk)
  children_decide at [] walk was = was
  children_decide at (name ∷ names) walk was =
      either (has_stopped packet_walker walk) walk (each_child packet_walker call at names (call (at ++ name ∷ []) walk)) was
      (children_decide at names (call (at ++ name ∷ []) walk) (calls (at ++ name ∷ []) walk was))

  called_decides : (children : Bool) (target : Option (List (List ℕ))) (walk : Walk) → Decides walk → Decides (called packet_walker world.children call children target walk)
  called_decides children None walk was = was
  called_decides false (Some target) walk was = calls target walk was
  called_decides true (Some target) walk was = children_decide target (world.children target) walk was

  acted_decides : (at : List (List ℕ)) (action : Action) (effect : Effect) (walk : Walk) → Decides walk → Decides (acted packet_walker world.children call at action effect walk)
  acted_decides at (Anchor to) effect walk was = called_decides to.children (target_of to at) (packet_walker.enter walk) was
  acted_decides at Pass effect walk was = effect_decides effect walk was
  acted_decides at (Block kind) effect walk was = effect_decides effect walk was
  acted_decides at Match effect walk was = effect_decides effect walk was

  through_decides : (at : List (List ℕ)) (rules : List Rule) (walk : Walk) → Decides walk → Decides (walked_through (walking_at packet_walker world call at) rules walk)
  through_decides at [] walk was = was
  through_decides at (rule ∷ rules) walk was =
      let past = cond (hits_at (world.around at) rule walk) (acted packet_walker world.children call at rule.effect.action rule.effect walk) walk in
      either walk.stop walk (walked_through (walking_at packet_walker world call at) rules past) was
      (through_decides at rules past
      (either (hits_at (world.around at) rule walk) (acted packet_walker world.children call at rule.effect.action rule.effect walk) walk
      (acted_decides at rule.effect.action rule.effect walk was) was))

within_decides : (world : World) (left : ℕ) (at : List (List ℕ)) (walk : Walk) → Decides walk → Decides (walk_within packet_walker world left at walk)
within_decides world zero at walk was = was
within_decides world (suc left) at walk was = through_decides world (walk_within packet_walker world left) (within_decides world left) at (world.rules at) walk was

walk_decides : (world : World) (at : List (List ℕ)) (walk : Walk) → Decides walk → Decides (walk_at packet_walker world at walk)
unfolding walk_at
walk_decides world at walk was = within_decides world 64 at walk was

chosen : (skipped : Bool) (one other : Answer) → is_deciding one.decision.action ≡ true → is_deciding other.decision.action ≡ true → is_deciding (cond skipped one other).decision.action ≡ true
chosen true one other left right = left
chosen false one other left right = right

-- an answer passes or blocks
pub answer_decides : (trees : Rulesets) (facts : HostFacts) (skip : List (List ℕ)) (packet : Packet) → is_deciding (answer_of trees facts skip packet).decision.action ≡ true
unfolding answer_of
answer_decides trees facts skip packet =
    let walk = opening_walk packet in
    chosen (is_skipped facts skip walk) (skipped_answer walk) (answer_of_walk (walked_from_main trees facts walk)) refl
    (walk_decides (written_world trees facts) [] walk refl)
