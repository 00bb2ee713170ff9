-- A walk through rulesets has decided to pass or to block, at each of its rules.
use Rattle.std.proofs.Common.{◌≡◌, ℕ, zero, suc, Bool, true, false, cond, List, [], ◌∷◌, ◌++◌, Option, Some, None, refl, ap}
use Rattle.pf_eval.specs.Answers.{answer_of, is_skipped, skipped_answer, walked_from_main, written_world}
use Rattle.pf_eval.specs.Rulesets.{Rulesets}
use Rattle.pf_eval.specs.World.{World, acted, called, each_child, has_stopped, packet_walker, walk_at, walk_within, walking_at}
use Rattle.pf_host.specs.Facts.{HostFacts}
use Rattle.pf_parts.specs.CallTarget.{target_of}
use Rattle.pf_rule.specs.Answer.{answer_of_walk}
use Rattle.pf_rule.specs.Effect.{acted_on, effect_on, is_deciding}
use Rattle.pf_rule.specs.Opening.{opening_walk}
use Rattle.pf_rule.specs.Walking.{Walking, walked_past, walked_through}
use Rattle.pf_rule.specs.declared.effect.Action.{Action}
use Rattle.pf_rule.specs.declared.effect.Action.TheVariants.{Pass, Block, Match, Anchor}
use Rattle.pf_rule.specs.declared.effect.Effect.{Effect}
use Rattle.pf_rule.specs.declared.packet.Packet.{Packet}
use Rattle.pf_rule.specs.declared.rule.Rule.{Rule}
use Rattle.pf_rule.specs.declared.walk.Answer.{Answer}
use Rattle.pf_rule.specs.declared.walk.Walk.{Walk}

-- the walk passes or blocks, as it stands
abbrev Decides : Walk → Type 0
Decides walk = is_deciding walk.last.action ≡ true

abbrev Keeps : (Walk → Walk) → Type 0
Keeps step = (walk : Walk) → Decides walk → Decides (step walk)

either : {A : Type 0} (P : A → Type 0) (b : Bool) (x y : A) → P x → P y → P (cond b x y)
either P true x y left right = left
either P false x y left right = right

-- ---- one rule

acting : (action : Action) (effect : Effect) → effect.action ≡ action → Keeps (acted_on action effect)
acting Pass effect same walk was = ap is_deciding same
acting (Block kind) effect same walk was = ap is_deciding same
acting Match effect same walk was = was
acting (Anchor call) effect same walk was = was

effect_keeps : (effect : Effect) → Keeps (effect_on effect)
unfolding effect_on
effect_keeps effect walk was = acting effect.action effect refl walk was

-- ---- a list of rules, where what they call keeps it

module _ (children_at : List (List ℕ) → List (List ℕ)) (call : List (List ℕ) → Walk → Walk) (calls : (at : List (List ℕ)) → Keeps (call at)) where
  children_keep : (at names : List (List ℕ)) → Keeps (each_child packet_walker call at names)
  children_keep at [] walk was = was
  children_keep at (name ∷ names) walk was =
      either Decides (has_stopped packet_walker walk) walk (each_child packet_walker call at names (call (at ++ name ∷ []) walk)) was
      (children_keep at names (call (at ++ name ∷ []) walk) (calls (at ++ name ∷ []) walk was))

  called_keep : (children : Bool) (target : Option (List (List ℕ))) → Keeps (called packet_walker children_at call children target)
  called_keep children None walk was = was
  called_keep false (Some target) walk was = calls target walk was
  called_keep true (Some target) walk was = children_keep target (children_at target) walk was

  acted_keeps : (at : List (List ℕ)) (action : Action) (effect : Effect) → Keeps (acted packet_walker children_at call at action effect)
  acted_keeps at (Anchor to) effect walk was = called_keep to.children (target_of to at) (packet_walker.enter walk) was
  acted_keeps at Pass effect walk was = effect_keeps effect walk was
  acted_keeps at (Block kind) effect walk was = effect_keeps effect walk was
  acted_keeps at Match effect walk was = effect_keeps effect walk was

through_keeps : (on : Walking Walk Rule) → ((rule : Rule) → Keeps (on.deed rule)) → (rules : List Rule) → Keeps (walked_through on rules)
through_keeps on deeds [] walk was = was
through_keeps on deeds (rule ∷ rules) walk was =
    either Decides (on.stopped walk) walk (walked_through on rules (walked_past on rule walk)) was
    (through_keeps on deeds rules (walked_past on rule walk)
    (either Decides (on.hits rule walk) (on.deed rule walk) walk (deeds rule walk was) was))

-- ---- a tree of rulesets

within_keeps : (world : World) (bound : ℕ) (at : List (List ℕ)) → Keeps (walk_within packet_walker world bound at)
within_keeps world zero at walk was = was
within_keeps world (suc bound) at walk was =
    through_keeps (walking_at packet_walker world (walk_within packet_walker world bound) at)
    (λ rule. acted_keeps world.children (walk_within packet_walker world bound) (within_keeps world bound) at rule.effect.action rule.effect)
    (world.rules at) walk was

walk_keeps : (world : World) (at : List (List ℕ)) → Keeps (walk_at packet_walker world at)
unfolding walk_at
walk_keeps world at walk was = within_keeps world 64 at walk was

-- ---- the answer

abbrev AnswerDecides : Answer → Type 0
AnswerDecides answer = is_deciding answer.decision.action ≡ true

pub answer_decides : (rulesets : Rulesets) (facts : HostFacts) (skip : List (List ℕ)) (packet : Packet) → is_deciding (answer_of rulesets facts skip packet).decision.action ≡ true
unfolding answer_of
answer_decides rulesets facts skip packet =
    let walk = opening_walk packet in
    either AnswerDecides (is_skipped facts skip walk) (skipped_answer walk) (answer_of_walk (walked_from_main rulesets facts walk)) refl
    (walk_keeps (written_world rulesets facts) [] walk refl)

pub none_skipped : (rulesets : Rulesets) (facts : HostFacts) (packet : Packet) → (answer_of rulesets facts [] packet).skip ≡ false
unfolding answer_of
none_skipped rulesets facts packet = refl
