-- What a walk has decided is always to pass or to block.
use Rattle.std.proofs.Common.{◌≡◌, Bool, true, false, cond, List, [], ◌∷◌, refl, ap}
use Rattle.pf_rule.specs.Answer.{answer_of}
use Rattle.pf_rule.specs.Around.{Around}
use Rattle.pf_rule.specs.Effect.{acted_on, effect_on, is_deciding}
use Rattle.pf_rule.specs.Hit.{hits_at}
use Rattle.pf_rule.specs.Opening.{opening_walk}
use Rattle.pf_rule.specs.Walk.{walked, walked_one}
use Rattle.pf_rule.specs.declared.effect.Action.{Action}
use Rattle.pf_rule.specs.declared.effect.Action.TheVariants.{Pass, Block, Match, Anchor}
use Rattle.pf_rule.specs.declared.effect.Effect.{Effect}
use Rattle.pf_rule.specs.declared.packet.Packet.{Packet}
use Rattle.pf_rule.specs.declared.rule.Rule.{Rule}
use Rattle.pf_rule.specs.declared.walk.Walk.{Walk}

acting_decided : (action : Action) (effect : Effect) (walk : Walk) → effect.action ≡ action → is_deciding walk.last.action ≡ true → is_deciding (acted_on action effect walk).last.action ≡ true
acting_decided Pass effect walk same was = ap is_deciding same
acting_decided (Block kind) effect walk same was = ap is_deciding same
acting_decided Match effect walk same was = was
acting_decided (Anchor call) effect walk same was = was

effect_decided : (effect : Effect) (walk : Walk) → is_deciding walk.last.action ≡ true → is_deciding (effect_on effect walk).last.action ≡ true
unfolding effect_on
effect_decided effect walk was = acting_decided effect.action effect walk refl was

either_decided : (b : Bool) (x y : Walk) → is_deciding x.last.action ≡ true → is_deciding y.last.action ≡ true → is_deciding (cond b x y).last.action ≡ true
either_decided true x y left right = left
either_decided false x y left right = right

walk_decided : (around : Around) (rules : List Rule) (walk : Walk) → is_deciding walk.last.action ≡ true → is_deciding (walked around rules walk).last.action ≡ true
walk_decided around [] walk was = was
walk_decided around (rule ∷ rules) walk was =
    either_decided walk.stop walk (walked around rules (walked_one around rule walk)) was
    (walk_decided around rules (walked_one around rule walk)
    (either_decided (hits_at around rule walk) (effect_on rule.effect walk) walk (effect_decided rule.effect walk was) was))

-- an answer passes or blocks
pub answer_decided : (around : Around) (rules : List Rule) (packet : Packet) → is_deciding (answer_of around rules packet).decision.action ≡ true
unfolding answer_of
answer_decided around rules packet = walk_decided around rules (opening_walk packet) refl
