-- Effects of rules on walks.
use Rattle.std.proofs.Common.{◌≡◌, Bool, true, false, ◌||◌, refl}
use Rattle.pf_rule.specs.Effect.{acted_on, effect_on, is_anchor, is_deciding, decision_of}
use Rattle.pf_rule.specs.declared.effect.Action.{Action}
use Rattle.pf_rule.specs.declared.effect.Action.TheVariants.{Pass, Block, Match, Anchor}
use Rattle.pf_rule.specs.declared.effect.Effect.{Effect}
use Rattle.pf_rule.specs.declared.walk.Walk.{Walk}
use Rattle.pf_rule.proofs.Translations.{or_twice, target_over_twice, translated_twice}

-- what is set twice is set once
set_twice : (old new : Bool) → ((old || new) || new) ≡ (old || new)
set_twice true new = refl
set_twice false true = refl
set_twice false false = refl

acted_twice : (action : Action) (effect : Effect) (walk : Walk) → acted_on action effect (acted_on action effect walk) ≡ acted_on action effect walk
acted_twice Pass effect walk = simp (or_twice, set_twice)
acted_twice (Block kind) effect walk = simp (or_twice, set_twice)
acted_twice Match effect walk = simp (or_twice, set_twice, target_over_twice, translated_twice)
acted_twice (Anchor call) effect walk = refl

-- an effect twice is the effect once
pub effect_twice : (effect : Effect) (walk : Walk) → effect_on effect (effect_on effect walk) ≡ effect_on effect walk
unfolding effect_on
effect_twice effect walk = acted_twice effect.action effect walk

anchor_acts : (action : Action) (effect : Effect) (walk : Walk) → is_anchor action ≡ true → acted_on action effect walk ≡ walk
anchor_acts Pass effect walk anchor = cc
anchor_acts (Block kind) effect walk anchor = cc
anchor_acts Match effect walk anchor = cc
anchor_acts (Anchor call) effect walk anchor = refl

-- an anchor rule leaves the walk as it is
pub anchor_rests : (effect : Effect) (walk : Walk) → is_anchor effect.action ≡ true → effect_on effect walk ≡ walk
unfolding effect_on
anchor_rests effect walk anchor = anchor_acts effect.action effect walk anchor

decides_acting : (action : Action) (effect : Effect) (walk : Walk) → is_deciding action ≡ true → (acted_on action effect walk).last ≡ decision_of effect
decides_acting Pass effect walk deciding = refl
decides_acting (Block kind) effect walk deciding = refl
decides_acting Match effect walk deciding = cc
decides_acting (Anchor call) effect walk deciding = cc

-- a pass or block rule decides
pub decides_last : (effect : Effect) (walk : Walk) → is_deciding effect.action ≡ true → (effect_on effect walk).last ≡ decision_of effect
unfolding effect_on
decides_last effect walk deciding = decides_acting effect.action effect walk deciding

rests_acting : (action : Action) (effect : Effect) (walk : Walk) → is_deciding action ≡ false → (acted_on action effect walk).last ≡ walk.last
rests_acting Pass effect walk resting = cc
rests_acting (Block kind) effect walk resting = cc
rests_acting Match effect walk resting = refl
rests_acting (Anchor call) effect walk resting = refl

-- any other rule leaves the decision
pub rests_last : (effect : Effect) (walk : Walk) → is_deciding effect.action ≡ false → (effect_on effect walk).last ≡ walk.last
unfolding effect_on
rests_last effect walk resting = rests_acting effect.action effect walk resting

stops_acting : (action : Action) (effect : Effect) (walk : Walk) → is_deciding action ≡ true → (acted_on action effect walk).stop ≡ (walk.stop || effect.quick)
stops_acting Pass effect walk deciding = refl
stops_acting (Block kind) effect walk deciding = refl
stops_acting Match effect walk deciding = cc
stops_acting (Anchor call) effect walk deciding = cc

-- a quick pass or block rule ends the walk
pub quick_stops : (effect : Effect) (walk : Walk) → is_deciding effect.action ≡ true → (effect_on effect walk).stop ≡ (walk.stop || effect.quick)
unfolding effect_on
quick_stops effect walk deciding = stops_acting effect.action effect walk deciding
