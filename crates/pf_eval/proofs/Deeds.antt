-- What a rule does that matches, by the call that it has.
use Rattle.std.proofs.Common.{◌≡◌, ℕ, Bool, true, false, List, Option, Some, None, refl, sym, ap}
use Rattle.pf_eval.specs.Chain.{tests_acted}
use Rattle.pf_eval.specs.Rulesets.{Rulesets, call_of, named_children}
use Rattle.pf_eval.specs.Steps.{call_at, call_tests, children_tests, children_walk, deed_at, tests_left, walk_left}
use Rattle.pf_eval.specs.World.{anchored, inside_anchor, packet_walker}
use Rattle.pf_host.specs.Facts.{HostFacts}
use Rattle.pf_parts.specs.CallTarget.{target_of}
use Rattle.pf_parts.specs.declared.call.Call.{Call}
use Rattle.pf_rule.specs.Effect.{effect_on, is_anchor}
use Rattle.pf_rule.specs.declared.effect.Action.{Action}
use Rattle.pf_rule.specs.declared.effect.Action.TheVariants.{Pass, Block, Match, Anchor}
use Rattle.pf_rule.specs.declared.effect.Effect.{Effect}
use Rattle.pf_rule.specs.declared.walk.Walk.{Walk}

pub none_plain : (action : Action) → None ≡ call_of action → is_anchor action ≡ false
none_plain Pass e = refl
none_plain (Block kind) e = refl
none_plain Match e = refl
none_plain (Anchor to) e = absurd cc

module _ (trees : Rulesets) (facts : HostFacts) (left : ℕ) (at : List (List ℕ)) (effect : Effect) (walk : Walk) where
  -- an anchor rule
  pub call_walk : (action : Action) (call : Call) → Some call ≡ call_of action → anchored packet_walker (named_children trees) (walk_left trees facts left) at call effect.quick walk ≡ deed_at trees facts left at action effect walk
  call_walk Pass call e = absurd cc
  call_walk (Block kind) call e = absurd cc
  call_walk Match call e = absurd cc
  call_walk (Anchor to) call e =
      let same : call ≡ to = cc in
      ap (λ (c : Call). anchored packet_walker (named_children trees) (walk_left trees facts left) at c effect.quick walk) same

  pub call_cost : (action : Action) (call : Call) → Some call ≡ call_of action → call_tests trees facts left call.children (target_of call at) (inside_anchor walk) ≡ tests_acted packet_walker (named_children trees) (walk_left trees facts left) (tests_left trees facts left) at action walk
  call_cost Pass call e = absurd cc
  call_cost (Block kind) call e = absurd cc
  call_cost Match call e = absurd cc
  call_cost (Anchor to) call e =
      let same : call ≡ to = cc in
      ap (λ (c : Call). call_tests trees facts left c.children (target_of c at) (inside_anchor walk)) same

  -- a rule of another kind
  pub plain_walk : (action : Action) → None ≡ call_of action → effect_on effect walk ≡ deed_at trees facts left at action effect walk
  plain_walk Pass e = refl
  plain_walk (Block kind) e = refl
  plain_walk Match e = refl
  plain_walk (Anchor to) e = absurd cc

  pub plain_cost : (action : Action) → None ≡ call_of action → tests_acted packet_walker (named_children trees) (walk_left trees facts left) (tests_left trees facts left) at action walk ≡ 0
  plain_cost Pass e = refl
  plain_cost (Block kind) e = refl
  plain_cost Match e = refl
  plain_cost (Anchor to) e = absurd cc

-- the ruleset that is called
module _ (trees : Rulesets) (facts : HostFacts) (left : ℕ) (children : Bool) (target : Option (List (List ℕ))) (walk : Walk) where
  pub nowhere_walk : None ≡ target → walk ≡ call_at trees facts left children target walk
  nowhere_walk e = ap (λ (t : Option (List (List ℕ))). call_at trees facts left children t walk) e

  pub nowhere_tests : None ≡ target → call_tests trees facts left children target walk ≡ 0
  nowhere_tests e = sym (ap (λ (t : Option (List (List ℕ))). call_tests trees facts left children t walk) e)

  pub target_walk : (at : List (List ℕ)) → children ≡ false → Some at ≡ target → walk_left trees facts left at walk ≡ call_at trees facts left children target walk
  target_walk at single e = λ i. call_at trees facts left (sym single i) (e i) walk

  pub target_tests : (at : List (List ℕ)) → children ≡ false → Some at ≡ target → tests_left trees facts left at walk ≡ call_tests trees facts left children target walk
  target_tests at single e = λ i. call_tests trees facts left (sym single i) (e i) walk

  pub below_walk : (at : List (List ℕ)) → children ≡ true → Some at ≡ target → children_walk trees facts left at (named_children trees at) walk ≡ call_at trees facts left children target walk
  below_walk at all e = λ i. call_at trees facts left (sym all i) (e i) walk

  pub below_tests : (at : List (List ℕ)) → children ≡ true → Some at ≡ target → children_tests trees facts left at (named_children trees at) walk ≡ call_tests trees facts left children target walk
  below_tests at all e = λ i. call_tests trees facts left (sym all i) (e i) walk
