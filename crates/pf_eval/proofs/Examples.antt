-- Walks through small trees, computed by their definitions. No rule of them has a criterion, so they are the same for every packet.
use Rattle.std.proofs.Common.{◌≡◌, ℕ, Bool, true, false, List, [], ◌∷◌, Option, Some, None, refl, if◌then◌else◌}
use Rattle.std.specs.Prelude.{codes}
use Rattle.pf_calls.specs.Calls.{path_eq}
use Rattle.pf_eval.specs.World.{packet_walker, walk_within}
use Rattle.pf_parts.specs.CallTarget.{target_of}
use Rattle.pf_parts.specs.Defaults.{no_options}
use Rattle.pf_parts.specs.declared.call.Base.TheVariants.{Below, Up}
use Rattle.pf_parts.specs.declared.matching.IfTest.TheVariants as interface
use Rattle.pf_parts.specs.declared.matching.TagTest.TheVariants as tag
use Rattle.pf_parts.specs.declared.state.StateKind.TheVariants as state
use Rattle.pf_rule.specs.Around.{Around}
use Rattle.pf_rule.specs.Effect.{effect_on}
use Rattle.pf_rule.specs.Hit.{hits}
use Rattle.pf_rule.specs.Opening.{no_params, opening_walk}
use Rattle.pf_rule.specs.declared.criteria.AddrTest.TheVariants as address
use Rattle.pf_rule.specs.declared.criteria.Criteria.{Criteria}
use Rattle.pf_rule.specs.declared.effect.Action.{Action}
use Rattle.pf_rule.specs.declared.effect.Action.TheVariants.{Pass, Block, Match, Anchor}
use Rattle.pf_parts.specs.declared.block.BlockKind.TheVariants.{Drop}
use Rattle.pf_rule.specs.declared.packet.Packet.{Packet}
use Rattle.pf_rule.specs.declared.rule.Rule.{Rule}
use Rattle.pf_rule.specs.declared.walk.Walk.{Walk}

abbrev any : Criteria
any = record {
  iface = interface.Any;
  direction = None;
  family = None;
  proto = None;
  source = address.Any;
  source_port = None;
  target = address.Any;
  target_port = None;
  user = None;
  group = None;
  flags = None;
  icmp = None;
  tos = None;
  prio = None;
  tagged = tag.Any;
}

-- a rule for every packet, and whether it is quick, with the tag that it gives
abbrev rule : Action → Bool → Option (List ℕ) → Rule
rule action quick name = record {
  criteria = any;
  effect = record { action = action; quick = quick; tag = name; state = state.None; options = no_options; params = no_params; label = None };
}

abbrev block : Action
block = Block Drop

-- an anchor rule that calls the ruleset with this name below its own, and one with a wildcard
abbrev anchor : List ℕ → Action
anchor name = Anchor (record { base = Below; path = name ∷ []; children = false })

abbrev anchors_below : List ℕ → Action
anchors_below name = Anchor (record { base = Below; path = name ∷ []; children = true })

-- one that goes up once
abbrev anchor_beside : List ℕ → Action
anchor_beside name = Anchor (record { base = Up 1; path = name ∷ []; children = false })

abbrev around : Around
around = record { member = λ what addr. false; in_group = λ name iface. false; dynamic = λ what addr. false }

abbrev rules_at : List (List (List ℕ) × List Rule) → List (List ℕ) → List Rule
rules_at [] at = []
rules_at (here ∷ rest) at = if path_eq at here.0 then here.1 else rules_at rest at

-- the end of the walk through these rulesets, of which those right below any path that a wildcard calls have these names
abbrev end : List (List (List ℕ) × List Rule) → List (List ℕ) → Packet → Walk
end rulesets names packet =
    walk_within packet_walker (record { rules = rules_at rulesets; around = λ at. around; children = λ at. names }) 3 [] (opening_walk packet)

abbrev main : List (List ℕ)
main = []

abbrev a : List ℕ
a = codes "a"

abbrev b : List ℕ
b = codes "b"

abbrev x : List ℕ
x = codes "x"

abbrev y : List ℕ
y = codes "y"

-- a match rule within a quick anchor doesn't end the walk
matched_within : (packet : Packet) →
    let walk = end ((main, rule (anchor a) true None ∷ rule block false None ∷ []) ∷ (a ∷ [], rule Match false (Some y) ∷ []) ∷ []) [] packet in
    (walk.tag ≡ Some y) × (walk.last.action ≡ block) × (walk.stop ≡ false)
unfolding hits effect_on target_of
matched_within packet = (refl, refl, refl)

-- a pass rule there does
passed_within : (packet : Packet) →
    let walk = end ((main, rule (anchor a) true None ∷ rule block false None ∷ []) ∷ (a ∷ [], rule Pass false (Some y) ∷ []) ∷ []) [] packet in
    (walk.tag ≡ Some y) × (walk.last.action ≡ Pass) × (walk.stop ≡ true)
unfolding hits effect_on target_of
passed_within packet = (refl, refl, refl)

-- a quick rule within an anchor that isn't quick ends the whole walk
quick_within : (packet : Packet) →
    (end ((main, rule (anchor a) false None ∷ rule Pass false None ∷ []) ∷ (a ∷ [], rule block true None ∷ []) ∷ []) [] packet).last.action ≡ block
unfolding hits effect_on target_of
quick_within packet = refl

-- a wildcard walks the rulesets right below in their order, and none that is deeper
wildcard : (packet : Packet) →
    let walk = end ((main, rule (anchors_below x) false None ∷ []) ∷ (x ∷ a ∷ [], rule block false (Some a) ∷ []) ∷ (x ∷ b ∷ [], rule Pass false (Some b) ∷ []) ∷ (x ∷ a ∷ y ∷ [], rule Pass true (Some y) ∷ []) ∷ []) (a ∷ b ∷ []) packet in
    (walk.tag ≡ Some b) × (walk.last.action ≡ Pass)
unfolding hits effect_on target_of
wildcard packet = (refl, refl)

-- a call upwards
upwards : (packet : Packet) →
    let walk = end ((main, rule block false None ∷ rule (anchor x) false None ∷ []) ∷ (x ∷ [], rule (anchor_beside y) false None ∷ []) ∷ (y ∷ [], rule Pass false (Some y) ∷ []) ∷ []) [] packet in
    (walk.tag ≡ Some y) × (walk.last.action ≡ Pass)
unfolding hits effect_on target_of
upwards packet = (refl, refl)
