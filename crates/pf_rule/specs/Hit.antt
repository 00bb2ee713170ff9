-- When a rule hits, and what its test finds where it doesn't.
use Rattle.std.specs.Prelude.{◌≡◌, ◌↔◌, ℕ, ◌<◌, List, [], ◌∷◌, Bool, false, IsTrue, not, ◌&&◌, Option, Some, None, if◌then◌else◌}
use Rattle.std.specs.List.{list_all, position_from}
use Rattle.pf_rule.specs.Around.{Around}
use Rattle.pf_rule.specs.Criteria.{interface_holds, direction_holds, family_holds, proto_holds, source_holds, source_port_holds, target_holds, target_port_holds, user_holds, group_holds, flags_hold, icmp_holds, tos_holds, prio_holds, tagged_holds}
use Rattle.pf_rule.specs.declared.criteria.Criteria.{Criteria}
use Rattle.pf_rule.specs.declared.packet.Packet.{Packet}
use Rattle.pf_rule.specs.declared.rule.Rule.{Rule}
use Rattle.pf_rule.specs.declared.testing.Tested.{Tested}
use Rattle.pf_rule.specs.declared.testing.Tested.TheVariants.{Hit, Field, Other}
use Rattle.pf_rule.specs.declared.walk.Walk.{Walk}

-- the tests of the eight skip fields, in the order of their numbers: 0 interface, 1 direction, 2 family,
-- 3 protocol, 4 source address, 5 source port, 6 target address, 7 target port
abbrev pub skip_tests : Around → Criteria → Packet → List Bool
skip_tests around criteria packet =
    interface_holds around criteria packet
    ∷ direction_holds criteria packet
    ∷ family_holds criteria packet
    ∷ proto_holds criteria packet
    ∷ source_holds around criteria packet
    ∷ source_port_holds criteria packet
    ∷ target_holds around criteria packet
    ∷ target_port_holds criteria packet
    ∷ []

-- the tests of the other criteria
abbrev pub other_tests : Criteria → Packet → Option (List ℕ) → List Bool
other_tests criteria packet tag =
    user_holds criteria packet
    ∷ group_holds criteria packet
    ∷ flags_hold criteria packet
    ∷ icmp_holds criteria packet
    ∷ tos_holds criteria packet
    ∷ prio_holds criteria packet
    ∷ tagged_holds criteria tag
    ∷ []

-- every one of the tests holds
abbrev pub all_hold : List Bool → Bool
all_hold tests = list_all (λ holds. holds) tests

-- a rule hits where all its criteria hold
unfoldable pub hits : Around → Criteria → Packet → Option (List ℕ) → Bool
hits around criteria packet tag = all_hold (skip_tests around criteria packet) && all_hold (other_tests criteria packet tag)

-- the first skip field whose test fails
unfoldable pub failing_field : Around → Criteria → Packet → Option ℕ
failing_field around criteria packet = position_from not 0 (skip_tests around criteria packet)

-- the rule hits the walk's packet with the tag that it has at the moment
abbrev pub hits_at : Around → Rule → Walk → Bool
hits_at around rule walk = hits around rule.criteria walk.packet walk.tag

-- the first skip field of the rule whose test fails at the walk's packet
abbrev pub fails_at : Around → Rule → Walk → Option ℕ
fails_at around rule walk = failing_field around rule.criteria walk.packet

-- what is found of a rule that doesn't hit
abbrev pub missed_at : Option ℕ → Tested
missed_at (Some field) = Field field
missed_at None = Other

-- what the test of a rule finds: a hit, or else the first skip field that fails, or else that another test fails
abbrev pub tested_at : Around → Rule → Walk → Tested
tested_at around rule walk = if hits_at around rule walk then Hit else missed_at (fails_at around rule walk)

-- what is found says of a rule at a walk: whether it hits, and where it doesn't, the first of the eight skip fields that
-- fails, or that these hold and another criterion fails
pub record Finds (around : Around) (rule : Rule) (walk : Walk) (found : Tested) : Type 0 where
  pub hit : (found ≡ Hit) ↔ IsTrue (hits_at around rule walk)
  pub field : (n : ℕ) → (found ≡ Field n) ↔ (fails_at around rule walk ≡ Some n)
  pub few : (n : ℕ) → found ≡ Field n → n < 8
  pub other : (found ≡ Other) ↔ ((fails_at around rule walk ≡ None) × (hits_at around rule walk ≡ false))
  pub value : found ≡ tested_at around rule walk
