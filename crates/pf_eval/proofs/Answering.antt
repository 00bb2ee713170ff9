-- From the walk of the main ruleset to the answer.
use Rattle.std.proofs.Common.{◌≡◌, ℕ, Bool, true, false, List, [], refl, sym, ap, if◌then◌else◌}
use Rattle.pf_eval.specs.Answers.{answer_from, answer_of, walked_from_main}
use Rattle.pf_eval.specs.Chain.{tests_at, tests_from_main}
use Rattle.pf_eval.specs.Rulesets.{Rulesets}
use Rattle.pf_eval.specs.Steps.{tests_left, walk_left}
use Rattle.pf_eval.specs.World.{walk_at}
use Rattle.pf_host.specs.Facts.{HostFacts}
use Rattle.pf_rule.specs.Opening.{opening_walk}
use Rattle.pf_rule.specs.declared.packet.Packet.{Packet}
use Rattle.pf_rule.specs.declared.walk.Walk.{Walk}

pub if_true : {A : Type 0} (b : Bool) (x y : A) → b ≡ true → x ≡ (if b then x else y)
if_true {A} b x y e = sym (ap (λ (c : Bool). if c then x else y) e)

pub if_false : {A : Type 0} (b : Bool) (x y : A) → b ≡ false → y ≡ (if b then x else y)
if_false {A} b x y e = sym (ap (λ (c : Bool). if c then x else y) e)

pub main_walk : (trees : Rulesets) (facts : HostFacts) (walk : Walk) → walk_left trees facts 64 [] walk ≡ walked_from_main trees facts walk
unfolding walk_at
main_walk trees facts walk = refl

pub main_tests : (trees : Rulesets) (facts : HostFacts) (walk : Walk) → tests_left trees facts 64 [] walk ≡ tests_from_main trees facts walk
unfolding tests_at
main_tests trees facts walk = refl

pub packet_answer : (trees : Rulesets) (facts : HostFacts) (skip : List (List ℕ)) (packet : Packet) → answer_from trees facts skip (opening_walk packet) ≡ answer_of trees facts skip packet
unfolding answer_of
packet_answer trees facts skip packet = refl
