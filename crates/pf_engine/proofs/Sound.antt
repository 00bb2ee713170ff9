-- The plan of a load is one whose rulesets can be optimised, and has few rules in each.
use Rattle.std.proofs.Common.{◌≡◌, ℕ, ◌≤◌, Bool, true, false, ◌&&◌, List, [], ◌∷◌, length, map, Ok, refl, sym, subst, arith}
use Rattle.std.specs.Prelude.{nat_le}
use Rattle.std.specs.List.{list_all}
use Rattle.std.proofs.lemmas.Bool.{false≢true}
use Rattle.std.proofs.lemmas.Bool.Decides.{nat_tests}
use Rattle.pf_base.specs.declared.kind.Level.{Level}
use Rattle.pf_auto.specs.Standing.{names_none, test_names_between}
use Rattle.pf_expand.specs.Written.{has_no_auto, tests_no_auto}
use Rattle.pf_load.specs.Fit.{are_written, is_part_fit, is_plan_fit}
use Rattle.pf_optim.specs.Meaning as optim
use Rattle.pf_optim.specs.Ruleset.{written_of}
use Rattle.pf_optim.specs.declared.rows.Row.{Row}
use Rattle.pf_plan.specs.declared.plan.Part.{Part}
use Rattle.pf_plan.specs.declared.plan.Plan.{Plan}
use Rattle.pf_rule.specs.declared.criteria.AddrSet.TheVariants.{Prefix, Range, Table, Dynamic, Auto}
use Rattle.pf_rule.specs.declared.criteria.AddrTest.{AddrTest}
use Rattle.pf_rule.specs.declared.criteria.AddrTest.TheVariants as address
use Rattle.pf_rule.specs.declared.rule.Rule.{Rule}
use Rattle.pf_state.specs.Commits.{ready_of, staged_of}
use Rattle.pf_state.specs.Sound.{AreSound, IsPartSound, IsPlanSound}
use Rattle.pf_state.specs.declared.ready.Ready.{Ready}
use Rattle.pf_engine.specs.Whatever.{FileMayCome, HaveFewRules}

pub first_holds : (a b : Bool) → (a && b) ≡ true → a ≡ true
first_holds true b h = refl
first_holds false b h = h

pub second_holds : (a b : Bool) → (a && b) ≡ true → b ≡ true
second_holds true b h = h
second_holds false b h = absurd (false≢true h)

both_hold : (a b : Bool) → a ≡ true → b ≡ true → (a && b) ≡ true
both_hold true b h k = k
both_hold false b h k = h

test_names_none : (test : AddrTest) → tests_no_auto test ≡ true → test_names_between 0 0 test ≡ true
test_names_none address.Any h = refl
test_names_none (address.Test negated (Prefix prefix)) h = refl
test_names_none (address.Test negated (Range range)) h = refl
test_names_none (address.Test negated (Table name)) h = refl
test_names_none (address.Test negated (Dynamic what)) h = refl
test_names_none (address.Test negated (Auto number)) h = absurd (false≢true h)

rule_names_none : (rule : Rule) → has_no_auto rule ≡ true → names_none rule ≡ true
rule_names_none rule h =
    let source = tests_no_auto rule.criteria.source in let target = tests_no_auto rule.criteria.target in
    both_hold (test_names_between 0 0 rule.criteria.source) (test_names_between 0 0 rule.criteria.target)
    (test_names_none rule.criteria.source (first_holds source target h)) (test_names_none rule.criteria.target (second_holds source target h))

rules_name_none : (rules : List Rule) → are_written rules ≡ true → optim.are_written rules ≡ true
rules_name_none [] h = refl
rules_name_none (rule ∷ rules) h =
    both_hold (names_none rule) (optim.are_written rules)
    (rule_names_none rule (first_holds (has_no_auto rule) (are_written rules) h)) (rules_name_none rules (second_holds (has_no_auto rule) (are_written rules) h))

few_enough : (n : ℕ) → nat_le n 16384 ≡ true → n ≤ 16384
few_enough n h = grind (arith, nat_tests)

part_sound : (part : Part) → is_part_fit part ≡ true → IsPartSound part
part_sound part h =
    let few = nat_le (length part.rules) 16384 in let written = are_written part.rules in
    record { few = few_enough (length part.rules) (first_holds few written h); written = rules_name_none part.rules (second_holds few written h) }

parts_sound : (parts : List Part) → list_all is_part_fit parts ≡ true → AreSound parts
parts_sound [] h = tt
parts_sound (part ∷ parts) h =
    (part_sound part (first_holds (is_part_fit part) (list_all is_part_fit parts) h), parts_sound parts (second_holds (is_part_fit part) (list_all is_part_fit parts) h))

pub plan_sound : (plan : Plan) → is_plan_fit plan ≡ true → IsPlanSound plan
plan_sound plan h = parts_sound plan.parts h

-- made ready, it has as few
few_written : (rules : List Rule) (level : Level) (weights : List ℕ) → length rules ≤ 16384 → length (written_of rules level weights).rules ≤ 16384
few_written [] level weights h = h
few_written (rule ∷ rules) level weights h = h

few_staged : (level : Level) (rows : List Row) (parts : List Part) → AreSound parts → HaveFewRules (map (staged_of level rows) parts)
few_staged level rows [] sound = tt
few_staged level rows (part ∷ parts) sound = (few_written part.rules level _ sound.0.few, few_staged level rows parts sound.1)

pub few_ready : (rows : List Row) (plan : Plan) (ready : Ready) → is_plan_fit plan ≡ true → ready ≡ ready_of rows plan → FileMayCome (Ok ready)
few_ready rows plan ready fit is = subst (λ (r : Ready). HaveFewRules r.parts) (sym is) (few_staged plan.level rows plan.parts (plan_sound plan fit))
