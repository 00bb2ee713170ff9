-- What the rules of a statement promise.
use Rattle.std.proofs.Common.{◌≡◌, ℕ, ◌≤◌, Bool, true, List, length, map, take, Result, Ok, Err, Option, Some, None, refl, sym, ap, ◌∙◌, subst, arith}
use Rattle.std.specs.List.{list_all}
use Rattle.std.proofs.lemmas.List.{length-map, length-take}
use Rattle.pf_base.specs.declared.fault.FaultKind.{FaultKind}
use Rattle.pf_form.specs.declared.form.RuleForm.{RuleForm}
use Rattle.pf_host.specs.Facts.{HostFacts}
use Rattle.pf_parts.specs.declared.call.Call.{Call}
use Rattle.pf_rule.specs.declared.criteria.Criteria.{Criteria}
use Rattle.pf_rule.specs.declared.rule.Rule.{Rule}
use Rattle.pf_expand.specs.Expansion.{Expands, all_criteria, answer_with, fault_of, rules_of}
use Rattle.pf_expand.specs.Readings.{AreReadings}
use Rattle.pf_expand.specs.Rules.{effect_of, rule_of}
use Rattle.pf_expand.specs.Written.{has_no_auto, is_of_one_family, is_settled, tests_no_auto}
use Rattle.pf_expand.specs.declared.order.Defaults.{Defaults}
use Rattle.pf_expand.specs.declared.order.Order.{Order}
use Rattle.pf_expand.specs.declared.readings.Readings.{Readings}
use Rattle.pf_expand.proofs.Every.{Every, both, every_from, every_map, every_of_each, every_passes, every_take}
use Rattle.pf_expand.proofs.OneFamily.{Itself, all_tested, one_family}
use Rattle.pf_expand.proofs.Plain.{PlainCriteria, plain_criteria}

module _ (facts : HostFacts) (form : RuleForm) (call : Call) (defaults : Defaults) (room : ℕ) (read : Readings) where
  abbrev give : Criteria → Rule
  give = rule_of form (effect_of form call defaults read.nat.values read.rdr.values)

  abbrev some : List Criteria
  some = take room (all_criteria facts form read form.head)

  -- what holds of each criteria, and makes a test of its rule pass
  passed : (P : Criteria → Type 0) (test : Rule → Bool) → ((criteria : Criteria) → P criteria → test (give criteria) ≡ true) → Every P (all_criteria facts form read form.head) → list_all test (rules_of facts form call defaults room read) ≡ true
  unfolding rules_of
  passed P test passes h =
      every_passes test (map give some) (every_map (λ rule. test rule ≡ true) give some (every_from P (λ criteria. test (give criteria) ≡ true) passes some (every_take P room (all_criteria facts form read form.head) h)))

  without_auto : AreReadings facts form read → list_all has_no_auto (rules_of facts form call defaults room read) ≡ true
  without_auto are =
      passed PlainCriteria has_no_auto (λ criteria h. both (tests_no_auto criteria.source) (tests_no_auto criteria.target) h.0 h.1) (plain_criteria facts form read are form.head)

  of_one_family : list_all is_of_one_family (rules_of facts form call defaults room read) ≡ true
  of_one_family = passed Itself is_of_one_family (λ criteria h. all_tested criteria h) (one_family facts form read form.head)

  settled : list_all is_settled (rules_of facts form call defaults room read) ≡ true
  settled =
      let any : Criteria → Type 0 = λ criteria. Unit {0} in
      passed any is_settled (λ criteria h. refl) (every_of_each any (λ criteria. tt) (all_criteria facts form read form.head))

  few : length (rules_of facts form call defaults room read) ≤ room
  unfolding rules_of
  few = omega (arith, length-map some give, length-take room (all_criteria facts form read form.head))

answered : (fault : Option FaultKind) (rules given : List Rule) → Ok rules ≡ answer_with fault given → given ≡ rules
answered None rules given e = cc
answered (Some fault) rules given e = absurd (cc)

module _ (form : RuleForm) (call : Call) (order : Order) (facts : HostFacts) (defaults : Defaults) (room : ℕ) (rules : List Rule) (h : Expands form call order facts defaults room (Ok rules)) where
  are : rules_of facts form call defaults room h.read ≡ rules
  are = answered (fault_of facts order form h.read) rules (rules_of facts form call defaults room h.read) h.gives

  pub rules_without_auto : list_all has_no_auto rules ≡ true
  rules_without_auto = ap (list_all has_no_auto) (sym are) ∙ without_auto facts form call defaults room h.read h.are

  pub rules_of_one_family : list_all is_of_one_family rules ≡ true
  rules_of_one_family = ap (list_all is_of_one_family) (sym are) ∙ of_one_family facts form call defaults room h.read

  pub rules_settled : list_all is_settled rules ≡ true
  rules_settled = ap (list_all is_settled) (sym are) ∙ settled facts form call defaults room h.read

  pub rules_few : length rules ≤ room
  rules_few = subst (λ (r : List Rule). length r ≤ room) are (few facts form call defaults room h.read)
