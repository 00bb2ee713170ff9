-- A statement comes to something: it can't be that no answer is what it comes to.
use Rattle.std.proofs.Common.{◌≡◌, ℕ, List, Result, Ok, Err, Option, Some, None, refl}
use Rattle.pf_base.specs.declared.fault.FaultKind.{FaultKind}
use Rattle.pf_form.specs.declared.form.RuleForm.{RuleForm}
use Rattle.pf_host.specs.Facts.{HostFacts}
use Rattle.pf_parts.specs.declared.call.Call.{Call}
use Rattle.pf_rule.specs.declared.criteria.AddrTest.{AddrTest}
use Rattle.pf_rule.specs.declared.rule.Rule.{Rule}
use Rattle.pf_rule.specs.declared.translation.Target.{Target}
use Rattle.pf_syntax.specs.declared.form.HostItem.{HostItem}
use Rattle.pf_syntax.specs.declared.form.TargetWords.{TargetWords}
use Rattle.pf_word.specs.Hosts.{HostsMean}
use Rattle.pf_word.specs.Kinds.{icmps, protos}
use Rattle.pf_word.specs.Numbers.{id_tests, port_tests}
use Rattle.pf_word.specs.Targets.{TargetMeans}
use Rattle.pf_word.specs.Words.{none}
use Rattle.pf_word.specs.declared.number.IdKind.TheVariants as ids
use Rattle.pf_word.specs.declared.words.Words.{Words}
use Rattle.pf_expand.specs.Expansion.{Expands, answer_with, fault_of, rules_of}
use Rattle.pf_expand.specs.Readings.{AreReadings, TranslationMeans}
use Rattle.pf_expand.specs.declared.order.Defaults.{Defaults}
use Rattle.pf_expand.specs.declared.order.Order.{Order}
use Rattle.pf_expand.specs.declared.readings.Readings.{Readings}

module _ (hosts : (facts : HostFacts) (items : List HostItem) → ((words : Words AddrTest) → HostsMean facts items words → ⊥) → ⊥)
    (target : (facts : HostFacts) (target : TargetWords) → ((words : Words Target) → TargetMeans facts target words → ⊥) → ⊥) where
  translation : (facts : HostFacts) (written : Option TargetWords) → ((words : Words Target) → TranslationMeans facts written words → ⊥) → ⊥
  translation facts None never = never none refl
  translation facts (Some words) never = target facts words never

  readings : (facts : HostFacts) (form : RuleForm) → ((read : Readings) → AreReadings facts form read → ⊥) → ⊥
  readings facts form never =
      hosts facts form.sources (λ sources from. hosts facts form.targets (λ targets to. translation facts form.nat (λ nat by. translation facts form.rdr (λ rdr through.
      never (record {
        protos = protos form.protos;
        icmp = icmps form.icmp;
        sources = sources;
        source_ports = port_tests facts form.source_ports;
        targets = targets;
        target_ports = port_tests facts form.target_ports;
        users = id_tests facts ids.User form.users;
        groups = id_tests facts ids.Group form.groups;
        nat = nat;
        rdr = rdr;
      }) (record { protos = refl; icmp = refl; sources = from; source_ports = refl; targets = to; target_ports = refl; users = refl; groups = refl; nat = by; rdr = through })))))

  pub some_answer : (form : RuleForm) (call : Call) (order : Order) (facts : HostFacts) (defaults : Defaults) (room : ℕ) → ((answer : Result (List Rule) FaultKind) → Expands form call order facts defaults room answer → ⊥) → ⊥
  some_answer form call order facts defaults room never =
      readings facts form (λ read are. never (answer_with (fault_of facts order form read) (rules_of facts form call defaults room read)) (record { read = read; are = are; gives = refl }))
