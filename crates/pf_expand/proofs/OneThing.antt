-- A statement comes to one thing alone, since its words have one meaning.
use Rattle.std.proofs.Common.{◌≡◌, ℕ, List, Option, Some, None, Result, sym, ap, ◌∙◌}
use Rattle.pf_base.specs.declared.fault.FaultKind.{FaultKind}
use Rattle.pf_form.specs.declared.form.RuleForm.{RuleForm}
use Rattle.pf_host.specs.Facts.{HostFacts}
use Rattle.pf_parts.specs.declared.call.Call.{Call}
use Rattle.pf_rule.specs.declared.criteria.AddrTest.{AddrTest}
use Rattle.pf_rule.specs.declared.rule.Rule.{Rule}
use Rattle.pf_rule.specs.declared.translation.Target.{Target}
use Rattle.pf_syntax.specs.declared.form.HostItem.{HostItem}
use Rattle.pf_syntax.specs.declared.form.TargetWords.{TargetWords}
use Rattle.pf_word.specs.Hosts.{HostsMean}
use Rattle.pf_word.specs.Targets.{TargetMeans}
use Rattle.pf_word.specs.declared.words.Words.{Words}
use Rattle.pf_expand.specs.Expansion.{Expands, answer_with, fault_of, rules_of}
use Rattle.pf_expand.specs.Readings.{AreReadings, TranslationMeans}
use Rattle.pf_expand.specs.declared.order.Defaults.{Defaults}
use Rattle.pf_expand.specs.declared.order.Order.{Order}
use Rattle.pf_expand.specs.declared.readings.Readings.{Readings}

module _ (one_list : (facts : HostFacts) (items : List HostItem) (words other : Words AddrTest) → HostsMean facts items words → HostsMean facts items other → words ≡ other)
    (one_target : (facts : HostFacts) (target : TargetWords) (words other : Words Target) → TargetMeans facts target words → TargetMeans facts target other → words ≡ other)
  where
    one_translation : (facts : HostFacts) (target : Option TargetWords) (words other : Words Target) → TranslationMeans facts target words → TranslationMeans facts target other → words ≡ other
    one_translation facts None words other a b = a ∙ sym b
    one_translation facts (Some target) words other a b = one_target facts target words other a b

    one_reading : (facts : HostFacts) (form : RuleForm) (read other : Readings) → AreReadings facts form read → AreReadings facts form other → read ≡ other
    one_reading facts form read other a b =
        let protos = a.protos ∙ sym b.protos in
        let icmp = a.icmp ∙ sym b.icmp in
        let sources = one_list facts form.sources read.sources other.sources a.sources b.sources in
        let source_ports = a.source_ports ∙ sym b.source_ports in
        let targets = one_list facts form.targets read.targets other.targets a.targets b.targets in
        let target_ports = a.target_ports ∙ sym b.target_ports in
        let users = a.users ∙ sym b.users in
        let groups = a.groups ∙ sym b.groups in
        let nat = one_translation facts form.nat read.nat other.nat a.nat b.nat in
        let rdr = one_translation facts form.rdr read.rdr other.rdr a.rdr b.rdr in
        λ i. record {
          protos = protos i;
          icmp = icmp i;
          sources = sources i;
          source_ports = source_ports i;
          targets = targets i;
          target_ports = target_ports i;
          users = users i;
          groups = groups i;
          nat = nat i;
          rdr = rdr i;
        }

    pub one_answer : (form : RuleForm) (call : Call) (order : Order) (facts : HostFacts) (defaults : Defaults) (room : ℕ) (answer other : Result (List Rule) FaultKind)
        → Expands form call order facts defaults room answer → Expands form call order facts defaults room other → answer ≡ other
    one_answer form call order facts defaults room answer other a b =
        a.gives ∙ ap (λ read. answer_with (fault_of facts order form read) (rules_of facts form call defaults room read)) (one_reading facts form a.read b.read a.are b.are) ∙ sym b.gives
