-- What is answered of the readings of its words is what a statement comes to.
use Rattle.std.proofs.Common.{◌≡◌, ℕ, List, Result, Ok, Err}
use Rattle.pf_base.specs.declared.fault.FaultKind.{FaultKind}
use Rattle.pf_form.specs.declared.form.RuleForm.{RuleForm}
use Rattle.pf_host.specs.Facts.{HostFacts}
use Rattle.pf_parts.specs.declared.call.Call.{Call}
use Rattle.pf_rule.specs.declared.rule.Rule.{Rule}
use Rattle.pf_word.specs.Coming.{Comes}
use Rattle.pf_word.specs.declared.fault.ExpandFault.{ExpandFault}
use Rattle.pf_word.specs.declared.fault.ExpandFault.TheVariants as faults
use Rattle.pf_expand.specs.Expansion.{Expands, answer_with, fault_of, rules_of}
use Rattle.pf_expand.specs.Readings.{AreReadings}
use Rattle.pf_expand.specs.declared.order.Defaults.{Defaults}
use Rattle.pf_expand.specs.declared.order.Order.{Order}
use Rattle.pf_expand.specs.declared.readings.Readings.{Readings}

pub comes_of_readings : (form : RuleForm) (call : Call) (order : Order) (facts : HostFacts) (defaults : Defaults) (room : ℕ) (read : Readings) → AreReadings facts form read → (result : Result (List Rule) ExpandFault)
    → Comes (λ answer. answer ≡ answer_with (fault_of facts order form read) (rules_of facts form call defaults room read)) result → Comes (Expands form call order facts defaults room) result
comes_of_readings form call order facts defaults room read are (Ok rules) h = record { read = read; are = are; gives = h }
comes_of_readings form call order facts defaults room read are (Err (faults.Kind fault)) h = record { read = read; are = are; gives = h }
comes_of_readings form call order facts defaults room read are (Err faults.NoMemory) h = tt
