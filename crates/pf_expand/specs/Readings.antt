-- What the words of a statement mean, list by list, and their faults in the order of the words.
use Rattle.std.specs.Prelude.{◌≡◌, ℕ, Bool, true, false, List, [], ◌∷◌, ◌++◌, Option, Some, None, if◌then◌else◌}
use Rattle.std.specs.List.{filter_map}
use Rattle.pf_base.specs.declared.fault.FaultKind.{FaultKind}
use Rattle.pf_base.specs.declared.fault.FaultKind.TheVariants as kinds
use Rattle.pf_form.specs.declared.form.Head.{Head}
use Rattle.pf_form.specs.declared.form.Head.TheVariants as heads
use Rattle.pf_form.specs.declared.form.RuleForm.{RuleForm}
use Rattle.pf_host.specs.Facts.{HostFacts}
use Rattle.pf_host.specs.Queries.{knows}
use Rattle.pf_parts.specs.declared.matching.IfTest.{IfTest}
use Rattle.pf_parts.specs.declared.matching.IfTest.TheVariants as ifaces
use Rattle.pf_rule.specs.declared.translation.Target.{Target}
use Rattle.pf_syntax.specs.declared.form.TargetWords.{TargetWords}
use Rattle.pf_word.specs.Hosts.{HostsMean}
use Rattle.pf_word.specs.Kinds.{icmps, protos}
use Rattle.pf_word.specs.Numbers.{id_tests, port_tests}
use Rattle.pf_word.specs.Targets.{TargetMeans}
use Rattle.pf_word.specs.Words.{none}
use Rattle.pf_word.specs.declared.number.IdKind.TheVariants as ids
use Rattle.pf_word.specs.declared.words.Words.{Words}
use Rattle.pf_expand.specs.declared.order.Order.{Order}
use Rattle.pf_expand.specs.declared.readings.Readings.{Readings}

-- a translation, where one is written
abbrev pub TranslationMeans : HostFacts → Option TargetWords → Words Target → Type 0
TranslationMeans facts None words = words ≡ none
TranslationMeans facts (Some target) words = TargetMeans facts target words

-- the words of the form mean this
pub record AreReadings (facts : HostFacts) (form : RuleForm) (read : Readings) : Type 0 where
  pub protos : read.protos ≡ protos form.protos
  pub icmp : read.icmp ≡ icmps form.icmp
  pub sources : HostsMean facts form.sources read.sources
  pub source_ports : read.source_ports ≡ port_tests facts form.source_ports
  pub targets : HostsMean facts form.targets read.targets
  pub target_ports : read.target_ports ≡ port_tests facts form.target_ports
  pub users : read.users ≡ id_tests facts ids.User form.users
  pub groups : read.groups ≡ id_tests facts ids.Group form.groups
  pub nat : TranslationMeans facts form.nat read.nat
  pub rdr : TranslationMeans facts form.rdr read.rdr

-- the name that `antispoof for` has, unless the facts know it
abbrev pub unknown_name : HostFacts → IfTest → Option FaultKind
unknown_name facts ifaces.Any = None
unknown_name facts (ifaces.On name negated) = if knows facts name then None else Some (kinds.UnknownInterface name)

-- only `antispoof` needs interfaces that the facts know; `on` takes any name
abbrev pub iface_faults : HostFacts → Head → List IfTest → List FaultKind
iface_faults facts heads.Antispoof tests = filter_map (unknown_name facts) tests
iface_faults facts heads.Pass tests = []
iface_faults facts (heads.Block kind) tests = []
iface_faults facts heads.Match tests = []
iface_faults facts (heads.Anchor name body) tests = []
iface_faults facts (heads.LoadAnchor name file) tests = []

abbrev pub in_order : Bool → List FaultKind → List FaultKind → List FaultKind
in_order true first second = second ++ first
in_order false first second = first ++ second

-- the faults of words, in the order of the words. Options may stand in any order; of two that may have faults of one kind, users
-- and groups and the two translations, the order is given.
abbrev pub word_faults : HostFacts → Order → RuleForm → Readings → List FaultKind
word_faults facts order form read =
    iface_faults facts form.head form.ifaces ++ read.protos.faults ++ read.sources.faults ++ read.source_ports.faults ++ read.targets.faults ++ read.target_ports.faults
    ++ read.icmp.faults ++ in_order order.group_first read.users.faults read.groups.faults ++ in_order order.rdr_first read.nat.faults read.rdr.faults
