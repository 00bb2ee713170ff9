-- What a statement comes to (pf.conf(5), lists): its first fault, or the rules of its combinations.
use Rattle.std.specs.Prelude.{◌≡◌, ℕ, Bool, true, false, ◌&&◌, not, List, [], ◌∷◌, ◌++◌, map, take, Option, Some, None, Result, Ok, Err}
use Rattle.std.specs.List.{list_all}
use Rattle.std.specs.Option.{option_map, option_to_list}
use Rattle.pf_expand.specs.Lists.{is_empty}
use Rattle.pf_base.specs.declared.fault.FaultKind.{FaultKind}
use Rattle.pf_base.specs.declared.kind.Family.{Family}
use Rattle.pf_addr.specs.Addr.{family_of}
use Rattle.pf_form.specs.declared.form.Head.{Head}
use Rattle.pf_form.specs.declared.form.Head.TheVariants as heads
use Rattle.pf_form.specs.declared.form.RuleForm.{RuleForm}
use Rattle.pf_host.specs.Facts.{HostFacts}
use Rattle.pf_parts.specs.declared.call.Call.{Call}
use Rattle.pf_rule.specs.declared.criteria.Criteria.{Criteria}
use Rattle.pf_rule.specs.declared.rule.Rule.{Rule}
use Rattle.pf_rule.specs.declared.translation.Target.{Target}
use Rattle.pf_syntax.specs.declared.form.TargetWords.{TargetWords}
use Rattle.pf_word.specs.Conditions.{host_has_words, op_has_words, target_has_words}
use Rattle.pf_combine.specs.Antispoof.{of_tests}
use Rattle.pf_combine.specs.Combinations.{combined}
use Rattle.pf_expand.specs.Faults.{faults_of, first_some}
use Rattle.pf_combine.specs.Members as gives
use Rattle.pf_expand.specs.Readings.{AreReadings, word_faults}
use Rattle.pf_expand.specs.Rules.{effect_of, rule_of, start_of}
use Rattle.pf_combine.specs.declared.member.Member.{Member}
use Rattle.pf_combine.specs.declared.member.Member.TheVariants as members
use Rattle.pf_expand.specs.declared.order.Defaults.{Defaults}
use Rattle.pf_expand.specs.declared.order.Order.{Order}
use Rattle.pf_expand.specs.declared.readings.Readings.{Readings}

-- a list that is written, of the items that it was written with; one that isn't is none
abbrev pub list_if : {I : Type 0} → List I → List Member → List (List Member)
list_if [] list = []
list_if (item ∷ items) list = list ∷ []

-- the lists of a statement, in the order of their nesting
abbrev pub lists_of : RuleForm → Readings → List (List Member)
lists_of form read =
    list_if form.ifaces (map members.Iface form.ifaces)
    ++ list_if form.protos (map members.Proto read.protos.values)
    ++ list_if form.icmp (map members.Icmp read.icmp.values)
    ++ list_if form.sources (map members.Source read.sources.values)
    ++ list_if form.source_ports (map members.SourcePort read.source_ports.values)
    ++ list_if form.targets (map members.Target read.targets.values)
    ++ list_if form.target_ports (map members.TargetPort read.target_ports.values)
    ++ list_if form.users (map members.User read.users.values)
    ++ list_if form.groups (map members.Group read.groups.values)

abbrev pub target_family : Target → Family
target_family target = family_of target.addr

-- the families that the statement names as a whole: the written one, and those of translated addresses
abbrev pub written_families : RuleForm → Readings → List Family
written_families form read = option_to_list form.family ++ map target_family read.nat.values ++ map target_family read.rdr.values

-- the criteria of its rules, before their flags; the load of another file has none
abbrev pub all_criteria : HostFacts → RuleForm → Readings → Head → List Criteria
all_criteria facts form read heads.Antispoof = of_tests facts form.family (start_of form) form.ifaces
all_criteria facts form read heads.Pass = combined (written_families form read) (start_of form) (lists_of form read)
all_criteria facts form read (heads.Block kind) = combined (written_families form read) (start_of form) (lists_of form read)
all_criteria facts form read heads.Match = combined (written_families form read) (start_of form) (lists_of form read)
all_criteria facts form read (heads.Anchor name body) = combined (written_families form read) (start_of form) (lists_of form read)
all_criteria facts form read (heads.LoadAnchor name file) = []

-- whether a statement of this head makes rules; the load of another file makes none
abbrev pub makes_rules : Head → Bool
makes_rules heads.Pass = true
makes_rules (heads.Block kind) = true
makes_rules heads.Match = true
makes_rules (heads.Anchor name body) = true
makes_rules heads.Antispoof = true
makes_rules (heads.LoadAnchor name file) = false

-- it makes rules, and none is left
abbrev pub lacks_rules : HostFacts → RuleForm → Readings → Bool
lacks_rules facts form read = makes_rules form.head && is_empty (all_criteria facts form read form.head)

-- the first fault
unfoldable pub fault_of : HostFacts → Order → RuleForm → Readings → Option FaultKind
fault_of facts order form read = first_some (faults_of form read.protos.values (word_faults facts order form read) (lacks_rules facts form read))

-- the first rules
unfoldable pub rules_of : HostFacts → RuleForm → Call → Defaults → ℕ → Readings → List Rule
rules_of facts form call defaults room read =
    map (rule_of form (effect_of form call defaults read.nat.values read.rdr.values)) (take room (all_criteria facts form read form.head))

abbrev pub answer_with : Option FaultKind → List Rule → Result (List Rule) FaultKind
answer_with None rules = Ok rules
answer_with (Some fault) rules = Err fault

-- the statement comes to this, of as many rules as there is room for
pub record Expands (form : RuleForm) (call : Call) (order : Order) (facts : HostFacts) (defaults : Defaults) (room : ℕ) (answer : Result (List Rule) FaultKind) : Type 0 where
  pub read : Readings
  pub are : AreReadings facts form read
  pub gives : answer ≡ answer_with (fault_of facts order form read) (rules_of facts form call defaults room read)

abbrev pub translation_has_words : Option TargetWords → Bool
translation_has_words None = true
translation_has_words (Some target) = target_has_words target

-- each word has at least one byte
pub record HasWords (form : RuleForm) : Type 0 where
  pub sources : list_all host_has_words form.sources ≡ true
  pub source_ports : list_all op_has_words form.source_ports ≡ true
  pub targets : list_all host_has_words form.targets ≡ true
  pub target_ports : list_all op_has_words form.target_ports ≡ true
  pub users : list_all op_has_words form.users ≡ true
  pub groups : list_all op_has_words form.groups ≡ true
  pub nat : translation_has_words form.nat ≡ true
  pub rdr : translation_has_words form.rdr ≡ true
