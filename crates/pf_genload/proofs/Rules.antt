-- The form of a line comes to one rule, which calls no other ruleset.
use Rattle.std.proofs.Common.{◌≡◌, ℕ, zero, suc, Bool, true, false, List, [], ◌∷◌, ◌++◌, Some, None, Ok, refl, ap}
use Rattle.std.specs.Prelude.{codes, map, take}
use Rattle.pf_addr.specs.PrefixText.{IsPrefixText}
use Rattle.pf_addr.specs.declared.prefix.Prefix.{Prefix}
use Rattle.pf_expand.specs.Expansion.{Expands, fault_of, rules_of}
use Rattle.pf_expand.specs.Readings.{AreReadings}
use Rattle.pf_expand.specs.Rules.{effect_of, rule_of, start_of}
use Rattle.pf_expand.specs.declared.order.Defaults.{Defaults}
use Rattle.pf_expand.specs.declared.readings.Readings.{Readings}
use Rattle.pf_combine.specs.Combinations.{criteria_of}
use Rattle.pf_combine.specs.declared.member.Member.{Member}
use Rattle.pf_combine.specs.declared.member.Member.TheVariants as members
use Rattle.pf_form.specs.Blank.{blank_form}
use Rattle.pf_form.specs.declared.form.Head.TheVariants as heads
use Rattle.pf_form.specs.declared.form.RuleForm.{RuleForm}
use Rattle.pf_host.specs.Facts.{HostFacts}
use Rattle.pf_load.specs.Anchors.{no_call}
use Rattle.pf_load.specs.Statements.{order_of}
use Rattle.pf_ops.specs.Words.{proto_of}
use Rattle.pf_ops.specs.declared.numbers.Numbers.{Numbers}
use Rattle.pf_parts.specs.declared.matching.IfTest.TheVariants as ifaces
use Rattle.pf_rule.specs.Criteria.{is_tcp_or_udp}
use Rattle.pf_rule.specs.declared.criteria.AddrSet.TheVariants as sets
use Rattle.pf_rule.specs.declared.criteria.AddrTest.{AddrTest}
use Rattle.pf_rule.specs.declared.criteria.AddrTest.TheVariants as tests
use Rattle.pf_rule.specs.declared.rule.Rule.{Rule}
use Rattle.pf_syntax.specs.Operators.{word_op}
use Rattle.pf_word.specs.Hosts.{HostsMean, a_prefix}
use Rattle.pf_word.specs.Kinds.{protos}
use Rattle.pf_word.specs.Numbers.{port_test, port_tests}
use Rattle.pf_word.specs.Words.{all_of, found, none}
use Rattle.pf_word.specs.declared.words.Words.{Words}
use Rattle.pf_genload.specs.Generated.{calls_no_ruleset}
use Rattle.pf_genload.proofs.Lines.{any_item, draft_with, rule_form, source_item}

-- one rule, whatever room there is, that calls nothing
pub record IsOneRule (facts : HostFacts) (defaults : Defaults) (form : RuleForm) : Type 0 where
  pub rule : Rule
  pub expands : (room : ℕ) → Expands form no_call (order_of (draft_with form)) facts defaults (suc room) (Ok (rule ∷ []))
  pub calls : calls_no_ruleset rule ≡ true

take_one : {A : Type 0} (item : A) (room : ℕ) → take (suc room) (item ∷ []) ≡ item ∷ []
take_one item zero = refl
take_one item (suc room) = refl

-- ---- what the words mean

abbrev source_test : Prefix → AddrTest
source_test prefix = tests.Test false (sets.Prefix prefix)

abbrev line_read : ℕ → Prefix → Numbers → Readings
line_read number prefix numbers = record {
  protos = found number;
  icmp = none;
  sources = found (source_test prefix);
  source_ports = none;
  targets = found tests.Any;
  target_ports = found numbers;
  users = none;
  groups = none;
  nat = none;
  rdr = none;
}

protos_are : (proto : List ℕ) (number : ℕ) → proto_of proto ≡ Some number → found number ≡ protos (proto ∷ [])
protos_are proto number is = rw is refl

ports_are : (facts : HostFacts) (port : List ℕ) (numbers : Numbers) → port_test facts (word_op port) ≡ found numbers → found numbers ≡ port_tests facts (word_op port ∷ [])
ports_are facts port numbers is = ap (λ (words : Words Numbers). all_of (words ∷ [])) (sym_of is)
  where
    sym_of : port_test facts (word_op port) ≡ found numbers → found numbers ≡ port_test facts (word_op port)
    sym_of e = cc

source_means : (facts : HostFacts) (source : List ℕ) (prefix : Prefix) → IsPrefixText (source ++ 47 ∷ codes "24") prefix → HostsMean facts (source_item source ∷ []) (found (source_test prefix))
source_means facts source prefix is = record {
  readings = found (source_test prefix) ∷ [];
  each = (record { answer = Ok (prefix ∷ []); means = a_prefix prefix is refl; are = refl }, tt);
  are = refl;
}

target_means : (facts : HostFacts) → HostsMean facts (any_item ∷ []) (found tests.Any)
target_means facts = record { readings = found tests.Any ∷ []; each = (refl, tt); are = refl }

none_means : (facts : HostFacts) → HostsMean facts [] none
none_means facts = record { readings = []; each = tt; are = refl }

-- what the words of a rule's line mean
pub record WordsMean (facts : HostFacts) (proto source port : List ℕ) : Type 0 where
  pub number : ℕ
  pub prefix : Prefix
  pub numbers : Numbers
  pub protocol : proto_of proto ≡ Some number
  pub has_ports : is_tcp_or_udp number ≡ true
  pub network : IsPrefixText (source ++ 47 ∷ codes "24") prefix
  pub ports : port_test facts (word_op port) ≡ found numbers

are_read : (facts : HostFacts) (pass quick : Bool) (name proto source port : List ℕ) (mean : WordsMean facts proto source port)
    → AreReadings facts (rule_form pass quick name proto source port) (line_read mean.number mean.prefix mean.numbers)
are_read facts pass quick name proto source port mean = record {
  protos = protos_are proto mean.number mean.protocol;
  icmp = refl;
  sources = source_means facts source mean.prefix mean.network;
  source_ports = refl;
  targets = target_means facts;
  target_ports = ports_are facts port mean.numbers mean.ports;
  users = refl;
  groups = refl;
  nat = refl;
  rdr = refl;
}

-- ---- the rule

abbrev line_members : List ℕ → ℕ → Prefix → Numbers → List Member
line_members name number prefix numbers =
    members.Iface (ifaces.On name false) ∷ members.Proto number ∷ members.Source (source_test prefix) ∷ members.Target tests.Any ∷ members.TargetPort numbers ∷ []

abbrev line_rule : RuleForm → Defaults → List Member → Rule
line_rule form defaults members = rule_of form (effect_of form no_call defaults [] []) (criteria_of [] (start_of form) members)

no_fault : (facts : HostFacts) (pass quick : Bool) (name proto source port : List ℕ) (number : ℕ) (prefix : Prefix) (numbers : Numbers) → is_tcp_or_udp number ≡ true
    → fault_of facts (order_of (draft_with (rule_form pass quick name proto source port))) (rule_form pass quick name proto source port) (line_read number prefix numbers) ≡ None
unfolding fault_of
no_fault facts true quick name proto source port number prefix numbers is = rw is refl
no_fault facts false quick name proto source port number prefix numbers is = rw is refl

one_rule : (facts : HostFacts) (defaults : Defaults) (pass quick : Bool) (name proto source port : List ℕ) (number : ℕ) (prefix : Prefix) (numbers : Numbers) (room : ℕ)
    → rules_of facts (rule_form pass quick name proto source port) no_call defaults (suc room) (line_read number prefix numbers)
    ≡ line_rule (rule_form pass quick name proto source port) defaults (line_members name number prefix numbers) ∷ []
unfolding rules_of
one_rule facts defaults true quick name proto source port number prefix numbers room =
    let form = rule_form true quick name proto source port in
    ap (map (rule_of form (effect_of form no_call defaults [] []))) (take_one (criteria_of [] (start_of form) (line_members name number prefix numbers)) room)
one_rule facts defaults false quick name proto source port number prefix numbers room =
    let form = rule_form false quick name proto source port in
    ap (map (rule_of form (effect_of form no_call defaults [] []))) (take_one (criteria_of [] (start_of form) (line_members name number prefix numbers)) room)

calls_nothing : (pass quick : Bool) (name proto source port : List ℕ) (defaults : Defaults) (all : List Member)
    → calls_no_ruleset (line_rule (rule_form pass quick name proto source port) defaults all) ≡ true
calls_nothing true quick name proto source port defaults all = refl
calls_nothing false quick name proto source port defaults all = refl

pub is_one_rule : (facts : HostFacts) (defaults : Defaults) (pass quick : Bool) (name proto source port : List ℕ) → WordsMean facts proto source port
    → IsOneRule facts defaults (rule_form pass quick name proto source port)
is_one_rule facts defaults pass quick name proto source port mean =
    let form = rule_form pass quick name proto source port in
    let all = line_members name mean.number mean.prefix mean.numbers in
    record {
      rule = line_rule form defaults all;
      expands = λ room. record {
        read = line_read mean.number mean.prefix mean.numbers;
        are = are_read facts pass quick name proto source port mean;
        gives = rw (
          no_fault facts pass quick name proto source port mean.number mean.prefix mean.numbers mean.has_ports,
          one_rule facts defaults pass quick name proto source port mean.number mean.prefix mean.numbers room,
        ) refl;
      };
      calls = calls_nothing pass quick name proto source port defaults all;
    }

-- ---- `block all`

abbrev all_form : RuleForm
all_form = blank_form (heads.Block None)

abbrev all_read : Readings
all_read = record {
  protos = none;
  icmp = none;
  sources = none;
  source_ports = none;
  targets = none;
  target_ports = none;
  users = none;
  groups = none;
  nat = none;
  rdr = none;
}

all_no_fault : (facts : HostFacts) → fault_of facts (order_of (draft_with all_form)) all_form all_read ≡ None
unfolding fault_of
all_no_fault facts = refl

all_one_rule : (facts : HostFacts) (defaults : Defaults) (room : ℕ) → rules_of facts all_form no_call defaults (suc room) all_read ≡ line_rule all_form defaults [] ∷ []
unfolding rules_of
all_one_rule facts defaults room = ap (map (rule_of all_form (effect_of all_form no_call defaults [] []))) (take_one (criteria_of [] (start_of all_form) []) room)

pub all_is_one_rule : (facts : HostFacts) (defaults : Defaults) → IsOneRule facts defaults all_form
all_is_one_rule facts defaults = record {
  rule = line_rule all_form defaults [];
  expands = λ room. record {
    read = all_read;
    are = record {
      protos = refl;
      icmp = refl;
      sources = none_means facts;
      source_ports = refl;
      targets = none_means facts;
      target_ports = refl;
      users = refl;
      groups = refl;
      nat = refl;
      rdr = refl;
    };
    gives = rw (all_no_fault facts, all_one_rule facts defaults room) refl;
  };
  calls = refl;
}
