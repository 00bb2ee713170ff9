-- The rules that a statement of a file comes to are written rules.
use Rattle.std.proofs.Common.{◌≡◌, ℕ, Bool, true, false, List, [], ◌∷◌, ◌++◌, map, Option, Some, None, refl, sym, subst, ◌∙◌}
use Rattle.std.specs.Prelude.{◌&&◌, ◌||◌, ◌==◌, not, is_some}
use Rattle.std.specs.List.{list_all, list_any}
use Rattle.std.proofs.lemmas.Bool.{and_parts, false≢true, not-false, not-true, or_parts}
use Rattle.pf_base.specs.declared.fault.FaultKind.{FaultKind}
use Rattle.pf_base.specs.declared.fault.FaultKind.TheVariants as kinds
use Rattle.pf_combine.specs.Combinations.{combined, product}
use Rattle.pf_combine.specs.declared.member.Member.{Member}
use Rattle.pf_combine.specs.declared.member.Member.TheVariants as members
use Rattle.pf_expand.specs.Expansion.{fault_of, lacks_rules, list_if, lists_of, written_families}
use Rattle.pf_expand.specs.Faults.{faults_of, first_some, has_ports, have_bad_table, icmp_proto, is_bad_overload, is_tcp, only_for, resets, tests_flags, where_so}
use Rattle.pf_expand.specs.Lists.{is_empty}
use Rattle.pf_expand.specs.Readings.{AreReadings, word_faults}
use Rattle.pf_expand.specs.Rules.{start_of}
use Rattle.pf_expand.specs.declared.order.Order.{Order}
use Rattle.pf_expand.specs.declared.readings.Readings.{Readings}
use Rattle.pf_form.specs.declared.form.RuleForm.{RuleForm}
use Rattle.pf_host.specs.Facts.{HostFacts}
use Rattle.pf_ops.specs.Numbers.{IsKept}
use Rattle.pf_rule.specs.Criteria.{is_tcp_or_udp}
use Rattle.pf_rule.specs.declared.criteria.Criteria.{Criteria}
use Rattle.pf_word.specs.Kinds as word_kinds
use Rattle.pf_word.specs.Numbers as word_numbers
use Rattle.pf_word.specs.declared.number.IdKind.TheVariants as ids
use Rattle.pf_word.specs.declared.words.Words.{Words}
use Rattle.pf_reread.specs.Written.{IfGiven, is_byte, is_for, is_written_iface}
use Rattle.pf_reread.proofs.Combined.{CombinationIs, CriteriaAre, HasProto, MemberIs, PortsAre, ProtoIs, any_first, any_second, are_protos, combined_are, every_both, product_of, product_protos, protos_listed}
use Rattle.pf_reread.proofs.Every.{Every, every_append, every_from, every_map, every_of_each, every_passes}
use Rattle.pf_reread.proofs.FactsKept.{FactsAre}
use Rattle.pf_reread.proofs.FormDrafts.{IsWrittenForm}
use Rattle.pf_reread.proofs.FormWords.{Passes}
use Rattle.pf_reread.proofs.WordValues.{IcmpIs, hosts_are, icmps_are, ids_are, ports_are, protos_are, values_as}

-- ---- the faults that aren't there

pub record Faultless (form : RuleForm) (protocols : List ℕ) : Type 0 where
  pub ports : (has_ports form && not (only_for is_tcp_or_udp protocols)) ≡ false
  pub icmp : list_any (λ item. not (only_for (λ proto. proto == icmp_proto item.family) protocols)) form.icmp ≡ false
  pub flags : (tests_flags form.flags && not (list_all is_tcp protocols)) ≡ false
  pub reset : (resets form.head && not (only_for is_tcp protocols)) ≡ false
  pub tables : (have_bad_table form.sources || have_bad_table form.targets || is_bad_overload form.options.overload) ≡ false

abbrev IsNone : Option FaultKind → Type 0
IsNone fault = fault ≡ None

none_of : (faults : List (Option FaultKind)) → first_some faults ≡ None → Every IsNone faults
none_of [] is = tt
none_of (None ∷ faults) is = (refl, none_of faults is)
none_of (Some fault ∷ faults) is = absurd (cc)

not_so : (b : Bool) (fault : FaultKind) → where_so b fault ≡ None → b ≡ false
not_so true fault is = absurd (cc)
not_so false fault is = refl

pub faultless : (facts : HostFacts) (order : Order) (form : RuleForm) (read : Readings) → fault_of facts order form read ≡ None → Faultless form read.protos.values
unfolding fault_of
faultless facts order form read is =
    let each : Every IsNone (faults_of form read.protos.values (word_faults facts order form read) (lacks_rules facts form read)) =
    none_of (faults_of form read.protos.values (word_faults facts order form read) (lacks_rules facts form read)) is in
    record {
      ports = not_so _ kinds.PortNeedsTcpUdp each.1.1.1.1.1.1.1.0;
      icmp = not_so _ kinds.IcmpNeedsProto each.1.1.1.1.1.1.1.1.1.0;
      flags = not_so _ kinds.FlagsNeedTcp each.1.1.1.1.1.1.1.1.1.1.1.0;
      reset = not_so _ kinds.RstNeedsTcp each.1.1.1.1.1.1.1.1.1.1.1.1.1.0;
      tables = not_so _ kinds.TableName each.1.1.1.1.1.1.1.1.1.1.1.1.1.1.0;
    }

-- what asks for something that must hold
pub asks_for : (asks holds : Bool) → (asks && not holds) ≡ false → asks ≡ true → holds ≡ true
asks_for true holds is asked = not-false holds is
asks_for false holds is asked = absurd (cc)

-- ---- protocols

proto_of : (test : ℕ → Bool) (protocols : List ℕ) (proto : Option ℕ) → IfGiven (ProtoIs protocols) proto → list_all test protocols ≡ true → is_some proto ≡ true → is_for test proto ≡ true
proto_of test protocols None is all some = absurd (cc)
proto_of test protocols (Some number) is all some = is.one test all

-- protocols come of words
protos_written : (items : List (List ℕ)) → is_empty (word_kinds.protos items).values ≡ false → is_empty items ≡ false
protos_written [] some = absurd (cc)
protos_written (item ∷ items) some = refl

module _ (form : RuleForm) (read : Readings) (criteria : Criteria) where
  -- where the protocols all pass a test, so does the rule's
  pub only_is : (test : ℕ → Bool) → read.protos ≡ word_kinds.protos form.protos → IfGiven (ProtoIs read.protos.values) criteria.proto → (is_empty form.protos ≡ false → is_some criteria.proto ≡ true)
      → only_for test read.protos.values ≡ true → is_for test criteria.proto ≡ true
  only_is test same is given only =
      let parts = and_parts (not (is_empty read.protos.values)) (list_all test read.protos.values) only in
      let some : is_empty (word_kinds.protos form.protos).values ≡ false = subst (λ (w : Words ℕ). is_empty w.values ≡ false) same (not-true (is_empty read.protos.values) parts.0) in
      proto_of test read.protos.values criteria.proto is parts.1 (given (protos_written form.protos some))

-- ---- members of the lists

listed : {I : Type 0} (P : List Member → Type 0) (items : List I) (list : List Member) → (is_empty items ≡ false → P list) → Every P (list_if items list)
listed P [] list each = tt
listed P (item ∷ items) list each = (each refl, tt)

members_of : {A : Type 0} (P : Member → Type 0) (make : A → Member) (values : List A) → Every (λ value. P (make value)) values → Every P (map make values)
members_of P make values h = every_map P make values h

member_numbers : (all : List ℕ) → Every (Passes is_byte) all → Every (ProtoIs all) all
member_numbers all h = each_number all all (λ test is. is) h
  where
    each_number : (all some : List ℕ) → ((test : ℕ → Bool) → list_all test all ≡ true → list_all test some ≡ true) → Every (Passes is_byte) some → Every (ProtoIs all) some
    each_number all [] gives h = tt
    each_number all (number ∷ some) gives h = (
      record { fits = h.0; one = λ test is. (and_parts (test number) (list_all test some) (gives test is)).0 },
      each_number all some (λ test is. (and_parts (test number) (list_all test some) (gives test is)).1) h.1,
    )

-- the second of nine
among : (a b c d e f g h i : List (List Member)) → list_any are_protos b ≡ true → list_any are_protos (a ++ b ++ c ++ d ++ e ++ f ++ g ++ h ++ i) ≡ true
among a b c d e f g h i some =
    any_first (a ++ b ++ c ++ d ++ e ++ f ++ g ++ h) i (any_first (a ++ b ++ c ++ d ++ e ++ f ++ g) h (any_first (a ++ b ++ c ++ d ++ e ++ f) g
    (any_first (a ++ b ++ c ++ d ++ e) f (any_first (a ++ b ++ c ++ d) e (any_first (a ++ b ++ c) d (any_first (a ++ b) c (any_second a b some)))))))

-- ---- the criteria of combinations

abbrev Lists : RuleForm → List ℕ → List (List Member) → Type 0
Lists form protocols lists = Every (Every (MemberIs form protocols)) lists

module _ (facts : HostFacts) (form : RuleForm) (read : Readings) (are : AreReadings facts form read) (known : FactsAre facts) (is : IsWrittenForm form) (sound : Faultless form read.protos.values) where
  protos_fit : Every (Passes is_byte) read.protos.values
  protos_fit = values_as (Passes is_byte) read.protos (word_kinds.protos form.protos) are.protos (protos_are form.protos)

  icmps_fit : Every (IcmpIs read.protos.values) read.icmp.values
  icmps_fit = values_as (IcmpIs read.protos.values) read.icmp (word_kinds.icmps form.icmp) are.icmp (icmps_are read.protos.values form.icmp sound.icmp)

  pub no_bad : (have_bad_table form.sources ≡ false) × (have_bad_table form.targets ≡ false) × (is_bad_overload form.options.overload ≡ false)
  no_bad =
      let last = or_parts (have_bad_table form.sources || have_bad_table form.targets) (is_bad_overload form.options.overload) sound.tables in
      let both = or_parts (have_bad_table form.sources) (have_bad_table form.targets) last.0 in
      (both.0, both.1, last.1)

  ifaces_each : Lists form read.protos.values (list_if form.ifaces (map members.Iface form.ifaces))
  ifaces_each = listed (Every (MemberIs form read.protos.values)) form.ifaces (map members.Iface form.ifaces)
      (λ some. members_of (MemberIs form read.protos.values) members.Iface form.ifaces (every_passes is_written_iface form.ifaces is.parts.places.ifaces_are))

  protos_each : Lists form read.protos.values (list_if form.protos (map members.Proto read.protos.values))
  protos_each = listed (Every (MemberIs form read.protos.values)) form.protos (map members.Proto read.protos.values)
      (λ some. members_of (MemberIs form read.protos.values) members.Proto read.protos.values (member_numbers read.protos.values protos_fit))

  icmp_each : Lists form read.protos.values (list_if form.icmp (map members.Icmp read.icmp.values))
  icmp_each = listed (Every (MemberIs form read.protos.values)) form.icmp (map members.Icmp read.icmp.values)
      (λ some. members_of (MemberIs form read.protos.values) members.Icmp read.icmp.values icmps_fit)

  sources_each : Lists form read.protos.values (list_if form.sources (map members.Source read.sources.values))
  sources_each = listed (Every (MemberIs form read.protos.values)) form.sources (map members.Source read.sources.values)
      (λ some. members_of (MemberIs form read.protos.values) members.Source read.sources.values
      (hosts_are facts known form.sources read.sources is.parts.places.sources_are no_bad.0 are.sources))

  source_ports_each : Lists form read.protos.values (list_if form.source_ports (map members.SourcePort read.source_ports.values))
  source_ports_each = listed (Every (MemberIs form read.protos.values)) form.source_ports (map members.SourcePort read.source_ports.values)
      (λ some. members_of (MemberIs form read.protos.values) members.SourcePort read.source_ports.values
      (every_from (IsKept 65535) (PortsAre form.source_ports) (λ ports kept. record { kept = kept; listed = some }) read.source_ports.values
      (values_as (IsKept 65535) read.source_ports (word_numbers.port_tests facts form.source_ports) are.source_ports (ports_are facts known form.source_ports))))

  targets_each : Lists form read.protos.values (list_if form.targets (map members.Target read.targets.values))
  targets_each = listed (Every (MemberIs form read.protos.values)) form.targets (map members.Target read.targets.values)
      (λ some. members_of (MemberIs form read.protos.values) members.Target read.targets.values
      (hosts_are facts known form.targets read.targets is.parts.places.targets_are no_bad.1 are.targets))

  target_ports_each : Lists form read.protos.values (list_if form.target_ports (map members.TargetPort read.target_ports.values))
  target_ports_each = listed (Every (MemberIs form read.protos.values)) form.target_ports (map members.TargetPort read.target_ports.values)
      (λ some. members_of (MemberIs form read.protos.values) members.TargetPort read.target_ports.values
      (every_from (IsKept 65535) (PortsAre form.target_ports) (λ ports kept. record { kept = kept; listed = some }) read.target_ports.values
      (values_as (IsKept 65535) read.target_ports (word_numbers.port_tests facts form.target_ports) are.target_ports (ports_are facts known form.target_ports))))

  users_each : Lists form read.protos.values (list_if form.users (map members.User read.users.values))
  users_each = listed (Every (MemberIs form read.protos.values)) form.users (map members.User read.users.values)
      (λ some. members_of (MemberIs form read.protos.values) members.User read.users.values
      (values_as (IsKept 4294967295) read.users (word_numbers.id_tests facts ids.User form.users) are.users (ids_are facts known ids.User form.users)))

  groups_each : Lists form read.protos.values (list_if form.groups (map members.Group read.groups.values))
  groups_each = listed (Every (MemberIs form read.protos.values)) form.groups (map members.Group read.groups.values)
      (λ some. members_of (MemberIs form read.protos.values) members.Group read.groups.values
      (values_as (IsKept 4294967295) read.groups (word_numbers.id_tests facts ids.Group form.groups) are.groups (ids_are facts known ids.Group form.groups)))

  two : (first second : List (List Member)) → Lists form read.protos.values first → Lists form read.protos.values second → Lists form read.protos.values (first ++ second)
  two first second h k = every_append (Every (MemberIs form read.protos.values)) first second h k

  lists_each : Lists form read.protos.values (lists_of form read)
  lists_each =
      two _ _ (two _ _ (two _ _ (two _ _ (two _ _ (two _ _ (two _ _ (two _ _ ifaces_each protos_each) icmp_each) sources_each) source_ports_each) targets_each) target_ports_each) users_each) groups_each

  protos_among : is_empty form.protos ≡ false → Every HasProto (product (lists_of form read))
  protos_among some =
      product_protos (lists_of form read)
      (among (list_if form.ifaces (map members.Iface form.ifaces)) (list_if form.protos (map members.Proto read.protos.values)) (list_if form.icmp (map members.Icmp read.icmp.values))
      (list_if form.sources (map members.Source read.sources.values)) (list_if form.source_ports (map members.SourcePort read.source_ports.values))
      (list_if form.targets (map members.Target read.targets.values)) (list_if form.target_ports (map members.TargetPort read.target_ports.values))
      (list_if form.users (map members.User read.users.values)) (list_if form.groups (map members.Group read.groups.values))
      (protos_listed form.protos read.protos.values some))

  choices : (b : Bool) → is_empty form.protos ≡ b → Every (λ list. is_empty form.protos ≡ false → HasProto list) (product (lists_of form read))
  choices true none = every_of_each (λ list. is_empty form.protos ≡ false → HasProto list) (λ list some. absurd (false≢true (sym some ∙ none))) (product (lists_of form read))
  choices false some = every_from HasProto (λ list. is_empty form.protos ≡ false → HasProto list) (λ list has again. has) (product (lists_of form read)) (protos_among some)

  pub start_is : CriteriaAre form read.protos.values (start_of form)
  start_is = record {
    iface_is = refl;
    proto_is = tt;
    source_is = tt;
    source_port_is = tt;
    target_is = tt;
    target_port_is = tt;
    user_is = tt;
    group_is = tt;
    icmp_is = tt;
    tos_is = is.parts.marks.tos_is;
    prio_is = is.parts.marks.prio_is;
    tagged_is = is.parts.marks.tagged_is;
  }

  pub combinations_are : Every (CombinationIs form read.protos.values (written_families form read)) (combined (written_families form read) (start_of form) (lists_of form read))
  combinations_are =
      combined_are form read.protos.values (written_families form read) (start_of form) start_is (lists_of form read)
      (every_both (Every (MemberIs form read.protos.values)) (λ list. is_empty form.protos ≡ false → HasProto list) (product (lists_of form read))
      (product_of (MemberIs form read.protos.values) (lists_of form read) lists_each) (choices (is_empty form.protos) refl))
