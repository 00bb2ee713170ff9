-- The form of a printed rule has no fault, and comes to that one rule.
use Rattle.std.proofs.Common.{◌≡◌, ℕ, ◌≤◌, Bool, true, false, List, [], ◌∷◌, ◌++◌, Option, Some, None, take, refl, ap, sym, ◌∙◌, decimal}
use Rattle.std.specs.Prelude.{◌&&◌, ◌||◌, ◌==◌, not, is_some, is_none, map, filter, Ok, if◌then◌else◌}
use Rattle.std.specs.List.{cons_option, filter_map, list_all, slice_get}
use Rattle.std.specs.Option.{option_map, option_to_list}
use Rattle.std.proofs.lemmas.Bool.{and_from, and_parts, and_right}
use Rattle.std.proofs.lemmas.List.{map-append, take_all}
use Rattle.pf_addr.specs.Addr.{family_of}
use Rattle.pf_base.specs.declared.kind.Family.{Family}
use Rattle.pf_base.specs.declared.kind.Family.TheVariants.{Inet, Inet6}
use Rattle.pf_combine.specs.Combinations.{combined, criteria_of, families, is_one, is_same, product}
use Rattle.pf_expand.specs.Expansion.{Expands, all_criteria, answer_with, fault_of, lacks_rules, list_if, lists_of, makes_rules, rules_of, target_family, written_families}
use Rattle.pf_expand.specs.Faults.{flags_need, has_ports as form_has_ports, have_bad_table, icmp_needs, icmp_proto, is_bad_overload, is_bad_table, is_tcp, only_for, port_needs, reset_needs, table_name, target_has_port, tests_flags}
use Rattle.pf_expand.specs.Lists.{is_empty}
use Rattle.pf_combine.specs.Members.{family_of_test, names, with_member, with_members}
use Rattle.pf_expand.specs.Readings.{iface_faults, in_order, word_faults}
use Rattle.pf_expand.specs.Rules.{action_of, direction_of, effect_of, flags_of, is_tcp_or_any, makes_state, options_of, rule_of, start_of, state_of}
use Rattle.pf_combine.specs.declared.member.Member.{Member}
use Rattle.pf_combine.specs.declared.member.Member.TheVariants as members
use Rattle.pf_expand.specs.declared.order.Order.{Order}
use Rattle.pf_form.specs.declared.form.FlagsForm.TheVariants as flag_forms
use Rattle.pf_form.specs.declared.form.RuleForm.{RuleForm}
use Rattle.pf_host.specs.Facts.{HostFacts}
use Rattle.pf_ops.specs.declared.flags.IcmpType.{IcmpType}
use Rattle.pf_ops.specs.declared.flags.TcpFlags.{TcpFlags}
use Rattle.pf_ops.specs.declared.numbers.Numbers.{Numbers}
use Rattle.pf_parts.specs.Defaults.{no_options}
use Rattle.pf_parts.specs.declared.block.BlockKind.TheVariants as blocks
use Rattle.pf_parts.specs.declared.call.Call.{Call}
use Rattle.pf_parts.specs.declared.direction.Direction.{Direction}
use Rattle.pf_parts.specs.declared.matching.IfTest.{IfTest}
use Rattle.pf_parts.specs.declared.matching.IfTest.TheVariants as ifaces
use Rattle.pf_parts.specs.declared.state.Overload.{Overload}
use Rattle.pf_parts.specs.declared.state.StateKind.{StateKind}
use Rattle.pf_parts.specs.declared.state.StateKind.TheVariants as states
use Rattle.pf_parts.specs.declared.state.StateOptions.{StateOptions}
use Rattle.pf_print.specs.HostText.{is_any, tests_no_host}
use Rattle.pf_print.specs.RuleText.{is_pass, is_tcp_or_any as print_tcp, makes_state as print_makes, needs_flags}
use Rattle.pf_rule.specs.Criteria.{is_tcp_or_udp}
use Rattle.pf_rule.specs.declared.criteria.AddrSet.{AddrSet}
use Rattle.pf_rule.specs.declared.criteria.AddrSet.TheVariants as sets
use Rattle.pf_rule.specs.declared.criteria.AddrTest.{AddrTest}
use Rattle.pf_rule.specs.declared.criteria.AddrTest.TheVariants as tests
use Rattle.pf_rule.specs.declared.criteria.Criteria.{Criteria}
use Rattle.pf_rule.specs.declared.effect.Action.{Action}
use Rattle.pf_rule.specs.declared.effect.Action.TheVariants as actions
use Rattle.pf_rule.specs.declared.effect.Effect.{Effect}
use Rattle.pf_rule.specs.declared.rule.Rule.{Rule}
use Rattle.pf_rule.specs.declared.translation.Target.{Target}
use Rattle.pf_syntax.specs.declared.form.HostItem.{HostItem}
use Rattle.pf_syntax.specs.declared.form.OpItem.{OpItem}
use Rattle.pf_word.specs.Tables.{is_table_name}
use Rattle.pf_word.specs.Words.{is_name}
use Rattle.pf_reread.specs.ReadBack.{IsCallOf, at_start}
use Rattle.pf_reread.specs.Written.{Agree, IsOfFamily, IsWritten, IsWrittenEffect, IsWrittenHost, IsWrittenSet, has_port, has_ports, if_given, is_for, is_icmp_for, is_written_overload, resets}
use Rattle.pf_reread.proofs.Meaning.{ReadTexts, are_readings, hosts_items, hosts_words, readings_of, source_items, source_port_items, target_items, target_port_items}
use Rattle.pf_reread.proofs.ReadFront.{iface_items, proto_items}
use Rattle.pf_reread.proofs.ReadHosts.{addresses_form, host_item, port_items}
use Rattle.pf_reread.proofs.ReadOptions.{icmp_items, id_items, target_words}
use Rattle.pf_reread.proofs.ReadStates.{flags_form, state_form}
use Rattle.pf_reread.proofs.RuleForm.{draft_of, head_of}

abbrev form_of : Rule → RuleForm
form_of rule = (draft_of rule).form

-- no word has a fault
hosts_fine : (all : Bool) (test : AddrTest) → (hosts_words all test).faults ≡ []
hosts_fine true test = refl
hosts_fine false test = refl

ordered_none : (first : Bool) → in_order first [] [] ≡ []
ordered_none true = refl
ordered_none false = refl

ifaces_fine : (facts : HostFacts) (action : Action) (tests : List IfTest) → iface_faults facts (head_of action) tests ≡ []
ifaces_fine facts actions.Pass tests = refl
ifaces_fine facts actions.Match tests = refl
ifaces_fine facts (actions.Block kind) tests = refl
ifaces_fine facts (actions.Anchor call) tests = refl

words_fine : (facts : HostFacts) (order : Order) (rule : Rule) → word_faults facts order (form_of rule) (readings_of rule) ≡ []
words_fine facts order rule =
    rw (
      ifaces_fine facts rule.effect.action (form_of rule).ifaces,
      hosts_fine (tests_no_host rule.criteria) rule.criteria.source,
      hosts_fine (tests_no_host rule.criteria) rule.criteria.target,
      ordered_none order.group_first,
      ordered_none order.rdr_first,
    ) refl

-- the protocol is what the other parts need
alone : (test : ℕ → Bool) (proto : Option ℕ) → is_for test proto ≡ true → only_for test (option_to_list proto) ≡ true
alone test None is = absurd (cc)
alone test (Some n) is = rw is refl

not_alone : (test : ℕ → Bool) (proto : Option ℕ) → is_for test proto ≡ true → not (only_for test (option_to_list proto)) ≡ false
not_alone test proto is = ap not (alone test proto is)

some_ports : (ports : Option Numbers) → not (is_empty (port_items ports)) ≡ is_some ports
some_ports None = refl
some_ports (Some numbers) = refl

words_port : (port : Option ℕ) → is_some (option_map decimal port) ≡ is_some port
words_port None = refl
words_port (Some n) = refl

target_ports : (target : Option Target) → target_has_port (option_map target_words target) ≡ has_port target
target_ports None = refl
target_ports (Some target) = words_port target.port

ports_same : (rule : Rule) → form_has_ports (form_of rule) ≡ has_ports rule
ports_same rule =
    let criteria = rule.criteria in
    rw (
      source_port_items (tests_no_host criteria) criteria refl,
      target_port_items (tests_no_host criteria) criteria refl,
      some_ports criteria.source_port,
      some_ports criteria.target_port,
      target_ports rule.effect.params.nat,
      target_ports rule.effect.params.rdr,
    ) refl

-- what isn't so, or of which something is so
where_needed : (needs : Bool) (met : Bool) → (needs ≡ true → met ≡ false) → (needs && met) ≡ false
where_needed true met so = so refl
where_needed false met so = refl

no_port_fault : (rule : Rule) → IsWritten rule → port_needs (form_of rule) (option_to_list rule.criteria.proto) ≡ None
no_port_fault rule is =
    rw (where_needed (form_has_ports (form_of rule)) (not (only_for is_tcp_or_udp (option_to_list rule.criteria.proto)))
    (λ needs. not_alone is_tcp_or_udp rule.criteria.proto (is.agree.ports (sym (ports_same rule) ∙ needs)))) refl

icmp_fine : (proto : Option ℕ) (icmp : Option IcmpType) → if_given (is_icmp_for proto) icmp ≡ true → icmp_needs (icmp_items icmp) (option_to_list proto) ≡ None
icmp_fine proto None is = refl
icmp_fine proto (Some icmp) is = rw (alone (λ number. number == icmp_proto icmp.family) proto is) refl

all_tcp : (proto : Option ℕ) → is_tcp_or_any proto ≡ true → list_all is_tcp (option_to_list proto) ≡ true
all_tcp None is = refl
all_tcp (Some n) is = rw is refl

flags_if : (needs : Bool) → tests_flags (if needs then Some flag_forms.Any else None) ≡ false
flags_if true = refl
flags_if false = refl

flags_fine : (flags : Option TcpFlags) (needs : Bool) (proto : Option ℕ) → (is_some flags ≡ true → is_tcp_or_any proto ≡ true)
    → flags_need (flags_form flags needs) (option_to_list proto) ≡ None
flags_fine (Some flags) needs proto is = rw (all_tcp proto (is refl)) refl
flags_fine None needs proto is = rw (flags_if needs) refl

reset_fine : (action : Action) (proto : Option ℕ) → (resets action ≡ true → is_for is_tcp proto ≡ true) → reset_needs (head_of action) (option_to_list proto) ≡ None
reset_fine actions.Pass proto is = refl
reset_fine actions.Match proto is = refl
reset_fine (actions.Block blocks.Drop) proto is = refl
reset_fine (actions.Block blocks.Return) proto is = refl
reset_fine (actions.Block (blocks.Icmp code code6)) proto is = refl
reset_fine (actions.Block (blocks.Rst ttl)) proto is = rw (alone is_tcp proto (is refl)) refl
reset_fine (actions.Anchor call) proto is = refl

-- tables have names that tables may have
set_fine : (what : AddrSet) → IsWrittenSet what → is_bad_table (addresses_form what) ≡ false
set_fine (sets.Prefix prefix) is = refl
set_fine (sets.Range range) is = refl
set_fine (sets.Table name) is = ap not (and_parts (is_name name) (is_table_name name) is).1
set_fine (sets.Dynamic what) is = refl
set_fine (sets.Auto n) is = absurd is

host_fine : (test : AddrTest) → IsWrittenHost test → is_bad_table (host_item test).what ≡ false
host_fine tests.Any is = refl
host_fine (tests.Test negated what) is = set_fine what is

tables_fine : (all : Bool) (test : AddrTest) → IsWrittenHost test → have_bad_table (hosts_items all test) ≡ false
tables_fine true test is = refl
tables_fine false test is = rw (host_fine test is) refl

overload_fine : (overload : Option Overload) → if_given is_written_overload overload ≡ true → is_bad_overload overload ≡ false
overload_fine None is = refl
overload_fine (Some overload) is = ap not (and_parts (is_name overload.table) (is_table_name overload.table) is).1

no_table_fault : (rule : Rule) → IsWritten rule → table_name (form_of rule) ≡ None
no_table_fault rule is =
    let all = tests_no_host rule.criteria in
    rw (
      source_items all rule.criteria,
      target_items all rule.criteria,
      tables_fine all rule.criteria.source is.tests.source,
      tables_fine all rule.criteria.target is.tests.target,
      overload_fine rule.effect.options.overload is.does.options.overload,
    ) refl

-- the members of its lists: one each
abbrev single : Member → List Member
single member = member ∷ []

abbrev iface_members : IfTest → List Member
iface_members ifaces.Any = []
iface_members (ifaces.On name negated) = members.Iface (ifaces.On name negated) ∷ []

abbrev given_members : {A : Type 0} → (A → Member) → Option A → List Member
given_members member None = []
given_members member (Some value) = member value ∷ []

abbrev host_members : Bool → Member → List Member
host_members all member = if all then [] else member ∷ []

abbrev members_of : Rule → List Member
members_of rule =
    iface_members rule.criteria.iface
    ++ given_members members.Proto rule.criteria.proto
    ++ given_members members.Icmp rule.criteria.icmp
    ++ host_members (tests_no_host rule.criteria) (members.Source rule.criteria.source)
    ++ given_members members.SourcePort rule.criteria.source_port
    ++ host_members (tests_no_host rule.criteria) (members.Target rule.criteria.target)
    ++ given_members members.TargetPort rule.criteria.target_port
    ++ given_members members.User rule.criteria.user
    ++ given_members members.Group rule.criteria.group

iface_list : (test : IfTest) → list_if (iface_items test) (map members.Iface (iface_items test)) ≡ map single (iface_members test)
iface_list ifaces.Any = refl
iface_list (ifaces.On name negated) = refl

proto_list : (value : Option ℕ) → list_if (proto_items value) (map members.Proto (option_to_list value)) ≡ map single (given_members members.Proto value)
proto_list None = refl
proto_list (Some value) = refl

icmp_list : (value : Option IcmpType) → list_if (icmp_items value) (map members.Icmp (option_to_list value)) ≡ map single (given_members members.Icmp value)
icmp_list None = refl
icmp_list (Some value) = refl

port_list : (member : Numbers → Member) (value : Option Numbers) → list_if (port_items value) (map member (option_to_list value)) ≡ map single (given_members member value)
port_list member None = refl
port_list member (Some value) = refl

id_list : (member : Numbers → Member) (value : Option Numbers) → list_if (id_items value) (map member (option_to_list value)) ≡ map single (given_members member value)
id_list member None = refl
id_list member (Some value) = refl

host_list : (all : Bool) (member : AddrTest → Member) (test : AddrTest)
    → list_if (hosts_items all test) (map member (hosts_words all test).values) ≡ map single (host_members all (member test))
host_list true member test = refl
host_list false member test = refl

-- lists of one member each in a row
joined_lists : (front back : List (List Member)) (one other : List Member) → front ≡ map single one → back ≡ map single other → front ++ back ≡ map single (one ++ other)
joined_lists front back one other e f = (λ i. e i ++ f i) ∙ sym (map-append single one other)

lists_single : (rule : Rule) → lists_of (form_of rule) (readings_of rule) ≡ map single (members_of rule)
lists_single rule =
    let criteria = rule.criteria in
    let all = tests_no_host criteria in
    joined_lists _ _ _ _
    (joined_lists _ _ _ _
    (joined_lists _ _ _ _
    (joined_lists _ _ _ _
    (joined_lists _ _ _ _
    (joined_lists _ _ _ _
    (joined_lists _ _ _ _
    (joined_lists _ _ _ _ (iface_list criteria.iface) (proto_list criteria.proto))
    (icmp_list criteria.icmp))
    (ap (λ (items : List HostItem). list_if items (map members.Source (hosts_words all criteria.source).values)) (source_items all criteria) ∙ host_list all members.Source criteria.source))
    (ap (λ (items : List OpItem). list_if items (map members.SourcePort (option_to_list criteria.source_port))) (source_port_items all criteria refl) ∙ port_list members.SourcePort criteria.source_port))
    (ap (λ (items : List HostItem). list_if items (map members.Target (hosts_words all criteria.target).values)) (target_items all criteria) ∙ host_list all members.Target criteria.target))
    (ap (λ (items : List OpItem). list_if items (map members.TargetPort (option_to_list criteria.target_port))) (target_port_items all criteria refl) ∙ port_list members.TargetPort criteria.target_port))
    (id_list members.User criteria.user))
    (id_list members.Group criteria.group)

product_single : (list : List Member) → product (map single list) ≡ list ∷ []
product_single [] = refl
product_single (member ∷ list) = rw (product_single list) refl

-- what the members give
grow : (first second third : Criteria) (front back : List Member) → with_members first front ≡ second → with_members second back ≡ third → with_members first (front ++ back) ≡ third
grow first second third [] back e f = ap (λ (criteria : Criteria). with_members criteria back) e ∙ f
grow first second third (member ∷ front) back e f = grow (with_member first member) second third front back e f

iface_given : (c : Criteria) (test : IfTest) → with_members (record c { iface = ifaces.Any }) (iface_members test) ≡ record c { iface = test }
iface_given c ifaces.Any = refl
iface_given c (ifaces.On name negated) = refl

proto_given : (c : Criteria) (value : Option ℕ) → with_members (record c { proto = None }) (given_members members.Proto value) ≡ record c { proto = value }
proto_given c None = refl
proto_given c (Some value) = refl

icmp_given : (c : Criteria) (value : Option IcmpType) → with_members (record c { icmp = None }) (given_members members.Icmp value) ≡ record c { icmp = value }
icmp_given c None = refl
icmp_given c (Some value) = refl

source_given : (c : Criteria) (all : Bool) (test : AddrTest) → (all ≡ true → test ≡ tests.Any)
    → with_members (record c { source = tests.Any }) (host_members all (members.Source test)) ≡ record c { source = test }
source_given c true test any = ap (λ (one : AddrTest). record c { source = one }) (sym (any refl))
source_given c false test any = refl

source_port_given : (c : Criteria) (value : Option Numbers) → with_members (record c { source_port = None }) (given_members members.SourcePort value) ≡ record c { source_port = value }
source_port_given c None = refl
source_port_given c (Some value) = refl

target_given : (c : Criteria) (all : Bool) (test : AddrTest) → (all ≡ true → test ≡ tests.Any)
    → with_members (record c { target = tests.Any }) (host_members all (members.Target test)) ≡ record c { target = test }
target_given c true test any = ap (λ (one : AddrTest). record c { target = one }) (sym (any refl))
target_given c false test any = refl

target_port_given : (c : Criteria) (value : Option Numbers) → with_members (record c { target_port = None }) (given_members members.TargetPort value) ≡ record c { target_port = value }
target_port_given c None = refl
target_port_given c (Some value) = refl

user_given : (c : Criteria) (value : Option Numbers) → with_members (record c { user = None }) (given_members members.User value) ≡ record c { user = value }
user_given c None = refl
user_given c (Some value) = refl

group_given : (c : Criteria) (value : Option Numbers) → with_members (record c { group = None }) (given_members members.Group value) ≡ record c { group = value }
group_given c None = refl
group_given c (Some value) = refl

-- the criteria so far
abbrev c_start : Rule → Criteria
c_start rule = start_of (form_of rule)

abbrev c_iface : Rule → Criteria
c_iface rule = record (c_start rule) { iface = rule.criteria.iface }

abbrev c_proto : Rule → Criteria
c_proto rule = record (c_iface rule) { proto = rule.criteria.proto }

abbrev c_icmp : Rule → Criteria
c_icmp rule = record (c_proto rule) { icmp = rule.criteria.icmp }

abbrev c_source : Rule → Criteria
c_source rule = record (c_icmp rule) { source = rule.criteria.source }

abbrev c_source_port : Rule → Criteria
c_source_port rule = record (c_source rule) { source_port = rule.criteria.source_port }

abbrev c_target : Rule → Criteria
c_target rule = record (c_source_port rule) { target = rule.criteria.target }

abbrev c_target_port : Rule → Criteria
c_target_port rule = record (c_target rule) { target_port = rule.criteria.target_port }

abbrev c_user : Rule → Criteria
c_user rule = record (c_target_port rule) { user = rule.criteria.user }

abbrev c_group : Rule → Criteria
c_group rule = record (c_user rule) { group = rule.criteria.group }

any_is : (test : AddrTest) → is_any test ≡ true → test ≡ tests.Any
any_is tests.Any any = refl
any_is (tests.Test negated what) any = absurd (cc)

any_source : (criteria : Criteria) → tests_no_host criteria ≡ true → criteria.source ≡ tests.Any
any_source criteria all =
    let p = and_parts (is_any criteria.source && is_any criteria.target && is_none criteria.source_port) (is_none criteria.target_port) all in
    let q = and_parts (is_any criteria.source && is_any criteria.target) (is_none criteria.source_port) p.0 in
    any_is criteria.source (and_parts (is_any criteria.source) (is_any criteria.target) q.0).0

any_target : (criteria : Criteria) → tests_no_host criteria ≡ true → criteria.target ≡ tests.Any
any_target criteria all =
    let p = and_parts (is_any criteria.source && is_any criteria.target && is_none criteria.source_port) (is_none criteria.target_port) all in
    let q = and_parts (is_any criteria.source && is_any criteria.target) (is_none criteria.source_port) p.0 in
    any_is criteria.target (and_parts (is_any criteria.source) (is_any criteria.target) q.0).1

members_give : (rule : Rule) → with_members (c_start rule) (members_of rule) ≡ c_group rule
members_give rule =
    let criteria = rule.criteria in
    let all = tests_no_host criteria in
    grow (c_start rule) (c_user rule) (c_group rule) (iface_members rule.criteria.iface ++ given_members (λ x. members.Proto x) rule.criteria.proto ++ given_members (λ x. members.Icmp x) rule.criteria.icmp ++ host_members (tests_no_host rule.criteria) (members.Source rule.criteria.source) ++ given_members (λ x. members.SourcePort x) rule.criteria.source_port ++ host_members (tests_no_host rule.criteria) (members.Target rule.criteria.target) ++ given_members (λ x. members.TargetPort x) rule.criteria.target_port ++ given_members (λ x. members.User x) rule.criteria.user) (given_members (λ x. members.Group x) rule.criteria.group)
    (grow (c_start rule) (c_target_port rule) (c_user rule) (iface_members rule.criteria.iface ++ given_members (λ x. members.Proto x) rule.criteria.proto ++ given_members (λ x. members.Icmp x) rule.criteria.icmp ++ host_members (tests_no_host rule.criteria) (members.Source rule.criteria.source) ++ given_members (λ x. members.SourcePort x) rule.criteria.source_port ++ host_members (tests_no_host rule.criteria) (members.Target rule.criteria.target) ++ given_members (λ x. members.TargetPort x) rule.criteria.target_port) (given_members (λ x. members.User x) rule.criteria.user)
    (grow (c_start rule) (c_target rule) (c_target_port rule) (iface_members rule.criteria.iface ++ given_members (λ x. members.Proto x) rule.criteria.proto ++ given_members (λ x. members.Icmp x) rule.criteria.icmp ++ host_members (tests_no_host rule.criteria) (members.Source rule.criteria.source) ++ given_members (λ x. members.SourcePort x) rule.criteria.source_port ++ host_members (tests_no_host rule.criteria) (members.Target rule.criteria.target)) (given_members (λ x. members.TargetPort x) rule.criteria.target_port)
    (grow (c_start rule) (c_source_port rule) (c_target rule) (iface_members rule.criteria.iface ++ given_members (λ x. members.Proto x) rule.criteria.proto ++ given_members (λ x. members.Icmp x) rule.criteria.icmp ++ host_members (tests_no_host rule.criteria) (members.Source rule.criteria.source) ++ given_members (λ x. members.SourcePort x) rule.criteria.source_port) (host_members (tests_no_host rule.criteria) (members.Target rule.criteria.target))
    (grow (c_start rule) (c_source rule) (c_source_port rule) (iface_members rule.criteria.iface ++ given_members (λ x. members.Proto x) rule.criteria.proto ++ given_members (λ x. members.Icmp x) rule.criteria.icmp ++ host_members (tests_no_host rule.criteria) (members.Source rule.criteria.source)) (given_members (λ x. members.SourcePort x) rule.criteria.source_port)
    (grow (c_start rule) (c_icmp rule) (c_source rule) (iface_members rule.criteria.iface ++ given_members (λ x. members.Proto x) rule.criteria.proto ++ given_members (λ x. members.Icmp x) rule.criteria.icmp) (host_members (tests_no_host rule.criteria) (members.Source rule.criteria.source))
    (grow (c_start rule) (c_proto rule) (c_icmp rule) (iface_members rule.criteria.iface ++ given_members (λ x. members.Proto x) rule.criteria.proto) (given_members (λ x. members.Icmp x) rule.criteria.icmp)
    (grow (c_start rule) (c_iface rule) (c_proto rule) (iface_members rule.criteria.iface) (given_members (λ x. members.Proto x) rule.criteria.proto) (iface_given (c_start rule) criteria.iface) (proto_given (c_iface rule) criteria.proto))
    (icmp_given (c_proto rule) criteria.icmp))
    (source_given (c_icmp rule) all criteria.source (any_source criteria)))
    (source_port_given (c_source rule) criteria.source_port))
    (target_given (c_source_port rule) all criteria.target (any_target criteria)))
    (target_port_given (c_target rule) criteria.target_port))
    (user_given (c_target_port rule) criteria.user))
    (group_given (c_user rule) criteria.group)

-- families
abbrev agrees : Option Family → Family → Bool
agrees None named = false
agrees (Some family) named = is_same family named

same_family : (family : Family) → is_same family family ≡ true
same_family Inet = refl
same_family Inet6 = refl

named_agrees : (family : Option Family) (named : Family) → family ≡ Some named → agrees family named ≡ true
named_agrees family named is = ap (λ one. agrees one named) is ∙ same_family named

all_both : {A : Type 0} (test : A → Bool) (front back : List A) → list_all test front ≡ true → list_all test back ≡ true → list_all test (front ++ back) ≡ true
all_both test [] back e f = f
all_both test (item ∷ front) back e f =
    let p = and_parts (test item) (list_all test front) e in
    and_from (test item) (list_all test (front ++ back)) p.0 (all_both test front back p.1 f)

abbrev of_target : Target → Family
of_target target = family_of target.addr

target_agrees : (family : Option Family) (target : Option Target) → IsOfFamily family (option_map of_target target)
    → list_all (agrees family) (map target_family (option_to_list target)) ≡ true
target_agrees family None is = refl
target_agrees family (Some target) is = rw (named_agrees family (family_of target.addr) is) refl

-- of members, those that name a family
abbrev none_or : (Family → Bool) → Option Family → Bool
none_or test None = true
none_or test (Some family) = test family

abbrev member_agrees : Option Family → Member → Bool
member_agrees family member = none_or (agrees family) (names member)

named_more : (family : Option Family) (named : Option Family) (others : List Family) → none_or (agrees family) named ≡ true → list_all (agrees family) others ≡ true
    → list_all (agrees family) (cons_option named others) ≡ true
named_more family None others is all = all
named_more family (Some one) others is all = and_from (agrees family one) (list_all (agrees family) others) is all

members_name : (family : Option Family) (list : List Member) → list_all (member_agrees family) list ≡ true → list_all (agrees family) (filter_map names list) ≡ true
members_name family [] is = refl
members_name family (member ∷ list) is =
    let p = and_parts (member_agrees family member) (list_all (member_agrees family) list) is in
    named_more family (names member) (filter_map names list) p.0 (members_name family list p.1)

iface_agrees : (family : Option Family) (test : IfTest) → list_all (member_agrees family) (iface_members test) ≡ true
iface_agrees family ifaces.Any = refl
iface_agrees family (ifaces.On name negated) = refl

proto_agrees : (family : Option Family) (value : Option ℕ) → list_all (member_agrees family) (given_members members.Proto value) ≡ true
proto_agrees family None = refl
proto_agrees family (Some value) = refl

icmp_agrees : (family : Option Family) (value : Option IcmpType) → IsOfFamily family (option_map (λ (icmp : IcmpType). icmp.family) value)
    → list_all (member_agrees family) (given_members members.Icmp value) ≡ true
icmp_agrees family None is = refl
icmp_agrees family (Some value) is = rw (named_agrees family value.family is) refl

none_or_agrees : (family : Option Family) (named : Option Family) → IsOfFamily family named → none_or (agrees family) named ≡ true
none_or_agrees family None is = refl
none_or_agrees family (Some named) is = named_agrees family named is

source_agrees : (family : Option Family) (all : Bool) (test : AddrTest) → IsOfFamily family (family_of_test test)
    → list_all (member_agrees family) (host_members all (members.Source test)) ≡ true
source_agrees family true test is = refl
source_agrees family false test is = rw (none_or_agrees family (family_of_test test) is) refl

target_host_agrees : (family : Option Family) (all : Bool) (test : AddrTest) → IsOfFamily family (family_of_test test)
    → list_all (member_agrees family) (host_members all (members.Target test)) ≡ true
target_host_agrees family true test is = refl
target_host_agrees family false test is = rw (none_or_agrees family (family_of_test test) is) refl

source_port_agrees : (family : Option Family) (value : Option Numbers) → list_all (member_agrees family) (given_members members.SourcePort value) ≡ true
source_port_agrees family None = refl
source_port_agrees family (Some value) = refl

target_port_agrees : (family : Option Family) (value : Option Numbers) → list_all (member_agrees family) (given_members members.TargetPort value) ≡ true
target_port_agrees family None = refl
target_port_agrees family (Some value) = refl

user_agrees : (family : Option Family) (value : Option Numbers) → list_all (member_agrees family) (given_members members.User value) ≡ true
user_agrees family None = refl
user_agrees family (Some value) = refl

group_agrees : (family : Option Family) (value : Option Numbers) → list_all (member_agrees family) (given_members members.Group value) ≡ true
group_agrees family None = refl
group_agrees family (Some value) = refl

members_agree : (rule : Rule) → Agree rule → list_all (member_agrees rule.criteria.family) (members_of rule) ≡ true
members_agree rule agree =
    let family = rule.criteria.family in
    let all = tests_no_host rule.criteria in
    let test = member_agrees family in
    all_both test (iface_members rule.criteria.iface ++ given_members (λ x. members.Proto x) rule.criteria.proto ++ given_members (λ x. members.Icmp x) rule.criteria.icmp ++ host_members (tests_no_host rule.criteria) (members.Source rule.criteria.source) ++ given_members (λ x. members.SourcePort x) rule.criteria.source_port ++ host_members (tests_no_host rule.criteria) (members.Target rule.criteria.target) ++ given_members (λ x. members.TargetPort x) rule.criteria.target_port ++ given_members (λ x. members.User x) rule.criteria.user) (given_members (λ x. members.Group x) rule.criteria.group)
    (all_both test (iface_members rule.criteria.iface ++ given_members (λ x. members.Proto x) rule.criteria.proto ++ given_members (λ x. members.Icmp x) rule.criteria.icmp ++ host_members (tests_no_host rule.criteria) (members.Source rule.criteria.source) ++ given_members (λ x. members.SourcePort x) rule.criteria.source_port ++ host_members (tests_no_host rule.criteria) (members.Target rule.criteria.target) ++ given_members (λ x. members.TargetPort x) rule.criteria.target_port) (given_members (λ x. members.User x) rule.criteria.user)
    (all_both test (iface_members rule.criteria.iface ++ given_members (λ x. members.Proto x) rule.criteria.proto ++ given_members (λ x. members.Icmp x) rule.criteria.icmp ++ host_members (tests_no_host rule.criteria) (members.Source rule.criteria.source) ++ given_members (λ x. members.SourcePort x) rule.criteria.source_port ++ host_members (tests_no_host rule.criteria) (members.Target rule.criteria.target)) (given_members (λ x. members.TargetPort x) rule.criteria.target_port)
    (all_both test (iface_members rule.criteria.iface ++ given_members (λ x. members.Proto x) rule.criteria.proto ++ given_members (λ x. members.Icmp x) rule.criteria.icmp ++ host_members (tests_no_host rule.criteria) (members.Source rule.criteria.source) ++ given_members (λ x. members.SourcePort x) rule.criteria.source_port) (host_members (tests_no_host rule.criteria) (members.Target rule.criteria.target))
    (all_both test (iface_members rule.criteria.iface ++ given_members (λ x. members.Proto x) rule.criteria.proto ++ given_members (λ x. members.Icmp x) rule.criteria.icmp ++ host_members (tests_no_host rule.criteria) (members.Source rule.criteria.source)) (given_members (λ x. members.SourcePort x) rule.criteria.source_port)
    (all_both test (iface_members rule.criteria.iface ++ given_members (λ x. members.Proto x) rule.criteria.proto ++ given_members (λ x. members.Icmp x) rule.criteria.icmp) (host_members (tests_no_host rule.criteria) (members.Source rule.criteria.source))
    (all_both test (iface_members rule.criteria.iface ++ given_members (λ x. members.Proto x) rule.criteria.proto) (given_members (λ x. members.Icmp x) rule.criteria.icmp)
    (all_both test (iface_members rule.criteria.iface) (given_members (λ x. members.Proto x) rule.criteria.proto) (iface_agrees family rule.criteria.iface) (proto_agrees family rule.criteria.proto))
    (icmp_agrees family rule.criteria.icmp agree.types))
    (source_agrees family all rule.criteria.source agree.source))
    (source_port_agrees family rule.criteria.source_port))
    (target_host_agrees family all rule.criteria.target agree.target))
    (target_port_agrees family rule.criteria.target_port))
    (user_agrees family rule.criteria.user))
    (group_agrees family rule.criteria.group)

none_agree : (list : List Family) → list_all (agrees None) list ≡ true → list ≡ []
none_agree [] is = refl
none_agree (family ∷ list) is = absurd (cc)

-- the family that all name is the one that is written
abbrev all_families : Option Family → List Family → List Family → List Family → List Family
all_families family nat rdr others = option_to_list family ++ nat ++ rdr ++ others

one_family : (family : Option Family) (nat rdr others : List Family) → list_all (agrees family) nat ≡ true → list_all (agrees family) rdr ≡ true → list_all (agrees family) others ≡ true
    → (is_one (all_families family nat rdr others) ≡ true) × (slice_get (all_families family nat rdr others) 0 ≡ family)
one_family None nat rdr others n r o =
    rw (none_agree nat n, none_agree rdr r, none_agree others o) (refl, refl)
one_family (Some family) nat rdr others n r o =
    (all_both (is_same family) (nat ++ rdr) others (all_both (is_same family) nat rdr n r) o, refl)

rule_family : (rule : Rule) → Agree rule
    → (is_one (families (written_families (form_of rule) (readings_of rule)) (members_of rule)) ≡ true)
    × (slice_get (families (written_families (form_of rule) (readings_of rule)) (members_of rule)) 0 ≡ rule.criteria.family)
rule_family rule agree =
    one_family rule.criteria.family (map target_family (option_to_list rule.effect.params.nat)) (map target_family (option_to_list rule.effect.params.rdr)) (filter_map names (members_of rule))
    (target_agrees rule.criteria.family rule.effect.params.nat agree.nat) (target_agrees rule.criteria.family rule.effect.params.rdr agree.rdr)
    (members_name rule.criteria.family (members_of rule) (members_agree rule agree))

-- the one combination
abbrev found_criteria : Rule → Criteria
found_criteria rule = record (c_group rule) { family = rule.criteria.family }

one_combination : (rule : Rule) → Agree rule
    → combined (written_families (form_of rule) (readings_of rule)) (c_start rule) (lists_of (form_of rule) (readings_of rule)) ≡ found_criteria rule ∷ []
one_combination rule agree =
    let written = written_families (form_of rule) (readings_of rule) in
    let one = rule_family rule agree in
    ap (λ (lists : List (List Member)). combined written (c_start rule) lists) (lists_single rule)
    ∙ ap (λ (all : List (List Member)). map (criteria_of written (c_start rule)) (filter (λ members. is_one (families written members)) all)) (product_single (members_of rule))
    ∙ rw (one.0) (λ i. (record (members_give rule i) { family = one.1 i }) ∷ [])

all_found : (facts : HostFacts) (rule : Rule) (action : Action) → Agree rule → all_criteria facts (form_of rule) (readings_of rule) (head_of action) ≡ found_criteria rule ∷ []
all_found facts rule actions.Pass agree = one_combination rule agree
all_found facts rule actions.Match agree = one_combination rule agree
all_found facts rule (actions.Block kind) agree = one_combination rule agree
all_found facts rule (actions.Anchor call) agree = one_combination rule agree

has_rules : (facts : HostFacts) (rule : Rule) → Agree rule → lacks_rules facts (form_of rule) (readings_of rule) ≡ false
has_rules facts rule agree = rw (all_found facts rule rule.effect.action agree) (and_right (makes_rules (head_of rule.effect.action)) false refl)

no_fault : (facts : HostFacts) (order : Order) (rule : Rule) → IsWritten rule → fault_of facts order (form_of rule) (readings_of rule) ≡ None
unfolding fault_of
no_fault facts order rule is =
    rw (
      words_fine facts order rule,
      has_rules facts rule is.agree,
      no_port_fault rule is,
      icmp_fine rule.criteria.proto rule.criteria.icmp is.agree.icmp,
      flags_fine rule.criteria.flags (needs_flags rule.criteria rule.effect) rule.criteria.proto is.agree.flags,
      reset_fine rule.effect.action rule.criteria.proto is.agree.reset,
      no_table_fault rule is,
    ) refl

-- what the rule does
action_back : (action : Action) (call : Call) → IsCallOf action call → action_of (head_of action) call at_start ≡ action
action_back actions.Pass call is = refl
action_back actions.Match call is = refl
action_back (actions.Block kind) call is = refl
action_back (actions.Anchor own) call is = ap (λ (one : Call). actions.Anchor one) is

state_back : (action : Action) (kind : StateKind) → (is_pass action ≡ false → kind ≡ states.None) → state_of (head_of action) (state_form (is_pass action) kind) ≡ kind
state_back actions.Pass kind stateless = refl
state_back actions.Match kind stateless = sym (stateless refl)
state_back (actions.Block other) kind stateless = sym (stateless refl)
state_back (actions.Anchor call) kind stateless = sym (stateless refl)

-- a state is bound where the rule says so, and only a rule that makes one says so
bound_back : (makes : Bool) (bound : Bool) → (makes ≡ false → bound ≡ false) → (makes && (bound || false)) ≡ bound
bound_back true true none = refl
bound_back true false none = refl
bound_back false bound none = sym (none refl)

stateless_unbound : (kind : StateKind) (options : StateOptions) → (kind ≡ states.None → options ≡ no_options) → makes_state kind ≡ false → options.if_bound ≡ false
stateless_unbound states.None options none makes = ap (λ (one : StateOptions). one.if_bound) (none refl)
stateless_unbound states.Keep options none makes = absurd (cc)
stateless_unbound states.Modulate options none makes = absurd (cc)
stateless_unbound states.Synproxy options none makes = absurd (cc)

options_back : (kind : StateKind) (options : StateOptions) → (kind ≡ states.None → options ≡ no_options) → options.floating ≡ false
    → options_of (makes_state kind) at_start options ≡ options
options_back kind options none floats =
    let bound : (makes_state kind && (options.if_bound || false)) ≡ options.if_bound = bound_back (makes_state kind) options.if_bound (stateless_unbound kind options none) in
    λ i. record options { if_bound = bound i; floating = sym floats i }

first_of : {A : Type 0} (value : Option A) → slice_get (option_to_list value) 0 ≡ value
first_of None = refl
first_of (Some value) = refl

effect_back : (rule : Rule) (call : Call) → IsWrittenEffect rule.effect → IsCallOf rule.effect.action call
    → effect_of (form_of rule) call at_start (option_to_list rule.effect.params.nat) (option_to_list rule.effect.params.rdr) ≡ rule.effect
effect_back rule call is called =
    let effect = rule.effect in
    let state : state_of (head_of effect.action) (state_form (is_pass effect.action) effect.state) ≡ effect.state = state_back effect.action effect.state is.stateless in
    let options : options_of (makes_state (state_of (head_of effect.action) (state_form (is_pass effect.action) effect.state))) at_start effect.options ≡ effect.options =
    ap (λ (kind : StateKind). options_of (makes_state kind) at_start effect.options) state ∙ options_back effect.state effect.options is.optionless is.options.floating in
    λ i. record effect {
      action = action_back effect.action call called i;
      state = state i;
      options = options i;
      params = record effect.params { nat = first_of effect.params.nat i; rdr = first_of effect.params.rdr i };
    }

-- what the rule tests
way_back : (action : Action) (way : Option Direction) → direction_of (head_of action) way ≡ way
way_back actions.Pass way = refl
way_back actions.Match way = refl
way_back (actions.Block kind) way = refl
way_back (actions.Anchor call) way = refl

-- a rule that would be read with flags says that it has none
quiet : (pass : Bool) (kind : StateKind) (tcp : Bool) → (pass ≡ false → kind ≡ states.None) → (pass && makes_state kind && tcp) ≡ false → (makes_state kind && tcp) ≡ false
quiet true kind tcp stateless needs = needs
quiet false kind tcp stateless needs = ap (λ one. makes_state one && tcp) (stateless refl)

flags_if_none : (needs : Bool) (makes : Bool) (proto : Option ℕ) → (needs ≡ false → (makes && is_tcp_or_any proto) ≡ false) → flags_of (if needs then Some flag_forms.Any else None) makes proto ≡ None
flags_if_none true makes proto none = refl
flags_if_none false makes proto none = rw (none refl) refl

flags_back : (flags : Option TcpFlags) (needs : Bool) (makes : Bool) (proto : Option ℕ) → (needs ≡ false → (makes && is_tcp_or_any proto) ≡ false)
    → flags_of (flags_form flags needs) makes proto ≡ flags
flags_back (Some flags) needs makes proto none = refl
flags_back None needs makes proto none = flags_if_none needs makes proto none

-- whether a rule makes a state, and is for TCP or any protocol, is one question to the printer and to the reader
same_makes : (kind : StateKind) → print_makes kind ≡ makes_state kind
same_makes states.None = refl
same_makes states.Keep = refl
same_makes states.Modulate = refl
same_makes states.Synproxy = refl

same_tcp : (proto : Option ℕ) → print_tcp proto ≡ is_tcp_or_any proto
same_tcp None = refl
same_tcp (Some proto) = refl

needs_same : (criteria : Criteria) (effect : Effect) → (is_pass effect.action && makes_state effect.state && is_tcp_or_any criteria.proto) ≡ needs_flags criteria effect
needs_same criteria effect = λ i. is_pass effect.action && sym (same_makes effect.state) i && sym (same_tcp criteria.proto) i

rule_back : (rule : Rule) → IsWritten rule → rule_of (form_of rule) rule.effect (found_criteria rule) ≡ rule
rule_back rule is =
    let effect = rule.effect in
    let flags : flags_of (form_of rule).flags (makes_state effect.state) rule.criteria.proto ≡ rule.criteria.flags =
    flags_back rule.criteria.flags (needs_flags rule.criteria effect) (makes_state effect.state) rule.criteria.proto
    (λ needs. quiet (is_pass effect.action) effect.state (is_tcp_or_any rule.criteria.proto) is.does.stateless (needs_same rule.criteria effect ∙ needs)) in
    λ i. record rule { criteria = record rule.criteria { direction = way_back effect.action rule.criteria.direction i; flags = flags i } }

take_one : {A : Type 0} (room : ℕ) (item : A) → 1 ≤ room → take room (item ∷ []) ≡ item ∷ []
take_one room item some = take_all room (item ∷ []) some

rules_back : (facts : HostFacts) (call : Call) (room : ℕ) (rule : Rule) → IsWritten rule → IsCallOf rule.effect.action call → 1 ≤ room
    → rules_of facts (form_of rule) call at_start room (readings_of rule) ≡ rule ∷ []
unfolding rules_of
rules_back facts call room rule is called some =
    ap (λ (criteria : List Criteria). map (rule_of (form_of rule) (effect_of (form_of rule) call at_start (option_to_list rule.effect.params.nat) (option_to_list rule.effect.params.rdr))) criteria)
    (ap (λ (criteria : List Criteria). take room criteria) (all_found facts rule rule.effect.action is.agree) ∙ take_one room (found_criteria rule) some)
    ∙ ap (λ (effect : Effect). rule_of (form_of rule) effect (found_criteria rule) ∷ []) (effect_back rule call is.does called)
    ∙ ap (λ (one : Rule). one ∷ []) (rule_back rule is)

-- the form comes to the one rule
pub comes_back : ReadTexts → (rule : Rule) → IsWritten rule → (call : Call) (order : Order) (facts : HostFacts) (room : ℕ) → IsCallOf rule.effect.action call → 1 ≤ room
    → Expands (form_of rule) call order facts at_start room (Ok (rule ∷ []))
comes_back read rule is call order facts room called some = record {
  read = readings_of rule;
  are = are_readings read facts rule is;
  gives = sym (λ i. answer_with (no_fault facts order rule is i) (rules_back facts call room rule is called some i));
}
