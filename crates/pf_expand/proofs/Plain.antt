-- No criteria of a statement name an automatic table.
use Rattle.std.proofs.Common.{◌≡◌, ℕ, zero, suc, Bool, true, false, cond, List, [], ◌∷◌, ◌++◌, map, filter, take, Result, Ok, Err, Option, Some, None, if◌then◌else◌, refl, sym, ap, ◌∙◌, subst}
use Rattle.std.specs.List.{AllZip, flat_map}
use Rattle.pf_base.specs.declared.fault.FaultKind.{FaultKind}
use Rattle.pf_base.specs.declared.fault.FaultKind.TheVariants as kinds
use Rattle.pf_base.specs.declared.kind.Family.{Family}
use Rattle.pf_addr.specs.declared.addr.Addr.{Addr}
use Rattle.pf_addr.specs.declared.prefix.Prefix.{Prefix}
use Rattle.pf_form.specs.declared.form.Head.{Head}
use Rattle.pf_form.specs.declared.form.Head.TheVariants as heads
use Rattle.pf_form.specs.declared.form.RuleForm.{RuleForm}
use Rattle.pf_host.specs.Facts.{HostFacts}
use Rattle.pf_host.specs.Queries.{in_group, is_meant, own_addresses}
use Rattle.pf_parts.specs.declared.matching.IfTest.{IfTest}
use Rattle.pf_parts.specs.declared.matching.IfTest.TheVariants as ifaces
use Rattle.pf_rule.specs.declared.criteria.AddrSet.TheVariants as sets
use Rattle.pf_rule.specs.declared.criteria.AddrTest.{AddrTest}
use Rattle.pf_rule.specs.declared.criteria.AddrTest.TheVariants as tests
use Rattle.pf_rule.specs.declared.criteria.Criteria.{Criteria}
use Rattle.pf_syntax.specs.declared.form.HostForm.{HostForm}
use Rattle.pf_syntax.specs.declared.form.HostForm.TheVariants as forms
use Rattle.pf_syntax.specs.declared.form.HostItem.{HostItem}
use Rattle.pf_word.specs.Hosts.{EndsMean, FormMeans, HostMeans, HostsMean, RangeMeans, a_range, dynamic_test, falls, prefix_tests, tests_of_word, two_families}
use Rattle.pf_word.specs.Suffixes.{taken_apart}
use Rattle.pf_word.specs.Words.{failed, found, is_name, named}
use Rattle.pf_word.specs.declared.words.Words.{Words}
use Rattle.pf_combine.specs.Antispoof.{from_prefix, loopback, of_iface, of_name, of_test, of_tests, of_written, elsewhere}
use Rattle.pf_combine.specs.Combinations.{combined, criteria_of, families, is_one, product}
use Rattle.pf_expand.specs.Expansion.{all_criteria, list_if, lists_of, written_families}
use Rattle.pf_combine.specs.Members.{with_member, with_members}
use Rattle.pf_expand.specs.Readings.{AreReadings}
use Rattle.pf_expand.specs.Rules.{start_of}
use Rattle.pf_expand.specs.Written.{tests_no_auto}
use Rattle.pf_expand.proofs.Every.{Every, every_append, every_filter, every_flat, every_from, every_map, every_of_each}
use Rattle.pf_combine.specs.declared.member.Member.{Member}
use Rattle.pf_combine.specs.declared.member.Member.TheVariants as members
use Rattle.pf_expand.specs.declared.readings.Readings.{Readings}

-- ---- tests of hosts

abbrev pub Plain : AddrTest → Type 0
Plain test = tests_no_auto test ≡ true

plain_prefixes : (negated : Bool) (prefixes : List Prefix) → Every Plain (prefix_tests negated prefixes)
plain_prefixes negated [] = tt
plain_prefixes negated (prefix ∷ prefixes) = (refl, plain_prefixes negated prefixes)

plain_word : (negated : Bool) (answer : Result (List Prefix) FaultKind) → Every Plain (tests_of_word negated answer).values
plain_word negated (Ok prefixes) = plain_prefixes negated prefixes
plain_word negated (Err fault) = tt

plain_as : (words other : Words AddrTest) → words ≡ other → Every Plain other.values → Every Plain words.values
plain_as words other e h = subst (λ (w : Words AddrTest). Every Plain w.values) (sym e) h

plain_range : (low : List ℕ) (negated : Bool) (first last : Addr) (words : Words AddrTest) → RangeMeans low negated first last words → Every Plain words.values
plain_range low negated first last words (a_range range ends e) = plain_as words (found (tests.Test negated (sets.Range range))) e (refl, tt)
plain_range low negated first last words (two_families apart e) = plain_as words (failed kinds.FamilyMismatch) e tt
plain_range low negated first last words (falls out e) = plain_as words (failed (kinds.NotAnAddress (named low))) e tt

plain_ends : (low : List ℕ) (negated : Bool) (first last : Result Addr FaultKind) (words : Words AddrTest) → EndsMean low negated first last words → Every Plain words.values
plain_ends low negated (Ok first) (Ok last) words h = plain_range low negated first last words h
plain_ends low negated (Ok first) (Err fault) words h = plain_as words (failed fault) h tt
plain_ends low negated (Err fault) (Ok last) words h = plain_as words (failed fault) h tt
plain_ends low negated (Err fault) (Err second) words h = plain_as words (record { values = []; faults = fault ∷ second ∷ [] }) h tt

by_name : (negated : Bool) (word : List ℕ) (b : Bool) → Every Plain (if b then found (tests.Test negated (sets.Dynamic (taken_apart word))) else failed (kinds.NotAnAddress (named word))).values
by_name negated word true = (refl, tt)
by_name negated word false = tt

plain_dynamic : (negated : Bool) (word : List ℕ) → Every Plain (dynamic_test negated word).values
plain_dynamic negated word = by_name negated word (is_name (taken_apart word).name)

plain_host : (facts : HostFacts) (negated : Bool) (what : HostForm) (words : Words AddrTest) → FormMeans facts negated what words → Every Plain words.values
plain_host facts negated forms.Any words h = plain_as words (found tests.Any) h (refl, tt)
plain_host facts negated (forms.Word word mask) words h = plain_as words (tests_of_word negated h.answer) h.are (plain_word negated h.answer)
plain_host facts negated (forms.Range low high) words h = plain_ends low negated h.first h.last words h.mean
plain_host facts negated (forms.Dynamic word) words h = plain_as words (dynamic_test negated word) h (plain_dynamic negated word)
plain_host facts negated (forms.Table name) words h = plain_as words (found (tests.Test negated (sets.Table name))) h (refl, tt)

plain_each : (facts : HostFacts) (items : List HostItem) (readings : List (Words AddrTest)) → AllZip (HostMeans facts) items readings → Every Plain (flat_map (λ reading. reading.values) readings)
plain_each facts [] [] h = tt
plain_each facts [] (reading ∷ readings) h = absurd h
plain_each facts (item ∷ items) [] h = absurd h
plain_each facts (item ∷ items) (reading ∷ readings) h =
    every_append Plain reading.values (flat_map (λ reading. reading.values) readings) (plain_host facts item.negated item.what reading h.0) (plain_each facts items readings h.1)

plain_hosts : (facts : HostFacts) (items : List HostItem) (words : Words AddrTest) → HostsMean facts items words → Every Plain words.values
plain_hosts facts items words h = subst (λ (w : Words AddrTest). Every Plain w.values) (sym h.are) (plain_each facts items h.readings h.each)

-- ---- criteria of combinations

abbrev PlainMember : Member → Type 0
PlainMember (members.Source test) = Plain test
PlainMember (members.Target test) = Plain test
PlainMember (members.Iface test) = Unit {0}
PlainMember (members.Proto number) = Unit {0}
PlainMember (members.Icmp icmp) = Unit {0}
PlainMember (members.SourcePort ports) = Unit {0}
PlainMember (members.TargetPort ports) = Unit {0}
PlainMember (members.User ids) = Unit {0}
PlainMember (members.Group ids) = Unit {0}

abbrev pub PlainCriteria : Criteria → Type 0
PlainCriteria criteria = Plain criteria.source × Plain criteria.target

with_plain : (criteria : Criteria) (member : Member) → PlainCriteria criteria → PlainMember member → PlainCriteria (with_member criteria member)
with_plain criteria (members.Source test) h k = (k, h.1)
with_plain criteria (members.Target test) h k = (h.0, k)
with_plain criteria (members.Iface test) h k = h
with_plain criteria (members.Proto number) h k = h
with_plain criteria (members.Icmp icmp) h k = h
with_plain criteria (members.SourcePort ports) h k = h
with_plain criteria (members.TargetPort ports) h k = h
with_plain criteria (members.User ids) h k = h
with_plain criteria (members.Group ids) h k = h

with_all_plain : (criteria : Criteria) (list : List Member) → PlainCriteria criteria → Every PlainMember list → PlainCriteria (with_members criteria list)
with_all_plain criteria [] h k = h
with_all_plain criteria (member ∷ list) h k = with_all_plain (with_member criteria member) list (with_plain criteria member h k.0) k.1

behind : (member : Member) (lists : List (List Member)) → PlainMember member → Every (Every PlainMember) lists → Every (Every PlainMember) (map (λ others. member ∷ others) lists)
behind member [] h k = tt
behind member (others ∷ lists) h k = ((h, k.0), behind member lists h k.1)

behind_each : (lists : List (List Member)) → Every (Every PlainMember) lists → (some : List Member) → Every PlainMember some → Every (Every PlainMember) (flat_map (λ member. map (λ others. member ∷ others) lists) some)
behind_each lists h [] k = tt
behind_each lists h (member ∷ some) k =
    every_append (Every PlainMember) (map (λ others. member ∷ others) lists) (flat_map (λ member. map (λ others. member ∷ others) lists) some) (behind member lists k.0 h) (behind_each lists h some k.1)

plain_product : (lists : List (List Member)) → Every (Every PlainMember) lists → Every (Every PlainMember) (product lists)
plain_product [] h = (tt, tt)
plain_product (list ∷ lists) h = behind_each (product lists) (plain_product lists h.1) list h.0

plain_combined : (named : List Family) (start : Criteria) (lists : List (List Member)) → PlainCriteria start → Every (Every PlainMember) lists → Every PlainCriteria (combined named start lists)
plain_combined named start lists h k =
    let kept = filter (λ list. is_one (families named list)) (product lists) in
    every_map PlainCriteria (criteria_of named start) kept
    (every_from (Every PlainMember) (λ list. PlainCriteria (criteria_of named start list)) (λ list l. with_all_plain start list h l) kept
    (every_filter (λ list. is_one (families named list)) (Every PlainMember) (product lists) (plain_product lists k)))

plain_if : {I : Type 0} (items : List I) (list : List Member) → Every PlainMember list → Every (Every PlainMember) (list_if items list)
plain_if [] list h = tt
plain_if (item ∷ items) list h = (h, tt)

any_member : {A : Type 0} (f : A → Member) → ((a : A) → PlainMember (f a)) → (xs : List A) → Every PlainMember (map f xs)
any_member f each xs = every_map PlainMember f xs (every_of_each (λ a. PlainMember (f a)) each xs)

two_lists : (a b : List (List Member)) → Every (Every PlainMember) a → Every (Every PlainMember) b → Every (Every PlainMember) (a ++ b)
two_lists a b h k = every_append (Every PlainMember) a b h k

plain_lists : (facts : HostFacts) (form : RuleForm) (read : Readings) → AreReadings facts form read → Every (Every PlainMember) (lists_of form read)
plain_lists facts form read are =
    let ifaces = plain_if form.ifaces (map members.Iface form.ifaces) (any_member members.Iface (λ a. tt) form.ifaces) in
    let protos = plain_if form.protos (map members.Proto read.protos.values) (any_member members.Proto (λ a. tt) read.protos.values) in
    let icmp = plain_if form.icmp (map members.Icmp read.icmp.values) (any_member members.Icmp (λ a. tt) read.icmp.values) in
    let sources = plain_if form.sources (map members.Source read.sources.values) (every_map PlainMember members.Source read.sources.values (plain_hosts facts form.sources read.sources are.sources)) in
    let source_ports = plain_if form.source_ports (map members.SourcePort read.source_ports.values) (any_member members.SourcePort (λ a. tt) read.source_ports.values) in
    let targets = plain_if form.targets (map members.Target read.targets.values) (every_map PlainMember members.Target read.targets.values (plain_hosts facts form.targets read.targets are.targets)) in
    let target_ports = plain_if form.target_ports (map members.TargetPort read.target_ports.values) (any_member members.TargetPort (λ a. tt) read.target_ports.values) in
    let users = plain_if form.users (map members.User read.users.values) (any_member members.User (λ a. tt) read.users.values) in
    let groups = plain_if form.groups (map members.Group read.groups.values) (any_member members.Group (λ a. tt) read.groups.values) in
    two_lists _ _ (two_lists _ _ (two_lists _ _ (two_lists _ _ (two_lists _ _ (two_lists _ _ (two_lists _ _ (two_lists _ _ ifaces protos) icmp) sources) source_ports) targets) target_ports) users) groups

-- ---- criteria of `antispoof`

plain_from : (start : Criteria) (test : IfTest) → PlainCriteria start → (prefixes : List Prefix) → Every PlainCriteria (map (from_prefix start test) prefixes)
plain_from start test h [] = tt
plain_from start test h (prefix ∷ prefixes) = ((refl, h.1), plain_from start test h prefixes)

plain_unless : (start : Criteria) → PlainCriteria start → (prefixes : List Prefix) (b : Bool) → Every PlainCriteria (if b then [] else map (from_prefix start ifaces.Any) prefixes)
plain_unless start h prefixes true = tt
plain_unless start h prefixes false = plain_from start ifaces.Any h prefixes

plain_iface : (facts : HostFacts) (written : Option Family) (start : Criteria) → PlainCriteria start → (iface : List ℕ) → Every PlainCriteria (of_iface facts written start iface)
plain_iface facts written start h iface =
    let networks = of_written written (own_addresses facts iface true) in
    let addresses = of_written written (own_addresses facts iface false) in
    every_append PlainCriteria (map (from_prefix start (elsewhere iface)) networks) (if in_group facts loopback iface then [] else map (from_prefix start ifaces.Any) addresses)
    (plain_from start (elsewhere iface) h networks) (plain_unless start h addresses (in_group facts loopback iface))

plain_test : (facts : HostFacts) (written : Option Family) (start : Criteria) → PlainCriteria start → (test : IfTest) → Every PlainCriteria (of_test facts written start test)
plain_test facts written start h ifaces.Any = tt
plain_test facts written start h (ifaces.On name negated) = every_flat PlainCriteria (of_iface facts written start) (plain_iface facts written start h) (filter (is_meant facts name) facts.interfaces)

-- ---- statements

module _ (facts : HostFacts) (form : RuleForm) (read : Readings) (are : AreReadings facts form read) where
  plain_start : PlainCriteria (start_of form)
  plain_start = (refl, refl)

  of_lists : Every PlainCriteria (combined (written_families form read) (start_of form) (lists_of form read))
  of_lists = plain_combined (written_families form read) (start_of form) (lists_of form read) plain_start (plain_lists facts form read are)

  pub plain_criteria : (head : Head) → Every PlainCriteria (all_criteria facts form read head)
  plain_criteria heads.Antispoof = every_flat PlainCriteria (of_test facts form.family (start_of form)) (plain_test facts form.family (start_of form) plain_start) form.ifaces
  plain_criteria heads.Pass = of_lists
  plain_criteria (heads.Block kind) = of_lists
  plain_criteria heads.Match = of_lists
  plain_criteria (heads.Anchor name body) = of_lists
  plain_criteria (heads.LoadAnchor name file) = tt
