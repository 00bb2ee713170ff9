-- The words of a printed rule mean what the rule tests and sets, with any facts.
use Rattle.std.proofs.Common.{◌≡◌, ℕ, ◌+◌, ◌-◌, Bool, true, false, List, [], ◌∷◌, ◌++◌, Option, Some, None, length, take, drop, refl, ap, sym, subst, ◌∙◌, arith, inl, inr, append_assoc, length-append, decimal}
use Rattle.std.specs.Prelude.{is_none, ◌&&◌, ◌||◌, ◌==◌, not, nat_eq, codes, Ok, if◌then◌else◌}
use Rattle.std.specs.List.{ends_with, list_all}
use Rattle.std.specs.Str.{bytes_eq}
use Rattle.std.specs.Option.{option_map, option_to_list, unwrap_or}
use Rattle.std.proofs.lemmas.Bool.{and_parts, cases_Bool, eqb-true, leb-true}
use Rattle.std.proofs.Math.Seq.{drop-append_seam, take-append_seam}
use Rattle.std.proofs.lemmas.List.{append-nil, take-append-drop}
use Rattle.std.proofs.lemmas.Slice.Eq.{bytes_eq-Decides}
use Rattle.pf_addr.specs.Addr.{IsAddr, width}
use Rattle.pf_addr.specs.Grammar.{IsAddrText, slash}
use Rattle.pf_addr.specs.Prefix.{whole}
use Rattle.pf_addr.specs.PrefixOrder.{Prefix-same}
use Rattle.pf_addr.specs.PrefixText.{IsPrefixText, prefix_text}
use Rattle.pf_addr.specs.Text.{addr_text}
use Rattle.pf_addr.specs.declared.addr.Addr.{Addr}
use Rattle.pf_addr.specs.declared.ifaces.DynIf.{DynIf}
use Rattle.pf_addr.specs.declared.prefix.Prefix.{Prefix}
use Rattle.pf_base.specs.Decimal.{decimal_of}
use Rattle.pf_base.specs.declared.kind.Family.{Family}
use Rattle.pf_expand.specs.Readings.{AreReadings, TranslationMeans}
use Rattle.pf_expand.specs.declared.readings.Readings.{Readings}
use Rattle.pf_host.specs.Facts.{HostFacts}
use Rattle.pf_ops.specs.Numbers.{IsKept}
use Rattle.pf_ops.specs.Words.{Entry, icmp_of, proto_of, protocols, word_of}
use Rattle.pf_ops.specs.declared.flags.IcmpType.{IcmpType}
use Rattle.pf_ops.specs.declared.numbers.Numbers.{Numbers}
use Rattle.pf_form.specs.Tests.{no_side}
use Rattle.pf_form.specs.declared.hosts.Hosts.{Hosts}
use Rattle.pf_print.specs.HostText.{is_any, tests_no_host, text_if}
use Rattle.pf_rule.specs.declared.criteria.AddrSet.{AddrSet}
use Rattle.pf_rule.specs.declared.criteria.AddrSet.TheVariants as sets
use Rattle.pf_rule.specs.declared.criteria.AddrTest.{AddrTest}
use Rattle.pf_rule.specs.declared.criteria.AddrTest.TheVariants as tests
use Rattle.pf_rule.specs.declared.criteria.Criteria.{Criteria}
use Rattle.pf_rule.specs.declared.rule.Rule.{Rule}
use Rattle.pf_rule.specs.declared.translation.Target.{Target}
use Rattle.pf_syntax.specs.declared.form.HostItem.{HostItem}
use Rattle.pf_word.specs.Hosts.{HostMeans, HostsMean, IsWord, MaskedMeans, RangeMeans, WordMeans, dynamic_test}
use Rattle.pf_word.specs.Hosts.{AddressMeans}
use Rattle.pf_word.specs.Kinds.{code_of, icmps, protos}
use Rattle.pf_word.specs.Numbers.{id_tests, port_tests}
use Rattle.pf_word.specs.Suffixes.{first_end, network_end, taken_apart, without_end}
use Rattle.pf_word.specs.Targets.{TargetMeans, target_port}
use Rattle.pf_word.specs.Words.{found, is_name, none}
use Rattle.pf_word.specs.declared.number.IdKind.{IdKind}
use Rattle.pf_word.specs.declared.number.IdKind.TheVariants as ids
use Rattle.pf_word.specs.declared.words.Words.{Words}
use Rattle.pf_reread.specs.TokenText.{is_word_text}
use Rattle.pf_reread.specs.Written.{IfGiven, IsWritten, IsWrittenHost, IsWrittenTarget, asks_all, if_given, is_byte, is_port, is_written_dynamic, is_written_icmp}
use Rattle.pf_reread.proofs.Following.{same_text}
use Rattle.pf_reread.proofs.ReadFront.{proto_items}
use Rattle.pf_reread.proofs.ReadHosts.{host_item, mask_of, port_items, side_of}
use Rattle.pf_reread.proofs.ReadOptions.{icmp_items, id_items, target_words}
use Rattle.pf_reread.proofs.RuleForm.{draft_of}
use Rattle.pf_reread.proofs.RuleGlyphs.{dynamic_word}
use Rattle.pf_reread.proofs.RuleTokens.{byte_small}
use Rattle.pf_reread.proofs.Sets.{id_means, one_port, port_means}
use Rattle.pf_reread.proofs.Words.{decimal_of-decimal}

-- words of which each means something
abbrev pub all_found : {X : Type 0} → List X → Words X
all_found values = record { values = values; faults = [] }

abbrev pub one_or_none : {X : Type 0} → Option X → Words X
one_or_none value = all_found (option_to_list value)

-- what the crates below say of addresses that are read again
pub record ReadTexts : Type 0 where
  pub address : (addr : Addr) → IsAddr addr → IsAddrText (addr_text addr) addr
  pub prefix : (prefix : Prefix) → IsAddr prefix.addr → IsPrefixText (prefix_text prefix) prefix

-- protocols
abbrev is_meaning : Option ℕ → ℕ → Bool
is_meaning None n = false
is_meaning (Some m) n = m == n

meaning_is : (found : Option ℕ) (n : ℕ) → is_meaning found n ≡ true → found ≡ Some n
meaning_is None n is = absurd (cc)
meaning_is (Some m) n is = ap (λ k. Some k) (eqb-true m n is)

protocols_mean : list_all (λ (e : Entry). is_meaning (proto_of e.word) e.number) protocols ≡ true
unfolding protocols decimal_of
protocols_mean = refl

words_mean : (table : List Entry) (n : ℕ) (other : List ℕ) → list_all (λ (e : Entry). is_meaning (proto_of e.word) e.number) table ≡ true → proto_of other ≡ Some n
    → proto_of (unwrap_or (word_of table n) other) ≡ Some n
words_mean [] n other each is = is
words_mean (e ∷ table) n other each is =
    let p = and_parts (is_meaning (proto_of e.word) e.number) (list_all (λ (one : Entry). is_meaning (proto_of one.word) one.number) table) each in
    elim (cases_Bool (e.number == n)) [
      | inl same ↦ rw same (meaning_is (proto_of e.word) e.number p.0 ∙ ap (λ k. Some k) (eqb-true e.number n same))
      | inr unlike ↦ rw unlike (words_mean table n other p.1 is)
    ]

number_means : (n : ℕ) → is_byte n ≡ true → proto_of (decimal n) ≡ Some n
number_means n is = rw (decimal_of-decimal 255 n (leb-true n 255 is) (byte_small n is)) refl

proto_means : (proto : Option ℕ) → if_given is_byte proto ≡ true → one_or_none proto ≡ protos (proto_items proto)
proto_means None is = refl
proto_means (Some n) is = rw (words_mean protocols n (decimal n) protocols_mean (number_means n is)) refl

-- ICMP types
code_back : (code : Option ℕ) → if_given is_byte code ≡ true → code_of (option_map decimal code) ≡ Some code
code_back None is = refl
code_back (Some n) is = rw (decimal_of-decimal 255 n (leb-true n 255 is) (byte_small n is)) refl

type_back : (family : Family) (n : ℕ) → is_byte n ≡ true → icmp_of family (decimal n) ≡ Some n
type_back family n is = rw (decimal_of-decimal 255 n (leb-true n 255 is) (byte_small n is)) refl

icmp_means : (icmp : Option IcmpType) → if_given is_written_icmp icmp ≡ true → one_or_none icmp ≡ icmps (icmp_items icmp)
icmp_means None is = refl
icmp_means (Some icmp) is =
    let p = and_parts (is_byte icmp.kind) (if_given is_byte icmp.code) is in
    rw (type_back icmp.family icmp.kind p.0, code_back icmp.code p.1) refl

-- ports, users and groups
ports_mean : (facts : HostFacts) (ports : Option Numbers) → IfGiven (IsKept 65535) ports → one_or_none ports ≡ port_tests facts (port_items ports)
ports_mean facts None kept = refl
ports_mean facts (Some numbers) kept = rw (port_means facts numbers kept) refl

ids_mean : (facts : HostFacts) (kind : IdKind) (numbers : Option Numbers) → IfGiven (IsKept 4294967295) numbers → one_or_none numbers ≡ id_tests facts kind (id_items numbers)
ids_mean facts kind None kept = refl
ids_mean facts kind (Some numbers) kept = rw (id_means facts kind numbers kept) refl

-- hosts
abbrev pub tested : Bool → AddrSet → AddrTest
tested negated what = tests.Test negated what

whole_means : ReadTexts → (facts : HostFacts) (negated : Bool) (prefix : Prefix) → IsAddr prefix.addr → prefix.len ≡ width prefix.addr
    → IsWord facts negated (addr_text prefix.addr) None (found (tested negated (sets.Prefix prefix)))
whole_means read facts negated prefix is full = record {
  answer = Ok (prefix ∷ []);
  means = WordMeans.an_address prefix.addr (read.address prefix.addr is) (ap (λ (one : Prefix). Ok (one ∷ [])) (Prefix-same prefix (whole prefix.addr) refl full));
  are = refl;
}

masked_means : ReadTexts → (facts : HostFacts) (negated : Bool) (prefix : Prefix) → IsAddr prefix.addr → (prefix.len == width prefix.addr) ≡ false
    → IsWord facts negated (addr_text prefix.addr) (Some (decimal prefix.len)) (found (tested negated (sets.Prefix prefix)))
masked_means read facts negated prefix is part =
    let text : prefix_text prefix ≡ addr_text prefix.addr ++ slash ∷ decimal prefix.len = rw part (append_assoc (addr_text prefix.addr) (codes "/") (decimal prefix.len)) in
    record {
      answer = Ok (prefix ∷ []);
      means = MaskedMeans.a_prefix prefix (subst (λ (word : List ℕ). IsPrefixText word prefix) text (read.prefix prefix is)) refl;
      are = refl;
    }

prefix_means : ReadTexts → (full : Bool) (facts : HostFacts) (negated : Bool) (prefix : Prefix) → IsAddr prefix.addr → (prefix.len == width prefix.addr) ≡ full
    → IsWord facts negated (addr_text prefix.addr) (mask_of full prefix.len) (found (tested negated (sets.Prefix prefix)))
prefix_means read true facts negated prefix is same = whole_means read facts negated prefix is (eqb-true prefix.len (width prefix.addr) same)
prefix_means read false facts negated prefix is other = masked_means read facts negated prefix is other

-- the last byte of a text
abbrev last_of : List ℕ → ℕ → ℕ
last_of [] other = other
last_of (byte ∷ bytes) other = last_of bytes byte

last-append : (front : List ℕ) (byte : ℕ) (bytes : List ℕ) (other : ℕ) → last_of (front ++ byte ∷ bytes) other ≡ last_of bytes byte
last-append [] byte bytes other = refl
last-append (first ∷ front) byte bytes other = last-append front byte bytes first

cut_length : (front back : List ℕ) → length (front ++ back) - length back ≡ length front
cut_length front back = let long : length (front ++ back) ≡ length front + length back = length-append front back in omega (arith, long)

ends_drop : (front back : List ℕ) → drop (length (front ++ back) - length back) (front ++ back) ≡ back
ends_drop front back = ap (λ n. drop n (front ++ back)) (cut_length front back) ∙ drop-append_seam front back

ends_there : (front back : List ℕ) → ends_with nat_eq (front ++ back) back ≡ true
ends_there front back = ap (λ (other : List ℕ). bytes_eq back other) (ends_drop front back) ∙ (bytes_eq-Decides back back).1 refl

cut_there : (front back : List ℕ) → without_end back (front ++ back) ≡ front
cut_there front back = ap (λ n. take n (front ++ back)) (cut_length front back) ∙ take-append_seam front back

-- a text that ends in `:0` doesn't end in `:network`
other_end : (front : List ℕ) → ends_with nat_eq (front ++ codes ":0") network_end ≡ false
other_end front = elim (cases_Bool (ends_with nat_eq (front ++ codes ":0") network_end)) [
  | inl both ↦
      let text = front ++ codes ":0" in
      let at = length text - length network_end in
      let back : network_end ≡ drop at text = same_text network_end (drop at text) both in
      let whole_text : take at text ++ network_end ≡ text = ap (λ (other : List ℕ). take at text ++ other) back ∙ take-append-drop at text in
      let one : last_of text 0 ≡ 48 = last-append front 58 (48 ∷ []) 0 in
      let other : last_of (take at text ++ network_end) 0 ≡ 107 = last-append (take at text) 58 (codes "network") 0 in
      let clash : 107 ≡ 48 = sym other ∙ ap (λ (bytes : List ℕ). last_of bytes 0) whole_text ∙ one in
      absurd (omega (arith, clash))
  | inr neither ↦ neither
]

abbrev asked : List ℕ → Bool → Bool → DynIf
asked name network first = record { name = name; network = network; first = first }

not_ends : (ends : Bool) → (not ends || false) ≡ true → ends ≡ false
not_ends true is = absurd (cc)
not_ends false is = refl

-- what was taken off a name and is put behind it is taken off again
taken_back_of : (name : List ℕ) (network first : Bool) → (not (ends_with nat_eq name network_end) || network) ≡ true → (not (ends_with nat_eq name first_end) || first) ≡ true
    → taken_apart (name ++ text_if network (codes ":network") ++ text_if first (codes ":0")) ≡ asked name network first
unfolding taken_apart
taken_back_of name false false n f =
    rw (
      append-nil name,
      append-nil name,
      not_ends (ends_with nat_eq name network_end) n,
      not_ends (ends_with nat_eq name first_end) f,
      not_ends (ends_with nat_eq name network_end) n,
      not_ends (ends_with nat_eq name first_end) f,
    ) refl
taken_back_of name true false n f =
    rw (append-nil (name ++ codes ":network"), ends_there name (codes ":network"), cut_there name (codes ":network"), not_ends (ends_with nat_eq name first_end) f) refl
taken_back_of name false true n f =
    rw (append-nil name, other_end name, ends_there name (codes ":0"), cut_there name (codes ":0"), not_ends (ends_with nat_eq name network_end) n) refl
taken_back_of name true true n f =
    rw (
      other_end (name ++ codes ":network"),
      ends_there (name ++ codes ":network") (codes ":0"),
      cut_there (name ++ codes ":network") (codes ":0"),
      ends_there name (codes ":network"),
      cut_there name (codes ":network"),
    ) refl

taken_back : (what : DynIf) → is_written_dynamic what ≡ true → taken_apart (dynamic_word what) ≡ what
taken_back what is =
    let p = and_parts (is_name what.name && is_word_text what.name) (asks_all what.name what) is in
    let q = and_parts (not (ends_with nat_eq what.name network_end) || what.network) (not (ends_with nat_eq what.name first_end) || what.first) p.1 in
    taken_back_of what.name what.network what.first q.0 q.1

dynamic_means : (negated : Bool) (what : DynIf) → is_written_dynamic what ≡ true → found (tested negated (sets.Dynamic what)) ≡ dynamic_test negated (dynamic_word what)
dynamic_means negated what is =
    let p = and_parts (is_name what.name && is_word_text what.name) (asks_all what.name what) is in
    rw (taken_back what is, (and_parts (is_name what.name) (is_word_text what.name) p.0).0) refl

host_means : ReadTexts → (facts : HostFacts) (test : AddrTest) → IsWrittenHost test → HostMeans facts (host_item test) (found test)
host_means read facts tests.Any is = refl
host_means read facts (tests.Test negated (sets.Prefix prefix)) is = prefix_means read (prefix.len == width prefix.addr) facts negated prefix is refl
host_means read facts (tests.Test negated (sets.Range range)) is = record {
  first = Ok range.low;
  last = Ok range.high;
  low_end = AddressMeans.is_address range.low (read.address range.low is.0) refl;
  high_end = AddressMeans.is_address range.high (read.address range.high is.1) refl;
  mean = RangeMeans.a_range range (record { low_end = refl; high_end = refl }) refl;
}
host_means read facts (tests.Test negated (sets.Table name)) is = refl
host_means read facts (tests.Test negated (sets.Dynamic what)) is = dynamic_means negated what is
host_means read facts (tests.Test negated (sets.Auto n)) is = absurd is

-- the hosts of a side, which is written or not
abbrev pub hosts_words : Bool → AddrTest → Words AddrTest
hosts_words all test = if all then none else found test

abbrev pub hosts_items : Bool → AddrTest → List HostItem
hosts_items all test = if all then [] else host_item test ∷ []

hosts_mean : ReadTexts → (all : Bool) (facts : HostFacts) (test : AddrTest) → IsWrittenHost test → HostsMean facts (hosts_items all test) (hosts_words all test)
hosts_mean read true facts test is = record { readings = []; each = tt; are = refl }
hosts_mean read false facts test is = record { readings = found test ∷ []; each = (host_means read facts test is, tt); are = refl }

-- translations
port_word : (facts : HostFacts) (port : Option ℕ) → if_given is_port port ≡ true → target_port facts (option_map decimal port) ≡ Ok port
port_word facts None is = refl
port_word facts (Some n) is = rw (one_port facts (decimal n) n (leb-true n 65535 is)) refl

target_means : ReadTexts → (facts : HostFacts) (target : Target) → IsWrittenTarget target → TargetMeans facts (target_words target) (found target)
target_means read facts target is = record {
  addr = Ok target.addr;
  address = AddressMeans.is_address target.addr (read.address target.addr is.addr) refl;
  are = rw (port_word facts target.port is.port) refl;
}

translation_means : ReadTexts → (facts : HostFacts) (target : Option Target) → IfGiven IsWrittenTarget target
    → TranslationMeans facts (option_map target_words target) (one_or_none target)
translation_means read facts None is = refl
translation_means read facts (Some target) is = target_means read facts target is

-- what the words of a printed rule mean
abbrev pub readings_of : Rule → Readings
readings_of rule = record {
  protos = one_or_none rule.criteria.proto;
  icmp = one_or_none rule.criteria.icmp;
  sources = hosts_words (tests_no_host rule.criteria) rule.criteria.source;
  source_ports = one_or_none rule.criteria.source_port;
  targets = hosts_words (tests_no_host rule.criteria) rule.criteria.target;
  target_ports = one_or_none rule.criteria.target_port;
  users = one_or_none rule.criteria.user;
  groups = one_or_none rule.criteria.group;
  nat = one_or_none rule.effect.params.nat;
  rdr = one_or_none rule.effect.params.rdr;
}

none_given : {A : Type 0} (value : Option A) → is_none value ≡ true → value ≡ None
none_given None none = refl
none_given (Some value) none = absurd (cc)

-- both sides, or none
abbrev pub both : Bool → Criteria → Hosts
both all criteria = if all then record { sources = no_side; targets = no_side }
    else record { sources = side_of criteria.source criteria.source_port; targets = side_of criteria.target criteria.target_port }

-- the lists of hosts and ports of a form
pub source_items : (all : Bool) (criteria : Criteria) → (both all criteria).sources.hosts ≡ hosts_items all criteria.source
source_items true criteria = refl
source_items false criteria = refl

pub target_items : (all : Bool) (criteria : Criteria) → (both all criteria).targets.hosts ≡ hosts_items all criteria.target
target_items true criteria = refl
target_items false criteria = refl

-- where no host is tested there is no test of a port
no_ports : (criteria : Criteria) → tests_no_host criteria ≡ true → (criteria.source_port ≡ None) × (criteria.target_port ≡ None)
no_ports criteria all =
    let p = and_parts (is_any criteria.source && is_any criteria.target && is_none criteria.source_port) (is_none criteria.target_port) all in
    let q = and_parts (is_any criteria.source && is_any criteria.target) (is_none criteria.source_port) p.0 in
    (none_given criteria.source_port q.1, none_given criteria.target_port p.1)

pub source_port_items : (all : Bool) (criteria : Criteria) → tests_no_host criteria ≡ all → (both all criteria).sources.ports ≡ port_items criteria.source_port
source_port_items true criteria same = ap port_items (sym (no_ports criteria same).0)
source_port_items false criteria same = refl

pub target_port_items : (all : Bool) (criteria : Criteria) → tests_no_host criteria ≡ all → (both all criteria).targets.ports ≡ port_items criteria.target_port
target_port_items true criteria same = ap port_items (sym (no_ports criteria same).1)
target_port_items false criteria same = refl

-- with any facts
pub are_readings : ReadTexts → (facts : HostFacts) (rule : Rule) → IsWritten rule → AreReadings facts (draft_of rule).form (readings_of rule)
are_readings read facts rule is =
    let criteria = rule.criteria in
    let all = tests_no_host criteria in
    record {
      protos = proto_means criteria.proto is.tests.proto;
      icmp = icmp_means criteria.icmp is.tests.icmp;
      sources = subst (λ (items : List HostItem). HostsMean facts items (hosts_words all criteria.source)) (sym (source_items all criteria)) (hosts_mean read all facts criteria.source is.tests.source);
      source_ports = ports_mean facts criteria.source_port is.tests.source_port ∙ ap (port_tests facts) (sym (source_port_items all criteria refl));
      targets = subst (λ (items : List HostItem). HostsMean facts items (hosts_words all criteria.target)) (sym (target_items all criteria)) (hosts_mean read all facts criteria.target is.tests.target);
      target_ports = ports_mean facts criteria.target_port is.tests.target_port ∙ ap (port_tests facts) (sym (target_port_items all criteria refl));
      users = ids_mean facts ids.User criteria.user is.tests.user;
      groups = ids_mean facts ids.Group criteria.group is.tests.group;
      nat = translation_means read facts rule.effect.params.nat is.does.params.nat;
      rdr = translation_means read facts rule.effect.params.rdr is.does.params.rdr;
    }
