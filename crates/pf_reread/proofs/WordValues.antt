-- What the words of a statement mean is in its ranges: hosts, ports, users, protocols, ICMP types and the targets of translations.
use Rattle.std.proofs.Common.{◌≡◌, ℕ, zero, suc, ◌+◌, ◌-◌, ◌≤◌, Bool, true, false, List, [], ◌∷◌, length, take, map, filter, Option, Some, None, Result, Ok, Err, if◌then◌else◌, refl, ap, sym, subst, ◌∙◌, arith}
use Rattle.std.specs.Prelude.{◌&&◌, ◌||◌, ◌==◌, not, nat_le, nat_lt, nat_eq, is_some}
use Rattle.std.specs.List.{AllZip, ends_with, flat_map, list_all, list_any, slice_get}
use Rattle.std.specs.Option.{ok_or, option_map, option_or}
use Rattle.std.specs.Str.{bytes_eq}
use Rattle.std.proofs.lemmas.Bool.{and_from, and_parts, cond_both, leb-true, le-leb, ltb-false, not-false, or_left, or_parts, or_right}
use Rattle.std.proofs.lemmas.Bool.Decides.{nat_tests}
use Rattle.pf_addr.specs.Addr.{IsAddr}
use Rattle.pf_addr.specs.Prefix.{whole}
use Rattle.pf_addr.specs.declared.addr.Addr.{Addr}
use Rattle.pf_addr.specs.declared.ifaces.DynIf.{DynIf}
use Rattle.pf_addr.specs.declared.parse.Masked.{Masked}
use Rattle.pf_addr.specs.declared.prefix.Prefix.{Prefix}
use Rattle.pf_base.specs.Decimal.{decimal_of, is_decimal}
use Rattle.pf_base.specs.declared.fault.FaultKind.{FaultKind}
use Rattle.pf_base.specs.declared.fault.FaultKind.TheVariants as kinds
use Rattle.pf_base.specs.declared.kind.Family.{Family}
use Rattle.pf_expand.specs.Faults.{icmp_proto, is_bad_table, only_for, target_has_port}
use Rattle.pf_expand.specs.Readings.{TranslationMeans}
use Rattle.pf_host.specs.Addresses.{addresses_listed, first_of_each, is_beside, prefix_listed}
use Rattle.pf_host.specs.Facts.{HostFacts}
use Rattle.pf_host.specs.Queries.{addresses_of, has_host, host_of, is_meant, knows, service_of}
use Rattle.pf_host.specs.Rows.{values_of}
use Rattle.pf_host.specs.declared.row.Row.{Row}
use Rattle.pf_ops.specs.Numbers.{IsKept}
use Rattle.pf_ops.specs.Operator.{joined, numbers_below, set_of}
use Rattle.pf_ops.specs.Words.{Entry, icmp4_types, icmp6_types, icmp_of, icmp_types, number_of, proto_of, protocols}
use Rattle.pf_ops.specs.declared.flags.IcmpType.{IcmpType}
use Rattle.pf_ops.specs.declared.numbers.Numbers.{Numbers}
use Rattle.pf_ops.specs.declared.operator.OpKind.{OpKind}
use Rattle.pf_ops.specs.declared.operator.OpKind.TheVariants.{Equal, Other, Below, UpTo, Above, From, Within, Between, Outside}
use Rattle.pf_base.specs.declared.kind.Family.TheVariants.{Inet, Inet6}
use Rattle.pf_rule.specs.declared.criteria.AddrSet.TheVariants as sets
use Rattle.pf_rule.specs.declared.criteria.AddrTest.{AddrTest}
use Rattle.pf_rule.specs.declared.criteria.AddrTest.TheVariants as tests
use Rattle.pf_rule.specs.declared.translation.Target.{Target}
use Rattle.pf_syntax.specs.declared.form.HostForm.{HostForm}
use Rattle.pf_syntax.specs.declared.form.HostForm.TheVariants as forms
use Rattle.pf_syntax.specs.declared.form.HostItem.{HostItem}
use Rattle.pf_syntax.specs.declared.form.IcmpItem.{IcmpItem}
use Rattle.pf_syntax.specs.declared.form.OpItem.{OpItem}
use Rattle.pf_syntax.specs.declared.form.TargetWords.{TargetWords}
use Rattle.pf_token.specs.Bytes.{class_of, is_word_byte}
use Rattle.pf_word.specs.Hosts.{AddressMeans, is_address, no_address, EndsMean, FormMeans, HostMeans, HostWordMeans, HostsMean, MaskedMeans, a_prefix, too_long, no_prefix, RangeMeans, a_range, falls, two_families, WordMeans, an_address, a_name, dynamic_test, fault_of_name, meaning_of_name, prefix_tests, tests_of_word}
use Rattle.pf_word.specs.Kinds.{code_of, icmp, icmp_with, icmps, proto, protos}
use Rattle.pf_word.specs.Numbers as numbers
use Rattle.pf_word.specs.Numbers.{between, has_two, id_named, id_of, id_test, id_tests, most_id, most_port, number_named, port_of, port_test, port_tests, second_end, shown}
use Rattle.pf_word.specs.Suffixes.{first_end, network_end, taken_apart, with_one_taken, without_end}
use Rattle.pf_word.specs.Tables.{is_table_name}
use Rattle.pf_word.specs.Targets.{as_some, target_of, target_port}
use Rattle.pf_word.specs.Words.{all_of, failed, found, is_name, named, none, of_one}
use Rattle.pf_word.specs.declared.number.IdKind.{IdKind}
use Rattle.pf_word.specs.declared.number.IdKind.TheVariants as ids
use Rattle.pf_word.specs.declared.words.Words.{Words}
use Rattle.pf_reread.specs.TokenText.{is_plain_class, is_word_text}
use Rattle.pf_reread.specs.Written.{IsWrittenHost, IsWrittenTarget, asks_all, if_given, is_byte, is_port, is_written_dynamic, is_written_icmp}
use Rattle.pf_reread.proofs.AddrTexts.{prefix_is_addr, text_is_addr}
use Rattle.pf_reread.proofs.Every.{Every, every_append, every_filter, every_from, every_map, first_of}
use Rattle.pf_reread.proofs.FactsKept.{FactsAre, MaskedIs, NumberIs}
use Rattle.pf_reread.proofs.FormParts.{is_form_host, is_form_item}
use Rattle.pf_reread.proofs.FormWords.{Passes, decimal_fits, either, entry_says}

pub of_rows : {A : Type 0} (P : A → Type 0) (rows : List (Row A)) (name : List ℕ) → Every (λ (row : Row A). P row.value) rows → Every P (values_of rows name)
of_rows {A} P rows name h =
    every_map P (λ (row : Row A). row.value) (filter (λ (row : Row A). bytes_eq row.name name) rows)
    (every_filter (λ (row : Row A). bytes_eq row.name name) (λ (row : Row A). P row.value) rows h)

-- equal words have equal values
pub values_as : {X : Type 0} (P : X → Type 0) (words other : Words X) → words ≡ other → Every P other.values → Every P words.values
values_as {X} P words other is h = subst (λ (w : Words X). Every P w.values) (sym is) h

-- ---- prefixes of a word

abbrev PrefixIs : Prefix → Type 0
PrefixIs prefix = IsAddr prefix.addr

abbrev PrefixesAre : Result (List Prefix) FaultKind → Type 0
PrefixesAre (Ok prefixes) = Every PrefixIs prefixes
PrefixesAre (Err fault) = Unit {0}

tests_are : (negated : Bool) (prefixes : List Prefix) → Every PrefixIs prefixes → Every IsWrittenHost (prefix_tests negated prefixes)
tests_are negated [] h = tt
tests_are negated (prefix ∷ prefixes) h = (h.0, tests_are negated prefixes h.1)

word_tests_are : (negated : Bool) (answer : Result (List Prefix) FaultKind) → PrefixesAre answer → Every IsWrittenHost (tests_of_word negated answer).values
word_tests_are negated (Ok prefixes) h = tests_are negated prefixes h
word_tests_are negated (Err fault) h = tt

first_are : (rows : List (Row Masked)) → Every MaskedIs rows → Every MaskedIs (first_of_each rows)
first_are [] h = tt
first_are (row ∷ rows) h = (h.0, every_filter (λ (other : Row Masked). not (is_beside row other)) MaskedIs (first_of_each rows) (first_are rows h.1))

listed_are : (first : Bool) (rows : List (Row Masked)) → Every MaskedIs rows → Every MaskedIs (addresses_listed first rows)
listed_are false rows h = h
listed_are true rows h = first_are rows h

pub listed_is : (network : Bool) (row : Row Masked) → MaskedIs row → IsAddr (prefix_listed network row.value).addr
listed_is false row h = h.0
listed_is true row h = h.1

asked_are : (facts : HostFacts) (what : DynIf) → FactsAre facts → Every PrefixIs (addresses_of facts what)
asked_are facts what are =
    let kept = filter (λ (row : Row Masked). is_meant facts what.name row.name) (addresses_listed what.first facts.addresses) in
    every_map PrefixIs (λ (row : Row Masked). prefix_listed what.network row.value) kept
    (every_from MaskedIs (λ (row : Row Masked). IsAddr (prefix_listed what.network row.value).addr) (listed_is what.network) kept
    (every_filter (λ (row : Row Masked). is_meant facts what.name row.name) MaskedIs (addresses_listed what.first facts.addresses) (listed_are what.first facts.addresses are.addresses)))

wholes_are : (addrs : List Addr) → Every IsAddr addrs → Every PrefixIs (map whole addrs)
wholes_are addrs h = every_map PrefixIs whole addrs h

hosts_of : (facts : HostFacts) (word : List ℕ) → FactsAre facts → Every IsAddr (host_of facts word)
hosts_of facts word are = of_rows IsAddr facts.hosts word are.hosts

name_means : (facts : HostFacts) (word : List ℕ) (b c : Bool) → FactsAre facts
    → PrefixesAre (if b then Ok (addresses_of facts (taken_apart word)) else if c then Ok (map whole (host_of facts word)) else Err (fault_of_name word))
name_means facts word true c are = asked_are facts (taken_apart word) are
name_means facts word false true are = wholes_are (host_of facts word) (hosts_of facts word are)
name_means facts word false false are = tt

named_are : (facts : HostFacts) (word : List ℕ) → FactsAre facts → PrefixesAre (meaning_of_name facts word)
unfolding meaning_of_name
named_are facts word are = name_means facts word (is_name (taken_apart word).name && knows facts (taken_apart word).name) (is_name word && has_host facts word) are

word_means : (facts : HostFacts) (word : List ℕ) (answer : Result (List Prefix) FaultKind) → FactsAre facts → WordMeans facts word answer → PrefixesAre answer
word_means facts word answer are (an_address addr is same) = subst PrefixesAre (sym same) (text_is_addr word addr is, tt)
word_means facts word answer are (a_name other same) = subst PrefixesAre (sym same) (named_are facts word are)

masked_means : (word mask : List ℕ) (answer : Result (List Prefix) FaultKind) → MaskedMeans word mask answer → PrefixesAre answer
masked_means word mask answer (a_prefix prefix is same) = subst PrefixesAre (sym same) (prefix_is_addr _ prefix is, tt)
masked_means word mask answer (too_long bits never is same) = subst PrefixesAre (sym same) tt
masked_means word mask answer (no_prefix never same) = subst PrefixesAre (sym same) tt

host_word_means : (facts : HostFacts) (word : List ℕ) (mask : Option (List ℕ)) (answer : Result (List Prefix) FaultKind) → FactsAre facts → HostWordMeans facts word mask answer → PrefixesAre answer
host_word_means facts word None answer are h = word_means facts word answer are h
host_word_means facts word (Some mask) answer are h = masked_means word mask answer h

-- ---- ranges

abbrev AddressIs : Result Addr FaultKind → Type 0
AddressIs (Ok addr) = IsAddr addr
AddressIs (Err fault) = Unit {0}

address_means : (word : List ℕ) (answer : Result Addr FaultKind) → AddressMeans word answer → AddressIs answer
address_means word answer (is_address addr is same) = subst AddressIs (sym same) (text_is_addr word addr is)
address_means word answer (no_address never same) = subst AddressIs (sym same) tt

range_means : (low : List ℕ) (negated : Bool) (first last : Addr) (words : Words AddrTest) → IsAddr first → IsAddr last → RangeMeans low negated first last words → Every IsWrittenHost words.values
range_means low negated first last words one other (a_range range «ends» same) =
    values_as IsWrittenHost words (found (tests.Test negated (sets.Range range))) same
    ((subst IsAddr (sym «ends».low_end) one, subst IsAddr (sym «ends».high_end) other), tt)
range_means low negated first last words one other (two_families apart same) = values_as IsWrittenHost words (failed kinds.FamilyMismatch) same tt
range_means low negated first last words one other (falls out same) = values_as IsWrittenHost words (failed (kinds.NotAnAddress (named low))) same tt

ends_mean : (low : List ℕ) (negated : Bool) (first last : Result Addr FaultKind) (words : Words AddrTest) → AddressIs first → AddressIs last → EndsMean low negated first last words → Every IsWrittenHost words.values
ends_mean low negated (Ok first) (Ok last) words one other h = range_means low negated first last words one other h
ends_mean low negated (Ok first) (Err fault) words one other h = values_as IsWrittenHost words (failed fault) h tt
ends_mean low negated (Err fault) (Ok last) words one other h = values_as IsWrittenHost words (failed fault) h tt
ends_mean low negated (Err fault) (Err second) words one other h = values_as IsWrittenHost words (record { values = []; faults = fault ∷ second ∷ [] }) h tt

-- ---- `(name)`

-- a word, or nothing
abbrev is_front : List ℕ → Bool
is_front [] = true
is_front (byte ∷ bytes) = is_word_text (byte ∷ bytes)

bytes_taken : (n : ℕ) (text : List ℕ) → list_all is_word_byte text ≡ true → list_all is_word_byte (take n text) ≡ true
bytes_taken zero text all = refl
bytes_taken (suc n) [] all = refl
bytes_taken (suc n) (byte ∷ text) all =
    let parts = and_parts (is_word_byte byte) (list_all is_word_byte text) all in
    and_from (is_word_byte byte) (list_all is_word_byte (take n text)) parts.0 (bytes_taken n text parts.1)

front_taken : (n : ℕ) (text : List ℕ) → is_front text ≡ true → is_front (take n text) ≡ true
front_taken zero text is = refl
front_taken (suc n) [] is = refl
front_taken (suc n) (byte ∷ text) is =
    let parts = and_parts (is_plain_class (class_of byte)) (list_all is_word_byte (byte ∷ text)) is in
    and_from (is_plain_class (class_of byte)) (list_all is_word_byte (byte ∷ take n text)) parts.0 (bytes_taken (suc n) (byte ∷ text) parts.1)

-- what one step makes of a name, by the two tests of its end
abbrev by_tests : List ℕ → Bool → Bool → Bool → Bool → DynIf
by_tests name network first at_network at_first =
    if not network && at_network then record { name = without_end network_end name; network = true; first = first }
    else if not first && at_first then record { name = without_end first_end name; network = network; first = true }
    else record { name = name; network = network; first = first }

abbrev ends_network : List ℕ → Bool
ends_network name = ends_with nat_eq name network_end

abbrev ends_first : List ℕ → Bool
ends_first name = ends_with nat_eq name first_end

abbrev what_of : List ℕ → Bool → Bool → DynIf
what_of name network first = record { name = name; network = network; first = first }

one_step : (name : List ℕ) (network first at_network at_first : Bool) → ends_network name ≡ at_network → ends_first name ≡ at_first
    → with_one_taken (what_of name network first) ≡ by_tests name network first at_network at_first
one_step name network first at_network at_first one other = λ i. by_tests name network first (one i) (other i)

front_by_tests : (name : List ℕ) (network first b c : Bool) → is_front name ≡ true
    → is_front (if b then what_of (without_end network_end name) true first else if c then what_of (without_end first_end name) network true else what_of name network first).name ≡ true
front_by_tests name network first true c is = front_taken (length name - length network_end) name is
front_by_tests name network first false true is = front_taken (length name - length first_end) name is
front_by_tests name network first false false is = is

front_step : (what : DynIf) → is_front what.name ≡ true → is_front (with_one_taken what).name ≡ true
front_step what is =
    front_by_tests what.name what.network what.first (not what.network && ends_network what.name) (not what.first && ends_first what.name) is

front_apart : (word : List ℕ) → is_front word ≡ true → is_front (taken_apart word).name ≡ true
unfolding taken_apart
front_apart word is = front_step (with_one_taken (what_of word false false)) (front_step (what_of word false false) is)

-- what is left asks for all that it could
abbrev Asks : DynIf → Type 0
Asks what = asks_all what.name what ≡ true

ask_both : (name : List ℕ) → Asks (what_of name true true)
ask_both name =
    and_from (not (ends_network name) || true) (not (ends_first name) || true) (or_right (not (ends_network name)) true refl) (or_right (not (ends_first name)) true refl)

ask_network : (name : List ℕ) → ends_first name ≡ false → Asks (what_of name true false)
ask_network name other =
    and_from (not (ends_network name) || true) (not (ends_first name) || false) (or_right (not (ends_network name)) true refl) (or_left (not (ends_first name)) false (ap not other))

ask_first : (name : List ℕ) → ends_network name ≡ false → Asks (what_of name false true)
ask_first name other =
    and_from (not (ends_network name) || false) (not (ends_first name) || true) (or_left (not (ends_network name)) false (ap not other)) (or_right (not (ends_first name)) true refl)

ask_none : (name : List ℕ) → ends_network name ≡ false → ends_first name ≡ false → Asks (what_of name false false)
ask_none name other another =
    and_from (not (ends_network name) || false) (not (ends_first name) || false) (or_left (not (ends_network name)) false (ap not other)) (or_left (not (ends_first name)) false (ap not another))

behind_network : (name : List ℕ) (at_first : Bool) → ends_first name ≡ at_first → Asks (with_one_taken (what_of name true false))
behind_network name true is = subst Asks (sym (one_step name true false (ends_network name) true refl is)) (ask_both (without_end first_end name))
behind_network name false is = subst Asks (sym (one_step name true false (ends_network name) false refl is)) (ask_network name is)

behind_first : (name : List ℕ) (at_network : Bool) → ends_network name ≡ at_network → Asks (with_one_taken (what_of name false true))
behind_first name true is = subst Asks (sym (one_step name false true true (ends_first name) is refl)) (ask_both (without_end network_end name))
behind_first name false is = subst Asks (sym (one_step name false true false (ends_first name) is refl)) (ask_first name is)

apart_asks : (word : List ℕ) (at_network at_first : Bool) → ends_network word ≡ at_network → ends_first word ≡ at_first → Asks (with_one_taken (with_one_taken (what_of word false false)))
apart_asks word true at_first one other =
    subst (λ (what : DynIf). Asks (with_one_taken what)) (sym (one_step word false false true at_first one other))
    (behind_network (without_end network_end word) (ends_first (without_end network_end word)) refl)
apart_asks word false true one other =
    subst (λ (what : DynIf). Asks (with_one_taken what)) (sym (one_step word false false false true one other))
    (behind_first (without_end first_end word) (ends_network (without_end first_end word)) refl)
apart_asks word false false one other =
    subst (λ (what : DynIf). Asks (with_one_taken what)) (sym (one_step word false false false false one other))
    (subst Asks (sym (one_step word false false false false one other)) (ask_none word one other))

all_asked : (word : List ℕ) → Asks (taken_apart word)
unfolding taken_apart
all_asked word = apart_asks word (ends_network word) (ends_first word) refl refl

front_named : (name : List ℕ) → is_front name ≡ true → is_name name ≡ true → is_word_text name ≡ true
front_named [] is named = absurd (cc)
front_named (byte ∷ bytes) is named = is

word_front : (word : List ℕ) → is_word_text word ≡ true → is_front word ≡ true
word_front [] is = absurd (cc)
word_front (byte ∷ bytes) is = is

dynamic_is : (word : List ℕ) → is_word_text word ≡ true → is_name (taken_apart word).name ≡ true → is_written_dynamic (taken_apart word) ≡ true
dynamic_is word is named =
    let what = taken_apart word in
    and_from (is_name what.name && is_word_text what.name) (asks_all what.name what)
    (and_from (is_name what.name) (is_word_text what.name) named (front_named what.name (front_apart word (word_front word is)) named)) (all_asked word)

if_named : (negated : Bool) (word : List ℕ) (b : Bool) → is_word_text word ≡ true → is_name (taken_apart word).name ≡ b
    → Every IsWrittenHost (if b then found (tests.Test negated (sets.Dynamic (taken_apart word))) else failed (kinds.NotAnAddress (named word))).values
if_named negated word true is named = (dynamic_is word is named, tt)
if_named negated word false is named = tt

-- ---- hosts

host_is : (facts : HostFacts) → FactsAre facts → (negated : Bool) (what : HostForm) (words : Words AddrTest) → is_form_host what ≡ true → is_bad_table what ≡ false → FormMeans facts negated what words
    → Every IsWrittenHost words.values
host_is facts are negated forms.Any words is good h = values_as IsWrittenHost words (found tests.Any) h (tt, tt)
host_is facts are negated (forms.Word word mask) words is good h =
    values_as IsWrittenHost words (tests_of_word negated h.answer) h.are (word_tests_are negated h.answer (host_word_means facts word mask h.answer are h.means))
host_is facts are negated (forms.Range low high) words is good h =
    ends_mean low negated h.first h.last words (address_means low h.first h.low_end) (address_means high h.last h.high_end) h.mean
host_is facts are negated (forms.Dynamic word) words is good h =
    values_as IsWrittenHost words (dynamic_test negated word) h (if_named negated word (is_name (taken_apart word).name) is refl)
host_is facts are negated (forms.Table name) words is good h =
    values_as IsWrittenHost words (found (tests.Test negated (sets.Table name))) h
    (and_from (is_name name) (is_table_name name) is (not-false (is_table_name name) good), tt)

each_host : (facts : HostFacts) → FactsAre facts → (items : List HostItem) (readings : List (Words AddrTest)) → list_all is_form_item items ≡ true → list_any (λ (item : HostItem). is_bad_table item.what) items ≡ false
    → AllZip (HostMeans facts) items readings → Every IsWrittenHost (flat_map (λ (reading : Words AddrTest). reading.values) readings)
each_host facts are [] [] all good h = tt
each_host facts are [] (reading ∷ readings) all good h = absurd h
each_host facts are (item ∷ items) [] all good h = absurd h
each_host facts are (item ∷ items) (reading ∷ readings) all good h =
    let parts = and_parts (is_form_item item) (list_all is_form_item items) all in
    let none = or_parts (is_bad_table item.what) (list_any (λ (other : HostItem). is_bad_table other.what) items) good in
    every_append IsWrittenHost reading.values (flat_map (λ (other : Words AddrTest). other.values) readings)
    (host_is facts are item.negated item.what reading parts.0 none.0 h.0) (each_host facts are items readings parts.1 none.1 h.1)

pub hosts_are : (facts : HostFacts) → FactsAre facts → (items : List HostItem) (words : Words AddrTest) → list_all is_form_item items ≡ true → list_any (λ (item : HostItem). is_bad_table item.what) items ≡ false
    → HostsMean facts items words → Every IsWrittenHost words.values
hosts_are facts are items words all good h = values_as IsWrittenHost words (all_of h.readings) h.are (each_host facts are items h.readings all good h.each)

-- ---- numbers

ok_some : {A E : Type 0} (o : Option A) (fault : E) (value : A) → ok_or o fault ≡ Ok value → o ≡ Some value
ok_some None fault value is = absurd (cc)
ok_some (Some one) fault value is = cc

abbrev Fits : ℕ → ℕ → Type 0
Fits most n = nat_le n most ≡ true

-- the first number of a name
row_number : (most : ℕ) (rows : List (Row ℕ)) (name : List ℕ) (n : ℕ) → Every (NumberIs most) rows → slice_get (values_of rows name) 0 ≡ Some n → Fits most n
row_number most rows name n h is = first_of (Fits most) (values_of rows name) n (of_rows (Fits most) rows name h) is

if_name : (most : ℕ) (b : Bool) (o : Option ℕ) (n : ℕ) → ((k : ℕ) → o ≡ Some k → Fits most k) → if b then o else None ≡ Some n → Fits most n
if_name most true o n each is = each n is
if_name most false o n each is = absurd (cc)

abbrev EndIs : ℕ → Result ℕ FaultKind → Type 0
EndIs most read = (n : ℕ) → read ≡ Ok n → n ≤ most

if_decimal : (b : Bool) (first second : Result ℕ FaultKind) → EndIs most_port first → EndIs most_port second → EndIs most_port (if b then first else second)
if_decimal true first second one other = one
if_decimal false first second one other = other

port_is : (facts : HostFacts) (whole word : List ℕ) → FactsAre facts → EndIs most_port (port_of facts whole word)
unfolding port_of
port_is facts whole word are =
    if_decimal (is_decimal word) (ok_or (decimal_of most_port word) kinds.BadPort) (ok_or (number_named (service_of facts) word) (kinds.UnknownService (named whole)))
    (λ n is. leb-true n most_port (decimal_fits most_port word n (ok_some (decimal_of most_port word) kinds.BadPort n is)))
    (λ n is. leb-true n most_port (if_name most_port (is_name word) (service_of facts word) n (λ k one. row_number most_port facts.services word k are.services one)
    (ok_some (number_named (service_of facts) word) (kinds.UnknownService (named whole)) n is)))

id_row : (facts : HostFacts) (kind : IdKind) (word : List ℕ) (n : ℕ) → FactsAre facts → id_named facts kind word ≡ Some n → Fits most_id n
id_row facts ids.User word n are is = row_number most_id facts.users word n are.users is
id_row facts ids.Group word n are is = row_number most_id facts.groups word n are.groups is

id_is : (facts : HostFacts) (kind : IdKind) (whole word : List ℕ) → FactsAre facts → EndIs most_id (id_of facts kind whole word)
unfolding id_of
id_is facts kind whole word are =
    λ n is. leb-true n most_id (either (Fits most_id) (decimal_of most_id word) (number_named (id_named facts kind) word) n (decimal_fits most_id word)
    (λ k one. if_name most_id (is_name word) (id_named facts kind word) k (λ m other. id_row facts kind word m are other) one)
    (ok_some (option_or (decimal_of most_id word) (number_named (id_named facts kind) word)) (kinds.UnknownUser (named whole)) n is))

below_kept : (top low «end» : ℕ) → «end» ≤ top + 1 → IsKept top (numbers_below low «end»)
below_kept top low «end» h = grind (arith, nat_tests)

joined_kept : (top a b : ℕ) → a ≤ b → b ≤ top → IsKept top (joined (numbers_below 0 a) (numbers_below (b + 1) (top + 1)))
joined_kept top a b h below = grind (arith, nat_tests)

-- the set of an operator is in its kept form
set_of_kept : (top : ℕ) (kind : OpKind) (a b : ℕ) → a ≤ top → b ≤ top → IsKept top (set_of top kind a b)
unfolding set_of
set_of_kept top Equal a b ha hb = below_kept top a (a + 1) (omega arith)
set_of_kept top Other a b ha hb = joined_kept top a a (omega arith) ha
set_of_kept top Below a b ha hb = below_kept top 0 a (omega arith)
set_of_kept top UpTo a b ha hb = below_kept top 0 (a + 1) (omega arith)
set_of_kept top Above a b ha hb = below_kept top (a + 1) (top + 1) (omega arith)
set_of_kept top From a b ha hb = below_kept top a (top + 1) (omega arith)
set_of_kept top Within a b ha hb = below_kept top a (b + 1) (omega arith)
set_of_kept top Between a b ha hb = below_kept top (a + 1) b (omega arith)
set_of_kept top Outside a b ha hb =
    cond_both (nat_lt b a) _ _ (IsKept top)
    (λ _. below_kept top 0 (top + 1) (omega arith))
    (λ h. joined_kept top a b (omega (arith, ltb-false)) hb)

if_falls : (top : ℕ) (falling : FaultKind) (set : Numbers) (b : Bool) → IsKept top set → Every (IsKept top) (if b then failed falling else found set).values
if_falls top falling set true kept = tt
if_falls top falling set false kept = (kept, tt)

between_is : (top : ℕ) (falling : FaultKind) (kind : OpKind) (low high : Result ℕ FaultKind) → EndIs top low → EndIs top high → Every (IsKept top) (between top falling kind low high).values
between_is top falling kind (Ok low) (Ok high) one other = if_falls top falling (set_of top kind low high) (numbers.falls kind low high) (set_of_kept top kind low high (one low refl) (other high refl))
between_is top falling kind (Ok low) (Err fault) one other = tt
between_is top falling kind (Err fault) (Ok high) one other = tt
between_is top falling kind (Err fault) (Err second) one other = tt

zero_fits : (top : ℕ) → EndIs top (Ok 0)
zero_fits top n is = let same : 0 ≡ n = cc in omega arith

second_is : (top : ℕ) (b : Bool) (high : Result ℕ FaultKind) → EndIs top high → EndIs top (if b then high else Ok 0)
second_is top true high is = is
second_is top false high is = zero_fits top

-- what each item gives
pub every_item : {I X : Type 0} (P : X → Type 0) (Q : I → Type 0) (means : I → Words X) → ((item : I) → Q item → Every P (means item).values) → (items : List I) → Every Q items → Every P (all_of (map means items)).values
every_item P Q means each [] h = tt
every_item {X = X} P Q means each (item ∷ items) h =
    every_append P (means item).values (flat_map (λ (reading : Words X). reading.values) (map means items)) (each item h.0) (every_item P Q means each items h.1)

any_items : {I : Type 0} (items : List I) → Every (λ item. Unit {0}) items
any_items [] = tt
any_items (item ∷ items) = (tt, any_items items)

pub ports_are : (facts : HostFacts) → FactsAre facts → (items : List OpItem) → Every (IsKept most_port) (port_tests facts items).values
ports_are facts are items =
    every_item (IsKept most_port) (λ item. Unit {0}) (port_test facts)
    (λ item any. between_is most_port kinds.BadPort item.kind (port_of facts (shown item item.low) item.low) (second_end item.kind (port_of facts (shown item item.high) item.high))
    (port_is facts (shown item item.low) item.low are) (second_is most_port (has_two item.kind) (port_of facts (shown item item.high) item.high) (port_is facts (shown item item.high) item.high are)))
    items (any_items items)

pub ids_are : (facts : HostFacts) → FactsAre facts → (kind : IdKind) (items : List OpItem) → Every (IsKept most_id) (id_tests facts kind items).values
ids_are facts are kind items =
    every_item (IsKept most_id) (λ item. Unit {0}) (id_test facts kind)
    (λ item any. between_is most_id (kinds.UnknownUser (named (shown item item.low))) item.kind (id_of facts kind (shown item item.low) item.low) (second_end item.kind (id_of facts kind (shown item item.high) item.high))
    (id_is facts kind (shown item item.low) item.low are) (second_is most_id (has_two item.kind) (id_of facts kind (shown item item.high) item.high) (id_is facts kind (shown item item.high) item.high are)))
    items (any_items items)

-- ---- protocols and ICMP types

one_value : {X : Type 0} (P : X → Type 0) (answer : Result X FaultKind) → ((x : X) → answer ≡ Ok x → P x) → Every P (of_one answer).values
one_value P (Ok x) each = (each x refl, tt)
one_value P (Err fault) each = tt

protocols_fit : list_all (λ (entry : Entry). is_byte entry.number) protocols ≡ true
unfolding protocols
protocols_fit = refl

proto_is : (word : List ℕ) → Every (Passes is_byte) (proto word).values
proto_is word =
    one_value (Passes is_byte) (ok_or (proto_of word) (kinds.UnknownProto word))
    (λ n is. either (Passes is_byte) (decimal_of 255 word) (number_of protocols word) n (decimal_fits 255 word) (λ k one. entry_says is_byte protocols word k protocols_fit one)
    (ok_some (proto_of word) (kinds.UnknownProto word) n is))

pub protos_are : (words : List (List ℕ)) → Every (Passes is_byte) (protos words).values
protos_are words = every_item (Passes is_byte) (λ word. Unit {0}) proto (λ word any. proto_is word) words (any_items words)

types_fit : (family : Family) → list_all (λ (entry : Entry). is_byte entry.number) (icmp_types family) ≡ true
unfolding icmp4_types icmp6_types
types_fit Inet = refl
types_fit Inet6 = refl

kind_fits : (family : Family) (word : List ℕ) (n : ℕ) → icmp_of family word ≡ Some n → is_byte n ≡ true
kind_fits family word n is =
    either (Passes is_byte) (decimal_of 255 word) (number_of (icmp_types family) word) n (decimal_fits 255 word) (λ k one. entry_says is_byte (icmp_types family) word k (types_fit family) one) is

code_given : (read : Option ℕ) (code : Option ℕ) → ((n : ℕ) → read ≡ Some n → is_byte n ≡ true) → ◌≡◌ {A = Option (Option ℕ)} (option_map Some read) (Some code) → if_given is_byte code ≡ true
code_given None code each is = absurd (cc)
code_given (Some n) code each is = let same : Some n ≡ code = cc in subst (λ (o : Option ℕ). if_given is_byte o ≡ true) same (each n refl)

code_fits : (word : Option (List ℕ)) (code : Option ℕ) → ◌≡◌ {A = Option (Option ℕ)} (code_of word) (Some code) → if_given is_byte code ≡ true
code_fits None code is = let same : None ≡ code = cc in subst (λ (o : Option ℕ). if_given is_byte o ≡ true) same refl
code_fits (Some word) code is = code_given (decimal_of 255 word) code (decimal_fits 255 word) is

-- a type in its ranges, whose family's protocol is the only one of these
pub record IcmpIs (protocols : List ℕ) (icmp : IcmpType) : Type 0 where
  pub written : is_written_icmp icmp ≡ true
  pub only : only_for (λ proto. proto == icmp_proto icmp.family) protocols ≡ true

icmp_with_is : (all : List ℕ) (family : Family) (kind : Option ℕ) (code : Option (Option ℕ)) → only_for (λ proto. proto == icmp_proto family) all ≡ true
    → ((n : ℕ) → kind ≡ Some n → is_byte n ≡ true) → ((c : Option ℕ) → ◌≡◌ {A = Option (Option ℕ)} code (Some c) → if_given is_byte c ≡ true) → Every (IcmpIs all) (icmp_with family kind code).values
icmp_with_is all family (Some kind) (Some code) only first second =
    (record { written = and_from (is_byte kind) (if_given is_byte code) (first kind refl) (second code refl); only = only }, tt)
icmp_with_is all family (Some kind) None only first second = tt
icmp_with_is all family None code only first second = tt

needs_not : (all : List ℕ) (items : List IcmpItem) → list_any (λ (item : IcmpItem). not (only_for (λ proto. proto == icmp_proto item.family) all)) items ≡ false
    → Every (λ (item : IcmpItem). only_for (λ proto. proto == icmp_proto item.family) all ≡ true) items
needs_not all [] sound = tt
needs_not all (item ∷ items) sound =
    let parts = or_parts (not (only_for (λ proto. proto == icmp_proto item.family) all)) (list_any (λ (other : IcmpItem). not (only_for (λ proto. proto == icmp_proto other.family) all)) items) sound in
    (not-false (only_for (λ proto. proto == icmp_proto item.family) all) parts.0, needs_not all items parts.1)

pub icmps_are : (all : List ℕ) (items : List IcmpItem) → list_any (λ (item : IcmpItem). not (only_for (λ proto. proto == icmp_proto item.family) all)) items ≡ false → Every (IcmpIs all) (icmps items).values
icmps_are all items none =
    every_item (IcmpIs all) (λ (item : IcmpItem). only_for (λ proto. proto == icmp_proto item.family) all ≡ true) icmp
    (λ item only. icmp_with_is all item.family (icmp_of item.family item.word) (code_of item.code) only (kind_fits item.family item.word) (code_fits item.code)) items (needs_not all items none)

-- ---- targets of translations

-- a target has a port only where one is written
pub record TargetIs (written : Option TargetWords) (target : Target) : Type 0 where
  pub fits : IsWrittenTarget target
  pub ported : is_some target.port ≡ true → target_has_port written ≡ true

abbrev PortIs : Option (List ℕ) → Option ℕ → Type 0
PortIs written port = (if_given is_port port ≡ true) × (is_some port ≡ true → is_some written ≡ true)

as_some_is : (word : List ℕ) (read : Result ℕ FaultKind) (port : Option ℕ) → EndIs most_port read → ◌≡◌ {A = Result (Option ℕ) FaultKind} (as_some read) (Ok port) → PortIs (Some word) port
as_some_is word (Ok n) port is same =
    let equal : Some n ≡ port = cc in
    (subst (λ (o : Option ℕ). if_given is_port o ≡ true) equal (le-leb n 65535 (is n refl)), λ some. refl)
as_some_is word (Err fault) port is same = absurd (cc)

target_port_is : (facts : HostFacts) → FactsAre facts → (written : Option (List ℕ)) (port : Option ℕ) → ◌≡◌ {A = Result (Option ℕ) FaultKind} (target_port facts written) (Ok port) → PortIs written port
target_port_is facts are None port same =
    let equal : None ≡ port = cc in
    (subst (λ (o : Option ℕ). if_given is_port o ≡ true) equal refl, λ some. let none : is_some port ≡ false = ap is_some (sym equal) in absurd (cc))
target_port_is facts are (Some word) port same = as_some_is word (port_of facts word word) port (port_is facts word word are) same

target_is : (written : Option (List ℕ)) (addr : Result Addr FaultKind) (port : Result (Option ℕ) FaultKind) (words : TargetWords) → words.port ≡ written → AddressIs addr
    → ((p : Option ℕ) → ◌≡◌ {A = Result (Option ℕ) FaultKind} port (Ok p) → PortIs written p) → Every (TargetIs (Some words)) (target_of addr port).values
target_is written (Ok addr) (Ok port) words has is ports =
    let one = ports port refl in
    (record { fits = record { addr = is; port = one.0 }; ported = λ some. ap is_some has ∙ one.1 some }, tt)
target_is written (Ok addr) (Err fault) words has is ports = tt
target_is written (Err fault) (Ok port) words has is ports = tt
target_is written (Err fault) (Err second) words has is ports = tt

pub translation_is : (facts : HostFacts) → FactsAre facts → (written : Option TargetWords) (words : Words Target) → TranslationMeans facts written words → Every (TargetIs written) words.values
translation_is facts are None words h = values_as (TargetIs None) words none h tt
translation_is facts are (Some target) words h =
    values_as (TargetIs (Some target)) words (target_of h.addr (target_port facts target.port)) h.are
    (target_is target.port h.addr (target_port facts target.port) target refl (address_means target.addr h.addr h.address) (target_port_is facts are target.port))
