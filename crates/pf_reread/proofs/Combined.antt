-- What the criteria of a statement's combinations test, each test by itself.
use Rattle.std.proofs.Common.{◌≡◌, ℕ, Bool, true, false, List, [], ◌∷◌, ◌++◌, map, filter, Option, if◌then◌else◌, refl, sym, ◌∙◌}
use Rattle.std.specs.Prelude.{◌||◌, is_some}
use Rattle.std.specs.List.{filter_map, flat_map, list_all, list_any, slice_get}
use Rattle.std.proofs.lemmas.Bool.{and_from, and_parts, or_left, or_right}
use Rattle.std.proofs.lemmas.List.Folds.{list_all-append}
use Rattle.pf_base.specs.declared.kind.Family.{Family}
use Rattle.pf_base.specs.declared.kind.Family.TheVariants.{Inet, Inet6}
use Rattle.pf_combine.specs.Combinations.{combined, criteria_of, families, is_one, is_same, product}
use Rattle.pf_combine.specs.Members.{names, with_member, with_members}
use Rattle.pf_combine.specs.declared.member.Member.{Member}
use Rattle.pf_combine.specs.declared.member.Member.TheVariants as members
use Rattle.pf_expand.specs.Expansion.{list_if}
use Rattle.pf_expand.specs.Lists.{is_empty}
use Rattle.pf_expand.specs.Written.{is_of}
use Rattle.pf_form.specs.declared.form.RuleForm.{RuleForm}
use Rattle.pf_ops.specs.Numbers.{IsKept}
use Rattle.pf_ops.specs.declared.flags.IcmpType.{IcmpType}
use Rattle.pf_ops.specs.declared.numbers.Numbers.{Numbers}
use Rattle.pf_parts.specs.declared.matching.IfTest.{IfTest}
use Rattle.pf_parts.specs.declared.matching.TagTest.{TagTest}
use Rattle.pf_rule.specs.declared.criteria.AddrTest.{AddrTest}
use Rattle.pf_rule.specs.declared.criteria.Criteria.{Criteria}
use Rattle.pf_reread.specs.Written.{IfGiven, IsWrittenHost, if_given, is_byte, is_prio, is_written_iface, is_written_tag_test}
use Rattle.pf_reread.proofs.Every.{Every, every_append}
use Rattle.pf_reread.proofs.WordValues.{IcmpIs}

-- ---- what a member gives

-- a protocol that is one of these
pub record ProtoIs (protocols : List ℕ) (number : ℕ) : Type 0 where
  pub fits : is_byte number ≡ true
  pub one : (test : ℕ → Bool) → list_all test protocols ≡ true → test number ≡ true

-- ports that are tested because the statement has a list of them
pub record PortsAre {I : Type 0} (items : List I) (ports : Numbers) : Type 0 where
  pub kept : IsKept 65535 ports
  pub listed : is_empty items ≡ false

abbrev pub MemberIs : RuleForm → List ℕ → Member → Type 0
MemberIs form protocols (members.Iface test) = is_written_iface test ≡ true
MemberIs form protocols (members.Proto number) = ProtoIs protocols number
MemberIs form protocols (members.Icmp icmp) = IcmpIs protocols icmp
MemberIs form protocols (members.Source test) = IsWrittenHost test
MemberIs form protocols (members.SourcePort ports) = PortsAre form.source_ports ports
MemberIs form protocols (members.Target test) = IsWrittenHost test
MemberIs form protocols (members.TargetPort ports) = PortsAre form.target_ports ports
MemberIs form protocols (members.User ids) = IsKept 4294967295 ids
MemberIs form protocols (members.Group ids) = IsKept 4294967295 ids

pub record TestsAre
    (form : RuleForm) (protocols : List ℕ) (iface : IfTest) (proto : Option ℕ) (source : AddrTest) (source_port : Option Numbers) (target : AddrTest) (target_port : Option Numbers)
    (user group : Option Numbers) (icmp : Option IcmpType) (tos prio : Option ℕ) (tagged : TagTest) : Type 0 where
  pub iface_is : is_written_iface iface ≡ true
  pub proto_is : IfGiven (ProtoIs protocols) proto
  pub source_is : IsWrittenHost source
  pub source_port_is : IfGiven (PortsAre form.source_ports) source_port
  pub target_is : IsWrittenHost target
  pub target_port_is : IfGiven (PortsAre form.target_ports) target_port
  pub user_is : IfGiven (IsKept 4294967295) user
  pub group_is : IfGiven (IsKept 4294967295) group
  pub icmp_is : IfGiven (IcmpIs protocols) icmp
  pub tos_is : if_given is_byte tos ≡ true
  pub prio_is : if_given is_prio prio ≡ true
  pub tagged_is : is_written_tag_test tagged ≡ true

abbrev pub CriteriaAre : RuleForm → List ℕ → Criteria → Type 0
CriteriaAre form protocols criteria =
    TestsAre form protocols criteria.iface criteria.proto criteria.source criteria.source_port criteria.target criteria.target_port criteria.user criteria.group criteria.icmp
    criteria.tos criteria.prio criteria.tagged

with_is : (form : RuleForm) (protocols : List ℕ) (criteria : Criteria) (member : Member) → CriteriaAre form protocols criteria → MemberIs form protocols member → CriteriaAre form protocols (with_member criteria member)
with_is form protocols criteria (members.Iface test) h k = record {
  iface_is = k;
  proto_is = h.proto_is;
  source_is = h.source_is;
  source_port_is = h.source_port_is;
  target_is = h.target_is;
  target_port_is = h.target_port_is;
  user_is = h.user_is;
  group_is = h.group_is;
  icmp_is = h.icmp_is;
  tos_is = h.tos_is;
  prio_is = h.prio_is;
  tagged_is = h.tagged_is;
}
with_is form protocols criteria (members.Proto number) h k = record {
  proto_is = k;
  iface_is = h.iface_is;
  source_is = h.source_is;
  source_port_is = h.source_port_is;
  target_is = h.target_is;
  target_port_is = h.target_port_is;
  user_is = h.user_is;
  group_is = h.group_is;
  icmp_is = h.icmp_is;
  tos_is = h.tos_is;
  prio_is = h.prio_is;
  tagged_is = h.tagged_is;
}
with_is form protocols criteria (members.Icmp icmp) h k = record {
  icmp_is = k;
  iface_is = h.iface_is;
  proto_is = h.proto_is;
  source_is = h.source_is;
  source_port_is = h.source_port_is;
  target_is = h.target_is;
  target_port_is = h.target_port_is;
  user_is = h.user_is;
  group_is = h.group_is;
  tos_is = h.tos_is;
  prio_is = h.prio_is;
  tagged_is = h.tagged_is;
}
with_is form protocols criteria (members.Source test) h k = record {
  source_is = k;
  iface_is = h.iface_is;
  proto_is = h.proto_is;
  source_port_is = h.source_port_is;
  target_is = h.target_is;
  target_port_is = h.target_port_is;
  user_is = h.user_is;
  group_is = h.group_is;
  icmp_is = h.icmp_is;
  tos_is = h.tos_is;
  prio_is = h.prio_is;
  tagged_is = h.tagged_is;
}
with_is form protocols criteria (members.SourcePort ports) h k = record {
  source_port_is = k;
  iface_is = h.iface_is;
  proto_is = h.proto_is;
  source_is = h.source_is;
  target_is = h.target_is;
  target_port_is = h.target_port_is;
  user_is = h.user_is;
  group_is = h.group_is;
  icmp_is = h.icmp_is;
  tos_is = h.tos_is;
  prio_is = h.prio_is;
  tagged_is = h.tagged_is;
}
with_is form protocols criteria (members.Target test) h k = record {
  target_is = k;
  iface_is = h.iface_is;
  proto_is = h.proto_is;
  source_is = h.source_is;
  source_port_is = h.source_port_is;
  target_port_is = h.target_port_is;
  user_is = h.user_is;
  group_is = h.group_is;
  icmp_is = h.icmp_is;
  tos_is = h.tos_is;
  prio_is = h.prio_is;
  tagged_is = h.tagged_is;
}
with_is form protocols criteria (members.TargetPort ports) h k = record {
  target_port_is = k;
  iface_is = h.iface_is;
  proto_is = h.proto_is;
  source_is = h.source_is;
  source_port_is = h.source_port_is;
  target_is = h.target_is;
  user_is = h.user_is;
  group_is = h.group_is;
  icmp_is = h.icmp_is;
  tos_is = h.tos_is;
  prio_is = h.prio_is;
  tagged_is = h.tagged_is;
}
with_is form protocols criteria (members.User ids) h k = record {
  user_is = k;
  iface_is = h.iface_is;
  proto_is = h.proto_is;
  source_is = h.source_is;
  source_port_is = h.source_port_is;
  target_is = h.target_is;
  target_port_is = h.target_port_is;
  group_is = h.group_is;
  icmp_is = h.icmp_is;
  tos_is = h.tos_is;
  prio_is = h.prio_is;
  tagged_is = h.tagged_is;
}
with_is form protocols criteria (members.Group ids) h k = record {
  group_is = k;
  iface_is = h.iface_is;
  proto_is = h.proto_is;
  source_is = h.source_is;
  source_port_is = h.source_port_is;
  target_is = h.target_is;
  target_port_is = h.target_port_is;
  user_is = h.user_is;
  icmp_is = h.icmp_is;
  tos_is = h.tos_is;
  prio_is = h.prio_is;
  tagged_is = h.tagged_is;
}

with_all : (form : RuleForm) (protocols : List ℕ) (criteria : Criteria) (list : List Member) → CriteriaAre form protocols criteria → Every (MemberIs form protocols) list → CriteriaAre form protocols (with_members criteria list)
with_all form protocols criteria [] h k = h
with_all form protocols criteria (member ∷ list) h k = with_all form protocols (with_member criteria member) list (with_is form protocols criteria member h k.0) k.1

-- ---- the protocol of a combination

abbrev is_proto : Member → Bool
is_proto (members.Proto number) = true
is_proto (members.Iface test) = false
is_proto (members.Icmp icmp) = false
is_proto (members.Source test) = false
is_proto (members.SourcePort ports) = false
is_proto (members.Target test) = false
is_proto (members.TargetPort ports) = false
is_proto (members.User ids) = false
is_proto (members.Group ids) = false

abbrev pub HasProto : List Member → Type 0
HasProto list = list_any is_proto list ≡ true

proto_stays : (criteria : Criteria) (member : Member) → is_some criteria.proto ≡ true → is_some (with_member criteria member).proto ≡ true
proto_stays criteria (members.Proto number) some = refl
proto_stays criteria (members.Iface test) some = some
proto_stays criteria (members.Icmp icmp) some = some
proto_stays criteria (members.Source test) some = some
proto_stays criteria (members.SourcePort ports) some = some
proto_stays criteria (members.Target test) some = some
proto_stays criteria (members.TargetPort ports) some = some
proto_stays criteria (members.User ids) some = some
proto_stays criteria (members.Group ids) some = some

proto_kept : (criteria : Criteria) (list : List Member) → is_some criteria.proto ≡ true → is_some (with_members criteria list).proto ≡ true
proto_kept criteria [] some = some
proto_kept criteria (member ∷ list) some = proto_kept (with_member criteria member) list (proto_stays criteria member some)

proto_given : (criteria : Criteria) (list : List Member) → HasProto list → is_some (with_members criteria list).proto ≡ true
proto_given criteria [] has = absurd (cc)
proto_given criteria (members.Proto number ∷ list) has = proto_kept (with_member criteria (members.Proto number)) list refl
proto_given criteria (members.Iface test ∷ list) has = proto_given (with_member criteria (members.Iface test)) list has
proto_given criteria (members.Icmp icmp ∷ list) has = proto_given (with_member criteria (members.Icmp icmp)) list has
proto_given criteria (members.Source test ∷ list) has = proto_given (with_member criteria (members.Source test)) list has
proto_given criteria (members.SourcePort ports ∷ list) has = proto_given (with_member criteria (members.SourcePort ports)) list has
proto_given criteria (members.Target test ∷ list) has = proto_given (with_member criteria (members.Target test)) list has
proto_given criteria (members.TargetPort ports ∷ list) has = proto_given (with_member criteria (members.TargetPort ports)) list has
proto_given criteria (members.User ids ∷ list) has = proto_given (with_member criteria (members.User ids)) list has
proto_given criteria (members.Group ids ∷ list) has = proto_given (with_member criteria (members.Group ids)) list has

-- ---- combinations

pub every_both : {A : Type 0} (P Q : A → Type 0) (xs : List A) → Every P xs → Every Q xs → Every (λ a. P a × Q a) xs
every_both P Q [] h k = tt
every_both P Q (x ∷ xs) h k = ((h.0, k.0), every_both P Q xs h.1 k.1)

-- one member of each list
in_front : (P : Member → Type 0) (member : Member) (lists : List (List Member)) → P member → Every (Every P) lists → Every (Every P) (map (λ others. member ∷ others) lists)
in_front P member [] h k = tt
in_front P member (others ∷ lists) h k = ((h, k.0), in_front P member lists h k.1)

each_in_front : (P : Member → Type 0) (lists : List (List Member)) → Every (Every P) lists → (some : List Member) → Every P some → Every (Every P) (flat_map (λ member. map (λ others. member ∷ others) lists) some)
each_in_front P lists h [] k = tt
each_in_front P lists h (member ∷ some) k =
    every_append (Every P) (map (λ others. member ∷ others) lists) (flat_map (λ member. map (λ others. member ∷ others) lists) some) (in_front P member lists k.0 h) (each_in_front P lists h some k.1)

pub product_of : (P : Member → Type 0) (lists : List (List Member)) → Every (Every P) lists → Every (Every P) (product lists)
product_of P [] h = (tt, tt)
product_of P (list ∷ lists) h = each_in_front P (product lists) (product_of P lists h.1) list h.0

any_in_front : (member : Member) (lists : List (List Member)) → Every HasProto lists → Every HasProto (map (λ others. member ∷ others) lists)
any_in_front member [] h = tt
any_in_front member (others ∷ lists) h = (or_right (is_proto member) (list_any is_proto others) h.0, any_in_front member lists h.1)

any_of_each : (lists : List (List Member)) → Every HasProto lists → (some : List Member) → Every HasProto (flat_map (λ member. map (λ others. member ∷ others) lists) some)
any_of_each lists h [] = tt
any_of_each lists h (member ∷ some) =
    every_append HasProto (map (λ others. member ∷ others) lists) (flat_map (λ member. map (λ others. member ∷ others) lists) some) (any_in_front member lists h) (any_of_each lists h some)

proto_in_front : (member : Member) (lists : List (List Member)) → is_proto member ≡ true → Every HasProto (map (λ others. member ∷ others) lists)
proto_in_front member [] is = tt
proto_in_front member (others ∷ lists) is = (or_left (is_proto member) (list_any is_proto others) is, proto_in_front member lists is)

protos_in_front : (lists : List (List Member)) (some : List Member) → list_all is_proto some ≡ true → Every HasProto (flat_map (λ member. map (λ others. member ∷ others) lists) some)
protos_in_front lists [] all = tt
protos_in_front lists (member ∷ some) all =
    let parts = and_parts (is_proto member) (list_all is_proto some) all in
    every_append HasProto (map (λ others. member ∷ others) lists) (flat_map (λ member. map (λ others. member ∷ others) lists) some) (proto_in_front member lists parts.0) (protos_in_front lists some parts.1)

abbrev pub are_protos : List Member → Bool
are_protos list = list_all is_proto list

by_first : (list : List Member) (lists : List (List Member)) (b : Bool) → are_protos list ≡ b → ((list_any are_protos lists ≡ true) → Every HasProto (product lists)) → (b || list_any are_protos lists) ≡ true
    → Every HasProto (product (list ∷ lists))
by_first list lists true is below any = protos_in_front (product lists) list is
by_first list lists false is below any = any_of_each (product lists) (below any) list

-- where one of the lists is of protocols, each combination has one
pub product_protos : (lists : List (List Member)) → list_any are_protos lists ≡ true → Every HasProto (product lists)
product_protos [] any = absurd (cc)
product_protos (list ∷ lists) any = by_first list lists (are_protos list) refl (product_protos lists) any

all_protos : (numbers : List ℕ) → are_protos (map members.Proto numbers) ≡ true
all_protos [] = refl
all_protos (number ∷ numbers) = all_protos numbers

-- the list of protocols, where one is written
pub protos_listed : {I : Type 0} (items : List I) (numbers : List ℕ) → is_empty items ≡ false → list_any are_protos (list_if items (map members.Proto numbers)) ≡ true
protos_listed [] numbers some = absurd (cc)
protos_listed (item ∷ items) numbers some = or_left (are_protos (map members.Proto numbers)) false (all_protos numbers)

first_or_rest : (b c d : Bool) → (c ≡ true → d ≡ true) → (b || c) ≡ true → (b || d) ≡ true
first_or_rest true c d more is = refl
first_or_rest false c d more is = more is

pub any_first : (first second : List (List Member)) → list_any are_protos first ≡ true → list_any are_protos (first ++ second) ≡ true
any_first [] second any = absurd (cc)
any_first (list ∷ first) second any = first_or_rest (are_protos list) (list_any are_protos first) (list_any are_protos (first ++ second)) (any_first first second) any

pub any_second : (first second : List (List Member)) → list_any are_protos second ≡ true → list_any are_protos (first ++ second) ≡ true
any_second [] second any = any
any_second (list ∷ first) second any = or_right (are_protos list) (list_any are_protos (first ++ second)) (any_second first second any)

-- ---- families

same_itself : (family : Family) → is_same family family ≡ true
same_itself Inet = refl
same_itself Inet6 = refl

first_is_all : (list : List Family) → is_one list ≡ true → list_all (is_of (slice_get list 0)) list ≡ true
first_is_all [] h = refl
first_is_all (family ∷ list) h = and_from (is_same family family) (list_all (is_same family) list) (same_itself family) h

-- the families that the statement names as a whole are the combination's
named_families : (named : List Family) (list : List Member) → is_one (families named list) ≡ true → list_all (is_of (slice_get (families named list) 0)) named ≡ true
named_families named list one =
    let whole = slice_get (families named list) 0 in
    (and_parts (list_all (is_of whole) named) (list_all (is_of whole) (filter_map names list))
    (sym (list_all-append (is_of whole) named (filter_map names list)) ∙ first_is_all (families named list) one)).0

-- ---- all of it

pub record CombinationIs (form : RuleForm) (protocols : List ℕ) (named : List Family) (criteria : Criteria) : Type 0 where
  pub tests : CriteriaAre form protocols criteria
  pub proto : is_empty form.protos ≡ false → is_some criteria.proto ≡ true
  pub named_are : list_all (is_of criteria.family) named ≡ true

abbrev pub ChoiceIs : RuleForm → List ℕ → List Member → Type 0
ChoiceIs form protocols list = Every (MemberIs form protocols) list × (is_empty form.protos ≡ false → HasProto list)

of_choice : (form : RuleForm) (protocols : List ℕ) (named : List Family) (start : Criteria) → CriteriaAre form protocols start → (list : List Member) → ChoiceIs form protocols list → is_one (families named list) ≡ true
    → CombinationIs form protocols named (criteria_of named start list)
of_choice form protocols named start h list choice one = record {
  tests = with_all form protocols start list h choice.0;
  proto = λ some. proto_given start list (choice.1 some);
  named_are = named_families named list one;
}

kept_one : {A B : Type 0} (K : A → Bool) (P : B → Type 0) (give : A → B) (x : A) (xs : List A) (b : Bool) → K x ≡ b → (K x ≡ true → P (give x)) → Every P (map give xs) → Every P (map give (if b then x ∷ xs else xs))
kept_one K P give x xs true h each later = (each h, later)
kept_one K P give x xs false h each later = later

kept_of : {A B : Type 0} (K : A → Bool) (P : B → Type 0) (Q : A → Type 0) (give : A → B) → ((a : A) → Q a → K a ≡ true → P (give a)) → (xs : List A) → Every Q xs → Every P (map give (filter K xs))
kept_of K P Q give each [] h = tt
kept_of K P Q give each (x ∷ xs) h = kept_one K P give x (filter K xs) (K x) refl (each x h.0) (kept_of K P Q give each xs h.1)

pub combined_are : (form : RuleForm) (protocols : List ℕ) (named : List Family) (start : Criteria) → CriteriaAre form protocols start → (lists : List (List Member)) → Every (ChoiceIs form protocols) (product lists)
    → Every (CombinationIs form protocols named) (combined named start lists)
combined_are form protocols named start h lists choices =
    kept_of (λ list. is_one (families named list)) (CombinationIs form protocols named) (ChoiceIs form protocols) (criteria_of named start) (of_choice form protocols named start h) (product lists) choices
