-- The criteria of a statement are of one family or of none: each family that they test is theirs.
use Rattle.std.proofs.Common.{◌≡◌, ℕ, Bool, true, false, ◌&&◌, List, [], ◌∷◌, ◌++◌, map, filter, Option, Some, None, if◌then◌else◌, refl, sym, ap, ◌∙◌}
use Rattle.std.specs.List.{cons_option, filter_map, list_all, slice_get}
use Rattle.std.specs.Option.{option_map, option_to_list}
use Rattle.std.proofs.lemmas.List.Folds.{list_all-append}
use Rattle.pf_base.specs.declared.kind.Family.{Family}
use Rattle.pf_base.specs.declared.kind.Family.TheVariants.{Inet, Inet6}
use Rattle.pf_addr.specs.Addr.{family_of}
use Rattle.pf_addr.specs.declared.prefix.Prefix.{Prefix}
use Rattle.pf_form.specs.declared.form.Head.{Head}
use Rattle.pf_form.specs.declared.form.Head.TheVariants as heads
use Rattle.pf_form.specs.declared.form.RuleForm.{RuleForm}
use Rattle.pf_host.specs.Facts.{HostFacts}
use Rattle.pf_host.specs.Queries.{in_group, is_meant, own_addresses}
use Rattle.pf_parts.specs.declared.matching.IfTest.{IfTest}
use Rattle.pf_parts.specs.declared.matching.IfTest.TheVariants as ifaces
use Rattle.pf_rule.specs.declared.criteria.Criteria.{Criteria}
use Rattle.pf_combine.specs.Antispoof.{elsewhere, from_prefix, loopback, of_iface, of_test, of_written}
use Rattle.pf_combine.specs.Combinations.{combined, criteria_of, families, is_one, is_same, product}
use Rattle.pf_combine.specs.Members.{family_of_test, names, with_member, with_members}
use Rattle.pf_combine.specs.declared.member.Member.{Member}
use Rattle.pf_combine.specs.declared.member.Member.TheVariants as members
use Rattle.pf_expand.specs.Expansion.{all_criteria, lists_of, written_families}
use Rattle.pf_expand.specs.Rules.{start_of}
use Rattle.pf_expand.specs.Written.{icmp_family, is_of, tested_families}
use Rattle.pf_expand.specs.declared.readings.Readings.{Readings}
use Rattle.pf_expand.proofs.Every.{Every, both, every_append, every_flat}

-- a family that is named, if any, is the whole's
abbrev Of : Option Family → Option Family → Type 0
Of whole None = Unit {0}
Of whole (Some family) = is_of whole family ≡ true

-- what a rule tests is of this family
abbrev pub Tests : Option Family → Criteria → Type 0
Tests whole criteria = Of whole (option_map icmp_family criteria.icmp) × (Of whole (family_of_test criteria.source) × Of whole (family_of_test criteria.target))

same_itself : (family : Family) → is_same family family ≡ true
same_itself Inet = refl
same_itself Inet6 = refl

left_part : (a b : Bool) → (a && b) ≡ true → a ≡ true
left_part true b h = refl
left_part false b h = h

right_part : (a b : Bool) → (a && b) ≡ true → b ≡ true
right_part true b h = h
right_part false b h = absurd (cc)

first_is_all : (list : List Family) → is_one list ≡ true → list_all (is_of (slice_get list 0)) list ≡ true
first_is_all [] h = refl
first_is_all (family ∷ list) h = both (is_same family family) (list_all (is_same family) list) (same_itself family) h

one_named : (whole named : Option Family) (rest : List Family) → list_all (is_of whole) (cons_option named rest) ≡ true → Of whole named × (list_all (is_of whole) rest ≡ true)
one_named whole None rest h = (tt, h)
one_named whole (Some family) rest h = (left_part (is_of whole family) (list_all (is_of whole) rest) h, right_part (is_of whole family) (list_all (is_of whole) rest) h)

each_named : (whole : Option Family) (list : List Member) → list_all (is_of whole) (filter_map names list) ≡ true → Every (λ member. Of whole (names member)) list
each_named whole [] h = tt
each_named whole (member ∷ list) h =
    let parts = one_named whole (names member) (filter_map names list) h in
    (parts.0, each_named whole list parts.1)

with_tests : (whole : Option Family) (criteria : Criteria) (member : Member) → Tests whole criteria → Of whole (names member) → Tests whole (with_member criteria member)
with_tests whole criteria (members.Icmp icmp) h k = (k, h.1)
with_tests whole criteria (members.Source test) h k = (h.0, (k, h.1.1))
with_tests whole criteria (members.Target test) h k = (h.0, (h.1.0, k))
with_tests whole criteria (members.Iface test) h k = h
with_tests whole criteria (members.Proto number) h k = h
with_tests whole criteria (members.SourcePort ports) h k = h
with_tests whole criteria (members.TargetPort ports) h k = h
with_tests whole criteria (members.User ids) h k = h
with_tests whole criteria (members.Group ids) h k = h

with_all_tests : (whole : Option Family) (criteria : Criteria) (list : List Member) → Tests whole criteria → Every (λ member. Of whole (names member)) list → Tests whole (with_members criteria list)
with_all_tests whole criteria [] h k = h
with_all_tests whole criteria (member ∷ list) h k = with_all_tests whole (with_member criteria member) list (with_tests whole criteria member h k.0) k.1

-- the criteria test their own family
abbrev pub Itself : Criteria → Type 0
Itself criteria = Tests criteria.family criteria

of_combination : (named : List Family) (start : Criteria) → ((whole : Option Family) → Tests whole start) → (list : List Member) → is_one (families named list) ≡ true → Itself (criteria_of named start list)
of_combination named start none list h =
    let whole = slice_get (families named list) 0 in
    let all = sym (list_all-append (is_of whole) named (filter_map names list)) ∙ first_is_all (families named list) h in
    with_all_tests whole start list (none whole) (each_named whole list (right_part (list_all (is_of whole) named) (list_all (is_of whole) (filter_map names list)) all))

kept_one : {A B : Type 0} (K : A → Bool) (P : B → Type 0) (give : A → B) (x : A) (xs : List A) (b : Bool) → K x ≡ b → (K x ≡ true → P (give x)) → Every P (map give xs) → Every P (map give (if b then x ∷ xs else xs))
kept_one K P give x xs true h each later = (each h, later)
kept_one K P give x xs false h each later = later

kept_of : {A B : Type 0} (K : A → Bool) (P : B → Type 0) (give : A → B) → ((a : A) → K a ≡ true → P (give a)) → (xs : List A) → Every P (map give (filter K xs))
kept_of K P give each [] = tt
kept_of K P give each (x ∷ xs) = kept_one K P give x (filter K xs) (K x) refl (each x) (kept_of K P give each xs)

of_all : (named : List Family) (start : Criteria) → ((whole : Option Family) → Tests whole start) → (lists : List (List Member)) → Every Itself (combined named start lists)
of_all named start none lists = kept_of (λ list. is_one (families named list)) Itself (criteria_of named start) (of_combination named start none) (product lists)

-- ---- criteria of `antispoof`

of_prefixes : (start : Criteria) (test : IfTest) → ((whole : Option Family) → Tests whole start) → (prefixes : List Prefix) → Every Itself (map (from_prefix start test) prefixes)
of_prefixes start test none [] = tt
of_prefixes start test none (prefix ∷ prefixes) =
    let own = Some (family_of prefix.addr) in
    (((none own).0, (same_itself (family_of prefix.addr), (none own).1.1)), of_prefixes start test none prefixes)

unless : (start : Criteria) → ((whole : Option Family) → Tests whole start) → (prefixes : List Prefix) (b : Bool) → Every Itself (if b then [] else map (from_prefix start ifaces.Any) prefixes)
unless start none prefixes true = tt
unless start none prefixes false = of_prefixes start ifaces.Any none prefixes

iface_tests : (facts : HostFacts) (written : Option Family) (start : Criteria) → ((whole : Option Family) → Tests whole start) → (iface : List ℕ) → Every Itself (of_iface facts written start iface)
iface_tests facts written start none iface =
    let networks = of_written written (own_addresses facts iface true) in
    let addresses = of_written written (own_addresses facts iface false) in
    every_append Itself (map (from_prefix start (elsewhere iface)) networks) (if in_group facts loopback iface then [] else map (from_prefix start ifaces.Any) addresses)
    (of_prefixes start (elsewhere iface) none networks) (unless start none addresses (in_group facts loopback iface))

of_one_test : (facts : HostFacts) (written : Option Family) (start : Criteria) → ((whole : Option Family) → Tests whole start) → (test : IfTest) → Every Itself (of_test facts written start test)
of_one_test facts written start none ifaces.Any = tt
of_one_test facts written start none (ifaces.On name negated) = every_flat Itself (of_iface facts written start) (iface_tests facts written start none) (filter (is_meant facts name) facts.interfaces)

-- ---- statements

module _ (facts : HostFacts) (form : RuleForm) (read : Readings) where
  none_yet : (whole : Option Family) → Tests whole (start_of form)
  none_yet whole = (tt, (tt, tt))

  of_lists : Every Itself (combined (written_families form read) (start_of form) (lists_of form read))
  of_lists = of_all (written_families form read) (start_of form) none_yet (lists_of form read)

  pub one_family : (head : Head) → Every Itself (all_criteria facts form read head)
  one_family heads.Antispoof = every_flat Itself (of_test facts form.family (start_of form)) (of_one_test facts form.family (start_of form) none_yet) form.ifaces
  one_family heads.Pass = of_lists
  one_family (heads.Block kind) = of_lists
  one_family heads.Match = of_lists
  one_family (heads.Anchor name body) = of_lists
  one_family (heads.LoadAnchor name file) = tt

of_one : (whole named : Option Family) → Of whole named → list_all (is_of whole) (option_to_list named) ≡ true
of_one whole None h = refl
of_one whole (Some family) h = both (is_of whole family) true h refl

joined_tests : (whole a b c : Option Family) → Of whole a → Of whole b → Of whole c → list_all (is_of whole) (option_to_list a ++ option_to_list b ++ option_to_list c) ≡ true
joined_tests whole a b c h k l =
    list_all-append (is_of whole) (option_to_list a ++ option_to_list b) (option_to_list c)
    ∙ both (list_all (is_of whole) (option_to_list a ++ option_to_list b)) (list_all (is_of whole) (option_to_list c))
    (list_all-append (is_of whole) (option_to_list a) (option_to_list b) ∙ both (list_all (is_of whole) (option_to_list a)) (list_all (is_of whole) (option_to_list b)) (of_one whole a h) (of_one whole b k))
    (of_one whole c l)

pub all_tested : (criteria : Criteria) → Itself criteria → list_all (is_of criteria.family) (tested_families criteria) ≡ true
all_tested criteria h = joined_tests criteria.family (option_map icmp_family criteria.icmp) (family_of_test criteria.source) (family_of_test criteria.target) h.0 h.1.0 h.1.1
