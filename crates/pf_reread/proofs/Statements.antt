-- Each rule that a statement of a file comes to is one of the written rules.
use Rattle.std.proofs.Common.{◌≡◌, ℕ, Bool, true, false, List, [], ◌∷◌, ◌++◌, map, filter, take, Option, Some, None, Result, Ok, if◌then◌else◌, refl, sym, ap, subst, ◌∙◌, inl, inr}
use Rattle.std.specs.Prelude.{◌&&◌, ◌||◌, ◌==◌, not, is_none, is_some}
use Rattle.std.specs.List.{All, list_all, slice_get}
use Rattle.std.specs.Option.{option_map, option_to_list}
use Rattle.std.proofs.lemmas.Bool.{and_parts, or_cases, or_left, or_right}
use Rattle.std.proofs.lemmas.List.Folds.{list_all-append}
use Rattle.pf_addr.specs.Addr.{IsAddr, family_of}
use Rattle.pf_addr.specs.declared.parse.Masked.{Masked}
use Rattle.pf_addr.specs.declared.prefix.Prefix.{Prefix}
use Rattle.pf_base.specs.declared.fault.FaultKind.{FaultKind}
use Rattle.pf_base.specs.declared.kind.Family.{Family}
use Rattle.pf_base.specs.declared.kind.Family.TheVariants.{Inet, Inet6}
use Rattle.pf_combine.specs.Antispoof.{elsewhere, from_prefix, loopback, of_iface, of_test, of_tests, of_written}
use Rattle.pf_combine.specs.Combinations.{combined, is_same}
use Rattle.pf_combine.specs.Members.{family_of_test}
use Rattle.pf_combine.specs.Walk.{fits}
use Rattle.pf_decl.specs.ReadBack.{is_file_name, is_policy}
use Rattle.pf_expand.specs.Expansion.{Expands, all_criteria, answer_with, fault_of, lists_of, rules_of, target_family, written_families}
use Rattle.pf_expand.specs.Faults.{icmp_proto, is_tcp, only_for, target_has_port, tests_flags}
use Rattle.pf_expand.specs.Faults as faults
use Rattle.pf_expand.specs.Lists.{is_empty}
use Rattle.pf_expand.specs.Readings.{AreReadings}
use Rattle.pf_expand.specs.Rules.{action_of, effect_of, flags_of, is_tcp_or_any, makes_state, opening, rule_of, start_of}
use Rattle.pf_expand.specs.Written.{icmp_family, is_of, is_of_one_family}
use Rattle.pf_expand.specs.declared.order.Defaults.{Defaults}
use Rattle.pf_expand.specs.declared.order.Order.{Order}
use Rattle.pf_expand.specs.declared.readings.Readings.{Readings}
use Rattle.pf_form.specs.Kinds.{may_translate}
use Rattle.pf_form.specs.declared.form.FlagsForm.{FlagsForm}
use Rattle.pf_form.specs.declared.form.FlagsForm.TheVariants as flag_forms
use Rattle.pf_form.specs.declared.form.Head.{Head}
use Rattle.pf_form.specs.declared.form.Head.TheVariants as heads
use Rattle.pf_form.specs.declared.form.RuleForm.{RuleForm}
use Rattle.pf_grammar.specs.Forms.{HasForm}
use Rattle.pf_host.specs.Addresses.{prefix_listed}
use Rattle.pf_host.specs.Facts.{HostFacts}
use Rattle.pf_host.specs.Meaning.{IsFactsText}
use Rattle.pf_host.specs.Queries.{in_group, is_meant, own_addresses}
use Rattle.pf_host.specs.Rows.{values_of}
use Rattle.pf_ops.specs.Numbers.{IsKept}
use Rattle.pf_ops.specs.declared.flags.IcmpType.{IcmpType}
use Rattle.pf_ops.specs.declared.numbers.Numbers.{Numbers}
use Rattle.pf_parts.specs.declared.block.BlockKind.{BlockKind}
use Rattle.pf_parts.specs.declared.block.BlockKind.TheVariants as blocks
use Rattle.pf_parts.specs.declared.call.Call.{Call}
use Rattle.pf_parts.specs.declared.matching.IfTest.{IfTest}
use Rattle.pf_parts.specs.declared.matching.IfTest.TheVariants as ifaces
use Rattle.pf_rule.specs.Criteria.{is_tcp_or_udp}
use Rattle.pf_rule.specs.declared.criteria.Criteria.{Criteria}
use Rattle.pf_rule.specs.declared.effect.Action.TheVariants as actions
use Rattle.pf_rule.specs.declared.effect.Effect.{Effect}
use Rattle.pf_rule.specs.declared.rule.Rule.{Rule}
use Rattle.pf_rule.specs.declared.translation.Target.{Target}
use Rattle.pf_syntax.specs.declared.form.TargetWords.{TargetWords}
use Rattle.pf_token.specs.declared.token.Token.{Token}
use Rattle.pf_reread.specs.Calls.{HasCall}
use Rattle.pf_reread.specs.TokenText.{are_read_tokens}
use Rattle.pf_reread.specs.Written as written
use Rattle.pf_reread.specs.Written.{Agree, AreWrittenTests, IfGiven, IsOfFamily, IsWritten, IsWrittenEffect, are_written_flags, has_port, if_given, is_byte, is_for, is_icmp_for, is_written_iface, is_written_icmp}
use Rattle.pf_reread.proofs.Combined.{CombinationIs, CriteriaAre, PortsAre, ProtoIs}
use Rattle.pf_reread.proofs.Effects.{Translations, effect_is, none_translated}
use Rattle.pf_reread.proofs.Every.{Every, all_of_every, every_append, every_filter, every_flat, every_from, every_map, every_passes, every_take}
use Rattle.pf_reread.proofs.Expanded.{Faultless, asks_for, combinations_are, faultless, no_bad, only_is, start_is}
use Rattle.pf_reread.proofs.FactsKept.{FactsAre, facts_are}
use Rattle.pf_reread.proofs.FormDrafts.{IsWrittenForm, form_is_written}
use Rattle.pf_reread.proofs.FormParts.{is_form_flags}
use Rattle.pf_reread.proofs.FormWords.{Passes}
use Rattle.pf_reread.proofs.WordValues.{IcmpIs, TargetIs, of_rows, translation_is}

-- ---- tests

given_from : {A : Type 0} (P Q : A → Type 0) → ((a : A) → P a → Q a) → (o : Option A) → IfGiven P o → IfGiven Q o
given_from P Q each None h = tt
given_from P Q each (Some a) h = each a h

given_test : {A : Type 0} (test : A → Bool) (P : A → Type 0) → ((a : A) → P a → test a ≡ true) → (o : Option A) → IfGiven P o → if_given test o ≡ true
given_test test P each None h = refl
given_test test P each (Some a) h = each a h

if_opening : (b : Bool) → if_given are_written_flags (if b then Some opening else None) ≡ true
if_opening true = refl
if_opening false = refl

flags_written : (flags : Option FlagsForm) (stateful : Bool) (proto : Option ℕ) → if_given is_form_flags flags ≡ true → if_given are_written_flags (flags_of flags stateful proto) ≡ true
flags_written (Some flag_forms.Any) stateful proto is = refl
flags_written (Some (flag_forms.Test test)) stateful proto is = is
flags_written None stateful proto is = if_opening (stateful && is_tcp_or_any proto)

tests_are : (form : RuleForm) (protocols : List ℕ) (effect : Effect) (criteria : Criteria) → IsWrittenForm form → CriteriaAre form protocols criteria → AreWrittenTests (rule_of form effect criteria).criteria
tests_are form protocols effect criteria is h = record {
  iface = h.iface_is;
  proto = given_test is_byte (ProtoIs protocols) (λ number one. one.fits) criteria.proto h.proto_is;
  source = h.source_is;
  source_port = given_from (PortsAre form.source_ports) (IsKept 65535) (λ ports one. one.kept) criteria.source_port h.source_port_is;
  target = h.target_is;
  target_port = given_from (PortsAre form.target_ports) (IsKept 65535) (λ ports one. one.kept) criteria.target_port h.target_port_is;
  user = h.user_is;
  group = h.group_is;
  flags = flags_written form.flags (makes_state effect.state) criteria.proto (is.parts.flags_are refl);
  icmp = given_test is_written_icmp (IcmpIs protocols) (λ icmp one. one.written) criteria.icmp h.icmp_is;
  tos = h.tos_is;
  prio = h.prio_is;
  tagged = h.tagged_is;
}

-- ---- agreement: families

same_families : (whole family : Family) → is_same whole family ≡ true → Some whole ≡ Some family
same_families Inet Inet is = refl
same_families Inet Inet6 is = absurd (cc)
same_families Inet6 Inet is = absurd (cc)
same_families Inet6 Inet6 is = refl

family_is : (whole : Option Family) (family : Family) → is_of whole family ≡ true → whole ≡ Some family
family_is None family is = absurd (cc)
family_is (Some whole) family is = same_families whole family is

of_family : (whole named : Option Family) → list_all (is_of whole) (option_to_list named) ≡ true → IsOfFamily whole named
of_family whole None is = tt
of_family whole (Some family) is = family_is whole family (and_parts (is_of whole family) true is).0

record OneFamily (rule : Rule) : Type 0 where
  pub types : IsOfFamily rule.criteria.family (option_map (λ (icmp : IcmpType). icmp.family) rule.criteria.icmp)
  pub source : IsOfFamily rule.criteria.family (family_of_test rule.criteria.source)
  pub target : IsOfFamily rule.criteria.family (family_of_test rule.criteria.target)

one_family : (rule : Rule) → is_of_one_family rule ≡ true → OneFamily rule
one_family rule is =
    let whole = rule.criteria.family in
    let types = option_to_list (option_map icmp_family rule.criteria.icmp) in
    let source = option_to_list (family_of_test rule.criteria.source) in
    let target = option_to_list (family_of_test rule.criteria.target) in
    let last = and_parts (list_all (is_of whole) (types ++ source)) (list_all (is_of whole) target) (sym (list_all-append (is_of whole) (types ++ source) target) ∙ is) in
    let first = and_parts (list_all (is_of whole) types) (list_all (is_of whole) source) (sym (list_all-append (is_of whole) types source) ∙ last.0) in
    record {
      types = of_family whole (option_map icmp_family rule.criteria.icmp) first.0;
      source = of_family whole (family_of_test rule.criteria.source) first.1;
      target = of_family whole (family_of_test rule.criteria.target) last.1;
    }

first_target : (whole : Option Family) (targets : List Target) → list_all (is_of whole) (map target_family targets) ≡ true → IsOfFamily whole (option_map (λ (target : Target). family_of target.addr) (slice_get targets 0))
first_target whole [] all = tt
first_target whole (target ∷ targets) all =
    family_is whole (target_family target) (and_parts (is_of whole (target_family target)) (list_all (is_of whole) (map target_family targets)) all).0

-- ---- agreement: protocols

or_four : (a b c d e f g h : Bool) → (a ≡ true → e ≡ true) → (b ≡ true → f ≡ true) → (c ≡ true → g ≡ true) → (d ≡ true → h ≡ true) → (a || b || c || d) ≡ true → (e || f || g || h) ≡ true
or_four a b c d e f g h first second third fourth is =
    elim (or_cases (a || b || c) d is) [
      | inl three ↦ or_left (e || f || g) h (elim (or_cases (a || b) c three) [
        | inl two ↦ or_left (e || f) g (elim (or_cases a b two) [ inl one ↦ or_left e f (first one) | inr one ↦ or_right e f (second one) ])
        | inr one ↦ or_right (e || f) g (third one)
      ])
      | inr one ↦ or_right (e || f || g) h (fourth one)
    ]

ports_listed : {I : Type 0} (items : List I) (ports : Option Numbers) → IfGiven (PortsAre items) ports → is_some ports ≡ true → not (is_empty items) ≡ true
ports_listed items None h some = absurd (cc)
ports_listed items (Some ports) h some = ap not h.listed

port_written : (form : Option TargetWords) (targets : List Target) → Every (TargetIs form) targets → has_port (slice_get targets 0) ≡ true → target_has_port form ≡ true
port_written form [] h some = absurd (cc)
port_written form (target ∷ targets) h some = h.0.ported some

flags_tcp : (flags : Option FlagsForm) (stateful : Bool) (proto : Option ℕ) (protocols : List ℕ) → (tests_flags flags ≡ true → list_all is_tcp protocols ≡ true) → IfGiven (ProtoIs protocols) proto
    → is_some (flags_of flags stateful proto) ≡ true → is_tcp_or_any proto ≡ true
flags_tcp (Some flag_forms.Any) stateful proto protocols asks h some = absurd (cc)
flags_tcp (Some (flag_forms.Test test)) stateful None protocols asks h some = refl
flags_tcp (Some (flag_forms.Test test)) stateful (Some number) protocols asks h some = h.one is_tcp (asks refl)
flags_tcp None stateful proto protocols asks h some = by_test (stateful && is_tcp_or_any proto) refl some
  where
    by_test : (b : Bool) → (stateful && is_tcp_or_any proto) ≡ b → is_some (if b then Some opening else None) ≡ true → is_tcp_or_any proto ≡ true
    by_test true is given = (and_parts stateful (is_tcp_or_any proto) is).1
    by_test false is given = absurd (cc)

-- a rule that resets is one of a statement that says so
resets_kind : (kind : Option BlockKind) (call : Call) (defaults : Defaults) → is_policy defaults.block ≡ true → written.resets (action_of (heads.Block kind) call defaults) ≡ true → faults.resets (heads.Block kind) ≡ true
resets_kind None call defaults policy is = absurd (policy_resets defaults.block policy is)
  where
    policy_resets : (kind : BlockKind) → is_policy kind ≡ true → written.resets (actions.Block kind) ≡ true → ⊥
    policy_resets blocks.Drop set is = cc
    policy_resets blocks.Return set is = cc
    policy_resets (blocks.Rst ttl) set is = cc
    policy_resets (blocks.Icmp code code6) set is = cc
resets_kind (Some blocks.Drop) call defaults policy is = absurd (cc)
resets_kind (Some blocks.Return) call defaults policy is = absurd (cc)
resets_kind (Some (blocks.Rst ttl)) call defaults policy is = refl
resets_kind (Some (blocks.Icmp code code6)) call defaults policy is = absurd (cc)

resets_head : (head : Head) (call : Call) (defaults : Defaults) → is_policy defaults.block ≡ true → written.resets (action_of head call defaults) ≡ true → faults.resets head ≡ true
resets_head heads.Pass call defaults policy is = absurd (cc)
resets_head (heads.Block kind) call defaults policy is = resets_kind kind call defaults policy is
resets_head heads.Match call defaults policy is = absurd (cc)
resets_head (heads.Anchor name body) call defaults policy is = absurd (cc)
resets_head heads.Antispoof call defaults policy is = absurd (cc)
resets_head (heads.LoadAnchor name file) call defaults policy is = absurd (cc)

-- ---- rules of combinations

abbrev effect : RuleForm → Call → Defaults → Readings → Effect
effect form call defaults read = effect_of form call defaults read.nat.values read.rdr.values

-- each rule of one family is written
abbrev RuleIs : RuleForm → Effect → Criteria → Type 0
RuleIs form does criteria = is_of_one_family (rule_of form does criteria) ≡ true → IsWritten (rule_of form does criteria)

module _ (facts : HostFacts) (form : RuleForm) (call : Call) (defaults : Defaults) (read : Readings) (are : AreReadings facts form read) (known : FactsAre facts) (is : IsWrittenForm form)
    (sound : Faultless form read.protos.values) (policy : is_policy defaults.block ≡ true) (has : HasCall form.head call) where
  translated : Translations facts form read
  translated = record {
    nat_means = are.nat;
    rdr_means = are.rdr;
    nat_are = translation_is facts known form.nat read.nat are.nat;
    rdr_are = translation_is facts known form.rdr read.rdr are.rdr;
  }

  does : IsWrittenEffect (effect form call defaults read)
  does = effect_is facts form call defaults read is translated (no_bad facts form read are known is sound).2 policy has

  agrees : (criteria : Criteria) → CombinationIs form read.protos.values (written_families form read) criteria → OneFamily (rule_of form (effect form call defaults read) criteria) → Agree (rule_of form (effect form call defaults read) criteria)
  agrees criteria h one =
      let only : (test : ℕ → Bool) → only_for test read.protos.values ≡ true → is_for test criteria.proto ≡ true =
      λ test holds. only_is form read criteria test are.protos h.tests.proto_is h.proto holds in
      let whole = criteria.family in
      let nats = map target_family read.nat.values in
      let rdrs = map target_family read.rdr.values in
      let last = and_parts (list_all (is_of whole) (option_to_list form.family ++ nats)) (list_all (is_of whole) rdrs) (sym (list_all-append (is_of whole) (option_to_list form.family ++ nats) rdrs) ∙ h.named_are) in
      let first = and_parts (list_all (is_of whole) (option_to_list form.family)) (list_all (is_of whole) nats) (sym (list_all-append (is_of whole) (option_to_list form.family) nats) ∙ last.0) in
      record {
        ports = λ some. only is_tcp_or_udp (asks_for (faults.has_ports form) (only_for is_tcp_or_udp read.protos.values) sound.ports
            (or_four (is_some criteria.source_port) (is_some criteria.target_port) (has_port (slice_get read.nat.values 0)) (has_port (slice_get read.rdr.values 0))
            (not (is_empty form.source_ports)) (not (is_empty form.target_ports)) (target_has_port form.nat) (target_has_port form.rdr)
            (ports_listed form.source_ports criteria.source_port h.tests.source_port_is) (ports_listed form.target_ports criteria.target_port h.tests.target_port_is)
            (port_written form.nat read.nat.values translated.nat_are) (port_written form.rdr read.rdr.values translated.rdr_are) some));
        icmp = given_test (is_icmp_for criteria.proto) (IcmpIs read.protos.values) (λ icmp fits. only (λ number. number == icmp_proto icmp.family) fits.only) criteria.icmp h.tests.icmp_is;
        flags = flags_tcp form.flags (makes_state (effect form call defaults read).state) criteria.proto read.protos.values (asks_for (tests_flags form.flags) (list_all is_tcp read.protos.values) sound.flags) h.tests.proto_is;
        reset = λ resets. only is_tcp (asks_for (faults.resets form.head) (only_for is_tcp read.protos.values) sound.reset (resets_head form.head call defaults policy resets));
        nat = first_target whole read.nat.values first.1;
        rdr = first_target whole read.rdr.values last.1;
        types = one.types;
        source = one.source;
        target = one.target;
      }

  combination_is : (criteria : Criteria) → CombinationIs form read.protos.values (written_families form read) criteria → RuleIs form (effect form call defaults read) criteria
  combination_is criteria h one = record {
    tests = tests_are form read.protos.values (effect form call defaults read) criteria is h.tests;
    does = does;
    agree = agrees criteria h (one_family (rule_of form (effect form call defaults read) criteria) one);
  }

  lists_are : Every (RuleIs form (effect form call defaults read)) (combined (written_families form read) (start_of form) (lists_of form read))
  lists_are = every_from (CombinationIs form read.protos.values (written_families form read)) (RuleIs form (effect form call defaults read)) combination_is _ (combinations_are facts form read are known is sound)

  -- ---- antispoof

  module _ (anti : form.head ≡ heads.Antispoof) where
    no_nat : form.nat ≡ None
    no_nat = is.parts.head_is.nat_none (ap may_translate anti)

    no_rdr : form.rdr ≡ None
    no_rdr = is.parts.head_is.rdr_none (ap may_translate anti)

    gone : (is_none (slice_get read.nat.values 0) ≡ true) × (is_none (slice_get read.rdr.values 0) ≡ true)
    gone = none_translated facts form read translated no_nat no_rdr

    without_port : (o : Option Target) → is_none o ≡ true → has_port o ≡ true → ⊥
    without_port None is some = cc
    without_port (Some target) is some = cc

    without_family : (family : Option Family) (o : Option Target) → is_none o ≡ true → IsOfFamily family (option_map (λ (target : Target). family_of target.addr) o)
    without_family family None is = tt
    without_family family (Some target) is = absurd (cc)

    prefix_tests_are : (test : IfTest) (prefix : Prefix) → is_written_iface test ≡ true → IsAddr prefix.addr → CriteriaAre form read.protos.values (from_prefix (start_of form) test prefix)
    prefix_tests_are test prefix named fits =
        let start = start_is facts form read are known is sound in
        record {
          iface_is = named;
          proto_is = tt;
          source_is = fits;
          source_port_is = tt;
          target_is = tt;
          target_port_is = tt;
          user_is = tt;
          group_is = tt;
          icmp_is = tt;
          tos_is = start.tos_is;
          prio_is = start.prio_is;
          tagged_is = start.tagged_is;
        }

    prefix_agrees : (test : IfTest) (prefix : Prefix) → OneFamily (rule_of form (effect form call defaults read) (from_prefix (start_of form) test prefix)) → Agree (rule_of form (effect form call defaults read) (from_prefix (start_of form) test prefix))
    prefix_agrees test prefix one = record {
      ports = λ some. absurd (elim (or_cases (has_port (slice_get read.nat.values 0)) (has_port (slice_get read.rdr.values 0)) some) [
        | inl nat ↦ without_port (slice_get read.nat.values 0) gone.0 nat
        | inr rdr ↦ without_port (slice_get read.rdr.values 0) gone.1 rdr
      ]);
      icmp = refl;
      flags = λ some. refl;
      reset = λ resets. absurd (let head : faults.resets form.head ≡ true = resets_head form.head call defaults policy resets in let never : faults.resets form.head ≡ false = ap faults.resets anti in cc);
      nat = without_family (Some (family_of prefix.addr)) (slice_get read.nat.values 0) gone.0;
      rdr = without_family (Some (family_of prefix.addr)) (slice_get read.rdr.values 0) gone.1;
      types = one.types;
      source = one.source;
      target = one.target;
    }

    prefix_is : (test : IfTest) → is_written_iface test ≡ true → (prefix : Prefix) → IsAddr prefix.addr → RuleIs form (effect form call defaults read) (from_prefix (start_of form) test prefix)
    prefix_is test named prefix fits one = record {
      tests = tests_are form read.protos.values (effect form call defaults read) (from_prefix (start_of form) test prefix) is (prefix_tests_are test prefix named fits);
      does = does;
      agree = prefix_agrees test prefix (one_family (rule_of form (effect form call defaults read) (from_prefix (start_of form) test prefix)) one);
    }

    of_prefixes : (test : IfTest) → is_written_iface test ≡ true → (prefixes : List Prefix) → Every (λ (prefix : Prefix). IsAddr prefix.addr) prefixes → Every (RuleIs form (effect form call defaults read)) (map (from_prefix (start_of form) test) prefixes)
    of_prefixes test named prefixes h =
        every_map (RuleIs form (effect form call defaults read)) (from_prefix (start_of form) test) prefixes (every_from (λ (prefix : Prefix). IsAddr prefix.addr) (λ (prefix : Prefix). RuleIs form (effect form call defaults read) (from_prefix (start_of form) test prefix)) (prefix_is test named) prefixes h)

    own_are : (iface : List ℕ) (network : Bool) → Every (λ (prefix : Prefix). IsAddr prefix.addr) (own_addresses facts iface network)
    own_are iface network =
        every_map (λ (prefix : Prefix). IsAddr prefix.addr) (prefix_listed network) (values_of facts.addresses iface)
        (every_from (λ (masked : Masked). IsAddr masked.addr × IsAddr masked.network.addr) (λ (masked : Masked). IsAddr (prefix_listed network masked).addr) (own_is network) (values_of facts.addresses iface)
        (of_rows (λ (masked : Masked). IsAddr masked.addr × IsAddr masked.network.addr) facts.addresses iface known.addresses))
      where
        own_is : (network : Bool) (masked : Masked) → IsAddr masked.addr × IsAddr masked.network.addr → IsAddr (prefix_listed network masked).addr
        own_is false masked h = h.0
        own_is true masked h = h.1

    of_own : (iface : List ℕ) (network : Bool) → Every (λ (prefix : Prefix). IsAddr prefix.addr) (of_written form.family (own_addresses facts iface network))
    of_own iface network =
        every_filter (λ (prefix : Prefix). fits form.family (Some (family_of prefix.addr))) (λ (prefix : Prefix). IsAddr prefix.addr) (own_addresses facts iface network) (own_are iface network)

    unless : (iface : List ℕ) (b : Bool) → Every (RuleIs form (effect form call defaults read)) (if b then [] else map (from_prefix (start_of form) ifaces.Any) (of_written form.family (own_addresses facts iface false)))
    unless iface true = tt
    unless iface false = of_prefixes ifaces.Any refl (of_written form.family (own_addresses facts iface false)) (of_own iface false)

    iface_is : (iface : List ℕ) → is_file_name iface ≡ true → Every (RuleIs form (effect form call defaults read)) (of_iface facts form.family (start_of form) iface)
    iface_is iface named =
        every_append (RuleIs form (effect form call defaults read)) (map (from_prefix (start_of form) (elsewhere iface)) (of_written form.family (own_addresses facts iface true)))
        (if in_group facts loopback iface then [] else map (from_prefix (start_of form) ifaces.Any) (of_written form.family (own_addresses facts iface false)))
        (of_prefixes (elsewhere iface) named (of_written form.family (own_addresses facts iface true)) (of_own iface true)) (unless iface (in_group facts loopback iface))

    test_is : (test : IfTest) → Every (RuleIs form (effect form call defaults read)) (of_test facts form.family (start_of form) test)
    test_is ifaces.Any = tt
    test_is (ifaces.On name negated) =
        every_flat (RuleIs form (effect form call defaults read)) (of_iface facts form.family (start_of form)) (Passes is_file_name) iface_is (filter (is_meant facts name) facts.interfaces)
        (every_filter (is_meant facts name) (Passes is_file_name) facts.interfaces known.interfaces)

    tests_each : (list : List IfTest) → Every (RuleIs form (effect form call defaults read)) (of_tests facts form.family (start_of form) list)
    tests_each [] = tt
    tests_each (test ∷ list) = every_append (RuleIs form (effect form call defaults read)) (of_test facts form.family (start_of form) test) (of_tests facts form.family (start_of form) list) (test_is test) (tests_each list)

  -- ---- statements

  by_head : (head : Head) → form.head ≡ head → Every (RuleIs form (effect form call defaults read)) (all_criteria facts form read head)
  by_head heads.Antispoof anti = tests_each anti form.ifaces
  by_head heads.Pass same = lists_are
  by_head (heads.Block kind) same = lists_are
  by_head heads.Match same = lists_are
  by_head (heads.Anchor name body) same = lists_are
  by_head (heads.LoadAnchor name file) same = tt

  pub rules_are : (room : ℕ) → Every (λ rule. is_of_one_family rule ≡ true → IsWritten rule) (rules_of facts form call defaults room read)
  unfolding rules_of
  rules_are room =
      every_map (λ rule. is_of_one_family rule ≡ true → IsWritten rule) (rule_of form (effect form call defaults read)) (take room (all_criteria facts form read form.head))
      (every_take (RuleIs form (effect form call defaults read)) room (all_criteria facts form read form.head) (by_head form.head refl))

-- an answer without a fault
no_fault : (fault : Option FaultKind) (given rules : List Rule) → ◌≡◌ {A = Result (List Rule) FaultKind} (Ok rules) (answer_with fault given) → (fault ≡ None) × (rules ≡ given)
no_fault None given rules is = (refl, cc)
no_fault (Some fault) given rules is = absurd (cc)

both_hold : (rules : List Rule) → Every (λ rule. is_of_one_family rule ≡ true → IsWritten rule) rules → Every (λ rule. is_of_one_family rule ≡ true) rules → Every IsWritten rules
both_hold [] h k = tt
both_hold (rule ∷ rules) h k = (h.0 k.0, both_hold rules h.1 k.1)

-- that the rules of a statement are of one family each
abbrev pub OneFamilies : Type 0
OneFamilies = (form : RuleForm) (call : Call) (order : Order) (facts : HostFacts) (defaults : Defaults) (room : ℕ) (rules : List Rule)
    → Expands form call order facts defaults room (Ok rules) → list_all is_of_one_family rules ≡ true

pub statement_rules : OneFamilies
    → (tokens : List Token) (body : Bool) (form : RuleForm) (call : Call) (order : Order) (said : List ℕ) (facts : HostFacts) (defaults : Defaults) (room : ℕ) (rules : List Rule)
    → are_read_tokens tokens ≡ true → HasForm tokens body form None → HasCall form.head call → IsFactsText said facts → is_policy defaults.block ≡ true
    → Expands form call order facts defaults room (Ok rules) → All IsWritten rules
statement_rules one tokens body form call order said facts defaults room rules file formed has text policy comes =
    let answer = no_fault (fault_of facts order form comes.read) (rules_of facts form call defaults room comes.read) rules comes.gives in
    let known = facts_are said facts text in
    let is = form_is_written tokens body form file formed in
    let sound = faultless facts order form comes.read answer.0 in
    let each = rules_are facts form call defaults comes.read comes.are known is sound policy has room in
    all_of_every IsWritten rules
    (both_hold rules (subst (Every (λ rule. is_of_one_family rule ≡ true → IsWritten rule)) (sym answer.1) each)
    (every_passes is_of_one_family rules (one form call order facts defaults room rules comes)))
