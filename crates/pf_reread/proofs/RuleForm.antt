-- The form of a printed rule, and that its tokens are read as it.
use Rattle.std.proofs.Common.{◌≡◌, ℕ, ◌-◌, Bool, true, false, List, [], ◌∷◌, ◌++◌, Option, Some, None, length, refl, ap, sym, subst, ◌∙◌, arith, append_assoc}
use Rattle.std.specs.Prelude.{◌&&◌, ◌||◌, not, is_some, is_none, codes}
use Rattle.std.specs.List.{list_any}
use Rattle.std.specs.Option.{option_map}
use Rattle.std.proofs.lemmas.Bool.{and_parts, and_right, not-true}
use Rattle.std.proofs.lemmas.List.{append-nil}
use Rattle.pf_form.specs.Blank.{blank, blank_form, with_form}
use Rattle.pf_decl.specs.ReadBack.{is_file_name}
use Rattle.pf_form.specs.Kinds.{is_anchor, makes_states, may_translate}
use Rattle.pf_form.specs.Settings.{is_no_scrub}
use Rattle.pf_form.specs.declared.form.Draft.{Draft}
use Rattle.pf_form.specs.declared.form.Head.{Head}
use Rattle.pf_form.specs.declared.form.Head.TheVariants as heads
use Rattle.pf_grammar.specs.Heads.{anchor_head, block_kind, head_words}
use Rattle.pf_grammar.specs.Late.{has_anchor_effect, has_state_fault, late_of, options_clash}
use Rattle.pf_grammar.specs.Options.{option}
use Rattle.pf_grammar.specs.Statements.{anchor, block, rule as rule_grammar, rule_front, statement}
use Rattle.pf_grammar.specs.declared.keyword.HeadWord.TheVariants as words
use Rattle.pf_parts.specs.CallText.{call_text}
use Rattle.pf_parts.specs.declared.direction.Direction.{Direction}
use Rattle.pf_parts.specs.declared.direction.Direction.TheVariants.{In, Out}
use Rattle.pf_parts.specs.declared.matching.TagTest.{TagTest}
use Rattle.pf_parts.specs.declared.matching.TagTest.TheVariants as tags
use Rattle.pf_parts.specs.declared.state.StateKind.{StateKind}
use Rattle.pf_parts.specs.declared.state.StateKind.TheVariants as states
use Rattle.pf_parts.specs.declared.state.StateOptions.{StateOptions}
use Rattle.pf_ops.specs.declared.flags.TcpFlags.{TcpFlags}
use Rattle.pf_ops.specs.declared.flags.IcmpType.{IcmpType}
use Rattle.pf_base.specs.declared.kind.Family.{Family}
use Rattle.pf_base.specs.declared.kind.Family.TheVariants.{Inet, Inet6}
use Rattle.pf_print.specs.RuleText.{is_pass, needs_flags}
use Rattle.pf_rule.specs.Opening.{no_params}
use Rattle.pf_rule.specs.declared.criteria.Criteria.{Criteria}
use Rattle.pf_rule.specs.declared.effect.Action.{Action}
use Rattle.pf_rule.specs.declared.effect.Action.TheVariants as actions
use Rattle.pf_rule.specs.declared.effect.Effect.{Effect}
use Rattle.pf_rule.specs.declared.rule.Rule.{Rule}
use Rattle.pf_syntax.specs.Productions.{ended, Repeated}
use Rattle.pf_syntax.specs.Symbols.{Symbols, bare, is_end, quoted}
use Rattle.pf_syntax.specs.Words.{keyword}
use Rattle.pf_reread.specs.Written.{AreWrittenOptions, IsWritten, IsWrittenAction, is_written_kind, sets_nothing, translates_nothing}
use Rattle.pf_reread.proofs.Following.{begins, begins-append, begins-more, no_sign}
use Rattle.pf_reread.proofs.Glyphs.{Glyph, said, said-append}
use Rattle.pf_reread.proofs.ReadFront.{direction_read, family_read, from_direction, from_family, from_hosts, from_iface, from_log, from_proto, from_quick, iface_items, ifaces_read, kind_read, logged_read, proto_items, protos_read, quick_glyphs, starts_family, starts_iface, starts_log, starts_proto, starts_quick}
use Rattle.pf_reread.proofs.ReadHosts.{from_options, hosts_of, hosts_read, starts_hosts}
use Rattle.pf_reread.proofs.ReadOptions.{Options, allow_taken, groups_taken, icmp_items, icmp_taken, id_items, label_taken, nat_taken, prio_taken, prios_taken, queue_taken, quoted_back, rdr_taken, set_tos_taken, tag_taken, tagged_taken, target_words, tos_taken, users_taken, with_allow, with_groups, with_icmp, with_label, with_nat, with_prio, with_prios, with_queue, with_rdr, with_set_tos, with_tag, with_tagged, with_tos, with_users}
use Rattle.pf_reread.proofs.ReadStates.{BitsBack, flags_form, flags_taken, scrub_taken, state_form, state_taken, with_flags, with_scrub, with_state}
use Rattle.pf_reread.proofs.Rows.{takes_both, takes_none}
use Rattle.pf_reread.proofs.RuleGlyphs.{action_glyphs, changes_glyphs, direction_glyphs, effect_glyphs, end_glyphs, family_glyphs, flags_glyphs, front_glyphs, given, group_glyphs, hosts_glyphs, icmp_glyphs, iface_glyphs, kind_glyphs, label_glyphs, log_glyphs, mark_glyphs, prio_glyphs, prios_glyphs, proto_glyphs, queue_glyphs, rule_glyphs, scrub_chunks, scrub_glyphs, set_tos_glyphs, sets_glyphs, state_glyphs, tag_glyphs, tagged_glyphs, target_glyphs, tos_glyphs, user_glyphs, where_so, word}
use Rattle.pf_reread.proofs.RuleTokens.{PrintedTexts}

abbrev pub head_of : Action → Head
head_of actions.Pass = heads.Pass
head_of actions.Match = heads.Match
head_of (actions.Block kind) = heads.Block (Some kind)
head_of (actions.Anchor call) = heads.Anchor (Some (call_text call)) false

-- the draft before its options
abbrev pub front_draft : Rule → Draft
front_draft rule = with_form (blank (head_of rule.effect.action)) (record (blank_form (head_of rule.effect.action)) {
  direction = rule.criteria.direction;
  quick = rule.effect.quick;
  params = record no_params { log = rule.effect.params.log };
  ifaces = iface_items rule.criteria.iface;
  family = rule.criteria.family;
  protos = proto_items rule.criteria.proto;
  sources = (hosts_of rule.criteria).sources.hosts;
  source_ports = (hosts_of rule.criteria).sources.ports;
  targets = (hosts_of rule.criteria).targets.hosts;
  target_ports = (hosts_of rule.criteria).targets.ports;
})

abbrev front_symbols : Rule → Symbols → Symbols
front_symbols rule rest =
    said (given direction_glyphs rule.criteria.direction) ++ (said (log_glyphs rule.effect.params.log) ++ (said (quick_glyphs rule.effect.quick)
    ++ (said (iface_glyphs rule.criteria.iface) ++ (said (given family_glyphs rule.criteria.family) ++ (said (given proto_glyphs rule.criteria.proto)
    ++ (said (hosts_glyphs rule.criteria) ++ rest))))))

-- what stands from each part on begins with a word of it or of a later one
abbrev from_proto_on : Rule → Symbols → Symbols
from_proto_on rule rest = said (given proto_glyphs rule.criteria.proto) ++ (said (hosts_glyphs rule.criteria) ++ rest)

at_proto : (rule : Rule) (rest : Symbols) → begins from_proto (from_proto_on rule rest) ≡ true
at_proto rule rest =
    begins-append from_proto (said (given proto_glyphs rule.criteria.proto)) (said (hosts_glyphs rule.criteria) ++ rest) (starts_proto rule.criteria.proto) (begins-more (codes "proto") from_hosts (said (hosts_glyphs rule.criteria) ++ rest) (starts_hosts rule.criteria rest))

abbrev from_family_on : Rule → Symbols → Symbols
from_family_on rule rest = said (given family_glyphs rule.criteria.family) ++ from_proto_on rule rest

at_family : (rule : Rule) (rest : Symbols) → begins from_family (from_family_on rule rest) ≡ true
at_family rule rest =
    begins-append from_family (said (given family_glyphs rule.criteria.family)) (from_proto_on rule rest) (starts_family rule.criteria.family)
    (begins-more (codes "inet") (codes "inet6" ∷ from_proto) (from_proto_on rule rest) (begins-more (codes "inet6") from_proto (from_proto_on rule rest) (at_proto rule rest)))

abbrev from_iface_on : Rule → Symbols → Symbols
from_iface_on rule rest = said (iface_glyphs rule.criteria.iface) ++ from_family_on rule rest

at_iface : (rule : Rule) (rest : Symbols) → begins from_iface (from_iface_on rule rest) ≡ true
at_iface rule rest =
    begins-append from_iface (said (iface_glyphs rule.criteria.iface)) (from_family_on rule rest) (starts_iface rule.criteria.iface) (begins-more (codes "on") from_family (from_family_on rule rest) (at_family rule rest))

abbrev from_quick_on : Rule → Symbols → Symbols
from_quick_on rule rest = said (quick_glyphs rule.effect.quick) ++ from_iface_on rule rest

at_quick : (rule : Rule) (rest : Symbols) → begins from_quick (from_quick_on rule rest) ≡ true
at_quick rule rest =
    begins-append from_quick (said (quick_glyphs rule.effect.quick)) (from_iface_on rule rest) (starts_quick rule.effect.quick) (begins-more (codes "quick") from_iface (from_iface_on rule rest) (at_iface rule rest))

abbrev from_log_on : Rule → Symbols → Symbols
from_log_on rule rest = said (log_glyphs rule.effect.params.log) ++ from_quick_on rule rest

at_log : (rule : Rule) (rest : Symbols) → begins from_log (from_log_on rule rest) ≡ true
at_log rule rest =
    begins-append from_log (said (log_glyphs rule.effect.params.log)) (from_quick_on rule rest) (starts_log rule.effect.params.log) (begins-more (codes "log") from_quick (from_quick_on rule rest) (at_quick rule rest))

starts_direction : (way : Option Direction) → begins from_direction (said (given direction_glyphs way)) ≡ true
starts_direction None = refl
starts_direction (Some In) = refl
starts_direction (Some Out) = refl

at_front : (rule : Rule) (rest : Symbols) → begins from_direction (front_symbols rule rest) ≡ true
at_front rule rest =
    begins-append from_direction (said (given direction_glyphs rule.criteria.direction)) (from_log_on rule rest) (starts_direction rule.criteria.direction)
    (begins-more (codes "in") (codes "out" ∷ from_log) (from_log_on rule rest) (begins-more (codes "out") from_log (from_log_on rule rest) (at_log rule rest)))

front_read : PrintedTexts → (rule : Rule) (rest : Symbols) → IsWritten rule → begins from_options rest ≡ true
    → (rule_front (head_of rule.effect.action)).reads (front_symbols rule rest) ≡ Some (front_draft rule, rest)
unfolding rule_front
front_read printed rule rest is follows =
    rw (
      direction_read rule.criteria.direction (from_log_on rule rest) (at_log rule rest),
      logged_read rule.effect.params.log rule.effect.quick (from_iface_on rule rest) is.does.params.log (at_iface rule rest),
      ifaces_read rule.criteria.iface (from_family_on rule rest) is.tests.iface (at_family rule rest),
      family_read rule.criteria.family (from_proto_on rule rest) (at_proto rule rest),
      protos_read rule.criteria.proto (said (hosts_glyphs rule.criteria) ++ rest) is.tests.proto (starts_hosts rule.criteria rest),
      hosts_read printed rule.criteria rest is.tests follows,
    ) refl

-- which word each option begins with
starts_given : {A : Type 0} (glyphs : A → List Glyph) → ((value : A) → begins from_options (said (glyphs value)) ≡ true) → (value : Option A)
    → begins from_options (said (given glyphs value)) ≡ true
starts_given glyphs each None = refl
starts_given glyphs each (Some value) = each value

starts_where : (stands : Bool) (glyphs : List Glyph) → begins from_options (said glyphs) ≡ true → begins from_options (said (where_so stands glyphs)) ≡ true
starts_where true glyphs starts = starts
starts_where false glyphs starts = refl

starts_flags : (flags : Option TcpFlags) (needs : Bool) → begins from_options (said (flags_glyphs flags needs)) ≡ true
starts_flags (Some flags) needs = refl
starts_flags None true = refl
starts_flags None false = refl

starts_icmp_of : (family : Family) (kind : ℕ) (code : Option ℕ) → begins from_options (said (icmp_glyphs (record { family = family; kind = kind; code = code }))) ≡ true
starts_icmp_of Inet kind code = refl
starts_icmp_of Inet6 kind code = refl

starts_icmp : (icmp : IcmpType) → begins from_options (said (icmp_glyphs icmp)) ≡ true
starts_icmp icmp = starts_icmp_of icmp.family icmp.kind icmp.code

starts_tagged_if : (negated : Bool) (text : List ℕ) → begins from_options (said (tagged_glyphs (tags.Is text negated))) ≡ true
starts_tagged_if true text = refl
starts_tagged_if false text = refl

starts_tagged : (test : TagTest) → begins from_options (said (tagged_glyphs test)) ≡ true
starts_tagged tags.Any = refl
starts_tagged (tags.Is text negated) = starts_tagged_if negated text

starts_state : (kind : StateKind) (options : StateOptions) → begins from_options (said (state_glyphs kind options)) ≡ true
starts_state states.None options = refl
starts_state states.Keep options = refl
starts_state states.Modulate options = refl
starts_state states.Synproxy options = refl

-- the drafts behind each option
abbrev d_user : Rule → Draft
d_user rule = with_users (front_draft rule) (id_items rule.criteria.user)

abbrev d_group : Rule → Draft
d_group rule = with_groups (d_user rule) (id_items rule.criteria.group)

abbrev d_flags : Rule → Draft
d_flags rule = with_flags (d_group rule) (flags_form rule.criteria.flags (needs_flags rule.criteria rule.effect))

abbrev d_icmp : Rule → Draft
d_icmp rule = with_icmp (d_flags rule) (icmp_items rule.criteria.icmp)

abbrev d_tos : Rule → Draft
d_tos rule = with_tos (d_icmp rule) rule.criteria.tos

abbrev d_prio : Rule → Draft
d_prio rule = with_prio (d_tos rule) rule.criteria.prio

abbrev d_tagged : Rule → Draft
d_tagged rule = with_tagged (d_prio rule) rule.criteria.tagged

abbrev d_tag : Rule → Draft
d_tag rule = with_tag (d_tagged rule) rule.effect.tag

abbrev d_state : Rule → Draft
d_state rule = with_state (d_tag rule) (state_form (is_pass rule.effect.action) rule.effect.state) rule.effect.options

abbrev d_queue : Rule → Draft
d_queue rule = with_queue (d_state rule) rule.effect.params.queue

abbrev d_prios : Rule → Draft
d_prios rule = with_prios (d_queue rule) rule.effect.params.prio

abbrev d_set_tos : Rule → Draft
d_set_tos rule = with_set_tos (d_prios rule) rule.effect.params.tos

abbrev d_scrub : Rule → Draft
d_scrub rule = with_scrub (d_set_tos rule) rule.effect.params.scrub

abbrev d_nat : Rule → Draft
d_nat rule = with_nat (d_scrub rule) (option_map target_words rule.effect.params.nat)

abbrev d_rdr : Rule → Draft
d_rdr rule = with_rdr (d_nat rule) (option_map target_words rule.effect.params.rdr)

abbrev d_allow : Rule → Draft
d_allow rule = with_allow (d_rdr rule) rule.effect.params.allow_opts

-- the draft of the whole rule
abbrev pub draft_of : Rule → Draft
draft_of rule = with_label (d_allow rule) rule.effect.label

-- a row of options in front of others, with what they begin with
record Row (before : Draft) (glyphs : List Glyph) (after : Draft) : Type 0 where
  starts : begins from_options (said glyphs) ≡ true
  takes : Options before (said glyphs) after

no_row : (draft : Draft) → Row draft [] draft
no_row draft = record { starts = refl; takes = takes_none from_options option draft }

row_of : (first second third : Draft) (front back : List Glyph) → begins from_options (said front) ≡ true → Options first (said front) second → Row second back third
    → Row first (front ++ back) third
row_of first second third front back starts takes more = record {
  starts = subst (λ (symbols : Symbols). begins from_options symbols ≡ true) (sym (said-append front back)) (begins-append from_options (said front) (said back) starts more.starts);
  takes = subst (λ (symbols : Symbols). Options first symbols third) (sym (said-append front back))
      (takes_both from_options option first second third (said front) (said back) more.starts takes more.takes);
}

none_some : {A : Type 0} (value : Option A) → is_none value ≡ true → is_some value ≡ true → ⊥
none_some None none some = absurd (cc)
none_some (Some value) none some = absurd (cc)

-- packets are translated by pass and match rules alone
may_nat : (effect : Effect) (action : Action) → IsWrittenAction effect action → is_some effect.params.nat ≡ true → may_translate (head_of action) ≡ true
may_nat effect actions.Pass is some = refl
may_nat effect actions.Match is some = refl
may_nat effect (actions.Block kind) is some =
    let none = (and_parts (is_none effect.params.nat) (is_none effect.params.rdr) (and_parts (is_written_kind kind) (translates_nothing effect.params) is).1).0 in
    absurd (none_some effect.params.nat none some)
may_nat effect (actions.Anchor call) is some = refl

may_rdr : (effect : Effect) (action : Action) → IsWrittenAction effect action → is_some effect.params.rdr ≡ true → may_translate (head_of action) ≡ true
may_rdr effect actions.Pass is some = refl
may_rdr effect actions.Match is some = refl
may_rdr effect (actions.Block kind) is some =
    let none = (and_parts (is_none effect.params.nat) (is_none effect.params.rdr) (and_parts (is_written_kind kind) (translates_nothing effect.params) is).1).1 in
    absurd (none_some effect.params.rdr none some)
may_rdr effect (actions.Anchor call) is some = refl

changes_row : (rule : Rule) → IsWritten rule → Row (d_set_tos rule) (changes_glyphs rule.effect) (draft_of rule)
changes_row rule is =
    row_of (d_set_tos rule) (d_scrub rule) (draft_of rule) (scrub_glyphs rule.effect.params.scrub) _
    (starts_where (list_any is_some (scrub_chunks rule.effect.params.scrub)) _ refl) (scrub_taken (d_set_tos rule) rule.effect.params.scrub is.does.params.scrub)
    (row_of (d_scrub rule) (d_nat rule) (draft_of rule) (given (target_glyphs (codes "nat-to")) rule.effect.params.nat) _
    (starts_given (target_glyphs (codes "nat-to")) (λ value. refl) rule.effect.params.nat)
    (nat_taken (d_scrub rule) rule.effect.params.nat (may_nat rule.effect rule.effect.action is.does.action) refl)
    (row_of (d_nat rule) (d_rdr rule) (draft_of rule) (given (target_glyphs (codes "rdr-to")) rule.effect.params.rdr) _
    (starts_given (target_glyphs (codes "rdr-to")) (λ value. refl) rule.effect.params.rdr)
    (rdr_taken (d_nat rule) rule.effect.params.rdr (may_rdr rule.effect rule.effect.action is.does.action))
    (row_of (d_rdr rule) (d_allow rule) (draft_of rule) (where_so rule.effect.params.allow_opts (word (codes "allow-opts") ∷ [])) _
    (starts_where rule.effect.params.allow_opts _ refl) (allow_taken (d_rdr rule) rule.effect.params.allow_opts)
    (row_of (d_allow rule) (draft_of rule) (draft_of rule) (given label_glyphs rule.effect.label) []
    (starts_given label_glyphs (λ value. refl) rule.effect.label) (label_taken (d_allow rule) rule.effect.label is.does.label) (no_row (draft_of rule))))))

sets_row : (rule : Rule) → IsWritten rule → Row (d_tagged rule) (sets_glyphs rule.effect) (d_set_tos rule)
sets_row rule is =
    row_of (d_tagged rule) (d_tag rule) (d_set_tos rule) (given tag_glyphs rule.effect.tag) _
    (starts_given tag_glyphs (λ value. refl) rule.effect.tag) (tag_taken (d_tagged rule) rule.effect.tag is.does.tag)
    (row_of (d_tag rule) (d_state rule) (d_set_tos rule) (where_so (is_pass rule.effect.action) (state_glyphs rule.effect.state rule.effect.options)) _
    (starts_where (is_pass rule.effect.action) _ (starts_state rule.effect.state rule.effect.options))
    (state_taken (d_tag rule) (is_pass rule.effect.action) rule.effect.state rule.effect.options is.does.options is.does.optionless is.does.stateless)
    (row_of (d_state rule) (d_queue rule) (d_set_tos rule) (given queue_glyphs rule.effect.params.queue) _
    (starts_given queue_glyphs (λ value. refl) rule.effect.params.queue) (queue_taken (d_state rule) rule.effect.params.queue is.does.params.queue)
    (row_of (d_queue rule) (d_prios rule) (d_set_tos rule) (given prios_glyphs rule.effect.params.prio) _
    (starts_given prios_glyphs (λ value. refl) rule.effect.params.prio) (prios_taken (d_queue rule) rule.effect.params.prio is.does.params.prio)
    (row_of (d_prios rule) (d_set_tos rule) (d_set_tos rule) (given set_tos_glyphs rule.effect.params.tos) []
    (starts_given set_tos_glyphs (λ value. refl) rule.effect.params.tos) (set_tos_taken (d_prios rule) rule.effect.params.tos is.does.params.tos) (no_row (d_set_tos rule))))))

marks_row : BitsBack → (rule : Rule) → IsWritten rule → Row (d_group rule) (mark_glyphs rule.criteria rule.effect) (d_tagged rule)
marks_row back rule is =
    row_of (d_group rule) (d_flags rule) (d_tagged rule) (flags_glyphs rule.criteria.flags (needs_flags rule.criteria rule.effect)) _
    (starts_flags rule.criteria.flags (needs_flags rule.criteria rule.effect))
    (flags_taken back (d_group rule) rule.criteria.flags (needs_flags rule.criteria rule.effect) is.tests.flags)
    (row_of (d_flags rule) (d_icmp rule) (d_tagged rule) (given icmp_glyphs rule.criteria.icmp) _
    (starts_given icmp_glyphs starts_icmp rule.criteria.icmp) (icmp_taken (d_flags rule) rule.criteria.icmp)
    (row_of (d_icmp rule) (d_tos rule) (d_tagged rule) (given tos_glyphs rule.criteria.tos) _
    (starts_given tos_glyphs (λ value. refl) rule.criteria.tos) (tos_taken (d_icmp rule) rule.criteria.tos is.tests.tos)
    (row_of (d_tos rule) (d_prio rule) (d_tagged rule) (given prio_glyphs rule.criteria.prio) _
    (starts_given prio_glyphs (λ value. refl) rule.criteria.prio) (prio_taken (d_tos rule) rule.criteria.prio is.tests.prio)
    (row_of (d_prio rule) (d_tagged rule) (d_tagged rule) (tagged_glyphs rule.criteria.tagged) []
    (starts_tagged rule.criteria.tagged) (tagged_taken (d_prio rule) rule.criteria.tagged is.tests.tagged) (no_row (d_tagged rule))))))

-- users and groups behind the hosts
abbrev ids_glyphs : Criteria → List Glyph
ids_glyphs criteria = given user_glyphs criteria.user ++ (given group_glyphs criteria.group ++ [])

ids_row : (rule : Rule) → IsWritten rule → Row (front_draft rule) (ids_glyphs rule.criteria) (d_group rule)
ids_row rule is =
    row_of (front_draft rule) (d_user rule) (d_group rule) (given user_glyphs rule.criteria.user) _
    (starts_given user_glyphs (λ value. refl) rule.criteria.user) (users_taken (front_draft rule) rule.criteria.user is.tests.user refl)
    (row_of (d_user rule) (d_group rule) (d_group rule) (given group_glyphs rule.criteria.group) []
    (starts_given group_glyphs (λ value. refl) rule.criteria.group) (groups_taken (d_user rule) rule.criteria.group is.tests.group) (no_row (d_group rule)))

rows_both : (first second third : Draft) (front back : List Glyph) → Row first front second → Row second back third → Row first (front ++ back) third
rows_both first second third front back one other = row_of first second third front back one.starts one.takes other

abbrev option_glyphs : Rule → List Glyph
option_glyphs rule = ids_glyphs rule.criteria ++ (mark_glyphs rule.criteria rule.effect ++ effect_glyphs rule.effect)

options_row : BitsBack → (rule : Rule) → IsWritten rule → Row (front_draft rule) (option_glyphs rule) (draft_of rule)
options_row back rule is =
    rows_both (front_draft rule) (d_group rule) (draft_of rule) (ids_glyphs rule.criteria) _ (ids_row rule is)
    (rows_both (d_group rule) (d_tagged rule) (draft_of rule) (mark_glyphs rule.criteria rule.effect) _ (marks_row back rule is)
    (rows_both (d_tagged rule) (d_set_tos rule) (draft_of rule) (sets_glyphs rule.effect) (changes_glyphs rule.effect) (sets_row rule is) (changes_row rule is)))

-- a row up to the end
to_end : (before after : Draft) (symbols : Symbols) → Options before symbols after
    → Repeated is_end (λ item. (option item).derives) (length symbols) before symbols after []
to_end before after symbols takes =
    let few = takes.few in
    let all = takes.steps [] refl (length symbols - takes.count) after [] (ended refl) in
    subst (λ (start : Symbols). Repeated is_end (λ item. (option item).derives) (length symbols) before start after []) (append-nil symbols)
    (subst (λ (n : ℕ). Repeated is_end (λ item. (option item).derives) n before (symbols ++ []) after []) (omega arith) all)

rule_derived : PrintedTexts → BitsBack → (rule : Rule) → IsWritten rule
    → (rule_grammar (head_of rule.effect.action)).derives (front_symbols rule (said (option_glyphs rule))) (draft_of rule) []
unfolding rule_grammar
rule_derived printed back rule is =
    let row = options_row back rule is in
    record {
      part = front_draft rule;
      between = said (option_glyphs rule);
      front = (rule_front (head_of rule.effect.action)).exact.sound (front_symbols rule (said (option_glyphs rule))) (front_draft rule) (said (option_glyphs rule)) (front_read printed rule (said (option_glyphs rule)) is row.starts);
      back = to_end (front_draft rule) (draft_of rule) (said (option_glyphs rule)) row.takes;
    }

anchor_read : (text : List ℕ) (rest : Symbols) → is_file_name text ≡ true
    → (anchor_head false).reads (quoted text ∷ rest) ≡ Some (heads.Anchor (Some text) false, rest)
unfolding anchor_head
anchor_read text rest is = rw (quoted_back text is) refl

-- the head, and what stands behind it
statement_of : (effect : Effect) (action : Action) → IsWrittenAction effect action → (rest : Symbols) (draft : Draft) → begins from_direction rest ≡ true
    → (rule_grammar (head_of action)).derives rest draft [] → (statement false).derives (said (action_glyphs action) ++ rest) draft []
unfolding statement head_words block anchor
statement_of effect actions.Pass is rest draft follows derived =
    record { part = words.Pass; between = rest; front = (keyword head_words).exact.sound (bare (codes "pass") ∷ rest) words.Pass rest refl; back = derived }
statement_of effect actions.Match is rest draft follows derived =
    record { part = words.Match; between = rest; front = (keyword head_words).exact.sound (bare (codes "match") ∷ rest) words.Match rest refl; back = derived }
statement_of effect (actions.Block kind) is rest draft follows derived =
    let behind = said (kind_glyphs kind) ++ rest in
    let written = (and_parts (is_written_kind kind) (translates_nothing effect.params) is).0 in
    record {
      part = words.Block;
      between = behind;
      front = (keyword head_words).exact.sound (bare (codes "block") ∷ behind) words.Block behind refl;
      back = record {
        part = Some kind;
        between = rest;
        front = block_kind.exact.sound behind (Some kind) rest (kind_read kind rest written (no_sign from_direction (codes "(") rest follows refl));
        back = derived;
      };
    }
statement_of effect (actions.Anchor call) is rest draft follows derived =
    let text = call_text call in
    record {
      part = words.Anchor;
      between = quoted text ∷ rest;
      front = (keyword head_words).exact.sound (bare (codes "anchor") ∷ quoted text ∷ rest) words.Anchor (quoted text ∷ rest) refl;
      back = record {
        part = heads.Anchor (Some text) false;
        between = rest;
        front = (anchor_head false).exact.sound (quoted text ∷ rest) (heads.Anchor (Some text) false) rest (anchor_read text rest is.name);
        back = derived;
      };
    }

-- glyphs in a row, in front of symbols
push : (front back : List Glyph) (rest : Symbols) → said (front ++ back) ++ rest ≡ said front ++ (said back ++ rest)
push front back rest = ap (λ (symbols : Symbols). symbols ++ rest) (said-append front back) ∙ append_assoc (said front) (said back) rest

-- one part in front of others
behind_part : (part others : List Glyph) (rest known : Symbols) → said others ++ rest ≡ known → said (part ++ others) ++ rest ≡ said part ++ known
behind_part part others rest known e = push part others rest ∙ ap (λ (symbols : Symbols). said part ++ symbols) e

front_said : (rule : Rule) (rest : Symbols)
    → said (front_glyphs rule) ++ (said (hosts_glyphs rule.criteria) ++ rest) ≡ front_symbols rule rest
front_said rule rest =
    let behind = said (hosts_glyphs rule.criteria) ++ rest in
    behind_part (given direction_glyphs rule.criteria.direction) _ behind _
    (behind_part (log_glyphs rule.effect.params.log) _ behind _
    (behind_part (quick_glyphs rule.effect.quick) _ behind _
    (behind_part (iface_glyphs rule.criteria.iface) _ behind _
    (behind_part (given family_glyphs rule.criteria.family) _ behind _
    (behind_part (given proto_glyphs rule.criteria.proto) [] behind behind refl)))))

ends_said : (criteria : Criteria) (others : List Glyph) → said (end_glyphs criteria ++ others) ≡ said (hosts_glyphs criteria) ++ said (ids_glyphs criteria ++ others)
ends_said criteria others =
    ap (λ (glyphs : List Glyph). said glyphs) (append_assoc (hosts_glyphs criteria) (ids_glyphs criteria) others) ∙ said-append (hosts_glyphs criteria) (ids_glyphs criteria ++ others)

rule_said : (rule : Rule) → said (rule_glyphs rule) ≡ said (action_glyphs rule.effect.action) ++ front_symbols rule (said (option_glyphs rule))
rule_said rule =
    let others = mark_glyphs rule.criteria rule.effect ++ effect_glyphs rule.effect in
    said-append (action_glyphs rule.effect.action) (front_glyphs rule ++ (end_glyphs rule.criteria ++ others))
    ∙ ap (λ (symbols : Symbols). said (action_glyphs rule.effect.action) ++ symbols)
    (said-append (front_glyphs rule) (end_glyphs rule.criteria ++ others)
    ∙ ap (λ (symbols : Symbols). said (front_glyphs rule) ++ symbols) (ends_said rule.criteria others)
    ∙ front_said rule (said (option_glyphs rule)))

-- the tokens of a rule that a statement can come to are read as its form
pub rule_read : PrintedTexts → BitsBack → (rule : Rule) → IsWritten rule → (statement false).derives (said (rule_glyphs rule)) (draft_of rule) []
rule_read printed back rule is =
    subst (λ (symbols : Symbols). (statement false).derives symbols (draft_of rule) []) (sym (rule_said rule))
    (statement_of rule.effect rule.effect.action is.does.action (front_symbols rule (said (option_glyphs rule))) (draft_of rule) (at_front rule (said (option_glyphs rule)))
    (rule_derived printed back rule is))

-- and it has no late fault
no_clash : (options : StateOptions) → AreWrittenOptions options → options_clash options ≡ false
no_clash options is = rw (is.floating, and_right options.if_bound false refl, is.limited) refl

state_fault_of : (rule : Rule) (action : Action) → IsWritten rule
    → ((is_some (state_form (is_pass action) rule.effect.state) && not (makes_states (head_of action))) || false || options_clash rule.effect.options) ≡ false
state_fault_of rule actions.Pass is = no_clash rule.effect.options is.does.options
state_fault_of rule actions.Match is = no_clash rule.effect.options is.does.options
state_fault_of rule (actions.Block kind) is = no_clash rule.effect.options is.does.options
state_fault_of rule (actions.Anchor call) is = no_clash rule.effect.options is.does.options

has_no_state_fault : (rule : Rule) → IsWritten rule → has_state_fault (draft_of rule) ≡ false
unfolding has_state_fault
has_no_state_fault rule is = state_fault_of rule rule.effect.action is

none_is : {A : Type 0} (value : Option A) → is_none value ≡ true → is_some value ≡ false
none_is None none = refl
none_is (Some value) none = absurd (cc)

none_mapped : {A B : Type 0} (f : A → B) (value : Option A) → is_none value ≡ true → is_some (option_map f value) ≡ false
none_mapped f None none = refl
none_mapped f (Some value) none = absurd (cc)

-- what an anchor rule can't have
abbrev anchor_has : Effect → Option StateKind → Bool
anchor_has effect state =
    (effect.params.log.on || is_some effect.params.queue || is_some effect.params.prio || is_some effect.params.tos
    || not (is_no_scrub effect.params.scrub) || effect.params.allow_opts)
    || is_some effect.tag || is_some state || is_some effect.label
    || is_some (option_map target_words effect.params.nat) || is_some (option_map target_words effect.params.rdr)

anchor_effect_of : (effect : Effect) (action : Action) → IsWrittenAction effect action → (is_anchor (head_of action) && anchor_has effect (state_form (is_pass action) effect.state)) ≡ false
anchor_effect_of effect actions.Pass is = refl
anchor_effect_of effect actions.Match is = refl
anchor_effect_of effect (actions.Block kind) is = refl
anchor_effect_of effect (actions.Anchor call) is =
    let label = and_parts (sets_nothing effect.params && is_none effect.tag) (is_none effect.label) is.nothing in
    let tag = and_parts (sets_nothing effect.params) (is_none effect.tag) label.0 in
    let rdr = and_parts _ (is_none effect.params.rdr) tag.0 in
    let nat = and_parts _ (is_none effect.params.nat) rdr.0 in
    let allow = and_parts _ (not effect.params.allow_opts) nat.0 in
    let mss = and_parts _ (is_none effect.params.scrub.max_mss) allow.0 in
    let ttl = and_parts _ (is_none effect.params.scrub.min_ttl) mss.0 in
    let tcp = and_parts _ (not effect.params.scrub.reassemble_tcp) ttl.0 in
    let random = and_parts _ (not effect.params.scrub.random_id) tcp.0 in
    let no_df = and_parts _ (not effect.params.scrub.no_df) random.0 in
    let tos = and_parts _ (is_none effect.params.tos) no_df.0 in
    let prio = and_parts _ (is_none effect.params.prio) tos.0 in
    let queue = and_parts (not effect.params.log.on) (is_none effect.params.queue) prio.0 in
    rw (
      not-true effect.params.log.on queue.0,
      none_is effect.params.queue queue.1,
      none_is effect.params.prio prio.1,
      none_is effect.params.tos tos.1,
      not-true effect.params.scrub.no_df no_df.1,
      not-true effect.params.scrub.random_id random.1,
      not-true effect.params.scrub.reassemble_tcp tcp.1,
      ttl.1,
      mss.1,
      not-true effect.params.allow_opts allow.1,
      none_is effect.tag tag.1,
      none_is effect.label label.1,
      none_mapped target_words effect.params.nat nat.1,
      none_mapped target_words effect.params.rdr rdr.1,
    ) refl

has_no_anchor_effect : (rule : Rule) → IsWritten rule → has_anchor_effect (draft_of rule).form ≡ false
unfolding has_anchor_effect
has_no_anchor_effect rule is = anchor_effect_of rule.effect rule.effect.action is.does.action

late_where : (draft : Draft) → draft.unknown_flag ≡ false → has_state_fault draft ≡ false → has_anchor_effect draft.form ≡ false → late_of draft ≡ None
unfolding late_of has_state_fault
late_where draft known fine nothing = rw (known, fine, nothing) refl

pub late_none : (rule : Rule) → IsWritten rule → late_of (draft_of rule) ≡ None
late_none rule is = late_where (draft_of rule) refl (has_no_state_fault rule is) (has_no_anchor_effect rule is)
