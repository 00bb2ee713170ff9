-- What the grammar says of the tokens of a file: a form whose parts are in their ranges (pf.conf(5), GRAMMAR).
use Rattle.std.proofs.Common.{◌≡◌, ℕ, Bool, true, false, List, [], Option, Some, None, refl, sym, subst, ◌∙◌}
use Rattle.std.specs.Prelude.{◌&&◌, ◌||◌, not, is_none, is_some, map, if◌then◌else◌}
use Rattle.std.specs.List.{list_all}
use Rattle.std.proofs.lemmas.Bool.{or_parts}
use Rattle.std.proofs.lemmas.List.Folds.{list_all-map}
use Rattle.pf_base.specs.declared.kind.Family.{Family}
use Rattle.pf_base.specs.declared.kind.Family.TheVariants.{Inet, Inet6}
use Rattle.pf_decl.specs.ReadBack.{is_file_name}
use Rattle.pf_parts.specs.Defaults.{no_options}
use Rattle.pf_parts.specs.declared.matching.TagTest.{TagTest}
use Rattle.pf_parts.specs.declared.matching.TagTest.TheVariants as tags
use Rattle.pf_parts.specs.declared.params.Log.{Log}
use Rattle.pf_parts.specs.declared.params.Prios.{Prios}
use Rattle.pf_parts.specs.declared.params.Queues.{Queues}
use Rattle.pf_parts.specs.declared.params.Scrub.{Scrub}
use Rattle.pf_parts.specs.declared.matching.IfTest.{IfTest}
use Rattle.pf_parts.specs.declared.state.StateKind.{StateKind}
use Rattle.pf_parts.specs.declared.state.StateKind.TheVariants as states
use Rattle.pf_parts.specs.declared.state.StateOptions.{StateOptions}
use Rattle.pf_syntax.specs.Operators.{icmp_type}
use Rattle.pf_syntax.specs.Symbols.{symbols}
use Rattle.pf_syntax.specs.Words.{name, only_where}
use Rattle.pf_syntax.specs.declared.fault.FormFault.{FormFault}
use Rattle.pf_syntax.specs.declared.fault.FormFault.TheVariants as faults
use Rattle.pf_syntax.specs.declared.form.HostItem.{HostItem}
use Rattle.pf_syntax.specs.declared.form.TargetWords.{TargetWords}
use Rattle.pf_token.specs.declared.token.Token.{Token}
use Rattle.pf_form.specs.Kinds.{makes_states, may_translate}
use Rattle.pf_form.specs.declared.form.Draft.{Draft}
use Rattle.pf_form.specs.declared.form.FlagsForm.{FlagsForm}
use Rattle.pf_form.specs.declared.form.Head.{Head}
use Rattle.pf_form.specs.declared.form.Head.TheVariants as heads
use Rattle.pf_form.specs.declared.form.RuleForm.{RuleForm}
use Rattle.pf_grammar.specs.Forms.{HasForm}
use Rattle.pf_grammar.specs.Heads.{anchor_head}
use Rattle.pf_grammar.specs.Late.{has_anchor_effect, has_state_fault, late_of, options_clash}
use Rattle.pf_grammar.specs.Options.{allow_option, flags_part, groups, icmp_part, label_part, nat_part, no_state, option, option_behind, prio_part, rdr_part, scrub_option, set_option, state_clause, tag_part, tagged_part, tos_part, users}
use Rattle.pf_grammar.specs.Statements.{anchor, anchor_statement, antispoof, block, label, load_anchor, names_for, on_interface, plain_statement, rule, rule_front, statement, statement_behind}
use Rattle.pf_grammar.specs.declared.keyword.HeadWord.{HeadWord}
use Rattle.pf_grammar.specs.declared.keyword.HeadWord.TheVariants.{Pass, Match, Block, Anchor, Antispoof, Load}
use Rattle.pf_grammar.specs.declared.keyword.OptionWord.{OptionWord}
use Rattle.pf_grammar.specs.declared.keyword.OptionWord.TheVariants as words
use Rattle.pf_reread.specs.TokenText.{are_read_tokens}
use Rattle.pf_reread.specs.Written.{IsWrittenLog, if_given, is_byte, is_prio, is_written_iface, is_written_kind, is_written_scrub, is_written_tag_test}
use Rattle.pf_reread.proofs.FormParts.{AllPass, FlagsAre, SetIs, StateOptionsAre, block_kind_keeps, direction_rest, family_rest, flags_keep, hosts_keep, icmp_rest, ifaces_keep, is_form_item, logged_keeps, none_given, ops_rest, protos_rest, scrub_keeps, settings_keep, state_options_keep, target_rest}
use Rattle.pf_reread.proofs.FormWords.{Passes, name_keeps, prio_keeps, tos_keeps}
use Rattle.pf_reread.proofs.Keeping.{Keeps, all_keep, any_keeps, chosen_keeps, from_keeps, list_rest, none_keeps, on_keeps, refuse_keeps, row, symbols_read, then_keeps, until_keeps, value_keeps}

-- ---- what a form is, part by part

-- an anchor's name, and the numbers of a block's kind
abbrev pub is_form_head : Head → Bool
is_form_head heads.Pass = true
is_form_head heads.Match = true
is_form_head (heads.Block kind) = if_given is_written_kind kind
is_form_head (heads.Anchor text body) = if_given is_file_name text
is_form_head heads.Antispoof = true
is_form_head (heads.LoadAnchor text file) = true

-- marks of a packet and of a rule
pub record MarksAre (tos prio : Option ℕ) (tagged : TagTest) (tag label : Option (List ℕ)) : Type 0 where
  pub tos_is : if_given is_byte tos ≡ true
  pub prio_is : if_given is_prio prio ≡ true
  pub tagged_is : is_written_tag_test tagged ≡ true
  pub tag_is : if_given is_file_name tag ≡ true
  pub label_is : if_given is_file_name label ≡ true

-- what is done with a packet
pub record ParamsAre (log : Log) (scrub : Scrub) : Type 0 where
  pub log_is : IsWrittenLog log
  pub scrub_is : is_written_scrub scrub ≡ true

-- no state, or none is said
abbrev pub is_stateless : Option StateKind → Bool
is_stateless None = true
is_stateless (Some states.None) = true
is_stateless (Some states.Keep) = false
is_stateless (Some states.Modulate) = false
is_stateless (Some states.Synproxy) = false

-- options stand only behind a state
pub record StateIs (state : Option StateKind) (options : StateOptions) : Type 0 where
  pub options_are : StateOptionsAre options
  pub optionless : is_stateless state ≡ true → options ≡ no_options

-- interfaces and hosts
pub record PlacesAre (ifaces : List IfTest) (sources targets : List HostItem) : Type 0 where
  pub ifaces_are : list_all is_written_iface ifaces ≡ true
  pub sources_are : list_all is_form_item sources ≡ true
  pub targets_are : list_all is_form_item targets ≡ true

-- translations stand only where packets are translated
pub record HeadIs (head : Head) (nat rdr : Option TargetWords) : Type 0 where
  pub kind_is : is_form_head head ≡ true
  pub nat_none : may_translate head ≡ false → nat ≡ None
  pub rdr_none : may_translate head ≡ false → rdr ≡ None

pub record FormIs
    (head : Head) (nat rdr : Option TargetWords) (tos prio : Option ℕ) (tagged : TagTest) (tag label : Option (List ℕ))
    (state : Option StateKind) (options : StateOptions) (log : Log) (scrub : Scrub) (set_queue : Option Queues) (set_prio : Option Prios) (set_tos : Option ℕ)
    (ifaces : List IfTest) (sources targets : List HostItem) (unknown : Bool) (flags : Option FlagsForm) : Type 0 where
  pub head_is : HeadIs head nat rdr
  pub marks : MarksAre tos prio tagged tag label
  pub state_is : StateIs state options
  pub params : ParamsAre log scrub
  pub set_is : SetIs set_queue set_prio set_tos
  pub places : PlacesAre ifaces sources targets
  pub flags_are : FlagsAre unknown flags

abbrev pub DraftIs : Draft → Type 0
DraftIs draft =
    let form = draft.form in
    FormIs form.head form.nat form.rdr form.tos form.prio form.tagged form.tag form.label form.state form.options form.params.log form.params.scrub
    form.params.queue form.params.prio form.params.tos form.ifaces form.sources form.targets draft.unknown_flag form.flags

-- ---- options

users_keep : (before : Draft) → DraftIs before → Keeps DraftIs (users before).derives
unfolding users
users_keep before held = row none_keeps (λ once. row ops_rest (λ tests. value_keeps held))

groups_keep : (before : Draft) → DraftIs before → Keeps DraftIs (groups before).derives
unfolding groups
groups_keep before held = row none_keeps (λ once. row ops_rest (λ tests. value_keeps held))

flags_part_keeps : (before : Draft) → DraftIs before → Keeps DraftIs (flags_part before).derives
unfolding flags_part
flags_part_keeps before held = row none_keeps (λ once. then_keeps flags_keep (λ read is. value_keeps (record {
  head_is = held.head_is;
  marks = held.marks;
  state_is = held.state_is;
  params = held.params;
  set_is = held.set_is;
  places = held.places;
  flags_are = is;
})))

icmp_keeps : (version : Family) (before : Draft) → DraftIs before → Keeps DraftIs (icmp_part version before).derives
unfolding icmp_part
icmp_keeps version before held = row none_keeps (λ once. row (list_rest (icmp_type version) (icmp_rest version)) (λ types. value_keeps held))

tos_part_keeps : (before : Draft) → DraftIs before → Keeps DraftIs (tos_part before).derives
unfolding tos_part
tos_part_keeps before held = row none_keeps (λ once. then_keeps tos_keeps (λ value is. value_keeps (record {
  marks = record { tos_is = is; prio_is = held.marks.prio_is; tagged_is = held.marks.tagged_is; tag_is = held.marks.tag_is; label_is = held.marks.label_is };
  head_is = held.head_is;
  state_is = held.state_is;
  params = held.params;
  set_is = held.set_is;
  places = held.places;
  flags_are = held.flags_are;
})))

prio_part_keeps : (before : Draft) → DraftIs before → Keeps DraftIs (prio_part before).derives
unfolding prio_part
prio_part_keeps before held = row none_keeps (λ once. then_keeps prio_keeps (λ value is. value_keeps (record {
  marks = record { tos_is = held.marks.tos_is; prio_is = is; tagged_is = held.marks.tagged_is; tag_is = held.marks.tag_is; label_is = held.marks.label_is };
  head_is = held.head_is;
  state_is = held.state_is;
  params = held.params;
  set_is = held.set_is;
  places = held.places;
  flags_are = held.flags_are;
})))

tagged_keeps : (negated : Bool) (before : Draft) → DraftIs before → Keeps DraftIs (tagged_part negated before).derives
unfolding tagged_part
tagged_keeps negated before held = row none_keeps (λ once. then_keeps name_keeps (λ tag is. value_keeps (record {
  marks = record { tos_is = held.marks.tos_is; prio_is = held.marks.prio_is; tagged_is = is; tag_is = held.marks.tag_is; label_is = held.marks.label_is };
  head_is = held.head_is;
  state_is = held.state_is;
  params = held.params;
  set_is = held.set_is;
  places = held.places;
  flags_are = held.flags_are;
})))

tag_keeps : (before : Draft) → DraftIs before → Keeps DraftIs (tag_part before).derives
unfolding tag_part
tag_keeps before held = row none_keeps (λ once. then_keeps name_keeps (λ tag is. value_keeps (record {
  marks = record { tos_is = held.marks.tos_is; prio_is = held.marks.prio_is; tagged_is = held.marks.tagged_is; tag_is = is; label_is = held.marks.label_is };
  head_is = held.head_is;
  state_is = held.state_is;
  params = held.params;
  set_is = held.set_is;
  places = held.places;
  flags_are = held.flags_are;
})))

label_part_keeps : (before : Draft) → DraftIs before → Keeps DraftIs (label_part before).derives
unfolding label_part
label_part_keeps before held = row none_keeps (λ once. then_keeps name_keeps (λ text is. value_keeps (record {
  marks = record { tos_is = held.marks.tos_is; prio_is = held.marks.prio_is; tagged_is = held.marks.tagged_is; tag_is = held.marks.tag_is; label_is = is };
  head_is = held.head_is;
  state_is = held.state_is;
  params = held.params;
  set_is = held.set_is;
  places = held.places;
  flags_are = held.flags_are;
})))

unsaid : (state : Option StateKind) (value : Unit {0}) → ◌≡◌ {A = Option (Unit {0})} (if is_none state then Some tt else None) (Some value) → is_stateless state ≡ true
unsaid None value is = refl
unsaid (Some state) value is = absurd (cc)

once_unsaid : (state : Option StateKind) → Keeps (λ once. is_stateless state ≡ true) (only_where (is_none state)).derives
once_unsaid state = from_keeps (unsaid state)

no_state_keeps : (before : Draft) → DraftIs before → Keeps DraftIs (no_state before).derives
unfolding no_state
no_state_keeps before held = then_keeps (once_unsaid before.form.state) (λ once unsaid. row any_keeps (λ state. value_keeps (record {
  state_is = record { options_are = held.state_is.options_are; optionless = λ stateless. held.state_is.optionless unsaid };
  head_is = held.head_is;
  marks = held.marks;
  params = held.params;
  set_is = held.set_is;
  places = held.places;
  flags_are = held.flags_are;
})))

state_keeps : (kind : StateKind) → is_stateless (Some kind) ≡ false → (before : Draft) → DraftIs before → Keeps DraftIs (state_clause kind before).derives
unfolding state_clause
state_keeps kind stateful before held = row none_keeps (λ once. then_keeps state_options_keep (λ read is. value_keeps (record {
  state_is = record { options_are = is; optionless = λ stateless. absurd (cc) };
  head_is = held.head_is;
  marks = held.marks;
  params = held.params;
  set_is = held.set_is;
  places = held.places;
  flags_are = held.flags_are;
})))

set_keeps : (before : Draft) → DraftIs before → Keeps DraftIs (set_option before).derives
unfolding set_option
set_keeps before held = then_keeps (settings_keep _ held.set_is) (λ set is. value_keeps (record {
  set_is = is;
  head_is = held.head_is;
  marks = held.marks;
  state_is = held.state_is;
  params = held.params;
  places = held.places;
  flags_are = held.flags_are;
}))

scrub_option_keeps : (before : Draft) → DraftIs before → Keeps DraftIs (scrub_option before).derives
unfolding scrub_option
scrub_option_keeps before held = row none_keeps (λ once. then_keeps scrub_keeps (λ value is. value_keeps (record {
  params = record { log_is = held.params.log_is; scrub_is = is };
  head_is = held.head_is;
  marks = held.marks;
  state_is = held.state_is;
  set_is = held.set_is;
  places = held.places;
  flags_are = held.flags_are;
})))

allow_keeps : (before : Draft) → DraftIs before → Keeps DraftIs (allow_option before).derives
unfolding allow_option
allow_keeps before held = row none_keeps (λ once. value_keeps held)

held_if : (b : Bool) (value : Unit {0}) → ◌≡◌ {A = Option (Unit {0})} (if b then Some tt else None) (Some value) → b ≡ true
held_if true value is = refl
held_if false value is = absurd (cc)

-- a translation stands only where the head translates
fits_head : (head : Head) → Keeps (λ once. may_translate head ≡ true) (only_where (may_translate head)).derives
fits_head head = from_keeps (held_if (may_translate head))

nat_keeps : (before : Draft) → DraftIs before → Keeps DraftIs (nat_part before).derives
unfolding nat_part
nat_keeps before held = then_keeps (fits_head before.form.head) (λ fits translates. row none_keeps (λ once. row target_rest (λ words. value_keeps (record {
  head_is = record { kind_is = held.head_is.kind_is; nat_none = λ never. absurd (cc); rdr_none = held.head_is.rdr_none };
  marks = held.marks;
  state_is = held.state_is;
  params = held.params;
  set_is = held.set_is;
  places = held.places;
  flags_are = held.flags_are;
}))))

rdr_keeps : (before : Draft) → DraftIs before → Keeps DraftIs (rdr_part before).derives
unfolding rdr_part
rdr_keeps before held = then_keeps (fits_head before.form.head) (λ fits translates. row none_keeps (λ once. row target_rest (λ words. value_keeps (record {
  head_is = record { kind_is = held.head_is.kind_is; nat_none = held.head_is.nat_none; rdr_none = λ never. absurd (cc) };
  marks = held.marks;
  state_is = held.state_is;
  params = held.params;
  set_is = held.set_is;
  places = held.places;
  flags_are = held.flags_are;
}))))

option_behind_keeps : (word : OptionWord) (before : Draft) → DraftIs before → Keeps DraftIs (option_behind word before).derives
option_behind_keeps words.User before held = users_keep before held
option_behind_keeps words.Group before held = groups_keep before held
option_behind_keeps words.Flags before held = flags_part_keeps before held
option_behind_keeps words.IcmpType before held = icmp_keeps Inet before held
option_behind_keeps words.Icmp6Type before held = icmp_keeps Inet6 before held
option_behind_keeps words.Tos before held = tos_part_keeps before held
option_behind_keeps words.Prio before held = prio_part_keeps before held
option_behind_keeps words.Tagged before held = tagged_keeps false before held
option_behind_keeps words.Tag before held = tag_keeps before held
option_behind_keeps words.No before held = no_state_keeps before held
option_behind_keeps words.Keep before held = state_keeps states.Keep refl before held
option_behind_keeps words.Modulate before held = state_keeps states.Modulate refl before held
option_behind_keeps words.Synproxy before held = state_keeps states.Synproxy refl before held
option_behind_keeps words.Set before held = set_keeps before held
option_behind_keeps words.Scrub before held = scrub_option_keeps before held
option_behind_keeps words.AllowOpts before held = allow_keeps before held
option_behind_keeps words.Label before held = label_part_keeps before held
option_behind_keeps words.NatTo before held = nat_keeps before held
option_behind_keeps words.RdrTo before held = rdr_keeps before held

option_keeps : (before : Draft) → DraftIs before → Keeps DraftIs (option before).derives
unfolding option
option_keeps before held =
    on_keeps (row any_keeps (λ tested. tagged_keeps true before held)) (row any_keeps (λ word. option_behind_keeps word before held))

-- ---- statements

no_marks : MarksAre None None tags.Any None None
no_marks = record { tos_is = refl; prio_is = refl; tagged_is = refl; tag_is = refl; label_is = refl }

no_state_yet : StateIs None no_options
no_state_yet = record { options_are = none_given; optionless = λ stateless. refl }

no_set : SetIs None None None
no_set = record { queue_is = refl; prio_is = refl; tos_is = refl }

blank_head : (head : Head) → is_form_head head ≡ true → HeadIs head None None
blank_head head is = record { kind_is = is; nat_none = λ never. refl; rdr_none = λ never. refl }

rule_front_keeps : (head : Head) → is_form_head head ≡ true → Keeps DraftIs (rule_front head).derives
unfolding rule_front
rule_front_keeps head is =
    row direction_rest (λ way. then_keeps logged_keeps (λ log logged. then_keeps ifaces_keep (λ on named. row family_rest (λ inet. row protos_rest (λ proto.
    then_keeps hosts_keep (λ sides are. value_keeps (record {
      head_is = blank_head head is;
      marks = no_marks;
      state_is = no_state_yet;
      params = record { log_is = logged; scrub_is = refl };
      set_is = no_set;
      places = record { ifaces_are = named; sources_are = are.sources; targets_are = are.targets };
      flags_are = λ known. refl;
    })))))))

rule_keeps : (head : Head) → is_form_head head ≡ true → Keeps DraftIs (rule head).derives
unfolding rule
rule_keeps head is = then_keeps (rule_front_keeps head is) (λ front held. until_keeps option_keeps held)

label_keeps : Keeps (λ text. if_given is_file_name text ≡ true) label.derives
unfolding label
label_keeps = on_keeps (then_keeps name_keeps (λ text is. value_keeps is)) (value_keeps refl)

names_on : (names : List (List ℕ)) → list_all is_file_name names ≡ true → list_all is_written_iface (map on_interface names) ≡ true
names_on names all = list_all-map is_written_iface on_interface names ∙ all

names_keep : Keeps (AllPass is_written_iface) names_for.derives
names_keep = then_keeps (all_keep is_file_name name name_keeps) (λ names all. value_keeps (names_on names all))

antispoof_keeps : Keeps DraftIs antispoof.derives
unfolding antispoof
antispoof_keeps = then_keeps logged_keeps (λ log logged. row any_keeps (λ word. then_keeps names_keep (λ on named. row family_rest (λ inet. then_keeps label_keeps (λ text labelled. value_keeps (record {
  head_is = blank_head heads.Antispoof refl;
  marks = record { tos_is = refl; prio_is = refl; tagged_is = refl; tag_is = refl; label_is = labelled };
  state_is = no_state_yet;
  params = record { log_is = logged; scrub_is = refl };
  set_is = no_set;
  places = record { ifaces_are = named; sources_are = refl; targets_are = refl };
  flags_are = λ known. refl;
}))))))

load_anchor_keeps : Keeps DraftIs load_anchor.derives
unfolding load_anchor
load_anchor_keeps = row any_keeps (λ anchor. row any_keeps (λ text. row any_keeps (λ source. row any_keeps (λ file. value_keeps (record {
  head_is = blank_head (heads.LoadAnchor text file) refl;
  marks = no_marks;
  state_is = no_state_yet;
  params = record { log_is = record { to = refl; none = λ off. refl }; scrub_is = refl };
  set_is = no_set;
  places = record { ifaces_are = refl; sources_are = refl; targets_are = refl };
  flags_are = λ known. refl;
})))))

anchor_head_keeps : (body : Bool) → Keeps (Passes is_form_head) (anchor_head body).derives
unfolding anchor_head
anchor_head_keeps body = chosen_keeps (then_keeps name_keeps (λ text is. value_keeps is)) (row none_keeps (λ needed. value_keeps refl))

anchor_keeps : (body : Bool) → Keeps DraftIs (anchor body).derives
unfolding anchor
anchor_keeps body = then_keeps (anchor_head_keeps body) rule_keeps

block_keeps : Keeps DraftIs block.derives
unfolding block
block_keeps = then_keeps block_kind_keeps (λ kind is. rule_keeps (heads.Block kind) is)

plain_statement_keeps : (word : HeadWord) → Keeps DraftIs (plain_statement word).derives
plain_statement_keeps Pass = rule_keeps heads.Pass refl
plain_statement_keeps Match = rule_keeps heads.Match refl
plain_statement_keeps Block = block_keeps
plain_statement_keeps Anchor = anchor_keeps false
plain_statement_keeps Antispoof = antispoof_keeps
plain_statement_keeps Load = load_anchor_keeps

anchor_statement_keeps : (word : HeadWord) → Keeps DraftIs (anchor_statement word).derives
anchor_statement_keeps Pass = refuse_keeps
anchor_statement_keeps Match = refuse_keeps
anchor_statement_keeps Block = refuse_keeps
anchor_statement_keeps Anchor = anchor_keeps true
anchor_statement_keeps Antispoof = refuse_keeps
anchor_statement_keeps Load = refuse_keeps

statement_behind_keeps : (body : Bool) (word : HeadWord) → Keeps DraftIs (statement_behind body word).derives
statement_behind_keeps true word = anchor_statement_keeps word
statement_behind_keeps false word = plain_statement_keeps word

statement_keeps : (body : Bool) → Keeps DraftIs (statement body).derives
unfolding statement
statement_keeps body = row any_keeps (λ word. statement_behind_keeps body word)

-- ---- without a late fault

pub record IsWrittenForm (form : RuleForm) : Type 0 where
  pub parts : FormIs form.head form.nat form.rdr form.tos form.prio form.tagged form.tag form.label form.state form.options form.params.log form.params.scrub form.params.queue form.params.prio form.params.tos form.ifaces form.sources form.targets false form.flags
  pub state_fits : (is_some form.state && not (makes_states form.head)) ≡ false
  pub clash : options_clash form.options ≡ false
  pub effect : has_anchor_effect form ≡ false

-- the faults that aren't there
three_none : (first second third : Bool) (bad opts effect : FormFault) → None ≡ (if first then Some bad else if second then Some opts else if third then Some effect else None) → (first ≡ false) × (second ≡ false) × (third ≡ false)
three_none true second third bad opts effect is = absurd (cc)
three_none false true third bad opts effect is = absurd (cc)
three_none false false true bad opts effect is = absurd (cc)
three_none false false false bad opts effect is = (refl, refl, refl)

no_late : (draft : Draft) → None ≡ late_of draft → (draft.unknown_flag ≡ false) × (has_state_fault draft ≡ false) × (has_anchor_effect draft.form ≡ false)
unfolding late_of
no_late draft is = three_none draft.unknown_flag (has_state_fault draft) (has_anchor_effect draft.form) faults.BadFlags faults.StateOptions faults.AnchorEffect is

state_parts : (draft : Draft) → has_state_fault draft ≡ false → ((is_some draft.form.state && not (makes_states draft.form.head)) ≡ false) × (options_clash draft.form.options ≡ false)
unfolding has_state_fault
state_parts draft is =
    let first = or_parts ((is_some draft.form.state && not (makes_states draft.form.head)) || draft.repeated_option) (options_clash draft.form.options) is in
    let second = or_parts (is_some draft.form.state && not (makes_states draft.form.head)) draft.repeated_option first.0 in
    (second.0, first.1)

written_draft : (draft : Draft) → DraftIs draft → None ≡ late_of draft → IsWrittenForm draft.form
written_draft draft is none =
    let late = no_late draft none in
    let states = state_parts draft late.1 in
    record {
      parts = record {
        head_is = is.head_is;
        marks = is.marks;
        state_is = is.state_is;
        params = is.params;
        set_is = is.set_is;
        places = is.places;
        flags_are = λ known. is.flags_are late.0;
      };
      state_fits = states.0;
      clash = states.1;
      effect = late.2;
    }

-- the form of a file's tokens
pub form_is_written : (tokens : List Token) (body : Bool) (form : RuleForm) → are_read_tokens tokens ≡ true → HasForm tokens body form None → IsWrittenForm form
form_is_written tokens body form file has =
    let kept = (statement_keeps body).kept (symbols tokens) has.draft [] (symbols_read tokens file) has.derived in
    let P : RuleForm → Type 0 = IsWrittenForm in
    subst P (sym has.says) (written_draft has.draft kept.holds has.fault)
