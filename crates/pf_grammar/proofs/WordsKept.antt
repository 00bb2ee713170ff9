-- The words of the forms that tokens have, production by production.
use Rattle.std.proofs.Common.{◌≡◌, ℕ, Bool, true, false, ◌&&◌, ◌||◌, not, List, [], Option, Some, None, refl, subst, sym}
use Rattle.std.specs.Prelude.{codes, if◌then◌else◌, position, ◌==◌}
use Rattle.std.specs.List.{list_all}
use Rattle.std.specs.Option.{option_and_then}
use Rattle.std.specs.Str.{bytes_eq}
use Rattle.std.proofs.lemmas.Bool.{and_from}
use Rattle.pf_base.specs.declared.kind.Family.{Family}
use Rattle.pf_base.specs.declared.kind.Family.TheVariants.{Inet, Inet6}
use Rattle.pf_ops.specs.declared.operator.OpKind.{OpKind}
use Rattle.pf_ops.specs.declared.operator.OpKind.TheVariants.{Between, Outside}
use Rattle.pf_parts.specs.declared.params.Log.{Log}
use Rattle.pf_parts.specs.declared.params.Scrub.{Scrub}
use Rattle.pf_parts.specs.declared.state.StateKind.{StateKind}
use Rattle.pf_parts.specs.declared.state.StateKind.TheVariants as states
use Rattle.pf_token.specs.declared.token.Token.{Token}
use Rattle.pf_syntax.specs.Symbols.{Symbol, bare, quoted, mark, line_end, symbols}
use Rattle.pf_syntax.specs.Words.{any_word, bare_text, name}
use Rattle.pf_syntax.specs.Lists.{list_of}
use Rattle.pf_syntax.specs.Hosts.{host_text, host_word, table_name, dynamic, address, plain_host, host}
use Rattle.pf_syntax.specs.Operators.{cut_at, high_behind, icmp_type, op, operator, sign_test, target, word_op, word_test}
use Rattle.pf_syntax.specs.declared.form.HostForm.{HostForm}
use Rattle.pf_syntax.specs.declared.form.HostItem.{HostItem}
use Rattle.pf_syntax.specs.declared.form.OpItem.{OpItem}
use Rattle.pf_syntax.specs.declared.fault.FormFault.{FormFault}
use Rattle.pf_form.specs.declared.form.Draft.{Draft}
use Rattle.pf_form.specs.declared.form.Head.{Head}
use Rattle.pf_form.specs.declared.form.Head.TheVariants as heads
use Rattle.pf_form.specs.declared.form.RuleForm.{RuleForm}
use Rattle.pf_form.specs.declared.hosts.Hosts.{Hosts}
use Rattle.pf_form.specs.declared.hosts.Side.{Side}
use Rattle.pf_form.specs.declared.keyword.LogWord.{LogWord}
use Rattle.pf_form.specs.declared.keyword.LogWord.TheVariants as logs
use Rattle.pf_form.specs.declared.keyword.ScrubWord.{ScrubWord}
use Rattle.pf_form.specs.declared.keyword.ScrubWord.TheVariants as scrubs
use Rattle.pf_form.specs.declared.keyword.SetWord.{SetWord}
use Rattle.pf_form.specs.declared.keyword.SetWord.TheVariants as sets
use Rattle.pf_form.specs.declared.keyword.StateWord.{StateWord}
use Rattle.pf_form.specs.declared.keyword.StateWord.TheVariants as options
use Rattle.pf_form.specs.declared.setting.ReadSet.{ReadSet}
use Rattle.pf_form.specs.declared.state.ReadOptions.{ReadOptions}
use Rattle.pf_form.specs.Flags.{flags}
use Rattle.pf_form.specs.Log.{log_first, log_option, log_options, log_part, logged, quick_first}
use Rattle.pf_form.specs.Settings.{prios, queues, scrub, scrub_behind, scrub_part, set_behind, set_part, settings}
use Rattle.pf_form.specs.States.{flush, overload, rate, state_option, state_options, state_part, track}
use Rattle.pf_form.specs.Tests.{direction, family, hosts, iface, ifaces, ports, protos, side, side_behind, where_hosts}
use Rattle.pf_grammar.specs.declared.keyword.HeadWord.{HeadWord}
use Rattle.pf_grammar.specs.declared.keyword.HeadWord.TheVariants.{Pass, Match, Block, Anchor, Antispoof, Load}
use Rattle.pf_grammar.specs.declared.keyword.KindWord.{KindWord}
use Rattle.pf_grammar.specs.declared.keyword.KindWord.TheVariants as kinds
use Rattle.pf_grammar.specs.declared.keyword.OptionWord.{OptionWord}
use Rattle.pf_grammar.specs.declared.keyword.OptionWord.TheVariants as words
use Rattle.pf_grammar.specs.Bytes.{HasBytes, WordsHaveBytes, form_has_bytes, has_bytes, has_two, host_has_bytes, is_within, op_has_bytes, symbol_has_bytes, symbols_have_bytes, target_has_bytes}
use Rattle.pf_grammar.specs.Forms.{HasForm}
use Rattle.pf_grammar.specs.Heads.{anchor_head, block_kind, icmp6_kind, icmp_kind, kind_behind, reset_kind, second_code}
use Rattle.pf_grammar.specs.Options.{allow_option, flags_part, groups, icmp_part, label_part, nat_part, no_state, option, option_behind, prio_part, rdr_part, scrub_option, set_option, state_clause, tag_part, tagged_part, tos_part, users}
use Rattle.pf_grammar.specs.Statements.{anchor, anchor_statement, antispoof, block, label, load_anchor, names_for, plain_statement, rule, rule_front, statement, statement_behind}
use Rattle.pf_grammar.proofs.Keeping.{Anything, HoldsIn, Keeps, all_keep, any_keeps, brackets_rest, chosen_keeps, list_rest, none_keeps, on_keeps, one_keeps, perhaps_keeps, refuse_keeps, row, then_keeps, until_keeps, value_keeps}

-- a word, which has a byte
abbrev Full : List ℕ → Type 0
Full word = has_bytes word ≡ true

word_full : (symbol : Symbol) (value : List ℕ) → symbol_has_bytes symbol ≡ true → bare_text symbol ≡ Some value → Full value
word_full (bare text) value full is = let P : Option (List ℕ) → Type 0 = HoldsIn Full in subst P is full
word_full (quoted text) value full is = absurd (cc)
word_full (mark text) value full is = absurd (cc)
word_full line_end value full is = absurd (cc)

word_keeps : Keeps Full any_word.derives
word_keeps = one_keeps word_full

unless_full : (dash : Bool) (text value : List ℕ) → Full text → if dash then None else Some text ≡ Some value → Full value
unless_full true text value full is = absurd (cc)
unless_full false text value full is = let P : Option (List ℕ) → Type 0 = HoldsIn Full in subst P is full

host_word_full : (symbol : Symbol) (value : List ℕ) → symbol_has_bytes symbol ≡ true → option_and_then host_text (bare_text symbol) ≡ Some value → Full value
host_word_full (bare text) value full is = unless_full (bytes_eq text (codes "-")) text value full is
host_word_full (quoted text) value full is = absurd (cc)
host_word_full (mark text) value full is = absurd (cc)
host_word_full line_end value full is = absurd (cc)

host_word_keeps : Keeps Full host_word.derives
host_word_keeps = one_keeps host_word_full

-- hosts
abbrev HostIsFull : HostForm → Type 0
HostIsFull what = form_has_bytes what ≡ true

table_rest : Keeps Anything table_name.derives
unfolding table_name
table_rest = row any_keeps (λ word. row any_keeps (λ closed. none_keeps))

dynamic_keeps : Keeps HostIsFull dynamic.derives
unfolding dynamic
dynamic_keeps = then_keeps word_keeps (λ word full. row any_keeps (λ closed. value_keeps full))

address_keeps : Keeps HostIsFull address.derives
unfolding address
address_keeps = then_keeps host_word_keeps (λ low full.
    on_keeps (row any_keeps (λ mask. value_keeps full))
    (on_keeps (then_keeps host_word_keeps (λ high more. value_keeps (and_from (has_bytes low) (has_bytes high) full more))) (value_keeps full)))

plain_host_keeps : Keeps HostIsFull plain_host.derives
unfolding plain_host
plain_host_keeps = on_keeps dynamic_keeps (on_keeps (row table_rest (λ table. value_keeps refl)) address_keeps)

host_keeps : Keeps (λ item. host_has_bytes item ≡ true) host.derives
unfolding host
host_keeps = on_keeps (value_keeps refl) (row perhaps_keeps (λ negated. then_keeps plain_host_keeps (λ what full. value_keeps full)))

-- tests
op_single : (within two low high : Bool) → two ≡ false → low ≡ true → (within || (low && (not two || high))) ≡ true
op_single true two low high single full = refl
op_single false true low high single full = absurd (cc)
op_single false false true high single full = refl
op_single false false false high single full = absurd (cc)

op_double : (within two low high : Bool) → low ≡ true → high ≡ true → (within || (low && (not two || high))) ≡ true
op_double true two low high full more = refl
op_double false two false high full more = absurd (cc)
op_double false two true false full more = absurd (cc)
op_double false true true true full more = refl
op_double false false true true full more = refl

operator_keeps : Keeps (λ kind. has_two kind ≡ false) operator.derives
unfolding operator
operator_keeps =
    on_keeps (value_keeps refl)
    (on_keeps (row any_keeps (λ equal. value_keeps refl))
    (on_keeps (on_keeps (value_keeps refl) (value_keeps refl))
    (on_keeps (on_keeps (value_keeps refl) (value_keeps refl)) refuse_keeps)))

abbrev OpIsFull : OpItem → Type 0
OpIsFull item = op_has_bytes item ≡ true

sign_test_keeps : Keeps OpIsFull sign_test.derives
unfolding sign_test
sign_test_keeps = then_keeps operator_keeps (λ kind single. then_keeps word_keeps (λ low full.
    value_keeps (op_single (is_within kind) (has_two kind) (has_bytes low) (has_bytes []) single full)))

high_keeps : (kind : OpKind) (first second low : List ℕ) → Full low → Keeps OpIsFull (high_behind kind first second low).derives
high_keeps kind first second low full = row any_keeps (λ one. row any_keeps (λ two. then_keeps word_keeps (λ high more.
    value_keeps (op_double (is_within kind) (has_two kind) (has_bytes low) (has_bytes high) full more))))

cut_full : (word : List ℕ) (colon : Option ℕ) → Full word → OpIsFull (cut_at word colon)
cut_full word None full = op_single false false (has_bytes word) (has_bytes []) refl full
cut_full word (Some i) full = refl

word_op_full : (word : List ℕ) → Full word → OpIsFull (word_op word)
word_op_full word full = cut_full word (position (λ byte. byte == 58) word) full

word_test_keeps : Keeps OpIsFull word_test.derives
unfolding word_test
word_test_keeps = then_keeps word_keeps (λ low full.
    chosen_keeps (high_keeps Between (codes ">") (codes "<") low full)
    (chosen_keeps (high_keeps Outside (codes "<") (codes ">") low full) (value_keeps (word_op_full low full))))

op_keeps : Keeps OpIsFull op.derives
unfolding op
op_keeps = chosen_keeps sign_test_keeps word_test_keeps

abbrev OpsAreFull : List OpItem → Type 0
OpsAreFull items = list_all op_has_bytes items ≡ true

abbrev HostsAreFull : List HostItem → Type 0
HostsAreFull items = list_all host_has_bytes items ≡ true

ops_keep : Keeps OpsAreFull (list_of op).derives
ops_keep = all_keep op_has_bytes op op_keeps

icmp_rest : (family : Family) → Keeps Anything (icmp_type family).derives
unfolding icmp_type
icmp_rest version = row any_keeps (λ word. on_keeps (row any_keeps (λ code. none_keeps)) none_keeps)

target_keeps : Keeps (λ words. target_has_bytes words ≡ true) target.derives
unfolding target
target_keeps = then_keeps word_keeps (λ addr full.
    on_keeps (then_keeps word_keeps (λ port more. value_keeps (and_from (has_bytes addr) (has_bytes port) full more)))
    (value_keeps (and_from (has_bytes addr) true full refl)))

-- the front of a rule
direction_rest : Keeps Anything direction.derives
unfolding direction
direction_rest = on_keeps none_keeps (on_keeps none_keeps none_keeps)

iface_rest : Keeps Anything iface.derives
unfolding iface
iface_rest = on_keeps none_keeps (row perhaps_keeps (λ negated. row any_keeps (λ text. none_keeps)))

ifaces_rest : Keeps Anything ifaces.derives
unfolding ifaces
ifaces_rest = on_keeps (list_rest iface iface_rest) none_keeps

family_rest : Keeps Anything family.derives
unfolding family
family_rest = on_keeps none_keeps (on_keeps none_keeps none_keeps)

protos_rest : Keeps Anything protos.derives
unfolding protos
protos_rest = on_keeps (list_rest name any_keeps) none_keeps

ports_keep : Keeps OpsAreFull ports.derives
unfolding ports
ports_keep = on_keeps ops_keep (value_keeps refl)

where_keeps : Keeps HostsAreFull where_hosts.derives
where_keeps = chosen_keeps (value_keeps refl) (all_keep host_has_bytes host host_keeps)

record SideIsFull (side : Side) : Type 0 where
  pub host_words : HostsAreFull side.hosts
  pub port_words : OpsAreFull side.ports

side_keeps : Keeps SideIsFull side.derives
unfolding side
side_keeps = then_keeps where_keeps (λ items full. then_keeps ports_keep (λ tests more. value_keeps (record { host_words = full; port_words = more })))

side_behind_keeps : (word : List ℕ) → Keeps SideIsFull (side_behind word).derives
side_behind_keeps word = on_keeps side_keeps (value_keeps (record { host_words = refl; port_words = refl }))

record SidesAreFull (sides : Hosts) : Type 0 where
  pub source_words : SideIsFull sides.sources
  pub target_words : SideIsFull sides.targets

hosts_keep : Keeps SidesAreFull hosts.derives
unfolding hosts
hosts_keep =
    on_keeps (value_keeps (record { source_words = record { host_words = refl; port_words = refl }; target_words = record { host_words = refl; port_words = refl } }))
    (then_keeps (side_behind_keeps (codes "from")) (λ sources full. then_keeps (side_behind_keeps (codes "to")) (λ targets more.
    value_keeps (record { source_words = full; target_words = more }))))

-- logs
log_part_rest : (word : LogWord) (before : Log) → Keeps Anything (log_part word before).derives
unfolding log_part
log_part_rest logs.All before = row none_keeps (λ once. none_keeps)
log_part_rest logs.Matches before = row none_keeps (λ once. none_keeps)
log_part_rest logs.User before = row none_keeps (λ once. none_keeps)
log_part_rest logs.To before = row none_keeps (λ once. row any_keeps (λ iface. none_keeps))

log_option_rest : (before : Log) → Keeps Anything (log_option before).derives
unfolding log_option
log_option_rest before = row any_keeps (λ word. log_part_rest word before)

log_options_rest : Keeps Anything log_options.derives
unfolding log_options
log_options_rest = chosen_keeps (brackets_rest log_option _ log_option_rest) none_keeps

log_first_rest : Keeps Anything log_first.derives
unfolding log_first
log_first_rest = row log_options_rest (λ log. row perhaps_keeps (λ quick. none_keeps))

quick_first_rest : Keeps Anything quick_first.derives
unfolding quick_first
quick_first_rest = row (on_keeps log_options_rest none_keeps) (λ log. none_keeps)

logged_rest : Keeps Anything logged.derives
unfolding logged
logged_rest = on_keeps log_first_rest (on_keeps quick_first_rest none_keeps)

-- options
flags_rest : Keeps Anything flags.derives
unfolding flags
flags_rest = on_keeps none_keeps (row (chosen_keeps none_keeps any_keeps) (λ set. row any_keeps (λ slash. row any_keeps (λ mask. none_keeps))))

track_rest : Keeps Anything track.derives
unfolding track
track_rest = on_keeps none_keeps (on_keeps none_keeps none_keeps)

rate_rest : Keeps Anything rate.derives
unfolding rate
rate_rest = row any_keeps (λ connections. row any_keeps (λ slash. row any_keeps (λ seconds. none_keeps)))

flush_rest : Keeps Anything flush.derives
unfolding flush
flush_rest = on_keeps (on_keeps none_keeps none_keeps) none_keeps

overload_rest : Keeps Anything overload.derives
unfolding overload
overload_rest = row any_keeps (λ opened. row table_rest (λ table. row flush_rest (λ flushed. none_keeps)))

state_part_rest : (word : StateWord) (before : ReadOptions) → Keeps Anything (state_part word before).derives
unfolding state_part
state_part_rest options.Max before = row any_keeps (λ n. none_keeps)
state_part_rest options.SourceTrack before = row track_rest (λ tracked. none_keeps)
state_part_rest options.MaxSrcNodes before = row any_keeps (λ n. none_keeps)
state_part_rest options.MaxSrcStates before = row any_keeps (λ n. none_keeps)
state_part_rest options.MaxSrcConn before = row any_keeps (λ n. none_keeps)
state_part_rest options.MaxSrcConnRate before = row rate_rest (λ limit. none_keeps)
state_part_rest options.Overload before = row overload_rest (λ table. none_keeps)
state_part_rest options.Sloppy before = none_keeps
state_part_rest options.NoSync before = none_keeps
state_part_rest options.Pflow before = none_keeps
state_part_rest options.IfBound before = none_keeps
state_part_rest options.Floating before = none_keeps

state_option_rest : (before : ReadOptions) → Keeps Anything (state_option before).derives
unfolding state_option
state_option_rest before = row any_keeps (λ word. state_part_rest word before)

state_options_rest : Keeps Anything state_options.derives
unfolding state_options
state_options_rest = row any_keeps (λ state. chosen_keeps (brackets_rest state_option _ state_option_rest) none_keeps)

queues_rest : Keeps Anything queues.derives
unfolding queues
queues_rest = on_keeps (row any_keeps (λ first. row perhaps_keeps (λ comma. row any_keeps (λ second. row any_keeps (λ closed. none_keeps)))))
    (row any_keeps (λ first. none_keeps))

prios_rest : Keeps Anything prios.derives
unfolding prios
prios_rest = on_keeps (row any_keeps (λ first. row perhaps_keeps (λ comma. row any_keeps (λ second. row any_keeps (λ closed. none_keeps)))))
    (row any_keeps (λ first. none_keeps))

set_behind_rest : (word : SetWord) (before : ReadSet) → Keeps Anything (set_behind word before).derives
unfolding set_behind
set_behind_rest sets.Queue before = row none_keeps (λ once. row queues_rest (λ value. none_keeps))
set_behind_rest sets.Prio before = row none_keeps (λ once. row prios_rest (λ value. none_keeps))
set_behind_rest sets.Tos before = row none_keeps (λ once. row any_keeps (λ value. none_keeps))

set_part_rest : (before : ReadSet) → Keeps Anything (set_part before).derives
unfolding set_part
set_part_rest before = row any_keeps (λ word. set_behind_rest word before)

settings_rest : (before : ReadSet) → Keeps Anything (settings before).derives
unfolding settings
settings_rest before = chosen_keeps (brackets_rest set_part before set_part_rest) (set_part_rest before)

scrub_behind_rest : (word : ScrubWord) (before : Scrub) → Keeps Anything (scrub_behind word before).derives
unfolding scrub_behind
scrub_behind_rest scrubs.NoDf before = row none_keeps (λ once. none_keeps)
scrub_behind_rest scrubs.RandomId before = row none_keeps (λ once. none_keeps)
scrub_behind_rest scrubs.Reassemble before = row none_keeps (λ once. row any_keeps (λ tcp. none_keeps))
scrub_behind_rest scrubs.MinTtl before = row none_keeps (λ once. row any_keeps (λ n. none_keeps))
scrub_behind_rest scrubs.MaxMss before = row none_keeps (λ once. row any_keeps (λ n. none_keeps))

scrub_part_rest : (before : Scrub) → Keeps Anything (scrub_part before).derives
unfolding scrub_part
scrub_part_rest before = row any_keeps (λ word. scrub_behind_rest word before)

scrub_rest : Keeps Anything scrub.derives
unfolding scrub
scrub_rest = brackets_rest scrub_part _ scrub_part_rest

abbrev DraftIsFull : Draft → Type 0
DraftIsFull draft = HasBytes draft.form

users_keep : (before : Draft) → DraftIsFull before → Keeps DraftIsFull (users before).derives
unfolding users
users_keep before held = row none_keeps (λ once. then_keeps ops_keep (λ tests full. value_keeps (record {
  source_words = held.source_words;
  source_port_words = held.source_port_words;
  target_words = held.target_words;
  target_port_words = held.target_port_words;
  user_words = full;
  group_words = held.group_words;
  nat_words = held.nat_words;
  rdr_words = held.rdr_words;
})))

groups_keep : (before : Draft) → DraftIsFull before → Keeps DraftIsFull (groups before).derives
unfolding groups
groups_keep before held = row none_keeps (λ once. then_keeps ops_keep (λ tests full. value_keeps (record {
  source_words = held.source_words;
  source_port_words = held.source_port_words;
  target_words = held.target_words;
  target_port_words = held.target_port_words;
  user_words = held.user_words;
  group_words = full;
  nat_words = held.nat_words;
  rdr_words = held.rdr_words;
})))

nat_keeps : (before : Draft) → DraftIsFull before → Keeps DraftIsFull (nat_part before).derives
unfolding nat_part
nat_keeps before held = row none_keeps (λ fits. row none_keeps (λ once. then_keeps target_keeps (λ words full. value_keeps (record {
  source_words = held.source_words;
  source_port_words = held.source_port_words;
  target_words = held.target_words;
  target_port_words = held.target_port_words;
  user_words = held.user_words;
  group_words = held.group_words;
  nat_words = full;
  rdr_words = held.rdr_words;
}))))

rdr_keeps : (before : Draft) → DraftIsFull before → Keeps DraftIsFull (rdr_part before).derives
unfolding rdr_part
rdr_keeps before held = row none_keeps (λ fits. row none_keeps (λ once. then_keeps target_keeps (λ words full. value_keeps (record {
  source_words = held.source_words;
  source_port_words = held.source_port_words;
  target_words = held.target_words;
  target_port_words = held.target_port_words;
  user_words = held.user_words;
  group_words = held.group_words;
  nat_words = held.nat_words;
  rdr_words = full;
}))))

flags_part_keeps : (before : Draft) → DraftIsFull before → Keeps DraftIsFull (flags_part before).derives
unfolding flags_part
flags_part_keeps before held = row none_keeps (λ once. row flags_rest (λ read. value_keeps held))

icmp_keeps : (family : Family) (before : Draft) → DraftIsFull before → Keeps DraftIsFull (icmp_part family before).derives
unfolding icmp_part
icmp_keeps version before held = row none_keeps (λ once. row (list_rest (icmp_type version) (icmp_rest version)) (λ types. value_keeps held))

tos_keeps : (before : Draft) → DraftIsFull before → Keeps DraftIsFull (tos_part before).derives
unfolding tos_part
tos_keeps before held = row none_keeps (λ once. row any_keeps (λ value. value_keeps held))

prio_keeps : (before : Draft) → DraftIsFull before → Keeps DraftIsFull (prio_part before).derives
unfolding prio_part
prio_keeps before held = row none_keeps (λ once. row any_keeps (λ value. value_keeps held))

tagged_keeps : (negated : Bool) (before : Draft) → DraftIsFull before → Keeps DraftIsFull (tagged_part negated before).derives
unfolding tagged_part
tagged_keeps negated before held = row none_keeps (λ once. row any_keeps (λ tag. value_keeps held))

tag_keeps : (before : Draft) → DraftIsFull before → Keeps DraftIsFull (tag_part before).derives
unfolding tag_part
tag_keeps before held = row none_keeps (λ once. row any_keeps (λ tag. value_keeps held))

no_state_keeps : (before : Draft) → DraftIsFull before → Keeps DraftIsFull (no_state before).derives
unfolding no_state
no_state_keeps before held = row none_keeps (λ once. row any_keeps (λ state. value_keeps held))

state_keeps : (kind : StateKind) (before : Draft) → DraftIsFull before → Keeps DraftIsFull (state_clause kind before).derives
unfolding state_clause
state_keeps kind before held = row none_keeps (λ once. row state_options_rest (λ read. value_keeps held))

set_keeps : (before : Draft) → DraftIsFull before → Keeps DraftIsFull (set_option before).derives
unfolding set_option
set_keeps before held = row (settings_rest _) (λ set. value_keeps held)

scrub_keeps : (before : Draft) → DraftIsFull before → Keeps DraftIsFull (scrub_option before).derives
unfolding scrub_option
scrub_keeps before held = row none_keeps (λ once. row scrub_rest (λ value. value_keeps held))

allow_keeps : (before : Draft) → DraftIsFull before → Keeps DraftIsFull (allow_option before).derives
unfolding allow_option
allow_keeps before held = row none_keeps (λ once. value_keeps held)

label_keeps : (before : Draft) → DraftIsFull before → Keeps DraftIsFull (label_part before).derives
unfolding label_part
label_keeps before held = row none_keeps (λ once. row any_keeps (λ text. value_keeps held))

option_behind_keeps : (word : OptionWord) (before : Draft) → DraftIsFull before → Keeps DraftIsFull (option_behind word before).derives
option_behind_keeps words.User before held = users_keep before held
option_behind_keeps words.Group before held = groups_keep before held
option_behind_keeps words.Flags before held = flags_part_keeps before held
option_behind_keeps words.IcmpType before held = icmp_keeps Inet before held
option_behind_keeps words.Icmp6Type before held = icmp_keeps Inet6 before held
option_behind_keeps words.Tos before held = tos_keeps before held
option_behind_keeps words.Prio before held = prio_keeps before held
option_behind_keeps words.Tagged before held = tagged_keeps false before held
option_behind_keeps words.Tag before held = tag_keeps before held
option_behind_keeps words.No before held = no_state_keeps before held
option_behind_keeps words.Keep before held = state_keeps states.Keep before held
option_behind_keeps words.Modulate before held = state_keeps states.Modulate before held
option_behind_keeps words.Synproxy before held = state_keeps states.Synproxy before held
option_behind_keeps words.Set before held = set_keeps before held
option_behind_keeps words.Scrub before held = scrub_keeps before held
option_behind_keeps words.AllowOpts before held = allow_keeps before held
option_behind_keeps words.Label before held = label_keeps before held
option_behind_keeps words.NatTo before held = nat_keeps before held
option_behind_keeps words.RdrTo before held = rdr_keeps before held

option_keeps : (before : Draft) → DraftIsFull before → Keeps DraftIsFull (option before).derives
unfolding option
option_keeps before held =
    on_keeps (row any_keeps (λ tested. tagged_keeps true before held)) (row any_keeps (λ word. option_behind_keeps word before held))

-- statements
rule_front_keeps : (head : Head) → Keeps DraftIsFull (rule_front head).derives
unfolding rule_front
rule_front_keeps head =
    row direction_rest (λ way. row logged_rest (λ log. row ifaces_rest (λ on. row family_rest (λ inet. row protos_rest (λ proto.
    then_keeps hosts_keep (λ sides full. value_keeps (record {
      source_words = full.source_words.host_words;
      source_port_words = full.source_words.port_words;
      target_words = full.target_words.host_words;
      target_port_words = full.target_words.port_words;
      user_words = refl;
      group_words = refl;
      nat_words = refl;
      rdr_words = refl;
    })))))))

rule_keeps : (head : Head) → Keeps DraftIsFull (rule head).derives
unfolding rule
rule_keeps head = then_keeps (rule_front_keeps head) (λ front held. until_keeps option_keeps held)

label_rest : Keeps Anything label.derives
unfolding label
label_rest = on_keeps (row any_keeps (λ text. none_keeps)) none_keeps

names_rest : Keeps Anything names_for.derives
names_rest = row (list_rest name any_keeps) (λ names. none_keeps)

no_words : WordsHaveBytes [] [] [] [] [] [] None None
no_words = record { source_words = refl; source_port_words = refl; target_words = refl; target_port_words = refl; user_words = refl; group_words = refl; nat_words = refl; rdr_words = refl }

antispoof_keeps : Keeps DraftIsFull antispoof.derives
unfolding antispoof
antispoof_keeps = row logged_rest (λ log. row any_keeps (λ word. row names_rest (λ on. row family_rest (λ inet. row label_rest (λ text. value_keeps no_words)))))

load_anchor_keeps : Keeps DraftIsFull load_anchor.derives
unfolding load_anchor
load_anchor_keeps = row any_keeps (λ anchor. row any_keeps (λ text. row any_keeps (λ source. row any_keeps (λ file. value_keeps no_words))))

anchor_head_rest : (body : Bool) → Keeps Anything (anchor_head body).derives
unfolding anchor_head
anchor_head_rest body = chosen_keeps (row any_keeps (λ text. none_keeps)) (row none_keeps (λ needed. none_keeps))

anchor_keeps : (body : Bool) → Keeps DraftIsFull (anchor body).derives
unfolding anchor
anchor_keeps body = row (anchor_head_rest body) (λ head. rule_keeps head)

reset_kind_rest : Keeps Anything reset_kind.derives
unfolding reset_kind
reset_kind_rest = on_keeps (row any_keeps (λ ttl. row any_keeps (λ n. row any_keeps (λ closed. none_keeps)))) none_keeps

second_code_rest : (code : ℕ) → Keeps Anything (second_code code).derives
unfolding second_code
second_code_rest code = on_keeps none_keeps (row perhaps_keeps (λ comma. row any_keeps (λ code6. row any_keeps (λ closed. none_keeps))))

icmp_kind_rest : Keeps Anything icmp_kind.derives
unfolding icmp_kind
icmp_kind_rest = on_keeps (row any_keeps second_code_rest) none_keeps

icmp6_kind_rest : Keeps Anything icmp6_kind.derives
unfolding icmp6_kind
icmp6_kind_rest = on_keeps (row any_keeps (λ code6. row any_keeps (λ closed. none_keeps))) none_keeps

kind_behind_rest : (word : KindWord) → Keeps Anything (kind_behind word).derives
kind_behind_rest kinds.Drop = none_keeps
kind_behind_rest kinds.Return = none_keeps
kind_behind_rest kinds.Reset = reset_kind_rest
kind_behind_rest kinds.Icmp = icmp_kind_rest
kind_behind_rest kinds.Icmp6 = icmp6_kind_rest

block_kind_rest : Keeps Anything block_kind.derives
unfolding block_kind
block_kind_rest = chosen_keeps (row any_keeps (λ word. row (kind_behind_rest word) (λ kind. none_keeps))) none_keeps

block_keeps : Keeps DraftIsFull block.derives
unfolding block
block_keeps = row block_kind_rest (λ kind. rule_keeps (heads.Block kind))

plain_statement_keeps : (word : HeadWord) → Keeps DraftIsFull (plain_statement word).derives
plain_statement_keeps Pass = rule_keeps heads.Pass
plain_statement_keeps Match = rule_keeps heads.Match
plain_statement_keeps Block = block_keeps
plain_statement_keeps Anchor = anchor_keeps false
plain_statement_keeps Antispoof = antispoof_keeps
plain_statement_keeps Load = load_anchor_keeps

anchor_statement_keeps : (word : HeadWord) → Keeps DraftIsFull (anchor_statement word).derives
anchor_statement_keeps Pass = refuse_keeps
anchor_statement_keeps Match = refuse_keeps
anchor_statement_keeps Block = refuse_keeps
anchor_statement_keeps Anchor = anchor_keeps true
anchor_statement_keeps Antispoof = refuse_keeps
anchor_statement_keeps Load = refuse_keeps

statement_behind_keeps : (body : Bool) (word : HeadWord) → Keeps DraftIsFull (statement_behind body word).derives
statement_behind_keeps true word = anchor_statement_keeps word
statement_behind_keeps false word = plain_statement_keeps word

statement_keeps : (body : Bool) → Keeps DraftIsFull (statement body).derives
unfolding statement
statement_keeps body = row any_keeps (λ word. statement_behind_keeps body word)

pub form_words : (tokens : List Token) (body : Bool) (form : RuleForm) (late : Option FormFault) → symbols_have_bytes (symbols tokens) ≡ true → HasForm tokens body form late → HasBytes form
form_words tokens body form late full has =
    let P : RuleForm → Type 0 = λ other. HasBytes other in
    subst P (sym has.says) ((statement_keeps body).kept (symbols tokens) has.draft [] full has.derived).holds
