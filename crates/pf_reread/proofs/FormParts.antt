-- What the parts of a statement of a file say: hosts, logs, flags, the options of a state, `set`, `scrub` and the kinds of blocks.
use Rattle.std.proofs.Common.{◌≡◌, ℕ, ◌<◌, ◌≤◌, ◌^◌, Bool, true, false, List, [], ◌∷◌, length, take, Option, Some, None, refl, arith}
use Rattle.std.specs.Prelude.{◌&&◌, nat_le, is_some, bit_or, codes, fold, unwrap_or}
use Rattle.std.specs.List.{list_all}
use Rattle.std.specs.Option.{option_or}
use Rattle.std.proofs.lemmas.Bool.{and_from, and_parts, le-leb, leb-true, not-false}
use Rattle.std.proofs.lemmas.List.{length-take}
use Rattle.std.proofs.lemmas.Nat.{le_or_l, le_or_r, or_lt}
use Rattle.pf_base.specs.declared.kind.Family.{Family}
use Rattle.pf_decl.specs.ReadBack.{is_file_name}
use Rattle.pf_ops.specs.Words as ops
use Rattle.pf_ops.specs.Words.{bit_of, bits_of, tcp_flags}
use Rattle.pf_parts.specs.Defaults.{no_log, no_options, no_scrub}
use Rattle.pf_parts.specs.declared.params.Log.{Log}
use Rattle.pf_parts.specs.declared.params.Prios.{Prios}
use Rattle.pf_parts.specs.declared.params.Queues.{Queues}
use Rattle.pf_parts.specs.declared.params.Scrub.{Scrub}
use Rattle.pf_parts.specs.declared.state.Overload.{Overload}
use Rattle.pf_parts.specs.declared.state.Rate.{Rate}
use Rattle.pf_parts.specs.declared.state.StateOptions.{StateOptions}
use Rattle.pf_syntax.specs.Hosts.{address, cut_name, dynamic, host, plain_host, table_name}
use Rattle.pf_syntax.specs.Lists.{list_of}
use Rattle.pf_syntax.specs.Operators.{icmp_type, op, operator, sign_test, target, word_test}
use Rattle.pf_syntax.specs.Words.{name}
use Rattle.pf_syntax.specs.declared.form.HostForm.{HostForm}
use Rattle.pf_syntax.specs.declared.form.HostForm.TheVariants as forms
use Rattle.pf_syntax.specs.declared.form.HostItem.{HostItem}
use Rattle.pf_form.specs.declared.form.FlagsForm.{FlagsForm}
use Rattle.pf_form.specs.declared.form.FlagsForm.TheVariants as flag_forms
use Rattle.pf_form.specs.declared.flags.ReadFlags.{ReadFlags}
use Rattle.pf_form.specs.declared.hosts.Hosts.{Hosts}
use Rattle.pf_form.specs.declared.hosts.Side.{Side}
use Rattle.pf_form.specs.declared.keyword.LogWord.{LogWord}
use Rattle.pf_form.specs.declared.keyword.LogWord.TheVariants as logs
use Rattle.pf_form.specs.declared.keyword.ScrubWord.{ScrubWord}
use Rattle.pf_form.specs.declared.keyword.ScrubWord.TheVariants as scrubs
use Rattle.pf_form.specs.declared.keyword.SetWord.{SetWord}
use Rattle.pf_form.specs.declared.keyword.SetWord.TheVariants as sets
use Rattle.pf_form.specs.declared.keyword.StateWord.{StateWord}
use Rattle.pf_form.specs.declared.keyword.StateWord.TheVariants as states
use Rattle.pf_form.specs.declared.log.Logged.{Logged}
use Rattle.pf_form.specs.declared.setting.ReadSet.{ReadSet}
use Rattle.pf_form.specs.declared.state.ReadOptions.{ReadOptions}
use Rattle.pf_form.specs.Flags.{are_flags, flags, flags_read}
use Rattle.pf_form.specs.Log.{log_first, log_option, log_options, log_part, logged, plain_log, quick_first}
use Rattle.pf_form.specs.Settings.{prios, queues, scrub, scrub_behind, scrub_part, set_behind, set_part, settings}
use Rattle.pf_form.specs.States.{flush, none_read, overload, rate, state_option, state_options, state_part, track}
use Rattle.pf_form.specs.Tests.{direction, family, hosts, iface, ifaces, ports, protos, side, side_behind, where_hosts}
use Rattle.pf_grammar.specs.declared.keyword.KindWord.{KindWord}
use Rattle.pf_grammar.specs.declared.keyword.KindWord.TheVariants as kinds
use Rattle.pf_grammar.specs.Heads.{block_kind, icmp6_kind, icmp_kind, kind_behind, reset_kind, second_code}
use Rattle.pf_word.specs.Words as words
use Rattle.pf_reread.specs.TokenText.{is_word_text}
use Rattle.pf_reread.specs.Written.{IsWrittenLog, are_written_flags, are_written_prios, are_written_queues, if_given, in_range, is_byte, is_count, is_port, is_prio, is_written_iface, is_written_kind, is_written_rate, is_written_scrub}
use Rattle.pf_reread.proofs.FormWords.{Passes, entry_says, name_keeps, number_keeps, of_some, prio_keeps, tos_keeps, up_to_keeps, word_keeps}
use Rattle.pf_reread.proofs.Keeping.{Anything, Keeps, all_keep, any_keeps, brackets_keep, chosen_keeps, from_keeps, list_rest, none_keeps, on_keeps, perhaps_keeps, refuse_keeps, row, then_keeps, value_keeps}

-- ---- hosts

-- what stands between brackets is a word, and a table's name has 1 to 63 bytes
abbrev pub is_form_host : HostForm → Bool
is_form_host forms.Any = true
is_form_host (forms.Word word mask) = true
is_form_host (forms.Range low high) = true
is_form_host (forms.Dynamic word) = is_word_text word
is_form_host (forms.Table name) = words.is_name name

abbrev pub is_form_item : HostItem → Bool
is_form_item item = is_form_host item.what

cut_is_name : (word value : List ℕ) → cut_name word ≡ Some value → words.is_name value ≡ true
cut_is_name [] value is = absurd (cc)
cut_is_name (byte ∷ bytes) value is =
    let size = length-take 63 (byte ∷ bytes) in
    of_some (Passes words.is_name) (take 63 (byte ∷ bytes)) value is
    (and_from (nat_le 1 (length (take 63 (byte ∷ bytes)))) (nat_le (length (take 63 (byte ∷ bytes))) 63)
    (le-leb 1 (length (take 63 (byte ∷ bytes))) (omega (arith, size))) (le-leb (length (take 63 (byte ∷ bytes))) 63 (omega (arith, size))))

table_keeps : Keeps (Passes words.is_name) table_name.derives
unfolding table_name
table_keeps = row any_keeps (λ word. row any_keeps (λ closed. from_keeps (cut_is_name word)))

dynamic_keeps : Keeps (Passes is_form_host) dynamic.derives
unfolding dynamic
dynamic_keeps = then_keeps word_keeps (λ word is. row any_keeps (λ closed. value_keeps is))

address_keeps : Keeps (Passes is_form_host) address.derives
unfolding address
address_keeps = row any_keeps (λ low. on_keeps (row any_keeps (λ mask. value_keeps refl)) (on_keeps (row any_keeps (λ high. value_keeps refl)) (value_keeps refl)))

plain_host_keeps : Keeps (Passes is_form_host) plain_host.derives
unfolding plain_host
plain_host_keeps = on_keeps dynamic_keeps (on_keeps (then_keeps table_keeps (λ table is. value_keeps is)) address_keeps)

host_keeps : Keeps (Passes is_form_item) host.derives
unfolding host
host_keeps = on_keeps (value_keeps refl) (row perhaps_keeps (λ negated. then_keeps plain_host_keeps (λ what is. value_keeps is)))

-- ---- tests of which nothing is said

operator_rest : Keeps Anything operator.derives
unfolding operator
operator_rest =
    on_keeps none_keeps (on_keeps (row any_keeps (λ equal. none_keeps)) (on_keeps (on_keeps none_keeps none_keeps) (on_keeps (on_keeps none_keeps none_keeps) refuse_keeps)))

op_rest : Keeps Anything op.derives
unfolding op sign_test word_test
op_rest =
    chosen_keeps (row operator_rest (λ kind. row any_keeps (λ low. none_keeps)))
    (row any_keeps (λ low. chosen_keeps (row any_keeps (λ one. row any_keeps (λ two. row any_keeps (λ high. none_keeps))))
    (chosen_keeps (row any_keeps (λ one. row any_keeps (λ two. row any_keeps (λ high. none_keeps)))) none_keeps)))

pub ops_rest : Keeps Anything (list_of op).derives
ops_rest = list_rest op op_rest

pub icmp_rest : (version : Family) → Keeps Anything (icmp_type version).derives
unfolding icmp_type
icmp_rest version = row any_keeps (λ word. on_keeps (row any_keeps (λ code. none_keeps)) none_keeps)

pub target_rest : Keeps Anything target.derives
unfolding target
target_rest = row any_keeps (λ addr. on_keeps (row any_keeps (λ port. none_keeps)) none_keeps)

-- ---- the front of a rule

pub direction_rest : Keeps Anything direction.derives
unfolding direction
direction_rest = on_keeps none_keeps (on_keeps none_keeps none_keeps)

iface_keeps : Keeps (Passes is_written_iface) iface.derives
unfolding iface
iface_keeps = on_keeps (value_keeps refl) (row perhaps_keeps (λ negated. then_keeps name_keeps (λ text is. value_keeps is)))

abbrev pub AllPass : {A : Type 0} → (A → Bool) → List A → Type 0
AllPass test list = list_all test list ≡ true

pub ifaces_keep : Keeps (AllPass is_written_iface) ifaces.derives
unfolding ifaces
ifaces_keep = on_keeps (all_keep is_written_iface iface iface_keeps) (value_keeps refl)

pub family_rest : Keeps Anything family.derives
unfolding family
family_rest = on_keeps none_keeps (on_keeps none_keeps none_keeps)

pub protos_rest : Keeps Anything protos.derives
unfolding protos
protos_rest = on_keeps (list_rest name any_keeps) none_keeps

ports_rest : Keeps Anything ports.derives
unfolding ports
ports_rest = on_keeps ops_rest none_keeps

abbrev pub SideIs : Side → Type 0
SideIs side = AllPass is_form_item side.hosts

where_keeps : Keeps (AllPass is_form_item) where_hosts.derives
where_keeps = chosen_keeps (value_keeps refl) (all_keep is_form_item host host_keeps)

side_keeps : Keeps SideIs side.derives
unfolding side
side_keeps = then_keeps where_keeps (λ items all. row ports_rest (λ tests. value_keeps all))

side_behind_keeps : (word : List ℕ) → Keeps SideIs (side_behind word).derives
side_behind_keeps word = on_keeps side_keeps (value_keeps refl)

pub record SidesAre (sides : Hosts) : Type 0 where
  pub sources : SideIs sides.sources
  pub targets : SideIs sides.targets

pub hosts_keep : Keeps SidesAre hosts.derives
unfolding hosts
hosts_keep =
    on_keeps (value_keeps (record { sources = refl; targets = refl }))
    (then_keeps (side_behind_keeps (codes "from")) (λ sources first. then_keeps (side_behind_keeps (codes "to")) (λ targets second.
    value_keeps (record { sources = first; targets = second }))))

-- ---- logs

record IsLogging (log : Log) : Type 0 where
  pub on : log.on ≡ true
  pub to : if_given is_file_name log.to ≡ true

log_part_keeps : (word : LogWord) (before : Log) → IsLogging before → Keeps IsLogging (log_part word before).derives
unfolding log_part
log_part_keeps logs.All before is = row none_keeps (λ once. value_keeps (record { on = is.on; to = is.to }))
log_part_keeps logs.Matches before is = row none_keeps (λ once. value_keeps (record { on = is.on; to = is.to }))
log_part_keeps logs.User before is = row none_keeps (λ once. value_keeps (record { on = is.on; to = is.to }))
log_part_keeps logs.To before is = row none_keeps (λ once. then_keeps name_keeps (λ name named. value_keeps (record { on = is.on; to = named })))

log_option_keeps : (before : Log) → IsLogging before → Keeps IsLogging (log_option before).derives
unfolding log_option
log_option_keeps before is = row any_keeps (λ word. log_part_keeps word before is)

log_options_keep : Keeps IsLogging log_options.derives
unfolding log_options
log_options_keep =
    chosen_keeps (brackets_keep log_option plain_log log_option_keeps (record { on = refl; to = refl })) (value_keeps (record { on = refl; to = refl }))

written_log : (log : Log) → IsLogging log → IsWrittenLog log
written_log log is = record { to = is.to; none = λ off. absurd (cc) }

abbrev pub LoggedIs : Logged → Type 0
LoggedIs read = IsWrittenLog read.log

none_logged : IsWrittenLog no_log
none_logged = record { to = refl; none = λ off. refl }

log_first_keeps : Keeps LoggedIs log_first.derives
unfolding log_first
log_first_keeps = then_keeps log_options_keep (λ log is. row perhaps_keeps (λ quick. value_keeps (written_log log is)))

quick_log : Keeps IsWrittenLog log_options.derives
quick_log = record { kept = λ start value rest file is. let one = log_options_keep.kept start value rest file is in record { holds = written_log value one.holds; left = one.left } }

quick_first_keeps : Keeps LoggedIs quick_first.derives
unfolding quick_first
quick_first_keeps = then_keeps (on_keeps quick_log (value_keeps none_logged)) (λ log is. value_keeps is)

pub logged_keeps : Keeps LoggedIs logged.derives
unfolding logged
logged_keeps = on_keeps log_first_keeps (on_keeps quick_first_keeps (value_keeps none_logged))

-- ---- flags

abbrev pub is_form_flags : FlagsForm → Bool
is_form_flags flag_forms.Any = true
is_form_flags (flag_forms.Test test) = are_written_flags test

flags_fit : list_all (λ (entry : ops.Entry). in_range 1 255 entry.number) tcp_flags ≡ true
unfolding tcp_flags
flags_fit = refl

flag_fits : (letter bit : ℕ) → bit_of letter ≡ Some bit → in_range 1 255 bit ≡ true
flag_fits letter bit is = entry_says (in_range 1 255) tcp_flags (letter ∷ []) bit flags_fit is

letter_fits : (bit : Option ℕ) → ((n : ℕ) → bit ≡ Some n → in_range 1 255 n ≡ true) → unwrap_or bit 0 < 2 ^ 8
letter_fits None fits = omega arith
letter_fits (Some n) fits = let parts = and_parts (nat_le 1 n) (nat_le n 255) (fits n refl) in let most : n ≤ 255 = leb-true n 255 parts.1 in omega arith

bits_fit : (letters : List ℕ) (bits : ℕ) → bits < 2 ^ 8 → fold (λ all letter. bit_or all (unwrap_or (bit_of letter) 0)) bits letters < 2 ^ 8
bits_fit [] bits few = few
bits_fit (letter ∷ letters) bits few =
    bits_fit letters (bit_or bits (unwrap_or (bit_of letter) 0)) (or_lt 8 bits (unwrap_or (bit_of letter) 0) few (letter_fits (bit_of letter) (flag_fits letter)))

bits_grow : (letters : List ℕ) (bits : ℕ) → bits ≤ fold (λ all letter. bit_or all (unwrap_or (bit_of letter) 0)) bits letters
bits_grow [] bits = omega arith
bits_grow (letter ∷ letters) bits =
    let more = bits_grow letters (bit_or bits (unwrap_or (bit_of letter) 0)) in
    omega (arith, more, le_or_l bits (unwrap_or (bit_of letter) 0))

some_bit : (bit : Option ℕ) → ((n : ℕ) → bit ≡ Some n → in_range 1 255 n ≡ true) → is_some bit ≡ true → 1 ≤ unwrap_or bit 0
some_bit None fits some = absurd (cc)
some_bit (Some n) fits some = leb-true 1 n (and_parts (nat_le 1 n) (nat_le n 255) (fits n refl)).0

set_fits : (letters : List ℕ) → is_byte (bits_of letters) ≡ true
set_fits letters = let few : bits_of letters < 2 ^ 8 = bits_fit letters 0 (omega arith) in le-leb (bits_of letters) 255 (omega arith)

-- a mask has a letter, and each is a flag's
mask_fits : (letters : List ℕ) → is_word_text letters ≡ true → are_flags letters ≡ true → in_range 1 255 (bits_of letters) ≡ true
mask_fits [] word flagged = absurd (cc)
mask_fits (letter ∷ letters) word flagged =
    let first = (and_parts (is_some (bit_of letter)) (are_flags letters) flagged).0 in
    let some : 1 ≤ unwrap_or (bit_of letter) 0 = some_bit (bit_of letter) (flag_fits letter) first in
    let grown = bits_grow letters (bit_or 0 (unwrap_or (bit_of letter) 0)) in
    let more = le_or_r 0 (unwrap_or (bit_of letter) 0) in
    and_from (nat_le 1 (bits_of (letter ∷ letters))) (nat_le (bits_of (letter ∷ letters)) 255)
    (le-leb 1 (bits_of (letter ∷ letters)) (omega (arith, grown, more))) (set_fits (letter ∷ letters))

-- flags that were read are written ones, unless a letter is no flag's
abbrev pub FlagsAre : Bool → Option FlagsForm → Type 0
FlagsAre unknown flags = unknown ≡ false → if_given is_form_flags flags ≡ true

abbrev ReadIs : ReadFlags → Type 0
ReadIs read = FlagsAre read.unknown (Some read.flags)

known_flags : (set mask : List ℕ) → is_word_text mask ≡ true → ReadIs (flags_read set mask)
known_flags set mask word known =
    let both = and_parts (are_flags set) (are_flags mask) (not-false (are_flags set && are_flags mask) known) in
    and_from (is_byte (bits_of set)) (in_range 1 255 (bits_of mask)) (set_fits set) (mask_fits mask word both.1)

pub flags_keep : Keeps ReadIs flags.derives
unfolding flags
flags_keep =
    on_keeps (value_keeps (λ known. refl))
    (row (chosen_keeps none_keeps any_keeps) (λ set. row any_keeps (λ slash. then_keeps word_keeps (λ mask word. value_keeps (known_flags set mask word)))))

-- ---- options of a state

track_rest : Keeps Anything track.derives
unfolding track
track_rest = on_keeps none_keeps (on_keeps none_keeps none_keeps)

rate_keeps : Keeps (Passes is_written_rate) rate.derives
unfolding rate
rate_keeps =
    then_keeps (number_keeps 1 4294967295) (λ connections first. row any_keeps (λ slash. then_keeps (number_keeps 1 4294967295) (λ seconds second.
    value_keeps (and_from (is_count connections) (is_count seconds) first second))))

flush_rest : Keeps Anything flush.derives
unfolding flush
flush_rest = on_keeps (on_keeps none_keeps none_keeps) none_keeps

abbrev pub is_form_overload : Overload → Bool
is_form_overload overload = words.is_name overload.table

overload_keeps : Keeps (Passes is_form_overload) overload.derives
unfolding overload
overload_keeps = row any_keeps (λ opened. then_keeps table_keeps (λ table is. row flush_rest (λ flushed. value_keeps is)))

-- the numbers and names of options
pub record OptionsAre (most nodes kept connections : Option ℕ) (limit : Option Rate) (table : Option Overload) : Type 0 where
  pub max : if_given is_count most ≡ true
  pub max_src_nodes : if_given is_count nodes ≡ true
  pub max_src_states : if_given is_count kept ≡ true
  pub max_src_conn : if_given is_count connections ≡ true
  pub max_src_conn_rate : if_given is_written_rate limit ≡ true
  pub overload : if_given is_form_overload table ≡ true

abbrev pub StateOptionsAre : StateOptions → Type 0
StateOptionsAre options = OptionsAre options.max options.max_src_nodes options.max_src_states options.max_src_conn options.max_src_conn_rate options.overload

pub none_given : StateOptionsAre no_options
none_given = record { max = refl; max_src_nodes = refl; max_src_states = refl; max_src_conn = refl; max_src_conn_rate = refl; overload = refl }

abbrev pub ReadOptionsAre : ReadOptions → Type 0
ReadOptionsAre read = StateOptionsAre read.options

-- of two the first is kept
one_kept : {A : Type 0} (test : A → Bool) (before : Option A) (value : A) → if_given test before ≡ true → test value ≡ true → if_given test (option_or before (Some value)) ≡ true
one_kept test None value held is = is
one_kept test (Some first) value held is = held

state_part_keeps : (word : StateWord) (before : ReadOptions) → ReadOptionsAre before → Keeps ReadOptionsAre (state_part word before).derives
unfolding state_part
state_part_keeps states.Max before held = then_keeps (number_keeps 1 4294967295) (λ n is. value_keeps (record {
  max = one_kept is_count before.options.max n held.max is;
  max_src_nodes = held.max_src_nodes;
  max_src_states = held.max_src_states;
  max_src_conn = held.max_src_conn;
  max_src_conn_rate = held.max_src_conn_rate;
  overload = held.overload;
}))
state_part_keeps states.SourceTrack before held = row track_rest (λ tracked. value_keeps held)
state_part_keeps states.MaxSrcNodes before held = then_keeps (number_keeps 1 4294967295) (λ n is. value_keeps (record {
  max_src_nodes = one_kept is_count before.options.max_src_nodes n held.max_src_nodes is;
  max = held.max;
  max_src_states = held.max_src_states;
  max_src_conn = held.max_src_conn;
  max_src_conn_rate = held.max_src_conn_rate;
  overload = held.overload;
}))
state_part_keeps states.MaxSrcStates before held = then_keeps (number_keeps 1 4294967295) (λ n is. value_keeps (record {
  max_src_states = one_kept is_count before.options.max_src_states n held.max_src_states is;
  max = held.max;
  max_src_nodes = held.max_src_nodes;
  max_src_conn = held.max_src_conn;
  max_src_conn_rate = held.max_src_conn_rate;
  overload = held.overload;
}))
state_part_keeps states.MaxSrcConn before held = then_keeps (number_keeps 1 4294967295) (λ n is. value_keeps (record {
  max_src_conn = one_kept is_count before.options.max_src_conn n held.max_src_conn is;
  max = held.max;
  max_src_nodes = held.max_src_nodes;
  max_src_states = held.max_src_states;
  max_src_conn_rate = held.max_src_conn_rate;
  overload = held.overload;
}))
state_part_keeps states.MaxSrcConnRate before held = then_keeps rate_keeps (λ limit is. value_keeps (record {
  max_src_conn_rate = one_kept is_written_rate before.options.max_src_conn_rate limit held.max_src_conn_rate is;
  max = held.max;
  max_src_nodes = held.max_src_nodes;
  max_src_states = held.max_src_states;
  max_src_conn = held.max_src_conn;
  overload = held.overload;
}))
state_part_keeps states.Overload before held = then_keeps overload_keeps (λ table is. value_keeps (record {
  overload = one_kept is_form_overload before.options.overload table held.overload is;
  max = held.max;
  max_src_nodes = held.max_src_nodes;
  max_src_states = held.max_src_states;
  max_src_conn = held.max_src_conn;
  max_src_conn_rate = held.max_src_conn_rate;
}))
state_part_keeps states.Sloppy before held = value_keeps held
state_part_keeps states.NoSync before held = value_keeps held
state_part_keeps states.Pflow before held = value_keeps held
state_part_keeps states.IfBound before held = value_keeps held
state_part_keeps states.Floating before held = value_keeps held

state_option_keeps : (before : ReadOptions) → ReadOptionsAre before → Keeps ReadOptionsAre (state_option before).derives
unfolding state_option
state_option_keeps before held = row any_keeps (λ word. state_part_keeps word before held)

pub state_options_keep : Keeps ReadOptionsAre state_options.derives
unfolding state_options
state_options_keep = row any_keeps (λ state. chosen_keeps (brackets_keep state_option none_read state_option_keeps none_given) (value_keeps none_given))

-- ---- `set` and `scrub`

queues_keep : Keeps (Passes are_written_queues) queues.derives
unfolding queues
queues_keep =
    on_keeps (then_keeps name_keeps (λ first one. row perhaps_keeps (λ comma. then_keeps name_keeps (λ second two. row any_keeps (λ closed.
    value_keeps (and_from (is_file_name first) (is_file_name second) one two))))))
    (then_keeps name_keeps (λ first one. value_keeps (and_from (is_file_name first) true one refl)))

prios_keep : Keeps (Passes are_written_prios) prios.derives
unfolding prios
prios_keep =
    on_keeps (then_keeps prio_keeps (λ first one. row perhaps_keeps (λ comma. then_keeps prio_keeps (λ second two. row any_keeps (λ closed.
    value_keeps (and_from (is_prio first) (is_prio second) one two))))))
    (then_keeps prio_keeps (λ first one. value_keeps (and_from (is_prio first) true one refl)))

pub record SetIs (queue : Option Queues) (prio : Option Prios) (tos : Option ℕ) : Type 0 where
  pub queue_is : if_given are_written_queues queue ≡ true
  pub prio_is : if_given are_written_prios prio ≡ true
  pub tos_is : if_given is_byte tos ≡ true

abbrev pub ReadSetIs : ReadSet → Type 0
ReadSetIs read = SetIs read.queue read.prio read.tos

set_behind_keeps : (word : SetWord) (before : ReadSet) → ReadSetIs before → Keeps ReadSetIs (set_behind word before).derives
unfolding set_behind
set_behind_keeps sets.Queue before held = row none_keeps (λ once. then_keeps queues_keep (λ value is. value_keeps (record { queue_is = is; prio_is = held.prio_is; tos_is = held.tos_is })))
set_behind_keeps sets.Prio before held = row none_keeps (λ once. then_keeps prios_keep (λ value is. value_keeps (record { queue_is = held.queue_is; prio_is = is; tos_is = held.tos_is })))
set_behind_keeps sets.Tos before held = row none_keeps (λ once. then_keeps tos_keeps (λ value is. value_keeps (record { queue_is = held.queue_is; prio_is = held.prio_is; tos_is = is })))

set_part_keeps : (before : ReadSet) → ReadSetIs before → Keeps ReadSetIs (set_part before).derives
unfolding set_part
set_part_keeps before held = row any_keeps (λ word. set_behind_keeps word before held)

pub settings_keep : (before : ReadSet) → ReadSetIs before → Keeps ReadSetIs (settings before).derives
unfolding settings
settings_keep before held = chosen_keeps (brackets_keep set_part before set_part_keeps held) (set_part_keeps before held)

scrub_behind_keeps : (word : ScrubWord) (before : Scrub) → is_written_scrub before ≡ true → Keeps (Passes is_written_scrub) (scrub_behind word before).derives
unfolding scrub_behind
scrub_behind_keeps scrubs.NoDf before held = row none_keeps (λ once. value_keeps held)
scrub_behind_keeps scrubs.RandomId before held = row none_keeps (λ once. value_keeps held)
scrub_behind_keeps scrubs.Reassemble before held = row none_keeps (λ once. row any_keeps (λ tcp. value_keeps held))
scrub_behind_keeps scrubs.MinTtl before held =
    let parts = and_parts (if_given is_byte before.min_ttl) (if_given is_port before.max_mss) held in
    row none_keeps (λ once. then_keeps (up_to_keeps 255) (λ n is. value_keeps (and_from (is_byte n) (if_given is_port before.max_mss) is parts.1)))
scrub_behind_keeps scrubs.MaxMss before held =
    let parts = and_parts (if_given is_byte before.min_ttl) (if_given is_port before.max_mss) held in
    row none_keeps (λ once. then_keeps (up_to_keeps 65535) (λ n is. value_keeps (and_from (if_given is_byte before.min_ttl) (is_port n) parts.0 is)))

scrub_part_keeps : (before : Scrub) → is_written_scrub before ≡ true → Keeps (Passes is_written_scrub) (scrub_part before).derives
unfolding scrub_part
scrub_part_keeps before held = row any_keeps (λ word. scrub_behind_keeps word before held)

pub scrub_keeps : Keeps (Passes is_written_scrub) scrub.derives
unfolding scrub
scrub_keeps = brackets_keep scrub_part no_scrub scrub_part_keeps refl

-- ---- kinds of blocks

reset_kind_keeps : Keeps (Passes is_written_kind) reset_kind.derives
unfolding reset_kind
reset_kind_keeps = on_keeps (row any_keeps (λ ttl. then_keeps (up_to_keeps 255) (λ n is. row any_keeps (λ closed. value_keeps is)))) (value_keeps refl)

second_code_keeps : (code : ℕ) → is_byte code ≡ true → Keeps (Passes is_written_kind) (second_code code).derives
unfolding second_code
second_code_keeps code first =
    on_keeps (value_keeps (and_from (is_byte code) true first refl))
    (row perhaps_keeps (λ comma. then_keeps (up_to_keeps 255) (λ code6 second. row any_keeps (λ closed. value_keeps (and_from (is_byte code) (is_byte code6) first second)))))

icmp_kind_keeps : Keeps (Passes is_written_kind) icmp_kind.derives
unfolding icmp_kind
icmp_kind_keeps = on_keeps (then_keeps (up_to_keeps 255) second_code_keeps) (value_keeps refl)

icmp6_kind_keeps : Keeps (Passes is_written_kind) icmp6_kind.derives
unfolding icmp6_kind
icmp6_kind_keeps = on_keeps (then_keeps (up_to_keeps 255) (λ code6 is. row any_keeps (λ closed. value_keeps is))) (value_keeps refl)

kind_behind_keeps : (word : KindWord) → Keeps (Passes is_written_kind) (kind_behind word).derives
kind_behind_keeps kinds.Drop = value_keeps refl
kind_behind_keeps kinds.Return = value_keeps refl
kind_behind_keeps kinds.Reset = reset_kind_keeps
kind_behind_keeps kinds.Icmp = icmp_kind_keeps
kind_behind_keeps kinds.Icmp6 = icmp6_kind_keeps

pub block_kind_keeps : Keeps (λ kind. if_given is_written_kind kind ≡ true) block_kind.derives
unfolding block_kind
block_kind_keeps = chosen_keeps (row any_keeps (λ word. then_keeps (kind_behind_keeps word) (λ kind is. value_keeps is))) (value_keeps refl)
