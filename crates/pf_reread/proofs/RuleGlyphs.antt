-- A printed rule as words, strings and signs, part by part.
use Rattle.std.proofs.Common.{ℕ, ◌+◌, ◌-◌, Bool, true, false, List, [], ◌∷◌, ◌++◌, Option, Some, None, decimal}
use Rattle.std.specs.Prelude.{◌==◌, not, is_some, codes, if◌then◌else◌}
use Rattle.std.specs.List.{list_any}
use Rattle.std.specs.Option.{option_map, unwrap_or}
use Rattle.pf_addr.specs.Addr.{width}
use Rattle.pf_addr.specs.Text.{addr_text}
use Rattle.pf_addr.specs.declared.ifaces.DynIf.{DynIf}
use Rattle.pf_addr.specs.declared.prefix.Prefix.{Prefix}
use Rattle.pf_base.specs.Text.{is_nothing}
use Rattle.pf_base.specs.declared.kind.Family.{Family}
use Rattle.pf_base.specs.declared.kind.Family.TheVariants.{Inet, Inet6}
use Rattle.pf_ops.specs.Words.{letters_of, protocols, word_of}
use Rattle.pf_ops.specs.declared.flags.IcmpType.{IcmpType}
use Rattle.pf_ops.specs.declared.flags.TcpFlags.{TcpFlags}
use Rattle.pf_ops.specs.declared.numbers.Numbers.{Numbers}
use Rattle.pf_ops.specs.declared.numbers.Numbers.TheVariants.{Empty, One, Two}
use Rattle.pf_parts.specs.CallText.{call_text}
use Rattle.pf_parts.specs.declared.block.BlockKind.{BlockKind}
use Rattle.pf_parts.specs.declared.block.BlockKind.TheVariants as blocks
use Rattle.pf_parts.specs.declared.direction.Direction.{Direction}
use Rattle.pf_parts.specs.declared.direction.Direction.TheVariants.{In, Out}
use Rattle.pf_parts.specs.declared.matching.IfTest.{IfTest}
use Rattle.pf_parts.specs.declared.matching.IfTest.TheVariants as ifaces
use Rattle.pf_parts.specs.declared.matching.TagTest.{TagTest}
use Rattle.pf_parts.specs.declared.matching.TagTest.TheVariants as tags
use Rattle.pf_parts.specs.declared.params.Log.{Log}
use Rattle.pf_parts.specs.declared.params.Prios.{Prios}
use Rattle.pf_parts.specs.declared.params.Queues.{Queues}
use Rattle.pf_parts.specs.declared.params.Scrub.{Scrub}
use Rattle.pf_parts.specs.declared.state.Flush.{Flush}
use Rattle.pf_parts.specs.declared.state.Flush.TheVariants as flushes
use Rattle.pf_parts.specs.declared.state.Overload.{Overload}
use Rattle.pf_parts.specs.declared.state.Rate.{Rate}
use Rattle.pf_parts.specs.declared.state.StateKind.{StateKind}
use Rattle.pf_parts.specs.declared.state.StateKind.TheVariants as states
use Rattle.pf_parts.specs.declared.state.StateOptions.{StateOptions}
use Rattle.pf_parts.specs.declared.state.Track.{Track}
use Rattle.pf_parts.specs.declared.state.Track.TheVariants as tracks
use Rattle.pf_print.specs.HostText.{tests_no_host, text_if}
use Rattle.pf_print.specs.RuleText.{is_pass, needs_flags}
use Rattle.pf_print.specs.SetText.{top_id, top_port}
use Rattle.pf_rule.specs.declared.criteria.AddrSet.{AddrSet}
use Rattle.pf_rule.specs.declared.criteria.AddrSet.TheVariants as sets
use Rattle.pf_rule.specs.declared.criteria.AddrTest.{AddrTest}
use Rattle.pf_rule.specs.declared.criteria.AddrTest.TheVariants as tests
use Rattle.pf_rule.specs.declared.criteria.Criteria.{Criteria}
use Rattle.pf_rule.specs.declared.effect.Action.{Action}
use Rattle.pf_rule.specs.declared.effect.Action.TheVariants as actions
use Rattle.pf_rule.specs.declared.effect.Effect.{Effect}
use Rattle.pf_rule.specs.declared.rule.Rule.{Rule}
use Rattle.pf_rule.specs.declared.translation.Target.{Target}
use Rattle.pf_syntax.specs.Symbols.{Symbol, bare, quoted}
use Rattle.pf_reread.proofs.Chunks.{Chunk, bracket_glyphs}
use Rattle.pf_reread.proofs.Glyphs.{Glyph, apart, close, sign_apart, sign_close}
use Rattle.pf_reread.proofs.Words.{name_symbol}

-- a word, a name and a number with a space before it
abbrev pub word : List ℕ → Glyph
word text = apart (bare text)

abbrev pub name : List ℕ → Glyph
name text = apart (name_symbol text)

abbrev pub number : ℕ → Glyph
number n = word (decimal n)

-- glyphs of what is given
abbrev pub given : {A : Type 0} → (A → List Glyph) → Option A → List Glyph
given glyphs None = []
given glyphs (Some value) = glyphs value

-- glyphs that stand where the test holds
abbrev pub where_so : Bool → List Glyph → List Glyph
where_so true glyphs = glyphs
where_so false glyphs = []

-- how it begins
abbrev pub ttl_glyphs : ℕ → List Glyph
ttl_glyphs ttl = where_so (not (ttl == 0)) (sign_apart 40 ∷ close (bare (codes "ttl")) ∷ number ttl ∷ sign_close 41 ∷ [])

abbrev pub kind_glyphs : BlockKind → List Glyph
kind_glyphs blocks.Drop = word (codes "drop") ∷ []
kind_glyphs blocks.Return = word (codes "return") ∷ []
kind_glyphs (blocks.Rst ttl) = word (codes "return-rst") ∷ ttl_glyphs ttl
kind_glyphs (blocks.Icmp code code6) =
    word (codes "return-icmp") ∷ sign_apart 40 ∷ close (bare (decimal code)) ∷ sign_close 44 ∷ number code6 ∷ sign_close 41 ∷ []

abbrev pub action_glyphs : Action → List Glyph
action_glyphs actions.Pass = close (bare (codes "pass")) ∷ []
action_glyphs actions.Match = close (bare (codes "match")) ∷ []
action_glyphs (actions.Block kind) = close (bare (codes "block")) ∷ kind_glyphs kind
action_glyphs (actions.Anchor call) = close (bare (codes "anchor")) ∷ apart (quoted (call_text call)) ∷ []

-- what stands before the hosts
abbrev pub direction_glyphs : Direction → List Glyph
direction_glyphs In = word (codes "in") ∷ []
direction_glyphs Out = word (codes "out") ∷ []

abbrev pub chunk_of : List ℕ → List Glyph → Chunk
chunk_of text more = record { word = text; more = more }

abbrev pub chunk_if : Bool → List ℕ → Option Chunk
chunk_if stands text = if stands then Some (chunk_of text []) else None

abbrev pub to_chunk : List ℕ → Chunk
to_chunk text = chunk_of (codes "to") (name text ∷ [])

abbrev pub log_chunks : Log → List (Option Chunk)
log_chunks log =
    chunk_if log.all (codes "all") ∷ chunk_if log.matches (codes "matches") ∷ chunk_if log.user (codes "user") ∷ option_map to_chunk log.to ∷ []

abbrev pub log_glyphs : Log → List Glyph
log_glyphs log = where_so log.on (word (codes "log") ∷ bracket_glyphs (log_chunks log))

abbrev pub not_glyphs : Bool → List Glyph
not_glyphs negated = where_so negated (sign_apart 33 ∷ [])

abbrev pub iface_glyphs : IfTest → List Glyph
iface_glyphs ifaces.Any = []
iface_glyphs (ifaces.On text negated) = word (codes "on") ∷ (not_glyphs negated ++ name text ∷ [])

abbrev pub family_glyphs : Family → List Glyph
family_glyphs Inet = word (codes "inet") ∷ []
family_glyphs Inet6 = word (codes "inet6") ∷ []

abbrev pub proto_word : ℕ → List ℕ
proto_word proto = unwrap_or (word_of protocols proto) (decimal proto)

abbrev pub proto_glyphs : ℕ → List Glyph
proto_glyphs proto = word (codes "proto") ∷ word (proto_word proto) ∷ []

abbrev pub front_glyphs : Rule → List Glyph
front_glyphs rule =
    given direction_glyphs rule.criteria.direction
    ++ (log_glyphs rule.effect.params.log
    ++ (where_so rule.effect.quick (word (codes "quick") ∷ [])
    ++ (iface_glyphs rule.criteria.iface
    ++ (given family_glyphs rule.criteria.family
    ++ (given proto_glyphs rule.criteria.proto
    ++ [])))))

-- sets of numbers
abbrev pub interval_word : ℕ → ℕ → List ℕ
interval_word low high = decimal low ++ codes ":" ++ decimal high

abbrev pub interval_glyphs : Bool → ℕ → ℕ → List Glyph
interval_glyphs true low high = sign_apart 61 ∷ number low ∷ []
interval_glyphs false low high = word (interval_word low high) ∷ []

abbrev pub outside_glyphs : List ℕ → List ℕ → List Glyph
outside_glyphs low high = word low ∷ sign_close 60 ∷ sign_close 62 ∷ close (bare high) ∷ []

abbrev pub gap_glyphs : Bool → ℕ → ℕ → List Glyph
gap_glyphs true low high = sign_apart 33 ∷ sign_close 61 ∷ number low ∷ []
gap_glyphs false low high = outside_glyphs (decimal low) (decimal high)

abbrev pub set_glyphs : ℕ → Numbers → List Glyph
set_glyphs top Empty = outside_glyphs (codes "0") (decimal top)
set_glyphs top (One all) = interval_glyphs (all.low == all.high) all.low all.high
set_glyphs top (Two first last) = gap_glyphs (first.high + 1 == last.low - 1) (first.high + 1) (last.low - 1)

-- hosts
abbrev pub mask_glyphs : Prefix → List Glyph
mask_glyphs prefix = where_so (not (prefix.len == width prefix.addr)) (sign_close 47 ∷ close (bare (decimal prefix.len)) ∷ [])

abbrev pub prefix_glyphs : Prefix → List Glyph
prefix_glyphs prefix = word (addr_text prefix.addr) ∷ mask_glyphs prefix

abbrev pub dynamic_word : DynIf → List ℕ
dynamic_word what = what.name ++ text_if what.network (codes ":network") ++ text_if what.first (codes ":0")

abbrev pub addresses_glyphs : AddrSet → List Glyph
addresses_glyphs (sets.Prefix prefix) = prefix_glyphs prefix
addresses_glyphs (sets.Range range) = word (addr_text range.low) ∷ word (codes "-") ∷ word (addr_text range.high) ∷ []
addresses_glyphs (sets.Table text) = sign_apart 60 ∷ close (bare text) ∷ sign_close 62 ∷ []
addresses_glyphs (sets.Dynamic what) = sign_apart 40 ∷ close (bare (dynamic_word what)) ∷ sign_close 41 ∷ []
addresses_glyphs (sets.Auto n) = word (codes "<__automatic_" ++ decimal n ++ codes ">") ∷ []

abbrev pub host_glyphs : AddrTest → List Glyph
host_glyphs tests.Any = word (codes "any") ∷ []
host_glyphs (tests.Test negated what) = not_glyphs negated ++ addresses_glyphs what

abbrev pub port_glyphs : Numbers → List Glyph
port_glyphs ports = word (codes "port") ∷ set_glyphs top_port ports

abbrev pub side_glyphs : List ℕ → AddrTest → Option Numbers → List Glyph
side_glyphs text test ports = word text ∷ (host_glyphs test ++ given port_glyphs ports)

abbrev pub hosts_glyphs : Criteria → List Glyph
hosts_glyphs criteria = if tests_no_host criteria then word (codes "all") ∷ []
    else side_glyphs (codes "from") criteria.source criteria.source_port ++ side_glyphs (codes "to") criteria.target criteria.target_port

abbrev pub user_glyphs : Numbers → List Glyph
user_glyphs ids = word (codes "user") ∷ set_glyphs top_id ids

abbrev pub group_glyphs : Numbers → List Glyph
group_glyphs ids = word (codes "group") ∷ set_glyphs top_id ids

abbrev pub end_glyphs : Criteria → List Glyph
end_glyphs criteria = hosts_glyphs criteria ++ (given user_glyphs criteria.user ++ (given group_glyphs criteria.group ++ []))

-- what else is tested
abbrev pub letters_before_slash : List ℕ → List Glyph
letters_before_slash letters = if is_nothing letters then sign_apart 47 ∷ [] else word letters ∷ sign_close 47 ∷ []

abbrev pub tested_flags_glyphs : TcpFlags → List Glyph
tested_flags_glyphs flags = word (codes "flags") ∷ (letters_before_slash (letters_of flags.set) ++ close (bare (letters_of flags.mask)) ∷ [])

abbrev pub flags_glyphs : Option TcpFlags → Bool → List Glyph
flags_glyphs (Some flags) needs = tested_flags_glyphs flags
flags_glyphs None needs = where_so needs (word (codes "flags") ∷ word (codes "any") ∷ [])

abbrev pub icmp_word : Family → List ℕ
icmp_word Inet = codes "icmp-type"
icmp_word Inet6 = codes "icmp6-type"

abbrev pub code_glyphs : ℕ → List Glyph
code_glyphs code = word (codes "code") ∷ number code ∷ []

abbrev pub icmp_glyphs : IcmpType → List Glyph
icmp_glyphs icmp = word (icmp_word icmp.family) ∷ number icmp.kind ∷ given code_glyphs icmp.code

abbrev pub tos_glyphs : ℕ → List Glyph
tos_glyphs n = word (codes "tos") ∷ number n ∷ []

abbrev pub prio_glyphs : ℕ → List Glyph
prio_glyphs n = word (codes "prio") ∷ number n ∷ []

abbrev pub tagged_glyphs : TagTest → List Glyph
tagged_glyphs tags.Any = []
tagged_glyphs (tags.Is text negated) = not_glyphs negated ++ word (codes "tagged") ∷ name text ∷ []

abbrev pub mark_glyphs : Criteria → Effect → List Glyph
mark_glyphs criteria effect =
    flags_glyphs criteria.flags (needs_flags criteria effect)
    ++ (given icmp_glyphs criteria.icmp
    ++ (given tos_glyphs criteria.tos
    ++ (given prio_glyphs criteria.prio
    ++ (tagged_glyphs criteria.tagged
    ++ []))))

-- what the rule does
abbrev pub tag_glyphs : List ℕ → List Glyph
tag_glyphs text = word (codes "tag") ∷ name text ∷ []

abbrev pub count_chunk : List ℕ → ℕ → Chunk
count_chunk text n = chunk_of text (number n ∷ [])

abbrev pub track_chunk : Track → Chunk
track_chunk tracks.Plain = chunk_of (codes "source-track") []
track_chunk tracks.Rule = chunk_of (codes "source-track") (word (codes "rule") ∷ [])
track_chunk tracks.Global = chunk_of (codes "source-track") (word (codes "global") ∷ [])

abbrev pub rate_chunk : Rate → Chunk
rate_chunk rate = chunk_of (codes "max-src-conn-rate") (number rate.count ∷ sign_close 47 ∷ close (bare (decimal rate.seconds)) ∷ [])

abbrev pub flush_glyphs : Flush → List Glyph
flush_glyphs flushes.No = []
flush_glyphs flushes.Flush = word (codes "flush") ∷ []
flush_glyphs flushes.Global = word (codes "flush") ∷ word (codes "global") ∷ []

abbrev pub overload_chunk : Overload → Chunk
overload_chunk overload = chunk_of (codes "overload") (sign_apart 60 ∷ close (bare overload.table) ∷ sign_close 62 ∷ flush_glyphs overload.flush)

abbrev pub option_chunks : StateOptions → List (Option Chunk)
option_chunks options =
    option_map (count_chunk (codes "max")) options.max
    ∷ option_map track_chunk options.source_track
    ∷ option_map (count_chunk (codes "max-src-nodes")) options.max_src_nodes
    ∷ option_map (count_chunk (codes "max-src-states")) options.max_src_states
    ∷ option_map (count_chunk (codes "max-src-conn")) options.max_src_conn
    ∷ option_map rate_chunk options.max_src_conn_rate
    ∷ option_map overload_chunk options.overload
    ∷ chunk_if options.sloppy (codes "sloppy")
    ∷ chunk_if options.no_sync (codes "no-sync")
    ∷ chunk_if options.pflow (codes "pflow")
    ∷ chunk_if options.if_bound (codes "if-bound")
    ∷ []

abbrev pub clause_glyphs : List ℕ → StateOptions → List Glyph
clause_glyphs text options = word text ∷ word (codes "state") ∷ bracket_glyphs (option_chunks options)

abbrev pub state_glyphs : StateKind → StateOptions → List Glyph
state_glyphs states.None options = word (codes "no") ∷ word (codes "state") ∷ []
state_glyphs states.Keep options = clause_glyphs (codes "keep") options
state_glyphs states.Modulate options = clause_glyphs (codes "modulate") options
state_glyphs states.Synproxy options = clause_glyphs (codes "synproxy") options

-- one, or two in brackets
abbrev pub pair_glyphs : Symbol → Option Symbol → List Glyph
pair_glyphs first None = apart first ∷ []
pair_glyphs first (Some second) = sign_apart 40 ∷ close first ∷ sign_close 44 ∷ apart second ∷ sign_close 41 ∷ []

abbrev pub number_symbol : ℕ → Symbol
number_symbol n = bare (decimal n)

abbrev pub queue_glyphs : Queues → List Glyph
queue_glyphs queues = word (codes "set") ∷ word (codes "queue") ∷ pair_glyphs (name_symbol queues.first) (option_map name_symbol queues.second)

abbrev pub prios_glyphs : Prios → List Glyph
prios_glyphs prios = word (codes "set") ∷ word (codes "prio") ∷ pair_glyphs (number_symbol prios.first) (option_map number_symbol prios.second)

abbrev pub set_tos_glyphs : ℕ → List Glyph
set_tos_glyphs n = word (codes "set") ∷ word (codes "tos") ∷ number n ∷ []

abbrev pub scrub_chunks : Scrub → List (Option Chunk)
scrub_chunks scrub =
    chunk_if scrub.no_df (codes "no-df")
    ∷ chunk_if scrub.random_id (codes "random-id")
    ∷ (if scrub.reassemble_tcp then Some (chunk_of (codes "reassemble") (word (codes "tcp") ∷ [])) else None)
    ∷ option_map (count_chunk (codes "min-ttl")) scrub.min_ttl
    ∷ option_map (count_chunk (codes "max-mss")) scrub.max_mss
    ∷ []

abbrev pub scrub_glyphs : Scrub → List Glyph
scrub_glyphs scrub = where_so (list_any is_some (scrub_chunks scrub)) (word (codes "scrub") ∷ bracket_glyphs (scrub_chunks scrub))

abbrev pub to_port_glyphs : ℕ → List Glyph
to_port_glyphs port = word (codes "port") ∷ number port ∷ []

abbrev pub target_glyphs : List ℕ → Target → List Glyph
target_glyphs text target = word text ∷ word (addr_text target.addr) ∷ given to_port_glyphs target.port

abbrev pub label_glyphs : List ℕ → List Glyph
label_glyphs text = word (codes "label") ∷ apart (quoted text) ∷ []

abbrev pub sets_glyphs : Effect → List Glyph
sets_glyphs effect =
    given tag_glyphs effect.tag
    ++ (where_so (is_pass effect.action) (state_glyphs effect.state effect.options)
    ++ (given queue_glyphs effect.params.queue
    ++ (given prios_glyphs effect.params.prio
    ++ (given set_tos_glyphs effect.params.tos
    ++ []))))

abbrev pub changes_glyphs : Effect → List Glyph
changes_glyphs effect =
    scrub_glyphs effect.params.scrub
    ++ (given (target_glyphs (codes "nat-to")) effect.params.nat
    ++ (given (target_glyphs (codes "rdr-to")) effect.params.rdr
    ++ (where_so effect.params.allow_opts (word (codes "allow-opts") ∷ [])
    ++ (given label_glyphs effect.label
    ++ []))))

abbrev pub effect_glyphs : Effect → List Glyph
effect_glyphs effect = sets_glyphs effect ++ changes_glyphs effect

abbrev pub rule_glyphs : Rule → List Glyph
rule_glyphs rule =
    action_glyphs rule.effect.action ++ (front_glyphs rule ++ (end_glyphs rule.criteria ++ (mark_glyphs rule.criteria rule.effect ++ effect_glyphs rule.effect)))
