-- The text of a rule is how its words, strings and signs are spelled.
use Rattle.std.proofs.Common.{◌≡◌, ℕ, ◌+◌, ◌-◌, Bool, true, false, List, [], ◌∷◌, ◌++◌, Option, Some, None, refl, ap, sym, ◌∙◌, append_assoc, decimal}
use Rattle.std.specs.Prelude.{◌==◌, not, is_some, codes, if◌then◌else◌}
use Rattle.std.specs.List.{filter_map, flat_map, list_any}
use Rattle.std.specs.Option.{option_map}
use Rattle.std.proofs.lemmas.List.{append-nil}
use Rattle.pf_addr.specs.Addr.{width}
use Rattle.pf_addr.specs.PrefixText.{prefix_text}
use Rattle.pf_addr.specs.Text.{addr_text}
use Rattle.pf_addr.specs.declared.prefix.Prefix.{Prefix}
use Rattle.pf_base.specs.declared.kind.Family.{Family}
use Rattle.pf_base.specs.declared.kind.Family.TheVariants.{Inet, Inet6}
use Rattle.pf_ops.specs.Words.{letters_of}
use Rattle.pf_ops.specs.declared.flags.IcmpType.{IcmpType}
use Rattle.pf_ops.specs.declared.flags.TcpFlags.{TcpFlags}
use Rattle.pf_ops.specs.declared.numbers.Numbers.{Numbers}
use Rattle.pf_ops.specs.declared.numbers.Numbers.TheVariants.{Empty, One, Two}
use Rattle.pf_parts.specs.BlockText.{block_text}
use Rattle.pf_parts.specs.CallText.{call_text}
use Rattle.pf_parts.specs.NameText.{name_text, quoted}
use Rattle.pf_parts.specs.ParamText.{label_text, log_parts, log_text, prio_text, queue_text, scrub_parts, scrub_text, tag_text}
use Rattle.pf_parts.specs.Parts.{in_brackets, joined, spaced, with_number, with_pair, word_if}
use Rattle.pf_parts.specs.StateText.{flush_text, option_parts, overload_text, rate_text, state_text, track_text}
use Rattle.pf_parts.specs.declared.block.BlockKind.{BlockKind}
use Rattle.pf_parts.specs.declared.block.BlockKind.TheVariants as blocks
use Rattle.pf_parts.specs.declared.direction.Direction.{Direction}
use Rattle.pf_parts.specs.declared.direction.Direction.TheVariants.{In, Out}
use Rattle.pf_parts.specs.declared.matching.IfTest.{IfTest}
use Rattle.pf_parts.specs.declared.matching.IfTest.TheVariants as ifaces
use Rattle.pf_parts.specs.declared.matching.TagTest.{TagTest}
use Rattle.pf_parts.specs.declared.matching.TagTest.TheVariants as tags
use Rattle.pf_parts.specs.declared.params.Log.{Log}
use Rattle.pf_parts.specs.declared.params.Prios.{Prios}
use Rattle.pf_parts.specs.declared.params.Queues.{Queues}
use Rattle.pf_parts.specs.declared.params.Scrub.{Scrub}
use Rattle.pf_parts.specs.declared.state.Flush.{Flush}
use Rattle.pf_parts.specs.declared.state.Flush.TheVariants as flushes
use Rattle.pf_parts.specs.declared.state.Overload.{Overload}
use Rattle.pf_parts.specs.declared.state.Rate.{Rate}
use Rattle.pf_parts.specs.declared.state.StateKind.{StateKind}
use Rattle.pf_parts.specs.declared.state.StateKind.TheVariants as states
use Rattle.pf_parts.specs.declared.state.StateOptions.{StateOptions}
use Rattle.pf_parts.specs.declared.state.Track.{Track}
use Rattle.pf_parts.specs.declared.state.Track.TheVariants as tracks
use Rattle.pf_print.specs.HostText.{addresses_text, host_text, hosts_text, port_text, tests_no_host, text_if}
use Rattle.pf_print.specs.RuleText.{icmp_word as print_word, action_text, code_text, change_parts, direction_text, effect_text, end_parts, family_text, flags_or_any, front_parts, icmp_text, iface_text, ids_text, is_pass, mark_parts, needs_flags, parts_text, proto_text, rule_text, set_parts, setting_text, state_part, tagged_text}
use Rattle.pf_print.specs.SetText.{set_text, top_id, top_port}
use Rattle.pf_record.specs.TranslationText.{nat_text, rdr_text, target_text}
use Rattle.pf_rule.specs.declared.criteria.AddrSet.{AddrSet}
use Rattle.pf_rule.specs.declared.criteria.AddrSet.TheVariants as sets
use Rattle.pf_rule.specs.declared.criteria.AddrTest.{AddrTest}
use Rattle.pf_rule.specs.declared.criteria.AddrTest.TheVariants as tests
use Rattle.pf_rule.specs.declared.criteria.Criteria.{Criteria}
use Rattle.pf_rule.specs.declared.effect.Action.{Action}
use Rattle.pf_rule.specs.declared.effect.Action.TheVariants as actions
use Rattle.pf_rule.specs.declared.effect.Effect.{Effect}
use Rattle.pf_rule.specs.declared.rule.Rule.{Rule}
use Rattle.pf_rule.specs.declared.translation.Target.{Target}
use Rattle.pf_reread.proofs.Chunks.{Chunk, bracket_glyphs, bracket_spelled, chunk_text, texts}
use Rattle.pf_syntax.specs.Symbols.{Symbol, bare}
use Rattle.pf_reread.proofs.Glyphs.{Glyph, close, sign_apart, sign_close, spelled, spelled-append, symbol_text}
use Rattle.pf_reread.proofs.RuleGlyphs.{action_glyphs, addresses_glyphs, chunk_if, chunk_of, code_glyphs, clause_glyphs, count_chunk, direction_glyphs, changes_glyphs, effect_glyphs, end_glyphs, family_glyphs, flags_glyphs, flush_glyphs, front_glyphs, gap_glyphs, given, group_glyphs, host_glyphs, hosts_glyphs, icmp_glyphs, icmp_word, iface_glyphs, interval_glyphs, interval_word, kind_glyphs, label_glyphs, letters_before_slash, log_chunks, log_glyphs, mark_glyphs, name, not_glyphs, number, number_symbol, option_chunks, outside_glyphs, overload_chunk, pair_glyphs, port_glyphs, prefix_glyphs, prio_glyphs, prios_glyphs, proto_glyphs, proto_word, queue_glyphs, rate_chunk, rule_glyphs, scrub_chunks, scrub_glyphs, set_glyphs, set_tos_glyphs, sets_glyphs, side_glyphs, state_glyphs, tag_glyphs, tagged_glyphs, target_glyphs, to_chunk, to_port_glyphs, tos_glyphs, track_chunk, user_glyphs, where_so, word}
use Rattle.pf_reread.proofs.Words.{name_symbol, name_text-symbol}

-- a part in front of others
row : (glyphs others : List Glyph) (part : Option (List ℕ)) (parts : List (Option (List ℕ))) → spelled glyphs ≡ spaced part → spelled others ≡ parts_text parts
    → spelled (glyphs ++ others) ≡ parts_text (part ∷ parts)
row glyphs others part parts e f = spelled-append glyphs others ∙ ap (λ text. spelled glyphs ++ text) f ∙ ap (λ text. text ++ parts_text parts) e

-- a part that is given
of_given : {A : Type 0} (glyphs : A → List Glyph) (text : A → List ℕ) → ((value : A) → spelled (glyphs value) ≡ spaced (Some (text value)))
    → (value : Option A) → spelled (given glyphs value) ≡ spaced (option_map text value)
of_given glyphs text each None = refl
of_given glyphs text each (Some value) = each value

-- a word alone
of_word_if : (stands : Bool) (text : List ℕ) → spelled (where_so stands (word text ∷ [])) ≡ spaced (word_if stands text)
of_word_if true text = ap (λ other. 32 ∷ other) (append-nil text)
of_word_if false text = refl

of_number : (front : List ℕ) (n : ℕ) → spelled (word front ∷ number n ∷ []) ≡ codes " " ++ (front ++ codes " " ++ decimal n)
of_number front n = ap (λ text. 32 ∷ (front ++ 32 ∷ text)) (append-nil (decimal n)) ∙ ap (λ text. 32 ∷ text) (sym (append_assoc front (codes " ") (decimal n)))

of_name : (front text : List ℕ) → spelled (word front ∷ name text ∷ []) ≡ codes " " ++ (front ++ codes " " ++ name_text text)
of_name front text =
    ap (λ other. 32 ∷ (front ++ 32 ∷ other)) (append-nil (symbol_text (name_symbol text)) ∙ name_text-symbol text)
    ∙ ap (λ other. 32 ∷ other) (sym (append_assoc front (codes " ") (name_text text)))

-- how it begins
four : (a b c d : List ℕ) → a ++ (b ++ (c ++ d)) ≡ ((a ++ b) ++ c) ++ d
four a b c d = sym (append_assoc a b (c ++ d)) ∙ sym (append_assoc (a ++ b) c d)

of_ttl : (none : Bool) (ttl : ℕ)
    → spelled (word (codes "return-rst") ∷ where_so (not none) (sign_apart 40 ∷ close (bare (codes "ttl")) ∷ number ttl ∷ sign_close 41 ∷ []))
    ≡ codes " " ++ (if none then codes "return-rst" else codes "return-rst (ttl " ++ decimal ttl ++ codes ")")
of_ttl true ttl = refl
of_ttl false ttl = refl

of_kind : (kind : BlockKind) → spelled (kind_glyphs kind) ≡ codes " " ++ block_text kind
unfolding block_text
of_kind blocks.Drop = refl
of_kind blocks.Return = refl
of_kind (blocks.Rst ttl) = of_ttl (ttl == 0) ttl
of_kind (blocks.Icmp code code6) = ap (λ text. codes " return-icmp (" ++ text) (four (decimal code) (codes ", ") (decimal code6) (codes ")"))

of_action : (action : Action) → spelled (action_glyphs action) ≡ action_text action
unfolding action_text
of_action actions.Pass = refl
of_action actions.Match = refl
of_action (actions.Block kind) = ap (λ text. codes "block" ++ text) (of_kind kind)
of_action (actions.Anchor call) = ap (λ text. codes "anchor " ++ text) (append-nil (quoted (call_text call)))

-- what stands before the hosts
of_direction : (direction : Direction) → spelled (direction_glyphs direction) ≡ spaced (Some (direction_text direction))
of_direction In = refl
of_direction Out = refl

of_chunk_if : (stands : Bool) (text : List ℕ) → option_map chunk_text (chunk_if stands text) ≡ word_if stands text
of_chunk_if true text = ap (λ other. Some other) (append-nil text)
of_chunk_if false text = refl

-- what a chunk that is given says
of_chunk : {A : Type 0} (chunk : A → Chunk) (text : A → List ℕ) → ((value : A) → chunk_text (chunk value) ≡ text value)
    → (value : Option A) → option_map chunk_text (option_map chunk value) ≡ option_map text value
of_chunk chunk text each None = refl
of_chunk chunk text each (Some value) = ap (λ other. Some other) (each value)

of_to : (text : List ℕ) → chunk_text (to_chunk text) ≡ codes "to " ++ name_text text
of_to text = ap (λ other. codes "to " ++ other) (append-nil (symbol_text (name_symbol text)) ∙ name_text-symbol text)

of_log_chunks : (log : Log) → texts (log_chunks log) ≡ log_parts log
of_log_chunks log =
    rw (
      of_chunk_if log.all (codes "all"),
      of_chunk_if log.matches (codes "matches"),
      of_chunk_if log.user (codes "user"),
      of_chunk to_chunk (λ text. codes "to " ++ name_text text) of_to log.to,
    ) refl

-- a text and then a part, joined
joined_with : (text : List ℕ) (part : Option (List ℕ)) → joined (codes " ") (Some text ∷ part ∷ []) ≡ text ++ spaced part
joined_with text None = refl
joined_with text (Some part) = ap (λ other. text ++ other) (append-nil (codes " " ++ part))

of_log_if : (on : Bool) (log : Log)
    → spelled (where_so on (word (codes "log") ∷ bracket_glyphs (log_chunks log)))
    ≡ spaced (if on then Some (joined (codes " ") (Some (codes "log") ∷ in_brackets (log_parts log) ∷ [])) else None)
of_log_if true log =
    ap (λ text. codes " log" ++ text) (bracket_spelled (log_chunks log) ∙ ap (λ parts. spaced (in_brackets parts)) (of_log_chunks log))
    ∙ ap (λ text. codes " " ++ text) (sym (joined_with (codes "log") (in_brackets (log_parts log))))
of_log_if false log = refl

of_log : (log : Log) → spelled (log_glyphs log) ≡ spaced (log_text log)
unfolding log_text
of_log log = of_log_if log.on log

of_iface_if : (negated : Bool) (text : List ℕ)
    → spelled (word (codes "on") ∷ (not_glyphs negated ++ name text ∷ [])) ≡ codes " " ++ (codes "on " ++ text_if negated (codes "! ") ++ name_text text)
of_iface_if true text = ap (λ other. codes " on ! " ++ other) (append-nil (symbol_text (name_symbol text)) ∙ name_text-symbol text)
of_iface_if false text = ap (λ other. codes " on " ++ other) (append-nil (symbol_text (name_symbol text)) ∙ name_text-symbol text)

of_iface : (test : IfTest) → spelled (iface_glyphs test) ≡ spaced (iface_text test)
of_iface ifaces.Any = refl
of_iface (ifaces.On text negated) = of_iface_if negated text

of_family : (family : Family) → spelled (family_glyphs family) ≡ spaced (Some (family_text family))
of_family Inet = refl
of_family Inet6 = refl

of_proto : (proto : ℕ) → spelled (proto_glyphs proto) ≡ spaced (Some (proto_text proto))
unfolding proto_text
of_proto proto = ap (λ text. codes " proto " ++ text) (append-nil (proto_word proto))

of_front : (rule : Rule) → spelled (front_glyphs rule) ≡ parts_text (front_parts rule)
of_front rule =
    row (given direction_glyphs rule.criteria.direction) (log_glyphs rule.effect.params.log ++ (where_so rule.effect.quick (word (codes "quick") ∷ []) ++ (iface_glyphs rule.criteria.iface ++ (given family_glyphs rule.criteria.family ++ (given proto_glyphs rule.criteria.proto ++ []))))) _ (log_text rule.effect.params.log ∷ word_if rule.effect.quick (codes "quick") ∷ iface_text rule.criteria.iface ∷ option_map family_text rule.criteria.family ∷ option_map proto_text rule.criteria.proto ∷ []) (of_given direction_glyphs direction_text of_direction rule.criteria.direction)
    (row (log_glyphs rule.effect.params.log) (where_so rule.effect.quick (word (codes "quick") ∷ []) ++ (iface_glyphs rule.criteria.iface ++ (given family_glyphs rule.criteria.family ++ (given proto_glyphs rule.criteria.proto ++ [])))) _ (word_if rule.effect.quick (codes "quick") ∷ iface_text rule.criteria.iface ∷ option_map family_text rule.criteria.family ∷ option_map proto_text rule.criteria.proto ∷ []) (of_log rule.effect.params.log)
    (row (where_so rule.effect.quick (word (codes "quick") ∷ [])) (iface_glyphs rule.criteria.iface ++ (given family_glyphs rule.criteria.family ++ (given proto_glyphs rule.criteria.proto ++ []))) _ (iface_text rule.criteria.iface ∷ option_map family_text rule.criteria.family ∷ option_map proto_text rule.criteria.proto ∷ []) (of_word_if rule.effect.quick (codes "quick"))
    (row (iface_glyphs rule.criteria.iface) (given family_glyphs rule.criteria.family ++ (given proto_glyphs rule.criteria.proto ++ [])) _ (option_map family_text rule.criteria.family ∷ option_map proto_text rule.criteria.proto ∷ []) (of_iface rule.criteria.iface)
    (row (given family_glyphs rule.criteria.family) (given proto_glyphs rule.criteria.proto ++ []) _ (option_map proto_text rule.criteria.proto ∷ []) (of_given family_glyphs family_text of_family rule.criteria.family)
    (row (given proto_glyphs rule.criteria.proto) [] _ [] (of_given proto_glyphs proto_text of_proto rule.criteria.proto) refl)))))

-- sets of numbers
-- two texts and what stands between them
apart_by : (low between high : List ℕ) → 32 ∷ (low ++ (between ++ (high ++ []))) ≡ 32 ∷ (low ++ between ++ high)
apart_by low between high = ap (λ text. 32 ∷ (low ++ (between ++ text))) (append-nil high) ∙ ap (λ text. 32 ∷ text) (sym (append_assoc low between high))

of_outside : (low high : List ℕ) → spelled (outside_glyphs low high) ≡ codes " " ++ (low ++ codes "<>" ++ high)
of_outside low high = apart_by low (codes "<>") high

of_interval : (same : Bool) (low high : ℕ)
    → spelled (interval_glyphs same low high) ≡ codes " " ++ (if same then codes "= " ++ decimal low else decimal low ++ codes ":" ++ decimal high)
of_interval true low high = ap (λ text. codes " = " ++ text) (append-nil (decimal low))
of_interval false low high = ap (λ text. codes " " ++ text) (append-nil (interval_word low high))

of_gap : (same : Bool) (low high : ℕ)
    → spelled (gap_glyphs same low high) ≡ codes " " ++ (if same then codes "!= " ++ decimal low else decimal low ++ codes "<>" ++ decimal high)
of_gap true low high = ap (λ text. codes " != " ++ text) (append-nil (decimal low))
of_gap false low high = of_outside (decimal low) (decimal high)

pub of_set : (top : ℕ) (numbers : Numbers) → spelled (set_glyphs top numbers) ≡ codes " " ++ set_text top numbers
unfolding set_text
of_set top Empty = of_outside (codes "0") (decimal top)
of_set top (One all) = of_interval (all.low == all.high) all.low all.high
of_set top (Two first last) = of_gap (first.high + 1 == last.low - 1) (first.high + 1) (last.low - 1)

-- hosts
of_mask_if : (whole : Bool) (addr : List ℕ) (len : ℕ)
    → spelled (word addr ∷ where_so (not whole) (sign_close 47 ∷ close (bare (decimal len)) ∷ [])) ≡ codes " " ++ (if whole then addr else addr ++ codes "/" ++ decimal len)
of_mask_if true addr len = ap (λ text. 32 ∷ text) (append-nil addr)
of_mask_if false addr len = ap (λ text. 32 ∷ (addr ++ 47 ∷ text)) (append-nil (decimal len)) ∙ ap (λ text. 32 ∷ text) (sym (append_assoc addr (codes "/") (decimal len)))

of_prefix : (prefix : Prefix) → spelled (prefix_glyphs prefix) ≡ codes " " ++ prefix_text prefix
of_prefix prefix = of_mask_if (prefix.len == width prefix.addr) (addr_text prefix.addr) prefix.len

of_addresses : (what : AddrSet) → spelled (addresses_glyphs what) ≡ codes " " ++ addresses_text what
unfolding addresses_text
of_addresses (sets.Prefix prefix) = of_prefix prefix
of_addresses (sets.Range range) = apart_by (addr_text range.low) (codes " - ") (addr_text range.high)
of_addresses (sets.Table text) = refl
of_addresses (sets.Dynamic what) = refl
of_addresses (sets.Auto n) = ap (λ text. 32 ∷ text) (append-nil (codes "<__automatic_" ++ decimal n ++ codes ">"))

of_host_if : (negated : Bool) (what : AddrSet) → spelled (not_glyphs negated ++ addresses_glyphs what) ≡ codes " " ++ (text_if negated (codes "! ") ++ addresses_text what)
of_host_if true what = ap (λ text. codes " !" ++ text) (of_addresses what)
of_host_if false what = of_addresses what

of_host : (test : AddrTest) → spelled (host_glyphs test) ≡ codes " " ++ host_text test
unfolding host_text
of_host tests.Any = refl
of_host (tests.Test negated what) = of_host_if negated what

of_port : (ports : Numbers) → spelled (port_glyphs ports) ≡ spaced (Some (port_text ports))
of_port ports = ap (λ text. codes " port" ++ text) (of_set top_port ports)

-- parts behind a text, joined
flat_parts : (parts : List (Option (List ℕ))) → flat_map (λ part. codes " " ++ part) (filter_map (λ part. part) parts) ≡ parts_text parts
flat_parts [] = refl
flat_parts (None ∷ parts) = flat_parts parts
flat_parts (Some part ∷ parts) = ap (λ text. (codes " " ++ part) ++ text) (flat_parts parts)

joined_parts : (text : List ℕ) (parts : List (Option (List ℕ))) → joined (codes " ") (Some text ∷ parts) ≡ text ++ parts_text parts
joined_parts text parts = ap (λ other. text ++ other) (flat_parts parts)

last_part : (glyphs : List Glyph) (part : Option (List ℕ)) → spelled glyphs ≡ spaced part → spelled glyphs ≡ parts_text (part ∷ [])
last_part glyphs part e = e ∙ sym (append-nil (spaced part))

of_sides : (criteria : Criteria)
    → spelled (side_glyphs (codes "from") criteria.source criteria.source_port ++ side_glyphs (codes "to") criteria.target criteria.target_port)
    ≡ codes " " ++ joined (codes " ") (Some (codes "from " ++ host_text criteria.source) ∷ option_map port_text criteria.source_port
    ∷ Some (codes "to " ++ host_text criteria.target) ∷ option_map port_text criteria.target_port ∷ [])
of_sides criteria =
    let from_host = word (codes "from") ∷ host_glyphs criteria.source in
    let from_port = given port_glyphs criteria.source_port in
    let to_host = word (codes "to") ∷ host_glyphs criteria.target in
    let to_port = given port_glyphs criteria.target_port in
    ap (λ glyphs. spelled glyphs) (append_assoc from_host from_port (to_host ++ to_port))
    ∙ row from_host (from_port ++ (to_host ++ to_port)) (Some (codes "from " ++ host_text criteria.source)) (option_map port_text criteria.source_port ∷ Some (codes "to " ++ host_text criteria.target) ∷ option_map port_text criteria.target_port ∷ []) (ap (λ text. codes " from" ++ text) (of_host criteria.source))
    (row from_port (to_host ++ to_port) (option_map port_text criteria.source_port) (Some (codes "to " ++ host_text criteria.target) ∷ option_map port_text criteria.target_port ∷ []) (of_given port_glyphs port_text of_port criteria.source_port)
    (row to_host to_port (Some (codes "to " ++ host_text criteria.target)) (option_map port_text criteria.target_port ∷ []) (ap (λ text. codes " to" ++ text) (of_host criteria.target))
    (last_part to_port (option_map port_text criteria.target_port) (of_given port_glyphs port_text of_port criteria.target_port))))
    ∙ ap (λ text. codes " " ++ text) (sym (joined_parts (codes "from " ++ host_text criteria.source) (option_map port_text criteria.source_port
    ∷ Some (codes "to " ++ host_text criteria.target) ∷ option_map port_text criteria.target_port ∷ [])))

of_hosts_if : (all : Bool) (criteria : Criteria)
    → spelled (if all then word (codes "all") ∷ []
    else side_glyphs (codes "from") criteria.source criteria.source_port ++ side_glyphs (codes "to") criteria.target criteria.target_port)
    ≡ codes " " ++ (if all then codes "all" else joined (codes " ") (Some (codes "from " ++ host_text criteria.source) ∷ option_map port_text criteria.source_port
    ∷ Some (codes "to " ++ host_text criteria.target) ∷ option_map port_text criteria.target_port ∷ []))
of_hosts_if true criteria = refl
of_hosts_if false criteria = of_sides criteria

of_hosts : (criteria : Criteria) → spelled (hosts_glyphs criteria) ≡ spaced (Some (hosts_text criteria))
unfolding hosts_text
of_hosts criteria = of_hosts_if (tests_no_host criteria) criteria

of_user : (ids : Numbers) → spelled (user_glyphs ids) ≡ spaced (Some (ids_text (codes "user ") ids))
of_user ids = ap (λ text. codes " user" ++ text) (of_set top_id ids)

of_group : (ids : Numbers) → spelled (group_glyphs ids) ≡ spaced (Some (ids_text (codes "group ") ids))
of_group ids = ap (λ text. codes " group" ++ text) (of_set top_id ids)

of_ends : (criteria : Criteria) → spelled (end_glyphs criteria) ≡ parts_text (end_parts criteria)
of_ends criteria =
    row (hosts_glyphs criteria) (given user_glyphs criteria.user ++ (given group_glyphs criteria.group ++ [])) (Some (hosts_text criteria)) (option_map (ids_text (codes "user ")) criteria.user ∷ option_map (ids_text (codes "group ")) criteria.group ∷ []) (of_hosts criteria)
    (row (given user_glyphs criteria.user) (given group_glyphs criteria.group ++ []) (option_map (ids_text (codes "user ")) criteria.user) (option_map (ids_text (codes "group ")) criteria.group ∷ []) (of_given user_glyphs (ids_text (codes "user ")) of_user criteria.user)
    (row (given group_glyphs criteria.group) [] (option_map (ids_text (codes "group ")) criteria.group) [] (of_given group_glyphs (ids_text (codes "group ")) of_group criteria.group) refl))

-- what else is tested
of_letters : (set mask : List ℕ) → spelled (word (codes "flags") ∷ (letters_before_slash set ++ close (bare mask) ∷ [])) ≡ codes " flags " ++ (set ++ codes "/" ++ mask)
of_letters [] mask = ap (λ text. codes " flags /" ++ text) (append-nil mask)
of_letters (letter ∷ set) mask = ap (λ text. codes " flags" ++ text) (apart_by (letter ∷ set) (codes "/") mask)

of_flags : (flags : Option TcpFlags) (needs : Bool) → spelled (flags_glyphs flags needs) ≡ spaced (flags_or_any flags needs)
of_flags (Some flags) needs = of_letters (letters_of flags.set) (letters_of flags.mask)
of_flags None true = refl
of_flags None false = refl

of_code : (code : Option ℕ) → spelled (given code_glyphs code) ≡ code_text code
of_code None = refl
of_code (Some code) = ap (λ text. codes " code " ++ text) (append-nil (decimal code))

of_icmp_with : (family : Family) (kind : ℕ) (code : Option ℕ)
    → spelled (word (icmp_word family) ∷ number kind ∷ given code_glyphs code) ≡ codes " " ++ (print_word family ++ decimal kind ++ code_text code)
of_icmp_with Inet kind code = ap (λ text. codes " icmp-type " ++ (decimal kind ++ text)) (of_code code)
of_icmp_with Inet6 kind code = ap (λ text. codes " icmp6-type " ++ (decimal kind ++ text)) (of_code code)

of_icmp : (icmp : IcmpType) → spelled (icmp_glyphs icmp) ≡ spaced (Some (icmp_text icmp))
unfolding icmp_text
of_icmp icmp = of_icmp_with icmp.family icmp.kind icmp.code

of_tagged_if : (negated : Bool) (text : List ℕ)
    → spelled (not_glyphs negated ++ word (codes "tagged") ∷ name text ∷ []) ≡ codes " " ++ (text_if negated (codes "! ") ++ codes "tagged " ++ name_text text)
of_tagged_if true text = ap (λ other. codes " ! tagged " ++ other) (append-nil (symbol_text (name_symbol text)) ∙ name_text-symbol text)
of_tagged_if false text = ap (λ other. codes " tagged " ++ other) (append-nil (symbol_text (name_symbol text)) ∙ name_text-symbol text)

of_tagged : (test : TagTest) → spelled (tagged_glyphs test) ≡ spaced (tagged_text test)
of_tagged tags.Any = refl
of_tagged (tags.Is text negated) = of_tagged_if negated text

of_marks : (criteria : Criteria) (effect : Effect) → spelled (mark_glyphs criteria effect) ≡ parts_text (mark_parts criteria effect)
of_marks criteria effect =
    row (flags_glyphs criteria.flags (needs_flags criteria effect)) (given icmp_glyphs criteria.icmp ++ (given tos_glyphs criteria.tos ++ (given prio_glyphs criteria.prio ++ (tagged_glyphs criteria.tagged ++ [])))) (flags_or_any criteria.flags (needs_flags criteria effect)) (option_map icmp_text criteria.icmp ∷ with_number (codes "tos") criteria.tos ∷ with_number (codes "prio") criteria.prio ∷ tagged_text criteria.tagged ∷ []) (of_flags criteria.flags (needs_flags criteria effect))
    (row (given icmp_glyphs criteria.icmp) (given tos_glyphs criteria.tos ++ (given prio_glyphs criteria.prio ++ (tagged_glyphs criteria.tagged ++ []))) (option_map icmp_text criteria.icmp) (with_number (codes "tos") criteria.tos ∷ with_number (codes "prio") criteria.prio ∷ tagged_text criteria.tagged ∷ []) (of_given icmp_glyphs icmp_text of_icmp criteria.icmp)
    (row (given tos_glyphs criteria.tos) (given prio_glyphs criteria.prio ++ (tagged_glyphs criteria.tagged ++ [])) (with_number (codes "tos") criteria.tos) (with_number (codes "prio") criteria.prio ∷ tagged_text criteria.tagged ∷ []) (of_given tos_glyphs (λ n. codes "tos" ++ codes " " ++ decimal n) (of_number (codes "tos")) criteria.tos)
    (row (given prio_glyphs criteria.prio) (tagged_glyphs criteria.tagged ++ []) (with_number (codes "prio") criteria.prio) (tagged_text criteria.tagged ∷ []) (of_given prio_glyphs (λ n. codes "prio" ++ codes " " ++ decimal n) (of_number (codes "prio")) criteria.prio)
    (row (tagged_glyphs criteria.tagged) [] (tagged_text criteria.tagged) [] (of_tagged criteria.tagged) refl))))

-- what the rule does
of_tag : (text : List ℕ) → spelled (tag_glyphs text) ≡ spaced (Some (tag_text text))
unfolding tag_text
of_tag text = of_name (codes "tag") text

of_count : (word : List ℕ) (n : ℕ) → chunk_text (count_chunk word n) ≡ word ++ codes " " ++ decimal n
of_count word n = ap (λ text. word ++ 32 ∷ text) (append-nil (decimal n)) ∙ sym (append_assoc word (codes " ") (decimal n))

of_track : (track : Track) → chunk_text (track_chunk track) ≡ track_text track
of_track tracks.Plain = refl
of_track tracks.Rule = refl
of_track tracks.Global = refl

of_rate : (rate : Rate) → chunk_text (rate_chunk rate) ≡ rate_text rate
of_rate rate =
    ap (λ text. codes "max-src-conn-rate " ++ (decimal rate.count ++ 47 ∷ text)) (append-nil (decimal rate.seconds))
    ∙ ap (λ text. codes "max-src-conn-rate " ++ text) (sym (append_assoc (decimal rate.count) (codes "/") (decimal rate.seconds)))

of_flush : (flush : Flush) → spelled (flush_glyphs flush) ≡ flush_text flush
of_flush flushes.No = refl
of_flush flushes.Flush = refl
of_flush flushes.Global = refl

of_overload : (overload : Overload) → chunk_text (overload_chunk overload) ≡ overload_text overload
of_overload overload =
    ap (λ text. codes "overload <" ++ (overload.table ++ (codes ">" ++ text))) (of_flush overload.flush)
    ∙ ap (λ text. codes "overload <" ++ text) (sym (append_assoc overload.table (codes ">") (flush_text overload.flush)))

of_option_chunks : (options : StateOptions) → texts (option_chunks options) ≡ option_parts options
unfolding option_parts
of_option_chunks options =
    rw (
      of_chunk (count_chunk (codes "max")) (λ n. codes "max" ++ codes " " ++ decimal n) (of_count (codes "max")) options.max,
      of_chunk track_chunk track_text of_track options.source_track,
      of_chunk (count_chunk (codes "max-src-nodes")) (λ n. codes "max-src-nodes" ++ codes " " ++ decimal n) (of_count (codes "max-src-nodes")) options.max_src_nodes,
      of_chunk (count_chunk (codes "max-src-states")) (λ n. codes "max-src-states" ++ codes " " ++ decimal n) (of_count (codes "max-src-states")) options.max_src_states,
      of_chunk (count_chunk (codes "max-src-conn")) (λ n. codes "max-src-conn" ++ codes " " ++ decimal n) (of_count (codes "max-src-conn")) options.max_src_conn,
      of_chunk rate_chunk rate_text of_rate options.max_src_conn_rate,
      of_chunk overload_chunk overload_text of_overload options.overload,
      of_chunk_if options.sloppy (codes "sloppy"),
      of_chunk_if options.no_sync (codes "no-sync"),
      of_chunk_if options.pflow (codes "pflow"),
      of_chunk_if options.if_bound (codes "if-bound"),
    ) refl

-- a state clause, whose words are these
of_clause : (front clause : List ℕ) (options : StateOptions) → spelled (clause_glyphs front options) ≡ codes " " ++ (clause ++ spaced (in_brackets (option_parts options)))
    → spelled (clause_glyphs front options) ≡ codes " " ++ joined (codes " ") (Some clause ∷ in_brackets (option_parts options) ∷ [])
of_clause front clause options e = e ∙ ap (λ text. codes " " ++ text) (sym (joined_with clause (in_brackets (option_parts options))))

of_options : (options : StateOptions) → spelled (bracket_glyphs (option_chunks options)) ≡ spaced (in_brackets (option_parts options))
of_options options = bracket_spelled (option_chunks options) ∙ ap (λ parts. spaced (in_brackets parts)) (of_option_chunks options)

of_state : (kind : StateKind) (options : StateOptions) → spelled (state_glyphs kind options) ≡ codes " " ++ state_text kind options
unfolding state_text
of_state states.None options = refl
of_state states.Keep options = of_clause (codes "keep") (codes "keep state") options (ap (λ text. codes " keep state" ++ text) (of_options options))
of_state states.Modulate options = of_clause (codes "modulate") (codes "modulate state") options (ap (λ text. codes " modulate state" ++ text) (of_options options))
of_state states.Synproxy options = of_clause (codes "synproxy") (codes "synproxy state") options (ap (λ text. codes " synproxy state" ++ text) (of_options options))

of_state_if : (pass : Bool) (kind : StateKind) (options : StateOptions)
    → spelled (where_so pass (state_glyphs kind options)) ≡ spaced (if pass then Some (state_text kind options) else None)
of_state_if true kind options = of_state kind options
of_state_if false kind options = refl

of_pair : (text : List ℕ) (first : Symbol) (second : Option Symbol)
    → spelled (word text ∷ pair_glyphs first second) ≡ codes " " ++ with_pair text (symbol_text first) (option_map symbol_text second)
of_pair text first None =
    ap (λ other. 32 ∷ (text ++ 32 ∷ other)) (append-nil (symbol_text first)) ∙ ap (λ other. 32 ∷ other) (sym (append_assoc text (codes " ") (symbol_text first)))
of_pair text first (Some second) =
    ap (λ other. 32 ∷ other)
    (sym (append_assoc text (codes " (") (symbol_text first ++ (codes ", " ++ (symbol_text second ++ codes ")"))))
    ∙ four (text ++ codes " (") (symbol_text first) (codes ", ") (symbol_text second ++ codes ")")
    ∙ sym (append_assoc (text ++ codes " (" ++ symbol_text first ++ codes ", ") (symbol_text second) (codes ")")))

symbols_texts : (second : Option (List ℕ)) → option_map symbol_text (option_map name_symbol second) ≡ option_map name_text second
symbols_texts None = refl
symbols_texts (Some text) = ap (λ other. Some other) (name_text-symbol text)

numbers_texts : (second : Option ℕ) → option_map symbol_text (option_map number_symbol second) ≡ option_map decimal second
numbers_texts None = refl
numbers_texts (Some n) = refl

of_queues : (queues : Queues) → spelled (queue_glyphs queues) ≡ spaced (Some (setting_text (queue_text queues)))
unfolding queue_text
of_queues queues =
    ap (λ text. codes " set" ++ text) (of_pair (codes "queue") (name_symbol queues.first) (option_map name_symbol queues.second)
    ∙ (λ i. codes " " ++ with_pair (codes "queue") (name_text-symbol queues.first i) (symbols_texts queues.second i)))

of_prios : (prios : Prios) → spelled (prios_glyphs prios) ≡ spaced (Some (setting_text (prio_text prios)))
unfolding prio_text
of_prios prios =
    ap (λ text. codes " set" ++ text) (of_pair (codes "prio") (number_symbol prios.first) (option_map number_symbol prios.second)
    ∙ ap (λ second. codes " " ++ with_pair (codes "prio") (decimal prios.first) second) (numbers_texts prios.second))

of_set_tos : (n : ℕ) → spelled (set_tos_glyphs n) ≡ codes " " ++ (codes "set tos" ++ codes " " ++ decimal n)
of_set_tos n = ap (λ text. codes " set tos " ++ text) (append-nil (decimal n))

of_reassemble : (stands : Bool)
    → option_map chunk_text (if stands then Some (chunk_of (codes "reassemble") (word (codes "tcp") ∷ [])) else None) ≡ word_if stands (codes "reassemble tcp")
of_reassemble true = refl
of_reassemble false = refl

of_scrub_chunks : (scrub : Scrub) → texts (scrub_chunks scrub) ≡ scrub_parts scrub
of_scrub_chunks scrub =
    rw (
      of_chunk_if scrub.no_df (codes "no-df"),
      of_chunk_if scrub.random_id (codes "random-id"),
      of_reassemble scrub.reassemble_tcp,
      of_chunk (count_chunk (codes "min-ttl")) (λ n. codes "min-ttl" ++ codes " " ++ decimal n) (of_count (codes "min-ttl")) scrub.min_ttl,
      of_chunk (count_chunk (codes "max-mss")) (λ n. codes "max-mss" ++ codes " " ++ decimal n) (of_count (codes "max-mss")) scrub.max_mss,
    ) refl

any_texts : (chunks : List (Option Chunk)) → list_any is_some (texts chunks) ≡ list_any is_some chunks
any_texts [] = refl
any_texts (None ∷ chunks) = any_texts chunks
any_texts (Some chunk ∷ chunks) = refl

abbrev scrub_with : List ℕ → List ℕ
scrub_with parts = codes "scrub " ++ parts

of_scrub_if : (some : Bool) (parts : List ℕ)
    → (if some then codes " scrub" ++ spaced (if some then Some parts else None) else []) ≡ spaced (option_map scrub_with (if some then Some parts else None))
of_scrub_if true parts = refl
of_scrub_if false parts = refl

where_spelled : (stands : Bool) (glyphs : List Glyph) → spelled (where_so stands glyphs) ≡ (if stands then spelled glyphs else [])
where_spelled true glyphs = refl
where_spelled false glyphs = refl

of_scrub : (scrub : Scrub) → spelled (scrub_glyphs scrub) ≡ spaced (scrub_text scrub)
unfolding scrub_text
of_scrub scrub =
    let chunks = scrub_chunks scrub in
    let inside = codes "(" ++ joined (codes ", ") (scrub_parts scrub) ++ codes ")" in
    let same : list_any is_some (scrub_parts scrub) ≡ list_any is_some chunks = ap (λ parts. list_any is_some parts) (sym (of_scrub_chunks scrub)) ∙ any_texts chunks in
    where_spelled (list_any is_some chunks) (word (codes "scrub") ∷ bracket_glyphs chunks)
    ∙ ap (λ text. if list_any is_some chunks then codes " scrub" ++ text else []) (bracket_spelled chunks ∙ ap (λ parts. spaced (in_brackets parts)) (of_scrub_chunks scrub))
    ∙ ap (λ some. if some then codes " scrub" ++ spaced (in_brackets (scrub_parts scrub)) else []) (sym same)
    ∙ of_scrub_if (list_any is_some (scrub_parts scrub)) inside

of_to_port : (port : Option ℕ) → spelled (given to_port_glyphs port) ≡ spaced (with_number (codes "port") port)
of_to_port None = refl
of_to_port (Some port) = ap (λ text. codes " port " ++ text) (append-nil (decimal port))

of_target : (target : Target) → spelled (word (addr_text target.addr) ∷ given to_port_glyphs target.port) ≡ codes " " ++ target_text target
unfolding target_text
of_target target =
    ap (λ text. 32 ∷ (addr_text target.addr ++ text)) (of_to_port target.port)
    ∙ ap (λ text. 32 ∷ text) (sym (joined_with (addr_text target.addr) (with_number (codes "port") target.port)))

of_nat : (target : Target) → spelled (target_glyphs (codes "nat-to") target) ≡ spaced (Some (nat_text target))
of_nat target = ap (λ text. codes " nat-to" ++ text) (of_target target)

of_rdr : (target : Target) → spelled (target_glyphs (codes "rdr-to") target) ≡ spaced (Some (rdr_text target))
of_rdr target = ap (λ text. codes " rdr-to" ++ text) (of_target target)

of_label : (text : List ℕ) → spelled (label_glyphs text) ≡ spaced (Some (label_text text))
unfolding label_text
of_label text = ap (λ other. codes " label " ++ other) (append-nil (quoted text))

of_sets : (effect : Effect) → spelled (sets_glyphs effect) ≡ parts_text (set_parts effect)
of_sets effect =
    row (given tag_glyphs effect.tag) (where_so (is_pass effect.action) (state_glyphs effect.state effect.options) ++ (given queue_glyphs effect.params.queue ++ (given prios_glyphs effect.params.prio ++ (given set_tos_glyphs effect.params.tos ++ [])))) (option_map tag_text effect.tag) (state_part effect ∷ option_map (λ queues. setting_text (queue_text queues)) effect.params.queue ∷ option_map (λ prios. setting_text (prio_text prios)) effect.params.prio ∷ with_number (codes "set tos") effect.params.tos ∷ []) (of_given tag_glyphs tag_text of_tag effect.tag)
    (row (where_so (is_pass effect.action) (state_glyphs effect.state effect.options)) (given queue_glyphs effect.params.queue ++ (given prios_glyphs effect.params.prio ++ (given set_tos_glyphs effect.params.tos ++ []))) (state_part effect) (option_map (λ queues. setting_text (queue_text queues)) effect.params.queue ∷ option_map (λ prios. setting_text (prio_text prios)) effect.params.prio ∷ with_number (codes "set tos") effect.params.tos ∷ []) (of_state_if (is_pass effect.action) effect.state effect.options)
    (row (given queue_glyphs effect.params.queue) (given prios_glyphs effect.params.prio ++ (given set_tos_glyphs effect.params.tos ++ [])) (option_map (λ queues. setting_text (queue_text queues)) effect.params.queue) (option_map (λ prios. setting_text (prio_text prios)) effect.params.prio ∷ with_number (codes "set tos") effect.params.tos ∷ []) (of_given queue_glyphs (λ queues. setting_text (queue_text queues)) of_queues effect.params.queue)
    (row (given prios_glyphs effect.params.prio) (given set_tos_glyphs effect.params.tos ++ []) (option_map (λ prios. setting_text (prio_text prios)) effect.params.prio) (with_number (codes "set tos") effect.params.tos ∷ []) (of_given prios_glyphs (λ prios. setting_text (prio_text prios)) of_prios effect.params.prio)
    (row (given set_tos_glyphs effect.params.tos) [] (with_number (codes "set tos") effect.params.tos) [] (of_given set_tos_glyphs (λ n. codes "set tos" ++ codes " " ++ decimal n) of_set_tos effect.params.tos) refl))))

of_changes : (effect : Effect) → spelled (changes_glyphs effect) ≡ parts_text (change_parts effect)
of_changes effect =
    row (scrub_glyphs effect.params.scrub) (given (target_glyphs (codes "nat-to")) effect.params.nat ++ (given (target_glyphs (codes "rdr-to")) effect.params.rdr ++ (where_so effect.params.allow_opts (word (codes "allow-opts") ∷ []) ++ (given label_glyphs effect.label ++ [])))) _ (option_map nat_text effect.params.nat ∷ option_map rdr_text effect.params.rdr ∷ word_if effect.params.allow_opts (codes "allow-opts") ∷ option_map label_text effect.label ∷ []) (of_scrub effect.params.scrub)
    (row (given (target_glyphs (codes "nat-to")) effect.params.nat) (given (target_glyphs (codes "rdr-to")) effect.params.rdr ++ (where_so effect.params.allow_opts (word (codes "allow-opts") ∷ []) ++ (given label_glyphs effect.label ++ []))) _ (option_map rdr_text effect.params.rdr ∷ word_if effect.params.allow_opts (codes "allow-opts") ∷ option_map label_text effect.label ∷ []) (of_given (target_glyphs (codes "nat-to")) nat_text of_nat effect.params.nat)
    (row (given (target_glyphs (codes "rdr-to")) effect.params.rdr) (where_so effect.params.allow_opts (word (codes "allow-opts") ∷ []) ++ (given label_glyphs effect.label ++ [])) _ (word_if effect.params.allow_opts (codes "allow-opts") ∷ option_map label_text effect.label ∷ []) (of_given (target_glyphs (codes "rdr-to")) rdr_text of_rdr effect.params.rdr)
    (row (where_so effect.params.allow_opts (word (codes "allow-opts") ∷ [])) (given label_glyphs effect.label ++ []) _ (option_map label_text effect.label ∷ []) (of_word_if effect.params.allow_opts (codes "allow-opts"))
    (row (given label_glyphs effect.label) [] _ [] (of_given label_glyphs label_text of_label effect.label) refl))))

of_effect : (effect : Effect) → spelled (effect_glyphs effect) ≡ effect_text effect
of_effect effect = spelled-append (sets_glyphs effect) (changes_glyphs effect) ∙ (λ i. of_sets effect i ++ of_changes effect i)

-- five texts
grouped : (a f e m x : List ℕ) → a ++ (f ++ (e ++ (m ++ x))) ≡ (a ++ (f ++ e ++ m)) ++ x
grouped a f e m x = ap (λ text. a ++ text) (four f e m x) ∙ sym (append_assoc a (f ++ e ++ m) x)

-- the text of a rule
pub rule_spelled : (rule : Rule) → rule_text rule ≡ spelled (rule_glyphs rule)
unfolding rule_text
rule_spelled rule =
    let action = action_glyphs rule.effect.action in
    let front = front_glyphs rule in
    let ends = end_glyphs rule.criteria in
    let marks = mark_glyphs rule.criteria rule.effect in
    let effect = effect_glyphs rule.effect in
    sym (spelled-append action (front ++ (ends ++ (marks ++ effect)))
    ∙ (λ i. of_action rule.effect.action i ++ spelled-append front (ends ++ (marks ++ effect)) i)
    ∙ (λ i. action_text rule.effect.action ++ (of_front rule i ++ spelled-append ends (marks ++ effect) i))
    ∙ (λ i. action_text rule.effect.action ++ (parts_text (front_parts rule) ++ (of_ends rule.criteria i ++ spelled-append marks effect i)))
    ∙ (λ i. action_text rule.effect.action ++ (parts_text (front_parts rule) ++ (parts_text (end_parts rule.criteria) ++ (of_marks rule.criteria rule.effect i ++ of_effect rule.effect i))))
    ∙ grouped (action_text rule.effect.action) (parts_text (front_parts rule)) (parts_text (end_parts rule.criteria)) (parts_text (mark_parts rule.criteria rule.effect)) (effect_text rule.effect))
