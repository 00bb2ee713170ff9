-- The words, strings and signs of a rule that a statement can come to are tokens.
use Rattle.std.proofs.Common.{◌≡◌, ℕ, ◌+◌, ◌-◌, ◌<◌, ◌≤◌, ◌^◌, Bool, true, false, List, [], ◌∷◌, ◌++◌, Option, Some, None, length, refl, arith, inl, inr, decimal}
use Rattle.std.specs.Prelude.{◌&&◌, ◌||◌, ◌==◌, not, nat_le, nat_eq, is_some, codes, if◌then◌else◌}
use Rattle.std.specs.Char.{is_ascii_alphanumeric, is_ascii_digit}
use Rattle.std.specs.List.{list_all, list_any, starts_with}
use Rattle.std.specs.Option.{option_map, unwrap_or}
use Rattle.std.proofs.lemmas.Bool.{agree_below, and_from, and_parts, cases_Bool, eqb-true, leb-true, or_cases}
use Rattle.pf_addr.specs.Addr.{IsAddr, width}
use Rattle.pf_addr.specs.Text.{addr_text}
use Rattle.pf_addr.specs.Words.{is_addr_byte}
use Rattle.pf_addr.specs.declared.addr.Addr.{Addr}
use Rattle.pf_addr.specs.declared.addr.Addr.TheVariants.{V4, V6}
use Rattle.pf_addr.specs.declared.ifaces.DynIf.{DynIf}
use Rattle.pf_addr.specs.declared.prefix.Prefix.{Prefix}
use Rattle.pf_base.specs.Text.{is_nothing}
use Rattle.pf_base.specs.declared.kind.Family.{Family}
use Rattle.pf_base.specs.declared.kind.Family.TheVariants.{Inet, Inet6}
use Rattle.pf_decl.specs.ReadBack.{is_file_name}
use Rattle.pf_ops.specs.Numbers.{IsKept}
use Rattle.pf_ops.specs.Words.{Entry, flags_of, is_set, letters_in, letters_of, protocols, tcp_flags, word_of}
use Rattle.pf_ops.specs.declared.flags.IcmpType.{IcmpType}
use Rattle.pf_ops.specs.declared.flags.TcpFlags.{TcpFlags}
use Rattle.pf_ops.specs.declared.numbers.Numbers.{Numbers}
use Rattle.pf_ops.specs.declared.numbers.Numbers.TheVariants.{Empty, One, Two}
use Rattle.pf_parts.specs.CallText.{call_text}
use Rattle.pf_parts.specs.declared.block.BlockKind.{BlockKind}
use Rattle.pf_parts.specs.declared.block.BlockKind.TheVariants as blocks
use Rattle.pf_parts.specs.declared.direction.Direction.{Direction}
use Rattle.pf_parts.specs.declared.direction.Direction.TheVariants.{In, Out}
use Rattle.pf_parts.specs.declared.matching.IfTest.{IfTest}
use Rattle.pf_parts.specs.declared.matching.IfTest.TheVariants as ifaces
use Rattle.pf_parts.specs.declared.matching.TagTest.{TagTest}
use Rattle.pf_parts.specs.declared.matching.TagTest.TheVariants as tags
use Rattle.pf_parts.specs.declared.params.Log.{Log}
use Rattle.pf_parts.specs.declared.params.Prios.{Prios}
use Rattle.pf_parts.specs.declared.params.Queues.{Queues}
use Rattle.pf_parts.specs.declared.params.Scrub.{Scrub}
use Rattle.pf_parts.specs.declared.state.Flush.{Flush}
use Rattle.pf_parts.specs.declared.state.Flush.TheVariants as flushes
use Rattle.pf_parts.specs.declared.state.Overload.{Overload}
use Rattle.pf_parts.specs.declared.state.Rate.{Rate}
use Rattle.pf_parts.specs.declared.state.StateKind.{StateKind}
use Rattle.pf_parts.specs.declared.state.StateKind.TheVariants as states
use Rattle.pf_parts.specs.declared.state.StateOptions.{StateOptions}
use Rattle.pf_parts.specs.declared.state.Track.{Track}
use Rattle.pf_parts.specs.declared.state.Track.TheVariants as tracks
use Rattle.pf_print.specs.HostText.{tests_no_host, text_if}
use Rattle.pf_print.specs.RuleText.{is_pass, needs_flags}
use Rattle.pf_rule.specs.declared.criteria.AddrSet.{AddrSet}
use Rattle.pf_rule.specs.declared.criteria.AddrSet.TheVariants as sets
use Rattle.pf_rule.specs.declared.criteria.AddrTest.{AddrTest}
use Rattle.pf_rule.specs.declared.criteria.AddrTest.TheVariants as tests
use Rattle.pf_rule.specs.declared.criteria.Criteria.{Criteria}
use Rattle.pf_rule.specs.declared.effect.Action.{Action}
use Rattle.pf_rule.specs.declared.effect.Action.TheVariants as actions
use Rattle.pf_rule.specs.declared.effect.Effect.{Effect}
use Rattle.pf_rule.specs.declared.rule.Rule.{Rule}
use Rattle.pf_rule.specs.declared.translation.Target.{Target}
use Rattle.pf_syntax.specs.Symbols.{Symbol, bare, quoted}
use Rattle.pf_token.specs.Bytes.{class_of, is_word_byte}
use Rattle.pf_word.specs.Tables.{is_table_byte, is_table_name}
use Rattle.pf_word.specs.Words.{is_name}
use Rattle.pf_reread.specs.TokenText.{is_plain_class, is_word_text}
use Rattle.pf_reread.specs.Written.{AreWrittenOptions, AreWrittenTests, IfGiven, IsWritten, IsWrittenAction, IsWrittenEffect, IsWrittenHost, IsWrittenLog, IsWrittenSet, IsWrittenTarget, are_written_flags, are_written_prios, are_written_queues, asks_all, if_given, in_range, is_byte, is_count, is_port, is_prio, is_written_dynamic, is_written_icmp, is_written_iface, is_written_kind, is_written_overload, is_written_rate, is_written_scrub, is_written_tag_test, translates_nothing}
use Rattle.pf_reread.proofs.Chunks.{Chunk, bracket_are, bracket_ends, bracket_glyphs, is_chunk, is_chunk_or_none}
use Rattle.pf_reread.proofs.Glyphs.{Glyph, apart, close, sign_apart, sign_close, all-append, are-append, are_spelled, ends-append, ends_word, is_sign_class, is_spelled, weaker}
use Rattle.pf_reread.proofs.RuleGlyphs.{action_glyphs, addresses_glyphs, chunk_if, chunk_of, code_glyphs, clause_glyphs, count_chunk, direction_glyphs, dynamic_word, changes_glyphs, effect_glyphs, end_glyphs, family_glyphs, flags_glyphs, flush_glyphs, front_glyphs, gap_glyphs, given, group_glyphs, host_glyphs, icmp_glyphs, icmp_word, iface_glyphs, interval_glyphs, interval_word, kind_glyphs, label_glyphs, letters_before_slash, log_chunks, log_glyphs, mark_glyphs, name, not_glyphs, number, number_symbol, option_chunks, outside_glyphs, overload_chunk, pair_glyphs, port_glyphs, prefix_glyphs, prio_glyphs, prios_glyphs, proto_glyphs, proto_word, queue_glyphs, rate_chunk, rule_glyphs, scrub_chunks, scrub_glyphs, set_glyphs, set_tos_glyphs, sets_glyphs, side_glyphs, state_glyphs, tag_glyphs, tagged_glyphs, target_glyphs, to_chunk, to_port_glyphs, tos_glyphs, track_chunk, ttl_glyphs, user_glyphs, where_so, word}
use Rattle.pf_reread.proofs.Words.{begins_word, implies, in_table, name_spelled, name_symbol, number_begins, number_some, number_word, quoted_spelled, word_of_bytes}

-- tokens that a space or a sign may stand behind, and that may stand behind a word
pub record Fine (glyphs : List Glyph) : Type 0 where
  pub are : are_spelled glyphs ≡ true
  pub ends : ends_word glyphs ≡ true

pub fine_none : Fine []
fine_none = record { are = refl; ends = refl }

pub fine_both : (front back : List Glyph) → Fine front → Fine back → Fine (front ++ back)
fine_both front back one other = record { are = are-append front back one.are other.are other.ends; ends = ends-append front back one.ends other.ends }

pub are_both : (front back : List Glyph) → are_spelled front ≡ true → Fine back → are_spelled (front ++ back) ≡ true
are_both front back one other = are-append front back one other.are other.ends

pub fine_symbol : (symbol : Symbol) (others : List Glyph) → is_spelled symbol ≡ true → Fine others → Fine (apart symbol ∷ others)
fine_symbol symbol others is fine = record {
  are = and_from (is_spelled symbol) (ends_word others && are_spelled others) is (and_from (ends_word others) (are_spelled others) fine.ends fine.are);
  ends = refl;
}

pub are_close : (symbol : Symbol) (others : List Glyph) → is_spelled symbol ≡ true → Fine others → are_spelled (close symbol ∷ others) ≡ true
are_close symbol others is fine =
    and_from (is_spelled symbol) (ends_word others && are_spelled others) is (and_from (ends_word others) (are_spelled others) fine.ends fine.are)

pub fine_sign_apart : (byte : ℕ) (others : List Glyph) → is_sign_class (class_of byte) ≡ true → are_spelled others ≡ true → Fine (sign_apart byte ∷ others)
fine_sign_apart byte others is are = record { are = and_from (is_sign_class (class_of byte)) (are_spelled others) is are; ends = refl }

pub fine_sign_close : (byte : ℕ) (others : List Glyph) → is_sign_class (class_of byte) ≡ true → are_spelled others ≡ true → Fine (sign_close byte ∷ others)
fine_sign_close byte others is are = record { are = and_from (is_sign_class (class_of byte)) (are_spelled others) is are; ends = is }

-- the signs that are printed
opening : is_sign_class (class_of 40) ≡ true
unfolding class_of
opening = refl

closing : is_sign_class (class_of 41) ≡ true
unfolding class_of
closing = refl

comma : is_sign_class (class_of 44) ≡ true
unfolding class_of
comma = refl

slash : is_sign_class (class_of 47) ≡ true
unfolding class_of
slash = refl

less : is_sign_class (class_of 60) ≡ true
unfolding class_of
less = refl

equals : is_sign_class (class_of 61) ≡ true
unfolding class_of
equals = refl

greater : is_sign_class (class_of 62) ≡ true
unfolding class_of
greater = refl

bang : is_sign_class (class_of 33) ≡ true
unfolding class_of
bang = refl

pub fine_word : (text : List ℕ) (others : List Glyph) → is_word_text text ≡ true → Fine others → Fine (word text ∷ others)
fine_word text others is fine = fine_symbol (bare text) others is fine

-- what each of several words passes
pub words_pass : (test : List ℕ → Bool) (table : List Entry) (n : ℕ) (other : List ℕ) → list_all (λ (e : Entry). test e.word) table ≡ true → test other ≡ true
    → test (unwrap_or (word_of table n) other) ≡ true
words_pass test [] n other each is = is
words_pass test (e ∷ table) n other each is =
    let p = and_parts (test e.word) (list_all (λ (one : Entry). test one.word) table) each in
    elim (cases_Bool (e.number == n)) [
      | inl same ↦ rw same p.0
      | inr unlike ↦ rw unlike (words_pass test table n other p.1 is)
    ]

protocol_words : list_all (λ (e : Entry). is_word_text e.word) protocols ≡ true
unfolding protocols class_of
protocol_words = refl

pub byte_small : (n : ℕ) → is_byte n ≡ true → n < 2 ^ 64
byte_small n is = let fits : n ≤ 255 = leb-true n 255 is in omega arith

pub port_small : (n : ℕ) → is_port n ≡ true → n < 2 ^ 64
port_small n is = let fits : n ≤ 65535 = leb-true n 65535 is in omega arith

pub prio_small : (n : ℕ) → is_prio n ≡ true → n < 2 ^ 64
prio_small n is = let fits : n ≤ 7 = leb-true n 7 is in omega arith

pub count_small : (n : ℕ) → is_count n ≡ true → n < 2 ^ 64
count_small n is = let fits : n ≤ 4294967295 = leb-true n 4294967295 (and_parts (nat_le 1 n) (nat_le n 4294967295) is).1 in omega arith

proto_word_is : (proto : ℕ) → is_byte proto ≡ true → is_word_text (proto_word proto) ≡ true
proto_word_is proto is = words_pass is_word_text protocols proto (decimal proto) protocol_words (number_word proto (byte_small proto is))

-- a number with others behind it
fine_number : (n : ℕ) (others : List Glyph) → n < 2 ^ 64 → Fine others → Fine (number n ∷ others)
fine_number n others small fine = fine_word (decimal n) others (number_word n small) fine

fine_name : (text : List ℕ) (others : List Glyph) → is_file_name text ≡ true → Fine others → Fine (name text ∷ others)
fine_name text others is fine = fine_symbol (name_symbol text) others (name_spelled text is) fine

fine_given : {A : Type 0} (glyphs : A → List Glyph) (test : A → Bool) → ((value : A) → test value ≡ true → Fine (glyphs value))
    → (value : Option A) → if_given test value ≡ true → Fine (given glyphs value)
fine_given glyphs test each None is = fine_none
fine_given glyphs test each (Some value) is = each value is

fine_Given : {A : Type 0} (glyphs : A → List Glyph) (P : A → Type 0) → ((value : A) → P value → Fine (glyphs value))
    → (value : Option A) → IfGiven P value → Fine (given glyphs value)
fine_Given glyphs P each None is = fine_none
fine_Given glyphs P each (Some value) is = each value is

fine_where : (stands : Bool) (glyphs : List Glyph) → (stands ≡ true → Fine glyphs) → Fine (where_so stands glyphs)
fine_where true glyphs fine = fine refl
fine_where false glyphs fine = fine_none

fine_ttl : (ttl : ℕ) → is_byte ttl ≡ true → Fine (ttl_glyphs ttl)
unfolding class_of
fine_ttl ttl is = fine_where (not (ttl == 0)) _ (λ some. fine_sign_apart 40 _ opening
    (are_close (bare (codes "ttl")) _ refl (fine_number ttl _ (byte_small ttl is) (fine_sign_close 41 [] closing refl))))

fine_kind : (kind : BlockKind) → is_written_kind kind ≡ true → Fine (kind_glyphs kind)
unfolding class_of
fine_kind blocks.Drop is = fine_word (codes "drop") [] refl fine_none
fine_kind blocks.Return is = fine_word (codes "return") [] refl fine_none
fine_kind (blocks.Rst ttl) is = fine_word (codes "return-rst") _ refl (fine_ttl ttl is)
fine_kind (blocks.Icmp code code6) is =
    let p = and_parts (is_byte code) (is_byte code6) is in
    fine_word (codes "return-icmp") _ refl (fine_sign_apart 40 _ opening (are_close (bare (decimal code)) _ (number_word code (byte_small code p.0))
    (fine_sign_close 44 (number code6 ∷ sign_close 41 ∷ []) comma (fine_number code6 _ (byte_small code6 p.1) (fine_sign_close 41 [] closing refl)).are)))

are_action : (effect : Effect) (action : Action) → IsWrittenAction effect action → are_spelled (action_glyphs action) ≡ true
unfolding class_of
are_action effect actions.Pass is = refl
are_action effect actions.Match is = refl
are_action effect (actions.Block kind) is =
    are_close (bare (codes "block")) (kind_glyphs kind) refl (fine_kind kind (and_parts (is_written_kind kind) (translates_nothing effect.params) is).0)
are_action effect (actions.Anchor call) is =
    are_close (bare (codes "anchor")) _ refl (fine_symbol (quoted (call_text call)) [] (quoted_spelled (call_text call) is.name) fine_none)

-- what stands before the hosts
fine_direction : (direction : Direction) → Fine (direction_glyphs direction)
unfolding class_of
fine_direction In = record { are = refl; ends = refl }
fine_direction Out = record { are = refl; ends = refl }

given_direction : (direction : Option Direction) → Fine (given direction_glyphs direction)
given_direction None = fine_none
given_direction (Some direction) = fine_direction direction

chunk_if_is : (stands : Bool) (text : List ℕ) → is_word_text text ≡ true → is_chunk_or_none (chunk_if stands text) ≡ true
chunk_if_is true text is = rw is refl
chunk_if_is false text is = refl

chunk_given : {A : Type 0} (chunk : A → Chunk) (test : A → Bool) → ((value : A) → test value ≡ true → is_chunk (chunk value) ≡ true)
    → (value : Option A) → if_given test value ≡ true → is_chunk_or_none (option_map chunk value) ≡ true
chunk_given chunk test each None is = refl
chunk_given chunk test each (Some value) is = each value is

-- a chunk whose rest is fine
chunk_is : (text : List ℕ) (more : List Glyph) → is_word_text text ≡ true → Fine more → is_chunk (chunk_of text more) ≡ true
chunk_is text more is fine =
    and_from (is_word_text text) (ends_word more && are_spelled more) is (and_from (ends_word more) (are_spelled more) fine.ends fine.are)

to_is : (text : List ℕ) → is_file_name text ≡ true → is_chunk (to_chunk text) ≡ true
unfolding class_of
to_is text is = chunk_is (codes "to") (name text ∷ []) refl (fine_name text [] is fine_none)

-- a chunk in front of others
more_chunks : (chunk : Option Chunk) (chunks : List (Option Chunk)) → is_chunk_or_none chunk ≡ true → list_all is_chunk_or_none chunks ≡ true
    → list_all is_chunk_or_none (chunk ∷ chunks) ≡ true
more_chunks chunk chunks is are = and_from (is_chunk_or_none chunk) (list_all is_chunk_or_none chunks) is are

log_are : (log : Log) → if_given is_file_name log.to ≡ true → list_all is_chunk_or_none (log_chunks log) ≡ true
unfolding class_of
log_are log is =
    more_chunks (chunk_if log.all (codes "all")) (chunk_if log.matches (codes "matches") ∷ chunk_if log.user (codes "user") ∷ option_map to_chunk log.to ∷ []) (chunk_if_is log.all (codes "all") refl)
    (more_chunks (chunk_if log.matches (codes "matches")) (chunk_if log.user (codes "user") ∷ option_map to_chunk log.to ∷ []) (chunk_if_is log.matches (codes "matches") refl)
    (more_chunks (chunk_if log.user (codes "user")) (option_map to_chunk log.to ∷ []) (chunk_if_is log.user (codes "user") refl)
    (more_chunks (option_map to_chunk log.to) [] (chunk_given to_chunk is_file_name to_is log.to is) refl)))

fine_brackets : (chunks : List (Option Chunk)) → list_all is_chunk_or_none chunks ≡ true → Fine (bracket_glyphs chunks)
fine_brackets chunks are = record { are = bracket_are chunks are; ends = bracket_ends chunks }

fine_log : (log : Log) → IsWrittenLog log → Fine (log_glyphs log)
unfolding class_of
fine_log log is = fine_where log.on _ (λ on. fine_word (codes "log") (bracket_glyphs (log_chunks log)) refl (fine_brackets (log_chunks log) (log_are log is.to)))

fine_not : (negated : Bool) (others : List Glyph) → Fine others → Fine (not_glyphs negated ++ others)
fine_not true others fine = fine_sign_apart 33 others bang fine.are
fine_not false others fine = fine

fine_iface : (test : IfTest) → is_written_iface test ≡ true → Fine (iface_glyphs test)
unfolding class_of
fine_iface ifaces.Any is = fine_none
fine_iface (ifaces.On text negated) is = fine_word (codes "on") _ refl (fine_not negated _ (fine_name text [] is fine_none))

fine_family : (family : Family) → Fine (family_glyphs family)
unfolding class_of
fine_family Inet = record { are = refl; ends = refl }
fine_family Inet6 = record { are = refl; ends = refl }

given_family : (family : Option Family) → Fine (given family_glyphs family)
given_family None = fine_none
given_family (Some family) = fine_family family

fine_proto : (proto : ℕ) → is_byte proto ≡ true → Fine (proto_glyphs proto)
unfolding class_of
fine_proto proto is = fine_word (codes "proto") _ refl (fine_word (proto_word proto) [] (proto_word_is proto is) fine_none)

fine_quick : (quick : Bool) → Fine (where_so quick (word (codes "quick") ∷ []))
unfolding class_of
fine_quick true = record { are = refl; ends = refl }
fine_quick false = fine_none

fine_front : (rule : Rule) → IsWritten rule → Fine (front_glyphs rule)
fine_front rule is =
    fine_both _ _ (given_direction rule.criteria.direction)
    (fine_both _ _ (fine_log rule.effect.params.log is.does.params.log)
    (fine_both _ _ (fine_quick rule.effect.quick)
    (fine_both _ _ (fine_iface rule.criteria.iface is.tests.iface)
    (fine_both _ _ (given_family rule.criteria.family)
    (fine_both _ _ (fine_given proto_glyphs is_byte fine_proto rule.criteria.proto is.tests.proto) fine_none)))))

-- sets of numbers
nothing-append : (front back : List ℕ) → is_nothing front ≡ false → is_nothing (front ++ back) ≡ false
nothing-append [] back some = absurd (cc)
nothing-append (byte ∷ front) back some = refl

colon_word : (low high : ℕ) → low < 2 ^ 64 → high < 2 ^ 64 → is_word_text (interval_word low high) ≡ true
colon_word low high l h =
    word_of_bytes (interval_word low high)
    (nothing-append (decimal low ++ codes ":") (decimal high) (nothing-append (decimal low) (codes ":") (number_some low l)))
    (all-append begins_word (decimal low ++ codes ":") (decimal high)
    (all-append begins_word (decimal low) (codes ":") (number_begins low l) refl) (number_begins high h))

fine_outside : (low high : List ℕ) → is_word_text low ≡ true → is_word_text high ≡ true → Fine (outside_glyphs low high)
fine_outside low high l h =
    fine_word low _ l (fine_sign_close 60 _ less (fine_sign_close 62 (close (bare high) ∷ []) greater (are_close (bare high) [] h fine_none)).are)

fine_interval : (same : Bool) (low high : ℕ) → low < 2 ^ 64 → high < 2 ^ 64 → Fine (interval_glyphs same low high)
fine_interval true low high l h = fine_sign_apart 61 _ equals (fine_number low [] l fine_none).are
fine_interval false low high l h = fine_word (interval_word low high) [] (colon_word low high l h) fine_none

fine_gap : (same : Bool) (low high : ℕ) → low < 2 ^ 64 → high < 2 ^ 64 → Fine (gap_glyphs same low high)
fine_gap true low high l h = fine_sign_apart 33 _ bang (fine_sign_close 61 (number low ∷ []) equals (fine_number low [] l fine_none).are).are
fine_gap false low high l h = fine_outside (decimal low) (decimal high) (number_word low l) (number_word high h)

zero_word : is_word_text (codes "0") ≡ true
unfolding class_of
zero_word = refl

pub fine_set : (top : ℕ) (numbers : Numbers) → top ≤ 4294967295 → IsKept top numbers → Fine (set_glyphs top numbers)
fine_set top Empty most kept = fine_outside (codes "0") (decimal top) zero_word (number_word top (omega arith))
fine_set top (One all) most kept =
    let a = kept.0 in let b = kept.1 in
    fine_interval (all.low == all.high) all.low all.high (omega arith) (omega arith)
fine_set top (Two first last) most kept =
    let a = kept.1 in let b = kept.2 in
    fine_gap (first.high + 1 == last.low - 1) (first.high + 1) (last.low - 1) (omega arith) (omega arith)

-- addresses
low_byte : (byte : ℕ) → is_addr_byte byte ≡ true → byte < 127
low_byte byte is =
    elim (or_cases (is_ascii_digit byte || (nat_le 97 byte && nat_le byte 102) || byte == 46) (byte == 58) is) [
      | inl front ↦ elim (or_cases (is_ascii_digit byte || (nat_le 97 byte && nat_le byte 102)) (byte == 46) front) [
        | inl first ↦ elim (or_cases (is_ascii_digit byte) (nat_le 97 byte && nat_le byte 102) first) [
          | inl digit ↦ let fits : byte ≤ 57 = leb-true byte 57 (and_parts (nat_le 48 byte) (nat_le byte 57) digit).1 in omega arith
          | inr letter ↦ let fits : byte ≤ 102 = leb-true byte 102 (and_parts (nat_le 97 byte) (nat_le byte 102) letter).1 in omega arith
        ]
        | inr dot ↦ let same : byte ≡ 46 = eqb-true byte 46 dot in omega arith
      ]
      | inr colon ↦ let same : byte ≡ 58 = eqb-true byte 58 colon in omega arith
    ]

addr_table : agree_below (implies is_addr_byte begins_word) (λ _. true) 127 ≡ true
addr_table = refl

addr_byte : (byte : ℕ) → is_addr_byte byte ≡ true → begins_word byte ≡ true
addr_byte byte is = in_table is_addr_byte begins_word byte addr_table (low_byte byte is) is

-- what the crates below say of printed texts
pub record PrintedTexts : Type 0 where
  pub addresses : (addr : Addr) → IsAddr addr → list_all is_addr_byte (addr_text addr) ≡ true
  pub some : (addr : Addr) → IsAddr addr → is_nothing (addr_text addr) ≡ false
  pub letters : (bits : ℕ) → 0 < bits → bits < 256 → flags_of (letters_of bits) ≡ Some bits

pub addr_word : PrintedTexts → (addr : Addr) → IsAddr addr → is_word_text (addr_text addr) ≡ true
addr_word printed addr is = word_of_bytes (addr_text addr) (printed.some addr is) (weaker is_addr_byte begins_word addr_byte (addr_text addr) (printed.addresses addr is))

most_bits : (addr : Addr) → width addr ≤ 128
most_bits (V4 n) = omega arith
most_bits (V6 n) = omega arith

len_small : (prefix : Prefix) → prefix.len < 2 ^ 64
len_small prefix = let fits = prefix.fits in let most = most_bits prefix.addr in omega arith

fine_prefix : PrintedTexts → (prefix : Prefix) → IsAddr prefix.addr → Fine (prefix_glyphs prefix)
fine_prefix printed prefix is =
    fine_word (addr_text prefix.addr) _ (addr_word printed prefix.addr is)
    (fine_where (not (prefix.len == width prefix.addr)) _ (λ masked. fine_sign_close 47 _ slash
    (are_close (bare (decimal prefix.len)) [] (number_word prefix.len (len_small prefix)) fine_none)))

hyphen_word : is_word_text (codes "-") ≡ true
unfolding class_of
hyphen_word = refl

-- the name of a table
in_range_low : (least most byte : ℕ) → most < 127 → (nat_le least byte && nat_le byte most) ≡ true → byte < 127
in_range_low least most byte small is =
    let fits : byte ≤ most = leb-true byte most (and_parts (nat_le least byte) (nat_le byte most) is).1 in omega arith

below_table : (byte : ℕ) → is_table_byte byte ≡ true → byte < 127
below_table byte is =
    elim (or_cases (is_ascii_alphanumeric byte) (byte == 95 || (byte == 45 || (byte == 46 || false))) is) [
      | inl plain ↦ elim (or_cases ((nat_le 48 byte && nat_le byte 57) || (nat_le 65 byte && nat_le byte 90)) (nat_le 97 byte && nat_le byte 122) plain) [
        | inl front ↦ elim (or_cases (nat_le 48 byte && nat_le byte 57) (nat_le 65 byte && nat_le byte 90) front) [
          | inl digit ↦ in_range_low 48 57 byte (omega arith) digit
          | inr upper ↦ in_range_low 65 90 byte (omega arith) upper
        ]
        | inr lower ↦ in_range_low 97 122 byte (omega arith) lower
      ]
      | inr other ↦ elim (or_cases (byte == 95) (byte == 45 || (byte == 46 || false)) other) [
        | inl line ↦ let same : byte ≡ 95 = eqb-true byte 95 line in omega arith
        | inr more ↦ elim (or_cases (byte == 45) (byte == 46 || false) more) [
          | inl hyphen ↦ let same : byte ≡ 45 = eqb-true byte 45 hyphen in omega arith
          | inr last ↦ elim (or_cases (byte == 46) false last) [
            | inl dot ↦ let same : byte ≡ 46 = eqb-true byte 46 dot in omega arith
            | inr never ↦ absurd (cc)
          ]
        ]
      ]
    ]

table_table : agree_below (implies is_table_byte begins_word) (λ _. true) 127 ≡ true
table_table = refl

table_byte : (byte : ℕ) → is_table_byte byte ≡ true → begins_word byte ≡ true
table_byte byte is = in_table is_table_byte begins_word byte table_table (below_table byte is) is

some_text : (text : List ℕ) → is_name text ≡ true → is_nothing text ≡ false
some_text [] is = absurd (cc)
some_text (byte ∷ text) is = refl

pub table_word : (text : List ℕ) → (is_name text && is_table_name text) ≡ true → is_word_text text ≡ true
unfolding is_table_name
table_word text is =
    let p = and_parts (is_name text) (is_table_name text) is in
    let q = and_parts (nat_le (length text) 31 && list_all is_table_byte text) (not (starts_with nat_eq text (codes "__automatic_"))) p.1 in
    let r = and_parts (nat_le (length text) 31) (list_all is_table_byte text) q.0 in
    word_of_bytes text (some_text text p.0) (weaker is_table_byte begins_word table_byte text r.1)

-- a word goes on
word-append : (front back : List ℕ) → is_word_text front ≡ true → list_all is_word_byte back ≡ true → is_word_text (front ++ back) ≡ true
word-append [] back is are = absurd (cc)
word-append (first ∷ front) back is are =
    let p = and_parts (is_plain_class (class_of first)) (list_all is_word_byte (first ∷ front)) is in
    and_from (is_plain_class (class_of first)) (list_all is_word_byte ((first ∷ front) ++ back)) p.0 (all-append is_word_byte (first ∷ front) back p.1 are)

text_if_word : (stands : Bool) (text : List ℕ) → list_all is_word_byte text ≡ true → list_all is_word_byte (text_if stands text) ≡ true
text_if_word true text are = are
text_if_word false text are = refl

pub dynamic_is_word : (what : DynIf) → is_written_dynamic what ≡ true → is_word_text (dynamic_word what) ≡ true
unfolding class_of
dynamic_is_word what is =
    let p = and_parts (is_name what.name && is_word_text what.name) (asks_all what.name what) is in
    let q = and_parts (is_name what.name) (is_word_text what.name) p.0 in
    word-append (what.name ++ text_if what.network (codes ":network")) (text_if what.first (codes ":0"))
    (word-append what.name (text_if what.network (codes ":network")) q.1 (text_if_word what.network (codes ":network") refl))
    (text_if_word what.first (codes ":0") refl)

fine_addresses : PrintedTexts → (what : AddrSet) → IsWrittenSet what → Fine (addresses_glyphs what)
fine_addresses printed (sets.Prefix prefix) is = fine_prefix printed prefix is
fine_addresses printed (sets.Range range) is =
    fine_word (addr_text range.low) _ (addr_word printed range.low is.0) (fine_word (codes "-") _ hyphen_word
    (fine_word (addr_text range.high) [] (addr_word printed range.high is.1) fine_none))
fine_addresses printed (sets.Table text) is =
    fine_sign_apart 60 _ less (are_close (bare text) _ (table_word text is) (fine_sign_close 62 [] greater refl))
fine_addresses printed (sets.Dynamic what) is =
    fine_sign_apart 40 _ opening (are_close (bare (dynamic_word what)) _ (dynamic_is_word what is) (fine_sign_close 41 [] closing refl))
fine_addresses printed (sets.Auto n) is = absurd is

fine_host : PrintedTexts → (test : AddrTest) → IsWrittenHost test → Fine (host_glyphs test)
unfolding class_of
fine_host printed tests.Any is = record { are = refl; ends = refl }
fine_host printed (tests.Test negated what) is = fine_not negated (addresses_glyphs what) (fine_addresses printed what is)

fine_port : (ports : Numbers) → IsKept 65535 ports → Fine (port_glyphs ports)
unfolding class_of
fine_port ports kept = fine_word (codes "port") _ refl (fine_set 65535 ports (omega arith) kept)

fine_side : PrintedTexts → (text : List ℕ) (test : AddrTest) (ports : Option Numbers) → is_word_text text ≡ true → IsWrittenHost test → IfGiven (IsKept 65535) ports
    → Fine (side_glyphs text test ports)
fine_side printed text test ports is host kept =
    fine_word text _ is (fine_both (host_glyphs test) (given port_glyphs ports) (fine_host printed test host) (fine_Given port_glyphs (IsKept 65535) fine_port ports kept))

fine_hosts_if : PrintedTexts → (all : Bool) (criteria : Criteria) → AreWrittenTests criteria
    → Fine (if all then word (codes "all") ∷ []
    else side_glyphs (codes "from") criteria.source criteria.source_port ++ side_glyphs (codes "to") criteria.target criteria.target_port)
unfolding class_of
fine_hosts_if printed true criteria is = record { are = refl; ends = refl }
fine_hosts_if printed false criteria is =
    fine_both _ _ (fine_side printed (codes "from") criteria.source criteria.source_port refl is.source is.source_port)
    (fine_side printed (codes "to") criteria.target criteria.target_port refl is.target is.target_port)

fine_user : (ids : Numbers) → IsKept 4294967295 ids → Fine (user_glyphs ids)
unfolding class_of
fine_user ids kept = fine_word (codes "user") _ refl (fine_set 4294967295 ids (omega arith) kept)

fine_group : (ids : Numbers) → IsKept 4294967295 ids → Fine (group_glyphs ids)
unfolding class_of
fine_group ids kept = fine_word (codes "group") _ refl (fine_set 4294967295 ids (omega arith) kept)

fine_ends : PrintedTexts → (criteria : Criteria) → AreWrittenTests criteria → Fine (end_glyphs criteria)
fine_ends printed criteria is =
    fine_both _ _ (fine_hosts_if printed (tests_no_host criteria) criteria is)
    (fine_both _ _ (fine_Given user_glyphs (IsKept 4294967295) fine_user criteria.user is.user)
    (fine_both _ _ (fine_Given group_glyphs (IsKept 4294967295) fine_group criteria.group is.group) fine_none))

-- what else is tested: the letters of flags
letter_entries : list_all (λ (e : Entry). list_all begins_word e.word) tcp_flags ≡ true
unfolding tcp_flags
letter_entries = refl

letters_begin : (table : List Entry) (bits : ℕ) → list_all (λ (e : Entry). list_all begins_word e.word) table ≡ true → list_all begins_word (letters_in table bits) ≡ true
letters_begin [] bits each = refl
letters_begin (e ∷ table) bits each =
    let p = and_parts (list_all begins_word e.word) (list_all (λ (one : Entry). list_all begins_word one.word) table) each in
    elim (cases_Bool (is_set bits e)) [
      | inl set ↦ rw set (all-append begins_word e.word (letters_in table bits) p.0 (letters_begin table bits p.1))
      | inr unset ↦ rw unset (letters_begin table bits p.1)
    ]

pub letters_are : (bits : ℕ) → list_all begins_word (letters_of bits) ≡ true
letters_are bits = letters_begin tcp_flags bits letter_entries

none_no_flags : (text : List ℕ) (bits : ℕ) → flags_of text ≡ Some bits → is_nothing text ≡ false
unfolding flags_of
none_no_flags [] bits said = absurd (cc)
none_no_flags (letter ∷ text) bits said = refl

pub mask_word : PrintedTexts → (bits : ℕ) → in_range 1 255 bits ≡ true → is_word_text (letters_of bits) ≡ true
mask_word printed bits is =
    let p = and_parts (nat_le 1 bits) (nat_le bits 255) is in
    let some : 1 ≤ bits = leb-true 1 bits p.0 in
    let fits : bits ≤ 255 = leb-true bits 255 p.1 in
    word_of_bytes (letters_of bits) (none_no_flags (letters_of bits) bits (printed.letters bits (omega arith) (omega arith))) (letters_are bits)

are_letters : (letters : List ℕ) (others : List Glyph) → list_all begins_word letters ≡ true → are_spelled others ≡ true → Fine (letters_before_slash letters ++ others)
are_letters [] others each are = fine_sign_apart 47 others slash are
are_letters (letter ∷ letters) others each are = fine_word (letter ∷ letters) _ (word_of_bytes (letter ∷ letters) refl each) (fine_sign_close 47 others slash are)

fine_flags : PrintedTexts → (flags : Option TcpFlags) (needs : Bool) → if_given are_written_flags flags ≡ true → Fine (flags_glyphs flags needs)
unfolding class_of
fine_flags printed (Some flags) needs is =
    let p = and_parts (is_byte flags.set) (in_range 1 255 flags.mask) is in
    fine_word (codes "flags") _ refl (are_letters (letters_of flags.set) _ (letters_are flags.set) (are_close (bare (letters_of flags.mask)) [] (mask_word printed flags.mask p.1) fine_none))
fine_flags printed None true is = record { are = refl; ends = refl }
fine_flags printed None false is = fine_none

fine_code : (code : ℕ) → is_byte code ≡ true → Fine (code_glyphs code)
unfolding class_of
fine_code code is = fine_word (codes "code") _ refl (fine_number code [] (byte_small code is) fine_none)

icmp_word_is : (family : Family) → is_word_text (icmp_word family) ≡ true
unfolding class_of
icmp_word_is Inet = refl
icmp_word_is Inet6 = refl

fine_icmp : (icmp : IcmpType) → is_written_icmp icmp ≡ true → Fine (icmp_glyphs icmp)
fine_icmp icmp is =
    let p = and_parts (is_byte icmp.kind) (if_given is_byte icmp.code) is in
    fine_word (icmp_word icmp.family) _ (icmp_word_is icmp.family) (fine_number icmp.kind _ (byte_small icmp.kind p.0) (fine_given code_glyphs is_byte fine_code icmp.code p.1))

fine_tos : (n : ℕ) → is_byte n ≡ true → Fine (tos_glyphs n)
unfolding class_of
fine_tos n is = fine_word (codes "tos") _ refl (fine_number n [] (byte_small n is) fine_none)

fine_prio : (n : ℕ) → is_prio n ≡ true → Fine (prio_glyphs n)
unfolding class_of
fine_prio n is = fine_word (codes "prio") _ refl (fine_number n [] (prio_small n is) fine_none)

fine_tagged : (test : TagTest) → is_written_tag_test test ≡ true → Fine (tagged_glyphs test)
unfolding class_of
fine_tagged tags.Any is = fine_none
fine_tagged (tags.Is text negated) is = fine_not negated _ (fine_word (codes "tagged") _ refl (fine_name text [] is fine_none))

fine_marks : PrintedTexts → (criteria : Criteria) (effect : Effect) → AreWrittenTests criteria → Fine (mark_glyphs criteria effect)
fine_marks printed criteria effect is =
    fine_both _ _ (fine_flags printed criteria.flags (needs_flags criteria effect) is.flags)
    (fine_both _ _ (fine_given icmp_glyphs is_written_icmp fine_icmp criteria.icmp is.icmp)
    (fine_both _ _ (fine_given tos_glyphs is_byte fine_tos criteria.tos is.tos)
    (fine_both _ _ (fine_given prio_glyphs is_prio fine_prio criteria.prio is.prio)
    (fine_both _ _ (fine_tagged criteria.tagged is.tagged) fine_none))))

-- what the rule does
fine_tag : (text : List ℕ) → is_file_name text ≡ true → Fine (tag_glyphs text)
unfolding class_of
fine_tag text is = fine_word (codes "tag") _ refl (fine_name text [] is fine_none)

count_is : (text : List ℕ) → is_word_text text ≡ true → (n : ℕ) → is_count n ≡ true → is_chunk (count_chunk text n) ≡ true
count_is text is n fits = chunk_is text (number n ∷ []) is (fine_number n [] (count_small n fits) fine_none)

track_is : (track : Track) → is_chunk (track_chunk track) ≡ true
unfolding class_of
track_is tracks.Plain = refl
track_is tracks.Rule = refl
track_is tracks.Global = refl

track_given : (track : Option Track) → is_chunk_or_none (option_map track_chunk track) ≡ true
track_given None = refl
track_given (Some track) = track_is track

rate_is : (rate : Rate) → is_written_rate rate ≡ true → is_chunk (rate_chunk rate) ≡ true
unfolding class_of
rate_is rate is =
    let p = and_parts (is_count rate.count) (is_count rate.seconds) is in
    chunk_is (codes "max-src-conn-rate") _ refl (fine_number rate.count _ (count_small rate.count p.0) (fine_sign_close 47 (close (bare (decimal rate.seconds)) ∷ []) slash
    (are_close (bare (decimal rate.seconds)) [] (number_word rate.seconds (count_small rate.seconds p.1)) fine_none)))

fine_flush : (flush : Flush) → Fine (flush_glyphs flush)
unfolding class_of
fine_flush flushes.No = fine_none
fine_flush flushes.Flush = record { are = refl; ends = refl }
fine_flush flushes.Global = record { are = refl; ends = refl }

overload_is : (overload : Overload) → is_written_overload overload ≡ true → is_chunk (overload_chunk overload) ≡ true
unfolding class_of
overload_is overload is =
    chunk_is (codes "overload") _ refl (fine_sign_apart 60 (close (bare overload.table) ∷ sign_close 62 ∷ flush_glyphs overload.flush) less (are_close (bare overload.table) _ (table_word overload.table is)
    (fine_sign_close 62 (flush_glyphs overload.flush) greater (fine_flush overload.flush).are)))

options_are : (options : StateOptions) → AreWrittenOptions options → list_all is_chunk_or_none (option_chunks options) ≡ true
unfolding class_of
options_are options is =
    more_chunks (option_map (count_chunk (codes "max")) options.max) (option_map track_chunk options.source_track ∷ option_map (count_chunk (codes "max-src-nodes")) options.max_src_nodes ∷ option_map (count_chunk (codes "max-src-states")) options.max_src_states ∷ option_map (count_chunk (codes "max-src-conn")) options.max_src_conn ∷ option_map rate_chunk options.max_src_conn_rate ∷ option_map overload_chunk options.overload ∷ chunk_if options.sloppy (codes "sloppy") ∷ chunk_if options.no_sync (codes "no-sync") ∷ chunk_if options.pflow (codes "pflow") ∷ chunk_if options.if_bound (codes "if-bound") ∷ []) (chunk_given (count_chunk (codes "max")) is_count (count_is (codes "max") refl) options.max is.max)
    (more_chunks (option_map track_chunk options.source_track) (option_map (count_chunk (codes "max-src-nodes")) options.max_src_nodes ∷ option_map (count_chunk (codes "max-src-states")) options.max_src_states ∷ option_map (count_chunk (codes "max-src-conn")) options.max_src_conn ∷ option_map rate_chunk options.max_src_conn_rate ∷ option_map overload_chunk options.overload ∷ chunk_if options.sloppy (codes "sloppy") ∷ chunk_if options.no_sync (codes "no-sync") ∷ chunk_if options.pflow (codes "pflow") ∷ chunk_if options.if_bound (codes "if-bound") ∷ []) (track_given options.source_track)
    (more_chunks (option_map (count_chunk (codes "max-src-nodes")) options.max_src_nodes) (option_map (count_chunk (codes "max-src-states")) options.max_src_states ∷ option_map (count_chunk (codes "max-src-conn")) options.max_src_conn ∷ option_map rate_chunk options.max_src_conn_rate ∷ option_map overload_chunk options.overload ∷ chunk_if options.sloppy (codes "sloppy") ∷ chunk_if options.no_sync (codes "no-sync") ∷ chunk_if options.pflow (codes "pflow") ∷ chunk_if options.if_bound (codes "if-bound") ∷ []) (chunk_given (count_chunk (codes "max-src-nodes")) is_count (count_is (codes "max-src-nodes") refl) options.max_src_nodes is.max_src_nodes)
    (more_chunks (option_map (count_chunk (codes "max-src-states")) options.max_src_states) (option_map (count_chunk (codes "max-src-conn")) options.max_src_conn ∷ option_map rate_chunk options.max_src_conn_rate ∷ option_map overload_chunk options.overload ∷ chunk_if options.sloppy (codes "sloppy") ∷ chunk_if options.no_sync (codes "no-sync") ∷ chunk_if options.pflow (codes "pflow") ∷ chunk_if options.if_bound (codes "if-bound") ∷ []) (chunk_given (count_chunk (codes "max-src-states")) is_count (count_is (codes "max-src-states") refl) options.max_src_states is.max_src_states)
    (more_chunks (option_map (count_chunk (codes "max-src-conn")) options.max_src_conn) (option_map rate_chunk options.max_src_conn_rate ∷ option_map overload_chunk options.overload ∷ chunk_if options.sloppy (codes "sloppy") ∷ chunk_if options.no_sync (codes "no-sync") ∷ chunk_if options.pflow (codes "pflow") ∷ chunk_if options.if_bound (codes "if-bound") ∷ []) (chunk_given (count_chunk (codes "max-src-conn")) is_count (count_is (codes "max-src-conn") refl) options.max_src_conn is.max_src_conn)
    (more_chunks (option_map rate_chunk options.max_src_conn_rate) (option_map overload_chunk options.overload ∷ chunk_if options.sloppy (codes "sloppy") ∷ chunk_if options.no_sync (codes "no-sync") ∷ chunk_if options.pflow (codes "pflow") ∷ chunk_if options.if_bound (codes "if-bound") ∷ []) (chunk_given rate_chunk is_written_rate rate_is options.max_src_conn_rate is.max_src_conn_rate)
    (more_chunks (option_map overload_chunk options.overload) (chunk_if options.sloppy (codes "sloppy") ∷ chunk_if options.no_sync (codes "no-sync") ∷ chunk_if options.pflow (codes "pflow") ∷ chunk_if options.if_bound (codes "if-bound") ∷ []) (chunk_given overload_chunk is_written_overload overload_is options.overload is.overload)
    (more_chunks (chunk_if options.sloppy (codes "sloppy")) (chunk_if options.no_sync (codes "no-sync") ∷ chunk_if options.pflow (codes "pflow") ∷ chunk_if options.if_bound (codes "if-bound") ∷ []) (chunk_if_is options.sloppy (codes "sloppy") refl)
    (more_chunks (chunk_if options.no_sync (codes "no-sync")) (chunk_if options.pflow (codes "pflow") ∷ chunk_if options.if_bound (codes "if-bound") ∷ []) (chunk_if_is options.no_sync (codes "no-sync") refl)
    (more_chunks (chunk_if options.pflow (codes "pflow")) (chunk_if options.if_bound (codes "if-bound") ∷ []) (chunk_if_is options.pflow (codes "pflow") refl)
    (more_chunks (chunk_if options.if_bound (codes "if-bound")) [] (chunk_if_is options.if_bound (codes "if-bound") refl) refl))))))))))

fine_clause : (text : List ℕ) (options : StateOptions) → is_word_text text ≡ true → AreWrittenOptions options → Fine (clause_glyphs text options)
unfolding class_of
fine_clause text options is are = fine_word text _ is (fine_word (codes "state") _ refl (fine_brackets (option_chunks options) (options_are options are)))

fine_state : (kind : StateKind) (options : StateOptions) → AreWrittenOptions options → Fine (state_glyphs kind options)
unfolding class_of
fine_state states.None options are = record { are = refl; ends = refl }
fine_state states.Keep options are = fine_clause (codes "keep") options refl are
fine_state states.Modulate options are = fine_clause (codes "modulate") options refl are
fine_state states.Synproxy options are = fine_clause (codes "synproxy") options refl are

fine_pair : (first : Symbol) (second : Option Symbol) → is_spelled first ≡ true → if_given is_spelled second ≡ true → Fine (pair_glyphs first second)
fine_pair first None is other = fine_symbol first [] is fine_none
fine_pair first (Some second) is other =
    fine_sign_apart 40 _ opening (are_close first _ is (fine_sign_close 44 (apart second ∷ sign_close 41 ∷ []) comma (fine_symbol second _ other (fine_sign_close 41 [] closing refl)).are))

given_symbol : {A : Type 0} (symbol : A → Symbol) (test : A → Bool) → ((value : A) → test value ≡ true → is_spelled (symbol value) ≡ true)
    → (value : Option A) → if_given test value ≡ true → if_given is_spelled (option_map symbol value) ≡ true
given_symbol symbol test each None is = refl
given_symbol symbol test each (Some value) is = each value is

fine_queues : (queues : Queues) → are_written_queues queues ≡ true → Fine (queue_glyphs queues)
unfolding class_of
fine_queues queues is =
    let p = and_parts (is_file_name queues.first) (if_given is_file_name queues.second) is in
    fine_word (codes "set") _ refl (fine_word (codes "queue") _ refl (fine_pair (name_symbol queues.first) (option_map name_symbol queues.second)
    (name_spelled queues.first p.0) (given_symbol name_symbol is_file_name name_spelled queues.second p.1)))

prio_spelled : (n : ℕ) → is_prio n ≡ true → is_spelled (number_symbol n) ≡ true
prio_spelled n is = number_word n (prio_small n is)

fine_prios : (prios : Prios) → are_written_prios prios ≡ true → Fine (prios_glyphs prios)
unfolding class_of
fine_prios prios is =
    let p = and_parts (is_prio prios.first) (if_given is_prio prios.second) is in
    fine_word (codes "set") _ refl (fine_word (codes "prio") _ refl (fine_pair (number_symbol prios.first) (option_map number_symbol prios.second)
    (prio_spelled prios.first p.0) (given_symbol number_symbol is_prio prio_spelled prios.second p.1)))

fine_set_tos : (n : ℕ) → is_byte n ≡ true → Fine (set_tos_glyphs n)
unfolding class_of
fine_set_tos n is = fine_word (codes "set") _ refl (fine_word (codes "tos") _ refl (fine_number n [] (byte_small n is) fine_none))

byte_is : (text : List ℕ) → is_word_text text ≡ true → (n : ℕ) → is_byte n ≡ true → is_chunk (count_chunk text n) ≡ true
byte_is text is n fits = chunk_is text (number n ∷ []) is (fine_number n [] (byte_small n fits) fine_none)

size_is : (text : List ℕ) → is_word_text text ≡ true → (n : ℕ) → is_port n ≡ true → is_chunk (count_chunk text n) ≡ true
size_is text is n fits = chunk_is text (number n ∷ []) is (fine_number n [] (port_small n fits) fine_none)

reassemble_is : (stands : Bool) → is_chunk_or_none (if stands then Some (chunk_of (codes "reassemble") (word (codes "tcp") ∷ [])) else None) ≡ true
unfolding class_of
reassemble_is true = refl
reassemble_is false = refl

scrub_are : (scrub : Scrub) → is_written_scrub scrub ≡ true → list_all is_chunk_or_none (scrub_chunks scrub) ≡ true
unfolding class_of
scrub_are scrub is =
    let p = and_parts (if_given is_byte scrub.min_ttl) (if_given is_port scrub.max_mss) is in
    more_chunks (chunk_if scrub.no_df (codes "no-df")) (chunk_if scrub.random_id (codes "random-id") ∷ if◌then◌else◌ scrub.reassemble_tcp (Some (chunk_of (codes "reassemble") (word (codes "tcp") ∷ []))) None ∷ option_map (count_chunk (codes "min-ttl")) scrub.min_ttl ∷ option_map (count_chunk (codes "max-mss")) scrub.max_mss ∷ []) (chunk_if_is scrub.no_df (codes "no-df") refl)
    (more_chunks (chunk_if scrub.random_id (codes "random-id")) (if◌then◌else◌ scrub.reassemble_tcp (Some (chunk_of (codes "reassemble") (word (codes "tcp") ∷ []))) None ∷ option_map (count_chunk (codes "min-ttl")) scrub.min_ttl ∷ option_map (count_chunk (codes "max-mss")) scrub.max_mss ∷ []) (chunk_if_is scrub.random_id (codes "random-id") refl)
    (more_chunks (if◌then◌else◌ scrub.reassemble_tcp (Some (chunk_of (codes "reassemble") (word (codes "tcp") ∷ []))) None) (option_map (count_chunk (codes "min-ttl")) scrub.min_ttl ∷ option_map (count_chunk (codes "max-mss")) scrub.max_mss ∷ []) (reassemble_is scrub.reassemble_tcp)
    (more_chunks (option_map (count_chunk (codes "min-ttl")) scrub.min_ttl) (option_map (count_chunk (codes "max-mss")) scrub.max_mss ∷ []) (chunk_given (count_chunk (codes "min-ttl")) is_byte (byte_is (codes "min-ttl") refl) scrub.min_ttl p.0)
    (more_chunks (option_map (count_chunk (codes "max-mss")) scrub.max_mss) [] (chunk_given (count_chunk (codes "max-mss")) is_port (size_is (codes "max-mss") refl) scrub.max_mss p.1) refl))))

fine_scrub : (scrub : Scrub) → is_written_scrub scrub ≡ true → Fine (scrub_glyphs scrub)
unfolding class_of
fine_scrub scrub is = fine_where (list_any is_some (scrub_chunks scrub)) _ (λ some. fine_word (codes "scrub") _ refl (fine_brackets (scrub_chunks scrub) (scrub_are scrub is)))

fine_to_port : (port : ℕ) → is_port port ≡ true → Fine (to_port_glyphs port)
unfolding class_of
fine_to_port port is = fine_word (codes "port") _ refl (fine_number port [] (port_small port is) fine_none)

fine_target : PrintedTexts → (text : List ℕ) → is_word_text text ≡ true → (target : Target) → IsWrittenTarget target → Fine (target_glyphs text target)
fine_target printed text is target are =
    fine_word text _ is (fine_word (addr_text target.addr) _ (addr_word printed target.addr are.addr) (fine_given to_port_glyphs is_port fine_to_port target.port are.port))

fine_allow : (stands : Bool) → Fine (where_so stands (word (codes "allow-opts") ∷ []))
unfolding class_of
fine_allow true = record { are = refl; ends = refl }
fine_allow false = fine_none

fine_label : (text : List ℕ) → is_file_name text ≡ true → Fine (label_glyphs text)
unfolding class_of
fine_label text is = fine_word (codes "label") _ refl (fine_symbol (quoted text) [] (quoted_spelled text is) fine_none)

fine_sets : PrintedTexts → (effect : Effect) → IsWrittenEffect effect → Fine (sets_glyphs effect)
fine_sets printed effect is =
    fine_both _ _ (fine_given tag_glyphs is_file_name fine_tag effect.tag is.tag)
    (fine_both _ _ (fine_where (is_pass effect.action) _ (λ pass. fine_state effect.state effect.options is.options))
    (fine_both _ _ (fine_given queue_glyphs are_written_queues fine_queues effect.params.queue is.params.queue)
    (fine_both _ _ (fine_given prios_glyphs are_written_prios fine_prios effect.params.prio is.params.prio)
    (fine_both _ _ (fine_given set_tos_glyphs is_byte fine_set_tos effect.params.tos is.params.tos) fine_none))))

fine_changes : PrintedTexts → (effect : Effect) → IsWrittenEffect effect → Fine (changes_glyphs effect)
unfolding class_of
fine_changes printed effect is =
    fine_both _ _ (fine_scrub effect.params.scrub is.params.scrub)
    (fine_both _ _ (fine_Given (target_glyphs (codes "nat-to")) IsWrittenTarget (fine_target printed (codes "nat-to") refl) effect.params.nat is.params.nat)
    (fine_both _ _ (fine_Given (target_glyphs (codes "rdr-to")) IsWrittenTarget (fine_target printed (codes "rdr-to") refl) effect.params.rdr is.params.rdr)
    (fine_both _ _ (fine_allow effect.params.allow_opts)
    (fine_both _ _ (fine_given label_glyphs is_file_name fine_label effect.label is.label) fine_none))))

fine_effect : PrintedTexts → (effect : Effect) → IsWrittenEffect effect → Fine (effect_glyphs effect)
fine_effect printed effect is = fine_both (sets_glyphs effect) (changes_glyphs effect) (fine_sets printed effect is) (fine_changes printed effect is)

-- those of a rule
pub rule_are : PrintedTexts → (rule : Rule) → IsWritten rule → are_spelled (rule_glyphs rule) ≡ true
rule_are printed rule is =
    are_both (action_glyphs rule.effect.action) _ (are_action rule.effect rule.effect.action is.does.action)
    (fine_both (front_glyphs rule) _ (fine_front rule is)
    (fine_both (end_glyphs rule.criteria) _ (fine_ends printed rule.criteria is.tests)
    (fine_both (mark_glyphs rule.criteria rule.effect) (effect_glyphs rule.effect) (fine_marks printed rule.criteria rule.effect is.tests) (fine_effect printed rule.effect is.does))))
