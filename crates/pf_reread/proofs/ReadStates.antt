-- The options of a rule that have lists in brackets, and its flags, are read as they were printed.
use Rattle.std.proofs.Common.{◌≡◌, ℕ, ◌<◌, Bool, true, false, List, [], ◌∷◌, ◌++◌, Option, Some, None, refl, ap, sym, subst, ◌∙◌, arith, inl, inr, decimal}
use Rattle.std.specs.Prelude.{nat_le, is_some, codes, if◌then◌else◌}
use Rattle.std.specs.List.{list_all, list_any}
use Rattle.std.specs.Option.{option_map}
use Rattle.std.specs.Str.{bytes_eq}
use Rattle.std.proofs.lemmas.Bool.{and_parts, cases_Bool, leb-true}
use Rattle.pf_base.specs.Decimal.{decimal_of}
use Rattle.pf_form.specs.Flags.{are_flags, flags}
use Rattle.pf_form.specs.Settings.{scrub, scrub_behind, scrub_part, scrub_words}
use Rattle.pf_form.specs.States.{flush, none_read, overload, rate, state_option, state_options, state_part, state_words, track}
use Rattle.pf_form.specs.declared.form.Draft.{Draft}
use Rattle.pf_form.specs.declared.form.FlagsForm.{FlagsForm}
use Rattle.pf_form.specs.declared.form.FlagsForm.TheVariants as flag_forms
use Rattle.pf_form.specs.declared.state.ReadOptions.{ReadOptions}
use Rattle.pf_grammar.specs.Options.{flags_part, no_state, option, option_words, scrub_option, state_clause}
use Rattle.pf_ops.specs.Words.{Entry, bit_of, bits_of, is_set, letters_in, letters_of, tcp_flags}
use Rattle.pf_ops.specs.declared.flags.TcpFlags.{TcpFlags}
use Rattle.pf_parts.specs.Defaults.{no_options, no_scrub}
use Rattle.pf_parts.specs.declared.params.Scrub.{Scrub}
use Rattle.pf_parts.specs.declared.state.Flush.{Flush}
use Rattle.pf_parts.specs.declared.state.Flush.TheVariants as flushes
use Rattle.pf_parts.specs.declared.state.Overload.{Overload}
use Rattle.pf_parts.specs.declared.state.Rate.{Rate}
use Rattle.pf_parts.specs.declared.state.StateKind.{StateKind}
use Rattle.pf_parts.specs.declared.state.StateKind.TheVariants as states
use Rattle.pf_parts.specs.declared.state.StateOptions.{StateOptions}
use Rattle.pf_parts.specs.declared.state.Track.{Track}
use Rattle.pf_parts.specs.declared.state.Track.TheVariants as tracks
use Rattle.pf_syntax.specs.Hosts.{table_name}
use Rattle.pf_syntax.specs.Symbols.{Symbols, bare, is_word, line_end, mark, next_is, quoted}
use Rattle.pf_syntax.specs.Words.{in_range as pf_range}
use Rattle.pf_word.specs.Tables.{is_table_name}
use Rattle.pf_word.specs.Words.{is_name}
use Rattle.pf_reread.specs.Written.{AreWrittenOptions, are_written_flags, if_given, in_range, is_byte, is_count, is_port, is_written_overload, is_written_rate, is_written_scrub}
use Rattle.pf_reread.proofs.Chunks.{Chunk, bracket_glyphs, bracket_said, chunk_symbols, items}
use Rattle.pf_reread.proofs.Following.{as_read, begins, no_sign, not_same}
use Rattle.pf_reread.proofs.Glyphs.{all-append, close, said}
use Rattle.pf_reread.proofs.ReadFront.{brackets_or_none, item_given, item_if, items_none}
use Rattle.pf_reread.proofs.ReadHosts.{cut_whole, from_options}
use Rattle.pf_reread.proofs.ReadOptions.{Options}
use Rattle.pf_reread.proofs.Rows.{Items, brackets_read, ends_item, left_out, no_item, some_stands, stands, takes_none, takes_one}
use Rattle.pf_reread.proofs.RuleGlyphs.{chunk_of, count_chunk, flags_glyphs, flush_glyphs, letters_before_slash, option_chunks, overload_chunk, rate_chunk, scrub_chunks, scrub_glyphs, state_glyphs, tested_flags_glyphs, track_chunk, where_so, word}
use Rattle.pf_reread.proofs.RuleTokens.{byte_small, count_small, port_small}
use Rattle.pf_reread.proofs.Words.{in_range-decimal}

-- behind an item stands no word and no sign but a comma or the end
no_word_behind : (text : List ℕ) (rest : Symbols) → ends_item rest ≡ true → next_is (is_word text) rest ≡ false
no_word_behind text [] ends = absurd (cc)
no_word_behind text (bare other ∷ rest) ends = absurd (cc)
no_word_behind text (quoted other ∷ rest) ends = absurd (cc)
no_word_behind text (mark other ∷ rest) ends = refl
no_word_behind text (line_end ∷ rest) ends = absurd (cc)

-- the options of a state, so far
abbrev opts : Option ℕ → Option Track → Option ℕ → Option ℕ → Option ℕ → Option Rate → Option Overload → Bool → Bool → Bool → Bool → ReadOptions
opts max track nodes source conn rate overload sloppy no_sync pflow bound = record {
  options = record {
    max = max;
    source_track = track;
    max_src_nodes = nodes;
    max_src_states = source;
    max_src_conn = conn;
    max_src_conn_rate = rate;
    overload = overload;
    sloppy = sloppy;
    no_sync = no_sync;
    pflow = pflow;
    if_bound = bound;
    floating = false;
  };
  repeated = false;
}

count_back : (n : ℕ) → is_count n ≡ true → pf_range 1 (decimal_of 4294967295 (decimal n)) ≡ Some n
count_back n is =
    let p = and_parts (nat_le 1 n) (nat_le n 4294967295) is in
    in_range-decimal 1 4294967295 n (leb-true 1 n p.0) (leb-true n 4294967295 p.1) (count_small n is)

track_read : (tracked : Track) (rest : Symbols) → ends_item rest ≡ true → track.reads (said (track_chunk tracked).more ++ rest) ≡ Some (tracked, rest)
unfolding track
track_read tracks.Plain rest ends = rw (no_word_behind (codes "rule") rest ends, no_word_behind (codes "global") rest ends) refl
track_read tracks.Rule rest ends = refl
track_read tracks.Global rest ends = refl

flush_read : (flushed : Flush) (rest : Symbols) → ends_item rest ≡ true → flush.reads (said (flush_glyphs flushed) ++ rest) ≡ Some (flushed, rest)
unfolding flush
flush_read flushes.No rest ends = rw (no_word_behind (codes "flush") rest ends) refl
flush_read flushes.Flush rest ends = rw (no_word_behind (codes "global") rest ends) refl
flush_read flushes.Global rest ends = refl

abbrev any : {A : Type 0} → A → Bool
any value = true

given_any : {A : Type 0} (value : Option A) → if_given any value ≡ true
given_any None = refl
given_any (Some value) = refl

max_item : (n : ℕ) (rest : Symbols) → is_count n ≡ true → ends_item rest ≡ true
    → (state_option (opts None None None None None None None false false false false)).reads (chunk_symbols (count_chunk (codes "max") n) ++ rest)
    ≡ Some (opts (Some n) None None None None None None false false false false, rest)
unfolding state_option state_words state_part
max_item n rest is ends = rw (count_back n is) refl

track_item : (a : Option ℕ) (tracked : Track) (rest : Symbols) → any tracked ≡ true → ends_item rest ≡ true
    → (state_option (opts a None None None None None None false false false false)).reads (chunk_symbols (track_chunk tracked) ++ rest)
    ≡ Some (opts a (Some tracked) None None None None None false false false false, rest)
unfolding state_option state_words state_part
track_item a tracks.Plain rest is ends = rw (track_read tracks.Plain rest ends) refl
track_item a tracks.Rule rest is ends = rw (track_read tracks.Rule rest ends) refl
track_item a tracks.Global rest is ends = rw (track_read tracks.Global rest ends) refl

nodes_item : (a : Option ℕ) (b : Option Track) (n : ℕ) (rest : Symbols) → is_count n ≡ true → ends_item rest ≡ true
    → (state_option (opts a b None None None None None false false false false)).reads (chunk_symbols (count_chunk (codes "max-src-nodes") n) ++ rest)
    ≡ Some (opts a b (Some n) None None None None false false false false, rest)
unfolding state_option state_words state_part
nodes_item a b n rest is ends = rw (count_back n is) refl

states_item : (a : Option ℕ) (b : Option Track) (c : Option ℕ) (n : ℕ) (rest : Symbols) → is_count n ≡ true → ends_item rest ≡ true
    → (state_option (opts a b c None None None None false false false false)).reads (chunk_symbols (count_chunk (codes "max-src-states") n) ++ rest)
    ≡ Some (opts a b c (Some n) None None None false false false false, rest)
unfolding state_option state_words state_part
states_item a b c n rest is ends = rw (count_back n is) refl

conn_item : (a : Option ℕ) (b : Option Track) (c d : Option ℕ) (n : ℕ) (rest : Symbols) → is_count n ≡ true → ends_item rest ≡ true
    → (state_option (opts a b c d None None None false false false false)).reads (chunk_symbols (count_chunk (codes "max-src-conn") n) ++ rest)
    ≡ Some (opts a b c d (Some n) None None false false false false, rest)
unfolding state_option state_words state_part
conn_item a b c d n rest is ends = rw (count_back n is) refl

rate_item : (a : Option ℕ) (b : Option Track) (c d e : Option ℕ) (limit : Rate) (rest : Symbols) → is_written_rate limit ≡ true → ends_item rest ≡ true
    → (state_option (opts a b c d e None None false false false false)).reads (chunk_symbols (rate_chunk limit) ++ rest)
    ≡ Some (opts a b c d e (Some limit) None false false false false, rest)
unfolding state_option state_words state_part rate
rate_item a b c d e limit rest is ends =
    let p = and_parts (is_count limit.count) (is_count limit.seconds) is in
    rw (count_back limit.count p.0, count_back limit.seconds p.1) refl

overload_item : (a : Option ℕ) (b : Option Track) (c d e : Option ℕ) (f : Option Rate) (limit : Overload) (rest : Symbols) → is_written_overload limit ≡ true → ends_item rest ≡ true
    → (state_option (opts a b c d e f None false false false false)).reads (chunk_symbols (overload_chunk limit) ++ rest)
    ≡ Some (opts a b c d e f (Some limit) false false false false, rest)
unfolding state_option state_words state_part overload table_name
overload_item a b c d e f limit rest is ends =
    rw (cut_whole limit.table (and_parts (is_name limit.table) (is_table_name limit.table) is).0, flush_read limit.flush rest ends) refl

sloppy_item : (a : Option ℕ) (b : Option Track) (c d e : Option ℕ) (f : Option Rate) (g : Option Overload) (rest : Symbols)
    → (state_option (opts a b c d e f g false false false false)).reads (bare (codes "sloppy") ∷ rest) ≡ Some (opts a b c d e f g true false false false, rest)
unfolding state_option state_words state_part
sloppy_item a b c d e f g rest = refl

sync_item : (a : Option ℕ) (b : Option Track) (c d e : Option ℕ) (f : Option Rate) (g : Option Overload) (h : Bool) (rest : Symbols)
    → (state_option (opts a b c d e f g h false false false)).reads (bare (codes "no-sync") ∷ rest) ≡ Some (opts a b c d e f g h true false false, rest)
unfolding state_option state_words state_part
sync_item a b c d e f g h rest = refl

pflow_item : (a : Option ℕ) (b : Option Track) (c d e : Option ℕ) (f : Option Rate) (g : Option Overload) (h i : Bool) (rest : Symbols)
    → (state_option (opts a b c d e f g h i false false)).reads (bare (codes "pflow") ∷ rest) ≡ Some (opts a b c d e f g h i true false, rest)
unfolding state_option state_words state_part
pflow_item a b c d e f g h i rest = refl

bound_item : (a : Option ℕ) (b : Option Track) (c d e : Option ℕ) (f : Option Rate) (g : Option Overload) (h i j : Bool) (rest : Symbols)
    → (state_option (opts a b c d e f g h i j false)).reads (bare (codes "if-bound") ∷ rest) ≡ Some (opts a b c d e f g h i j true, rest)
unfolding state_option state_words state_part
bound_item a b c d e f g h i j rest = refl

abbrev read_as : StateOptions → ReadOptions
read_as o = opts o.max o.source_track o.max_src_nodes o.max_src_states o.max_src_conn o.max_src_conn_rate o.overload o.sloppy o.no_sync o.pflow o.if_bound

option_items : (o : StateOptions) → AreWrittenOptions o → Items state_option none_read (items (option_chunks o)) (read_as o)
option_items o is =
    item_given state_option (count_chunk (codes "max")) is_count (λ x. opts x None None None None None None false false false false) max_item o.max _ _ is.max
    (item_given state_option track_chunk any (λ x. opts o.max x None None None None None false false false false) (track_item o.max) o.source_track _ _ (given_any o.source_track)
    (item_given state_option (count_chunk (codes "max-src-nodes")) is_count (λ x. opts o.max o.source_track x None None None None false false false false)
    (nodes_item o.max o.source_track) o.max_src_nodes _ _ is.max_src_nodes
    (item_given state_option (count_chunk (codes "max-src-states")) is_count (λ x. opts o.max o.source_track o.max_src_nodes x None None None false false false false)
    (states_item o.max o.source_track o.max_src_nodes) o.max_src_states _ _ is.max_src_states
    (item_given state_option (count_chunk (codes "max-src-conn")) is_count (λ x. opts o.max o.source_track o.max_src_nodes o.max_src_states x None None false false false false)
    (conn_item o.max o.source_track o.max_src_nodes o.max_src_states) o.max_src_conn _ _ is.max_src_conn
    (item_given state_option rate_chunk is_written_rate (λ x. opts o.max o.source_track o.max_src_nodes o.max_src_states o.max_src_conn x None false false false false)
    (rate_item o.max o.source_track o.max_src_nodes o.max_src_states o.max_src_conn) o.max_src_conn_rate _ _ is.max_src_conn_rate
    (item_given state_option overload_chunk is_written_overload (λ x. opts o.max o.source_track o.max_src_nodes o.max_src_states o.max_src_conn o.max_src_conn_rate x false false false false)
    (overload_item o.max o.source_track o.max_src_nodes o.max_src_states o.max_src_conn o.max_src_conn_rate) o.overload _ _ is.overload
    (item_if state_option (codes "sloppy") (λ x. opts o.max o.source_track o.max_src_nodes o.max_src_states o.max_src_conn o.max_src_conn_rate o.overload x false false false)
    (λ rest ends. sloppy_item o.max o.source_track o.max_src_nodes o.max_src_states o.max_src_conn o.max_src_conn_rate o.overload rest) o.sloppy _ _
    (item_if state_option (codes "no-sync") (λ x. opts o.max o.source_track o.max_src_nodes o.max_src_states o.max_src_conn o.max_src_conn_rate o.overload o.sloppy x false false)
    (λ rest ends. sync_item o.max o.source_track o.max_src_nodes o.max_src_states o.max_src_conn o.max_src_conn_rate o.overload o.sloppy rest) o.no_sync _ _
    (item_if state_option (codes "pflow") (λ x. opts o.max o.source_track o.max_src_nodes o.max_src_states o.max_src_conn o.max_src_conn_rate o.overload o.sloppy o.no_sync x false)
    (λ rest ends. pflow_item o.max o.source_track o.max_src_nodes o.max_src_states o.max_src_conn o.max_src_conn_rate o.overload o.sloppy o.no_sync rest) o.pflow _ _
    (item_if state_option (codes "if-bound") (λ x. opts o.max o.source_track o.max_src_nodes o.max_src_states o.max_src_conn o.max_src_conn_rate o.overload o.sloppy o.no_sync o.pflow x)
    (λ rest ends. bound_item o.max o.source_track o.max_src_nodes o.max_src_states o.max_src_conn o.max_src_conn_rate o.overload o.sloppy o.no_sync o.pflow rest) o.if_bound _ _
    no_item))))))))))

-- what is read of options in force
abbrev read_options : StateOptions → ReadOptions
read_options o = record { options = o; repeated = false }

whole_options : (o : StateOptions) → o.floating ≡ false → read_as o ≡ read_options o
whole_options o none = ap (λ b. read_options (record o { floating = b })) (sym none)

options_read : (o : StateOptions) (rest : Symbols) → AreWrittenOptions o → begins from_options rest ≡ true
    → state_options.reads (bare (codes "state") ∷ (said (bracket_glyphs (option_chunks o)) ++ rest)) ≡ Some (read_options o, rest)
unfolding state_options
options_read o rest is follows =
    rw (bracket_said (option_chunks o))
    (brackets_or_none state_option (some_stands (items (option_chunks o))) none_read (read_options o) (items (option_chunks o)) rest refl
    (subst (λ after. Items state_option none_read (items (option_chunks o)) after) (whole_options o is.floating) (option_items o is))
    (no_sign from_options (codes "(") rest follows refl))

-- the state clause
abbrev pub with_state : Draft → Option StateKind → StateOptions → Draft
with_state draft kind options = record draft { form = record draft.form { state = kind; options = options }; repeated_option = false }

clause_read : (draft : Draft) (kind : StateKind) (text : List ℕ) (o : StateOptions) (rest : Symbols) → AreWrittenOptions o → begins from_options rest ≡ true
    → (state_clause kind (with_state draft None no_options)).reads (bare (codes "state") ∷ (said (bracket_glyphs (option_chunks o)) ++ rest)) ≡ Some (with_state draft (Some kind) o, rest)
unfolding state_clause
clause_read draft kind text o rest is follows = rw (options_read o rest is follows) refl

state_read : (draft : Draft) (kind : StateKind) (o : StateOptions) (rest : Symbols) → AreWrittenOptions o → (kind ≡ states.None → o ≡ no_options) → begins from_options rest ≡ true
    → (option (with_state draft None no_options)).reads (said (state_glyphs kind o) ++ rest) ≡ Some (with_state draft (Some kind) o, rest)
unfolding option option_words no_state
state_read draft states.None o rest is none follows = ap (λ options. as_read (with_state draft (Some states.None) options) rest) (sym (none refl))
state_read draft states.Keep o rest is none follows = clause_read draft states.Keep (codes "keep") o rest is follows
state_read draft states.Modulate o rest is none follows = clause_read draft states.Modulate (codes "modulate") o rest is follows
state_read draft states.Synproxy o rest is none follows = clause_read draft states.Synproxy (codes "synproxy") o rest is follows

state_taken_of : (draft : Draft) (kind : StateKind) (o : StateOptions) → AreWrittenOptions o → (kind ≡ states.None → o ≡ no_options)
    → Options (with_state draft None no_options) (said (state_glyphs kind o)) (with_state draft (Some kind) o)
state_taken_of draft states.None o is none = takes_one from_options option (with_state draft None no_options) (with_state draft (Some states.None) o) _ _ (λ rest follows. state_read draft states.None o rest is none follows)
state_taken_of draft states.Keep o is none = takes_one from_options option (with_state draft None no_options) (with_state draft (Some states.Keep) o) _ _ (λ rest follows. state_read draft states.Keep o rest is none follows)
state_taken_of draft states.Modulate o is none = takes_one from_options option (with_state draft None no_options) (with_state draft (Some states.Modulate) o) _ _ (λ rest follows. state_read draft states.Modulate o rest is none follows)
state_taken_of draft states.Synproxy o is none = takes_one from_options option (with_state draft None no_options) (with_state draft (Some states.Synproxy) o) _ _ (λ rest follows. state_read draft states.Synproxy o rest is none follows)

-- a rule that doesn't pass packets has neither
abbrev pub state_form : Bool → StateKind → Option StateKind
state_form pass kind = if pass then Some kind else None

pub state_taken : (draft : Draft) (pass : Bool) (kind : StateKind) (o : StateOptions) → AreWrittenOptions o → (kind ≡ states.None → o ≡ no_options) → (pass ≡ false → kind ≡ states.None)
    → Options (with_state draft None no_options) (said (where_so pass (state_glyphs kind o))) (with_state draft (state_form pass kind) o)
state_taken draft true kind o is none stateless = state_taken_of draft kind o is none
state_taken draft false kind o is none stateless =
    subst (λ options. Options (with_state draft None no_options) [] (with_state draft None options)) (sym (none (stateless refl)))
    (takes_none from_options option (with_state draft None no_options))

-- normalisation
abbrev scrubbed : Bool → Bool → Bool → Option ℕ → Option ℕ → Scrub
scrubbed no_df random reassembled ttl mss = record { no_df = no_df; random_id = random; reassemble_tcp = reassembled; min_ttl = ttl; max_mss = mss }

df_item : (rest : Symbols) → (scrub_part (scrubbed false false false None None)).reads (bare (codes "no-df") ∷ rest) ≡ Some (scrubbed true false false None None, rest)
unfolding scrub_part scrub_words scrub_behind
df_item rest = refl

random_item : (a : Bool) (rest : Symbols) → (scrub_part (scrubbed a false false None None)).reads (bare (codes "random-id") ∷ rest) ≡ Some (scrubbed a true false None None, rest)
unfolding scrub_part scrub_words scrub_behind
random_item a rest = refl

tcp_item : (a b : Bool) (rest : Symbols) → (scrub_part (scrubbed a b false None None)).reads (bare (codes "reassemble") ∷ bare (codes "tcp") ∷ rest) ≡ Some (scrubbed a b true None None, rest)
unfolding scrub_part scrub_words scrub_behind
tcp_item a b rest = refl

ttl_item : (a b c : Bool) (n : ℕ) (rest : Symbols) → is_byte n ≡ true → ends_item rest ≡ true
    → (scrub_part (scrubbed a b c None None)).reads (chunk_symbols (count_chunk (codes "min-ttl") n) ++ rest) ≡ Some (scrubbed a b c (Some n) None, rest)
unfolding scrub_part scrub_words scrub_behind
ttl_item a b c n rest is ends = rw (in_range-decimal 0 255 n (omega arith) (leb-true n 255 is) (byte_small n is)) refl

mss_item : (a b c : Bool) (d : Option ℕ) (n : ℕ) (rest : Symbols) → is_port n ≡ true → ends_item rest ≡ true
    → (scrub_part (scrubbed a b c d None)).reads (chunk_symbols (count_chunk (codes "max-mss") n) ++ rest) ≡ Some (scrubbed a b c d (Some n), rest)
unfolding scrub_part scrub_words scrub_behind
mss_item a b c d n rest is ends = rw (in_range-decimal 0 65535 n (omega arith) (leb-true n 65535 is) (port_small n is)) refl

abbrev tcp_chunk : Bool → Option Chunk
tcp_chunk some = if some then Some (chunk_of (codes "reassemble") (word (codes "tcp") ∷ [])) else None

item_tcp : (a b some : Bool) (others : List (Option Symbols)) (after : Scrub) → Items scrub_part (scrubbed a b some None None) others after
    → Items scrub_part (scrubbed a b false None None) (option_map chunk_symbols (tcp_chunk some) ∷ others) after
item_tcp a b true others after more = stands (λ rest ends. tcp_item a b rest) more
item_tcp a b false others after more = left_out more

scrub_items : (s : Scrub) → is_written_scrub s ≡ true → Items scrub_part no_scrub (items (scrub_chunks s)) s
scrub_items s is =
    let p = and_parts (if_given is_byte s.min_ttl) (if_given is_port s.max_mss) is in
    item_if scrub_part (codes "no-df") (λ x. scrubbed x false false None None) (λ rest ends. df_item rest) s.no_df _ _
    (item_if scrub_part (codes "random-id") (λ x. scrubbed s.no_df x false None None) (λ rest ends. random_item s.no_df rest) s.random_id _ _
    (item_tcp s.no_df s.random_id s.reassemble_tcp _ _
    (item_given scrub_part (count_chunk (codes "min-ttl")) is_byte (λ x. scrubbed s.no_df s.random_id s.reassemble_tcp x None) (ttl_item s.no_df s.random_id s.reassemble_tcp) s.min_ttl _ _ p.0
    (item_given scrub_part (count_chunk (codes "max-mss")) is_port (λ x. scrubbed s.no_df s.random_id s.reassemble_tcp s.min_ttl x) (mss_item s.no_df s.random_id s.reassemble_tcp s.min_ttl) s.max_mss _ _ p.1
    no_item))))

abbrev pub with_scrub : Draft → Scrub → Draft
with_scrub draft value = record draft { form = record draft.form { params = record draft.form.params { scrub = value } } }

any_items : (chunks : List (Option Chunk)) → some_stands (items chunks) ≡ list_any is_some chunks
any_items [] = refl
any_items (None ∷ chunks) = any_items chunks
any_items (Some chunk ∷ chunks) = refl

scrub_whole : (s : Scrub) (rest : Symbols) → is_written_scrub s ≡ true → list_any is_some (scrub_chunks s) ≡ true
    → scrub.reads (said (bracket_glyphs (scrub_chunks s)) ++ rest) ≡ Some (s, rest)
unfolding scrub
scrub_whole s rest is some =
    rw (bracket_said (scrub_chunks s)) (brackets_read scrub_part no_scrub s (items (scrub_chunks s)) (scrub_items s is) (any_items (scrub_chunks s) ∙ some) rest)

scrub_read : (draft : Draft) (s : Scrub) (rest : Symbols) → is_written_scrub s ≡ true → list_any is_some (scrub_chunks s) ≡ true
    → (option (with_scrub draft no_scrub)).reads (bare (codes "scrub") ∷ (said (bracket_glyphs (scrub_chunks s)) ++ rest)) ≡ Some (with_scrub draft s, rest)
unfolding option option_words scrub_option
scrub_read draft s rest is some = rw (scrub_whole s rest is some) refl

scrub_taken_if : (draft : Draft) (stands : Bool) (s : Scrub) → is_written_scrub s ≡ true → list_any is_some (scrub_chunks s) ≡ stands
    → Options (with_scrub draft no_scrub) (said (where_so stands (word (codes "scrub") ∷ bracket_glyphs (scrub_chunks s)))) (with_scrub draft s)
scrub_taken_if draft true s is some =
    takes_one from_options option (with_scrub draft no_scrub) (with_scrub draft s) _ _ (λ rest follows. scrub_read draft s rest is some)
scrub_taken_if draft false s is none =
    subst (λ value. Options (with_scrub draft no_scrub) [] (with_scrub draft value))
    (items_none scrub_part no_scrub s (items (scrub_chunks s)) (scrub_items s is) (any_items (scrub_chunks s) ∙ none))
    (takes_none from_options option (with_scrub draft no_scrub))

pub scrub_taken : (draft : Draft) (s : Scrub) → is_written_scrub s ≡ true → Options (with_scrub draft no_scrub) (said (scrub_glyphs s)) (with_scrub draft s)
scrub_taken draft s is = scrub_taken_if draft (list_any is_some (scrub_chunks s)) s is refl

-- flags
abbrev pub flags_form : Option TcpFlags → Bool → Option FlagsForm
flags_form (Some tested) needs = Some (flag_forms.Test tested)
flags_form None needs = if needs then Some flag_forms.Any else None

abbrev pub with_flags : Draft → Option FlagsForm → Draft
with_flags draft value = record draft { form = record draft.form { flags = value }; unknown_flag = false }

-- the letters of flags are capitals, each of a flag
abbrev is_letter : ℕ → Bool
is_letter byte = is_some (bit_of byte)

letter_words : list_all (λ (e : Entry). list_all is_letter e.word) tcp_flags ≡ true
unfolding tcp_flags
letter_words = refl

letters_pass : (table : List Entry) (bits : ℕ) → list_all (λ (e : Entry). list_all is_letter e.word) table ≡ true → list_all is_letter (letters_in table bits) ≡ true
letters_pass [] bits each = refl
letters_pass (e ∷ table) bits each =
    let p = and_parts (list_all is_letter e.word) (list_all (λ (one : Entry). list_all is_letter one.word) table) each in
    elim (cases_Bool (is_set bits e)) [
      | inl set ↦ rw set (all-append is_letter e.word (letters_in table bits) p.0 (letters_pass table bits p.1))
      | inr unset ↦ rw unset (letters_pass table bits p.1)
    ]

letters_known : (bits : ℕ) → are_flags (letters_of bits) ≡ true
letters_known bits = letters_pass tcp_flags bits letter_words

any_no_flags : list_all is_letter (codes "any") ≡ false
unfolding tcp_flags
any_no_flags = refl

letters_not_any : (bits : ℕ) → bytes_eq (letters_of bits) (codes "any") ≡ false
letters_not_any bits = not_same (list_all is_letter) (letters_of bits) (codes "any") (letters_known bits) any_no_flags

-- letters, whatever they are, before a slash
letters_read : (draft : Draft) (set mask : List ℕ) (rest : Symbols) → bytes_eq set (codes "any") ≡ false → are_flags set ≡ true → are_flags mask ≡ true
    → (option (with_flags draft None)).reads (bare (codes "flags") ∷ (said (letters_before_slash set ++ close (bare mask) ∷ []) ++ rest))
    ≡ Some (with_flags draft (Some (flag_forms.Test (record { set = bits_of set; mask = bits_of mask }))), rest)
unfolding option option_words flags_part flags
letters_read draft [] mask rest other known also = rw also refl
letters_read draft (letter ∷ set) mask rest other known also = rw (other, known, also) refl

abbrev pub BitsBack : Type 0
BitsBack = (bits : ℕ) → bits < 256 → bits_of (letters_of bits) ≡ bits

flags_read : BitsBack → (draft : Draft) (tested : TcpFlags) (rest : Symbols) → are_written_flags tested ≡ true
    → (option (with_flags draft None)).reads (said (tested_flags_glyphs tested) ++ rest) ≡ Some (with_flags draft (Some (flag_forms.Test tested)), rest)
flags_read back draft tested rest is =
    let p = and_parts (is_byte tested.set) (in_range 1 255 tested.mask) is in
    let q = and_parts (nat_le 1 tested.mask) (nat_le tested.mask 255) p.1 in
    let set : bits_of (letters_of tested.set) ≡ tested.set = back tested.set (let fits = leb-true tested.set 255 p.0 in omega arith) in
    let mask : bits_of (letters_of tested.mask) ≡ tested.mask = back tested.mask (let fits = leb-true tested.mask 255 q.1 in omega arith) in
    letters_read draft (letters_of tested.set) (letters_of tested.mask) rest (letters_not_any tested.set) (letters_known tested.set) (letters_known tested.mask)
    ∙ (λ i. as_read (with_flags draft (Some (flag_forms.Test (record { set = set i; mask = mask i })))) rest)

any_read : (draft : Draft) (rest : Symbols)
    → (option (with_flags draft None)).reads (bare (codes "flags") ∷ bare (codes "any") ∷ rest) ≡ Some (with_flags draft (Some flag_forms.Any), rest)
unfolding option option_words flags_part flags
any_read draft rest = refl

pub flags_taken : BitsBack → (draft : Draft) (tested : Option TcpFlags) (needs : Bool) → if_given are_written_flags tested ≡ true
    → Options (with_flags draft None) (said (flags_glyphs tested needs)) (with_flags draft (flags_form tested needs))
flags_taken back draft (Some tested) needs is =
    takes_one from_options option (with_flags draft None) (with_flags draft (Some (flag_forms.Test tested))) _ _ (λ rest follows. flags_read back draft tested rest is)
flags_taken back draft None true is = takes_one from_options option (with_flags draft None) (with_flags draft (Some flag_forms.Any)) _ _ (λ rest follows. any_read draft rest)
flags_taken back draft None false is = takes_none from_options option (with_flags draft None)
