-- The options of a state (pf.conf(5), GRAMMAR, `state-opts`, and STATEFUL FILTERING). An option twice is read, and the first
-- is kept.
use Rattle.std.specs.Prelude.{ℕ, Bool, true, false, ◌||◌, List, [], ◌∷◌, Option, Some, None, is_some, codes}
use Rattle.std.specs.Option.{option_or}
use Rattle.pf_parts.specs.Defaults.{no_options}
use Rattle.pf_parts.specs.declared.state.Flush.{Flush}
use Rattle.pf_parts.specs.declared.state.Flush.TheVariants as flushes
use Rattle.pf_parts.specs.declared.state.Overload.{Overload}
use Rattle.pf_parts.specs.declared.state.Rate.{Rate}
use Rattle.pf_parts.specs.declared.state.StateOptions.{StateOptions}
use Rattle.pf_parts.specs.declared.state.Track.{Track}
use Rattle.pf_parts.specs.declared.state.Track.TheVariants as tracks
use Rattle.pf_syntax.specs.Grammar.{Grammar, ◌>>=◌, give, sign, word, on_word, where_next}
use Rattle.pf_syntax.specs.Words.{Keyword, key, keyword, number}
use Rattle.pf_syntax.specs.Lists.{at_sign, in_brackets}
use Rattle.pf_syntax.specs.Hosts.{table_name}
use Rattle.pf_form.specs.declared.keyword.StateWord.{StateWord}
use Rattle.pf_form.specs.declared.keyword.StateWord.TheVariants as words
use Rattle.pf_form.specs.declared.state.ReadOptions.{ReadOptions}

unfoldable pub state_words : List (Keyword StateWord)
state_words =
    key (codes "max") words.Max ∷ key (codes "source-track") words.SourceTrack ∷ key (codes "max-src-nodes") words.MaxSrcNodes
    ∷ key (codes "max-src-states") words.MaxSrcStates ∷ key (codes "max-src-conn") words.MaxSrcConn
    ∷ key (codes "max-src-conn-rate") words.MaxSrcConnRate ∷ key (codes "overload") words.Overload
    ∷ key (codes "sloppy") words.Sloppy ∷ key (codes "no-sync") words.NoSync ∷ key (codes "pflow") words.Pflow
    ∷ key (codes "if-bound") words.IfBound ∷ key (codes "floating") words.Floating ∷ []

-- the first that is given
abbrev pub kept : {A : Type 0} → Option A → A → Option A
kept before value = option_or before (Some value)

-- other options, and whether the one that is read now stood before
abbrev pub with_options : ReadOptions → StateOptions → Bool → ReadOptions
with_options before options again = record { options = options; repeated = before.repeated || again }

-- a number of a state option
abbrev pub count : Grammar ℕ
count = number 1 4294967295

-- `["rule" | "global"]` behind `source-track`
unfoldable pub track : Grammar Track
track = on_word (codes "rule") (give tracks.Rule) (on_word (codes "global") (give tracks.Global) (give tracks.Plain))

-- `N "/" N` behind `max-src-conn-rate`
unfoldable pub rate : Grammar Rate
rate = do
  connections ← count
  slash ← sign (codes "/")
  seconds ← count
  give (record { count = connections; seconds = seconds })

-- `["flush" ["global"]]`
unfoldable pub flush : Grammar Flush
flush = on_word (codes "flush") (on_word (codes "global") (give flushes.Global) (give flushes.Flush)) (give flushes.No)

-- `"<" word ">" ["flush" ["global"]]` behind `overload`
unfoldable pub overload : Grammar Overload
overload = do
  opened ← sign (codes "<")
  table ← table_name
  flushed ← flush
  give (record { table = table; flush = flushed })

unfoldable pub state_part : StateWord → ReadOptions → Grammar ReadOptions
state_part words.Max before = do
  n ← count
  give (with_options before (record before.options { max = kept before.options.max n }) (is_some before.options.max))
state_part words.SourceTrack before = do
  tracked ← track
  give (with_options before (record before.options { source_track = kept before.options.source_track tracked }) (is_some before.options.source_track))
state_part words.MaxSrcNodes before = do
  n ← count
  give (with_options before (record before.options { max_src_nodes = kept before.options.max_src_nodes n }) (is_some before.options.max_src_nodes))
state_part words.MaxSrcStates before = do
  n ← count
  give (with_options before (record before.options { max_src_states = kept before.options.max_src_states n }) (is_some before.options.max_src_states))
state_part words.MaxSrcConn before = do
  n ← count
  give (with_options before (record before.options { max_src_conn = kept before.options.max_src_conn n }) (is_some before.options.max_src_conn))
state_part words.MaxSrcConnRate before = do
  limit ← rate
  give (with_options before (record before.options { max_src_conn_rate = kept before.options.max_src_conn_rate limit }) (is_some before.options.max_src_conn_rate))
state_part words.Overload before = do
  table ← overload
  give (with_options before (record before.options { overload = kept before.options.overload table }) (is_some before.options.overload))
state_part words.Sloppy before = give (with_options before (record before.options { sloppy = true }) before.options.sloppy)
state_part words.NoSync before = give (with_options before (record before.options { no_sync = true }) before.options.no_sync)
state_part words.Pflow before = give (with_options before (record before.options { pflow = true }) before.options.pflow)
state_part words.IfBound before = give (with_options before (record before.options { if_bound = true }) before.options.if_bound)
state_part words.Floating before = give (with_options before (record before.options { floating = true }) before.options.floating)

unfoldable pub state_option : ReadOptions → Grammar ReadOptions
state_option before = do
  word ← keyword state_words
  state_part word before

abbrev pub none_read : ReadOptions
none_read = record { options = no_options; repeated = false }

-- `"state" ["(" so { [","] so } ")"]` behind `keep`, `modulate` and `synproxy`
unfoldable pub state_options : Grammar ReadOptions
state_options = do
  state ← word (codes "state")
  where_next (at_sign (codes "(")) (in_brackets state_option none_read) (give none_read)
