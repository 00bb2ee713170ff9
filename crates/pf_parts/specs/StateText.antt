-- How the state of a rule or an answer is printed (pf.conf(5), STATEFUL FILTERING).
use Rattle.std.specs.Prelude.{ℕ, List, [], ◌∷◌, ◌++◌, Option, Some, None, codes, decimal}
use Rattle.std.specs.Option.{option_map}
use Rattle.pf_parts.specs.declared.state.StateKind.{StateKind}
use Rattle.pf_parts.specs.declared.state.StateKind.TheVariants as state
use Rattle.pf_parts.specs.declared.state.StateOptions.{StateOptions}
use Rattle.pf_parts.specs.declared.state.Track.{Track}
use Rattle.pf_parts.specs.declared.state.Track.TheVariants as track
use Rattle.pf_parts.specs.declared.state.Rate.{Rate}
use Rattle.pf_parts.specs.declared.state.Overload.{Overload}
use Rattle.pf_parts.specs.declared.state.Flush.{Flush}
use Rattle.pf_parts.specs.declared.state.Flush.TheVariants as flush
use Rattle.pf_parts.specs.Parts.{joined, in_brackets, word_if, with_number}

abbrev pub kind_text : StateKind → List ℕ
kind_text state.None = codes "no state"
kind_text state.Keep = codes "keep state"
kind_text state.Modulate = codes "modulate state"
kind_text state.Synproxy = codes "synproxy state"

abbrev pub track_text : Track → List ℕ
track_text track.Plain = codes "source-track"
track_text track.Rule = codes "source-track rule"
track_text track.Global = codes "source-track global"

abbrev pub rate_text : Rate → List ℕ
rate_text rate = codes "max-src-conn-rate " ++ decimal rate.count ++ codes "/" ++ decimal rate.seconds

abbrev pub flush_text : Flush → List ℕ
flush_text flush.No = codes ""
flush_text flush.Flush = codes " flush"
flush_text flush.Global = codes " flush global"

abbrev pub overload_text : Overload → List ℕ
overload_text overload = codes "overload <" ++ overload.table ++ codes ">" ++ flush_text overload.flush

-- the options in the order of the grammar; `floating` isn't printed
unfoldable pub option_parts : StateOptions → List (Option (List ℕ))
option_parts options =
    with_number (codes "max") options.max
    ∷ option_map track_text options.source_track
    ∷ with_number (codes "max-src-nodes") options.max_src_nodes
    ∷ with_number (codes "max-src-states") options.max_src_states
    ∷ with_number (codes "max-src-conn") options.max_src_conn
    ∷ option_map rate_text options.max_src_conn_rate
    ∷ option_map overload_text options.overload
    ∷ word_if options.sloppy (codes "sloppy")
    ∷ word_if options.no_sync (codes "no-sync")
    ∷ word_if options.pflow (codes "pflow")
    ∷ word_if options.if_bound (codes "if-bound")
    ∷ []

-- the options in brackets, where any is given; a rule that makes no state has none
abbrev pub options_text : StateKind → StateOptions → Option (List ℕ)
options_text state.None options = None
options_text state.Keep options = in_brackets (option_parts options)
options_text state.Modulate options = in_brackets (option_parts options)
options_text state.Synproxy options = in_brackets (option_parts options)

-- which state is made, and its options
unfoldable pub state_text : StateKind → StateOptions → List ℕ
state_text kind options = joined (codes " ") (Some (kind_text kind) ∷ options_text kind options ∷ [])
