-- Parts of which nothing is given.
use Rattle.std.specs.Prelude.{false, None}
use Rattle.pf_parts.specs.declared.params.Log.{Log}
use Rattle.pf_parts.specs.declared.params.Scrub.{Scrub}
use Rattle.pf_parts.specs.declared.state.StateOptions.{StateOptions}

-- no option of a state is given
abbrev pub no_options : StateOptions
no_options = record {
  max = None;
  source_track = None;
  max_src_nodes = None;
  max_src_states = None;
  max_src_conn = None;
  max_src_conn_rate = None;
  overload = None;
  sloppy = false;
  no_sync = false;
  pflow = false;
  if_bound = false;
  floating = false;
}

-- a packet stays as it is
abbrev pub no_scrub : Scrub
no_scrub = record { no_df = false; random_id = false; reassemble_tcp = false; min_ttl = None; max_mss = None }

-- a packet isn't logged
abbrev pub no_log : Log
no_log = record { on = false; all = false; matches = false; user = false; to = None }
