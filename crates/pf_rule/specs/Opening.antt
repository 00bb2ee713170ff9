-- A walk before its first rule.
use Rattle.std.specs.Prelude.{false, None}
use Rattle.pf_parts.specs.Defaults.{no_log, no_options, no_scrub}
use Rattle.pf_rule.specs.declared.effect.Action.TheVariants.{Pass}
use Rattle.pf_rule.specs.declared.packet.Packet.{Packet}
use Rattle.pf_rule.specs.declared.params.Params.{Params}
use Rattle.pf_parts.specs.declared.state.StateKind.TheVariants as state
use Rattle.pf_rule.specs.declared.walk.Decision.{Decision}
use Rattle.pf_rule.specs.declared.walk.Walk.{Walk}

-- no parameter is set
abbrev pub no_params : Params
no_params = record {
  queue = None;
  prio = None;
  tos = None;
  scrub = no_scrub;
  log = no_log;
  allow_opts = false;
  nat = None;
  rdr = None;
}

-- without a pass or block rule that hits, a packet passes and makes no state (pf.conf(5), "pass")
abbrev pub pass_no_state : Decision
pass_no_state = record { action = Pass; state = state.None; options = no_options; params = no_params; label = None }

-- the packet has the tag of its record, and no rule has hit
abbrev pub opening_walk : Packet → Walk
opening_walk packet = record {
  packet = packet;
  tag = packet.tag;
  params = no_params;
  last = pass_no_state;
  matched = false;
  stop = false;
}
