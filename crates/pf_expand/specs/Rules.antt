-- The rules of a statement without a fault (pf.conf(5), PACKET FILTERING and the default of `keep state`, `flags S/SA`).
use Rattle.std.specs.Prelude.{ℕ, Bool, true, false, ◌&&◌, ◌||◌, not, List, Option, Some, None, if◌then◌else◌}
use Rattle.std.specs.List.{slice_get}
use Rattle.std.specs.Option.{unwrap_or}
use Rattle.pf_form.specs.declared.form.FlagsForm.{FlagsForm}
use Rattle.pf_form.specs.declared.form.FlagsForm.TheVariants as flags
use Rattle.pf_form.specs.declared.form.Head.{Head}
use Rattle.pf_form.specs.declared.form.Head.TheVariants as heads
use Rattle.pf_form.specs.declared.form.RuleForm.{RuleForm}
use Rattle.pf_ops.specs.declared.flags.TcpFlags.{TcpFlags}
use Rattle.pf_parts.specs.declared.block.BlockKind.{BlockKind}
use Rattle.pf_parts.specs.declared.block.BlockKind.TheVariants as blocks
use Rattle.pf_parts.specs.declared.call.Call.{Call}
use Rattle.pf_parts.specs.declared.direction.Direction.{Direction}
use Rattle.pf_parts.specs.declared.direction.Direction.TheVariants.{In}
use Rattle.pf_parts.specs.declared.matching.IfTest.TheVariants as ifaces
use Rattle.pf_parts.specs.declared.state.StateKind.{StateKind}
use Rattle.pf_parts.specs.declared.state.StateKind.TheVariants as states
use Rattle.pf_parts.specs.declared.state.StateOptions.{StateOptions}
use Rattle.pf_rule.specs.Criteria.{tcp}
use Rattle.pf_rule.specs.declared.criteria.AddrTest.TheVariants as tests
use Rattle.pf_rule.specs.declared.criteria.Criteria.{Criteria}
use Rattle.pf_rule.specs.declared.effect.Action.{Action}
use Rattle.pf_rule.specs.declared.effect.Action.TheVariants as actions
use Rattle.pf_rule.specs.declared.effect.Effect.{Effect}
use Rattle.pf_rule.specs.declared.params.Params.{Params}
use Rattle.pf_rule.specs.declared.rule.Rule.{Rule}
use Rattle.pf_rule.specs.declared.translation.Target.{Target}
use Rattle.pf_expand.specs.Faults.{is_tcp}
use Rattle.pf_expand.specs.declared.order.Defaults.{Defaults}

-- `block` alone has the block policy of the moment, and antispoof drops under any. The load of another file has no rules.
abbrev pub action_of : Head → Call → Defaults → Action
action_of heads.Pass call defaults = actions.Pass
action_of (heads.Block kind) call defaults = actions.Block (unwrap_or kind defaults.block)
action_of heads.Match call defaults = actions.Match
action_of (heads.Anchor name body) call defaults = actions.Anchor call
action_of heads.Antispoof call defaults = actions.Block blocks.Drop
action_of (heads.LoadAnchor name file) call defaults = actions.Match

-- a pass rule makes a state unless it says `no state`, and no other does
abbrev pub state_of : Head → Option StateKind → StateKind
state_of heads.Pass written = unwrap_or written states.Keep
state_of (heads.Block kind) written = states.None
state_of heads.Match written = states.None
state_of (heads.Anchor name body) written = states.None
state_of heads.Antispoof written = states.None
state_of (heads.LoadAnchor name file) written = states.None

abbrev pub makes_state : StateKind → Bool
makes_state states.None = false
makes_state states.Keep = true
makes_state states.Modulate = true
makes_state states.Synproxy = true

-- a state is bound to its interface where the rule says so, or by the state policy of the moment where the rule doesn't say
-- `floating`, which is all that this word does
abbrev pub options_of : Bool → Defaults → StateOptions → StateOptions
options_of stateful defaults options =
    record options { if_bound = stateful && (options.if_bound || (defaults.bound && not options.floating)); floating = false }

-- the parameters with the targets of translations
abbrev pub params_of : Params → List Target → List Target → Params
params_of params nat rdr = record params { nat = slice_get nat 0; rdr = slice_get rdr 0 }

-- what each rule of the statement does
abbrev pub effect_of : RuleForm → Call → Defaults → List Target → List Target → Effect
effect_of form call defaults nat rdr = record {
  action = action_of form.head call defaults;
  quick = form.quick;
  tag = form.tag;
  state = state_of form.head form.state;
  options = options_of (makes_state (state_of form.head form.state)) defaults form.options;
  params = params_of form.params nat rdr;
  label = form.label;
}

-- `antispoof` looks at what comes in
abbrev pub direction_of : Head → Option Direction → Option Direction
direction_of heads.Antispoof written = Some In
direction_of heads.Pass written = written
direction_of (heads.Block kind) written = written
direction_of heads.Match written = written
direction_of (heads.Anchor name body) written = written
direction_of (heads.LoadAnchor name file) written = written

-- what each rule of the statement tests
abbrev pub start_of : RuleForm → Criteria
start_of form = record {
  iface = ifaces.Any;
  direction = direction_of form.head form.direction;
  family = None;
  proto = None;
  source = tests.Any;
  source_port = None;
  target = tests.Any;
  target_port = None;
  user = None;
  group = None;
  flags = None;
  icmp = None;
  tos = form.tos;
  prio = form.prio;
  tagged = form.tagged;
}

-- the flags of the first packet of a connection
abbrev pub opening : TcpFlags
opening = record { set = 2; mask = 18 }

abbrev pub is_tcp_or_any : Option ℕ → Bool
is_tcp_or_any None = true
is_tcp_or_any (Some proto) = is_tcp proto

-- `flags any` tests nothing; without `flags` a stateful rule for TCP or any protocol has `flags S/SA`
abbrev pub flags_of : Option FlagsForm → Bool → Option ℕ → Option TcpFlags
flags_of (Some flags.Any) stateful proto = None
flags_of (Some (flags.Test test)) stateful proto = Some test
flags_of None stateful proto = if stateful && is_tcp_or_any proto then Some opening else None

-- the rule of a combination
abbrev pub rule_of : RuleForm → Effect → Criteria → Rule
rule_of form effect criteria = record {
  criteria = record criteria { flags = flags_of form.flags (makes_state effect.state) criteria.proto };
  effect = effect;
}
