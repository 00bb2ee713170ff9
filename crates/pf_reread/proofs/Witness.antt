-- A rule of which the law that rules read back speaks, and its text.
use Rattle.std.proofs.Common.{◌≡◌, true, false, Some, None, refl, arith}
use Rattle.std.specs.Prelude.{codes}
use Rattle.pf_ops.specs.Words.{protocols, tcp_flags}
use Rattle.pf_ops.specs.declared.numbers.Numbers.TheVariants.{One}
use Rattle.pf_parts.specs.Defaults.{no_options}
use Rattle.pf_parts.specs.NameText.{is_bare}
use Rattle.pf_parts.specs.ParamText.{log_text, scrub_text}
use Rattle.pf_parts.specs.StateText.{option_parts, state_text}
use Rattle.pf_parts.specs.declared.direction.Direction.TheVariants.{In}
use Rattle.pf_parts.specs.declared.matching.IfTest.TheVariants as ifaces
use Rattle.pf_parts.specs.declared.matching.TagTest.TheVariants as tags
use Rattle.pf_parts.specs.declared.state.StateKind.TheVariants as states
use Rattle.pf_print.specs.HostText.{host_text, hosts_text}
use Rattle.pf_print.specs.RuleText.{action_text, proto_text, rule_text}
use Rattle.pf_rule.specs.Opening.{no_params}
use Rattle.pf_rule.specs.declared.criteria.AddrTest.TheVariants as tests
use Rattle.pf_rule.specs.declared.effect.Action.TheVariants as actions
use Rattle.pf_rule.specs.declared.rule.Rule.{Rule}
use Rattle.pf_token.specs.Bytes.{class_of}
use Rattle.pf_reread.specs.Written.{IsWritten}

abbrev ssh : Rule
ssh = record {
  criteria = record {
    iface = ifaces.On (codes "em0") false;
    direction = Some In;
    family = None;
    proto = Some 6;
    source = tests.Any;
    source_port = None;
    target = tests.Any;
    target_port = Some (One (record { low = 22; high = 22 }));
    user = None;
    group = None;
    flags = Some (record { set = 2; mask = 18 });
    icmp = None;
    tos = None;
    prio = None;
    tagged = tags.Any;
  };
  effect = record {
    action = actions.Pass;
    quick = true;
    tag = None;
    state = states.Keep;
    options = no_options;
    params = no_params;
    label = None;
  };
}

ssh_is_written : IsWritten ssh
unfolding class_of
ssh_is_written = record {
  tests = record {
    iface = refl;
    proto = refl;
    source = tt;
    source_port = tt;
    target = tt;
    target_port = (omega arith, omega arith);
    user = tt;
    group = tt;
    flags = refl;
    icmp = refl;
    tos = refl;
    prio = refl;
    tagged = refl;
  };
  does = record {
    action = tt;
    tag = refl;
    stateless = λ other. absurd (cc);
    optionless = λ none. refl;
    options = record {
      max = refl;
      max_src_nodes = refl;
      max_src_states = refl;
      max_src_conn = refl;
      max_src_conn_rate = refl;
      overload = refl;
      limited = refl;
      floating = refl;
    };
    params = record {
      queue = refl;
      prio = refl;
      tos = refl;
      scrub = refl;
      log = record { to = refl; none = λ off. refl };
      nat = tt;
      rdr = tt;
    };
    label = refl;
  };
  agree = record {
    ports = λ some. refl;
    icmp = refl;
    flags = λ some. refl;
    reset = λ resets. refl;
    nat = tt;
    rdr = tt;
    types = tt;
    source = tt;
    target = tt;
  };
}

-- the same with any port
abbrev any_port : Rule
any_port = record ssh { criteria = record ssh.criteria { target_port = None } }

any_port_is_printed : rule_text any_port ≡ codes "pass in quick on em0 proto tcp all flags S/SA keep state"
unfolding rule_text action_text hosts_text host_text log_text scrub_text state_text option_parts tcp_flags protocols proto_text is_bare
any_port_is_printed = refl
