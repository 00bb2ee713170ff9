-- The rules that statements of a file come to, part by part (pf.conf(5), PARAMETERS, STATEFUL FILTERING and ANCHORS).
use Rattle.std.specs.Prelude.{◌≡◌, ℕ, Bool, true, false, ◌&&◌, ◌||◌, ◌==◌, not, nat_le, nat_eq, is_none, is_some, List, Option, Some, None}
use Rattle.std.specs.List.{ends_with}
use Rattle.std.specs.Option.{option_map}
use Rattle.pf_addr.specs.Addr.{IsAddr, family_of}
use Rattle.pf_addr.specs.declared.ifaces.DynIf.{DynIf}
use Rattle.pf_base.specs.declared.kind.Family.{Family}
use Rattle.pf_decl.specs.ReadBack.{is_file_name}
use Rattle.pf_expand.specs.Faults.{icmp_proto, is_tcp}
use Rattle.pf_combine.specs.Members.{family_of_test}
use Rattle.pf_expand.specs.Rules.{is_tcp_or_any}
use Rattle.pf_ops.specs.Numbers.{IsKept}
use Rattle.pf_ops.specs.declared.flags.IcmpType.{IcmpType}
use Rattle.pf_ops.specs.declared.flags.TcpFlags.{TcpFlags}
use Rattle.pf_parts.specs.CallText.{call_text}
use Rattle.pf_parts.specs.Defaults.{no_log, no_options}
use Rattle.pf_parts.specs.declared.block.BlockKind.{BlockKind}
use Rattle.pf_parts.specs.declared.block.BlockKind.TheVariants as blocks
use Rattle.pf_parts.specs.declared.matching.IfTest.{IfTest}
use Rattle.pf_parts.specs.declared.matching.IfTest.TheVariants as ifaces
use Rattle.pf_parts.specs.declared.matching.TagTest.{TagTest}
use Rattle.pf_parts.specs.declared.matching.TagTest.TheVariants as tags
use Rattle.pf_parts.specs.declared.params.Log.{Log}
use Rattle.pf_parts.specs.declared.params.Prios.{Prios}
use Rattle.pf_parts.specs.declared.params.Queues.{Queues}
use Rattle.pf_parts.specs.declared.params.Scrub.{Scrub}
use Rattle.pf_parts.specs.declared.state.Overload.{Overload}
use Rattle.pf_parts.specs.declared.state.Rate.{Rate}
use Rattle.pf_parts.specs.declared.state.StateKind.TheVariants as states
use Rattle.pf_parts.specs.declared.state.StateOptions.{StateOptions}
use Rattle.pf_print.specs.RuleText.{is_pass}
use Rattle.pf_rule.specs.Criteria.{is_tcp_or_udp}
use Rattle.pf_rule.specs.declared.criteria.AddrSet.{AddrSet}
use Rattle.pf_rule.specs.declared.criteria.AddrSet.TheVariants as sets
use Rattle.pf_rule.specs.declared.criteria.AddrTest.{AddrTest}
use Rattle.pf_rule.specs.declared.criteria.AddrTest.TheVariants as tests
use Rattle.pf_rule.specs.declared.criteria.Criteria.{Criteria}
use Rattle.pf_rule.specs.declared.effect.Action.{Action}
use Rattle.pf_rule.specs.declared.effect.Action.TheVariants as actions
use Rattle.pf_rule.specs.declared.effect.Effect.{Effect}
use Rattle.pf_rule.specs.declared.params.Params.{Params}
use Rattle.pf_rule.specs.declared.rule.Rule.{Rule}
use Rattle.pf_rule.specs.declared.translation.Target.{Target}
use Rattle.pf_word.specs.Suffixes.{first_end, network_end}
use Rattle.pf_word.specs.Tables.{is_table_name}
use Rattle.pf_word.specs.Words.{is_name}
use Rattle.pf_reread.specs.TokenText.{is_word_text}

-- what holds of a value that is given
abbrev pub if_given : {A : Type 0} → (A → Bool) → Option A → Bool
if_given test None = true
if_given test (Some value) = test value

abbrev pub IfGiven : {A : Type 0} → (A → Type 0) → Option A → Type 0
IfGiven P None = Unit {0}
IfGiven P (Some value) = P value

-- a number from the one to the other
abbrev pub in_range : ℕ → ℕ → ℕ → Bool
in_range least most n = nat_le least n && nat_le n most

abbrev pub is_byte : ℕ → Bool
is_byte n = nat_le n 255

abbrev pub is_port : ℕ → Bool
is_port n = nat_le n 65535

-- the number of a state's option
abbrev pub is_count : ℕ → Bool
is_count n = in_range 1 4294967295 n

abbrev pub is_prio : ℕ → Bool
is_prio n = nat_le n 7

abbrev pub is_written_iface : IfTest → Bool
is_written_iface ifaces.Any = true
is_written_iface (ifaces.On name negated) = is_file_name name

abbrev pub is_written_tag_test : TagTest → Bool
is_written_tag_test tags.Any = true
is_written_tag_test (tags.Is name negated) = is_file_name name

-- what of a name could be a question to the interface is one
abbrev pub asks_all : List ℕ → DynIf → Bool
asks_all name what = (not (ends_with nat_eq name network_end) || what.network) && (not (ends_with nat_eq name first_end) || what.first)

abbrev pub is_written_dynamic : DynIf → Bool
is_written_dynamic what = is_name what.name && is_word_text what.name && asks_all what.name what

-- no test of a table that the optimiser made
abbrev pub IsWrittenSet : AddrSet → Type 0
IsWrittenSet (sets.Prefix prefix) = IsAddr prefix.addr
IsWrittenSet (sets.Range range) = IsAddr range.low × IsAddr range.high
IsWrittenSet (sets.Table name) = (is_name name && is_table_name name) ≡ true
IsWrittenSet (sets.Dynamic what) = is_written_dynamic what ≡ true
IsWrittenSet (sets.Auto number) = ⊥

abbrev pub IsWrittenHost : AddrTest → Type 0
IsWrittenHost tests.Any = Unit {0}
IsWrittenHost (tests.Test negated what) = IsWrittenSet what

-- some flag is looked at
abbrev pub are_written_flags : TcpFlags → Bool
are_written_flags flags = is_byte flags.set && in_range 1 255 flags.mask

abbrev pub is_written_icmp : IcmpType → Bool
is_written_icmp icmp = is_byte icmp.kind && if_given is_byte icmp.code

-- what a rule tests, each by itself
pub record AreWrittenTests (criteria : Criteria) : Type 0 where
  pub iface : is_written_iface criteria.iface ≡ true
  pub proto : if_given is_byte criteria.proto ≡ true
  pub source : IsWrittenHost criteria.source
  pub source_port : IfGiven (IsKept 65535) criteria.source_port
  pub target : IsWrittenHost criteria.target
  pub target_port : IfGiven (IsKept 65535) criteria.target_port
  pub user : IfGiven (IsKept 4294967295) criteria.user
  pub group : IfGiven (IsKept 4294967295) criteria.group
  pub flags : if_given are_written_flags criteria.flags ≡ true
  pub icmp : if_given is_written_icmp criteria.icmp ≡ true
  pub tos : if_given is_byte criteria.tos ≡ true
  pub prio : if_given is_prio criteria.prio ≡ true
  pub tagged : is_written_tag_test criteria.tagged ≡ true

abbrev pub is_written_rate : Rate → Bool
is_written_rate rate = is_count rate.count && is_count rate.seconds

abbrev pub is_written_overload : Overload → Bool
is_written_overload overload = is_name overload.table && is_table_name overload.table

-- a table of sources stands only where a limit is given; `floating` is no option of a rule in force
pub record AreWrittenOptions (options : StateOptions) : Type 0 where
  pub max : if_given is_count options.max ≡ true
  pub max_src_nodes : if_given is_count options.max_src_nodes ≡ true
  pub max_src_states : if_given is_count options.max_src_states ≡ true
  pub max_src_conn : if_given is_count options.max_src_conn ≡ true
  pub max_src_conn_rate : if_given is_written_rate options.max_src_conn_rate ≡ true
  pub overload : if_given is_written_overload options.overload ≡ true
  pub limited : (is_some options.overload && not (is_some options.max_src_conn || is_some options.max_src_conn_rate)) ≡ false
  pub floating : options.floating ≡ false

-- where a packet isn't logged nothing says how
pub record IsWrittenLog (log : Log) : Type 0 where
  pub to : if_given is_file_name log.to ≡ true
  pub none : log.on ≡ false → log ≡ no_log

abbrev pub are_written_queues : Queues → Bool
are_written_queues queues = is_file_name queues.first && if_given is_file_name queues.second

abbrev pub are_written_prios : Prios → Bool
are_written_prios prios = is_prio prios.first && if_given is_prio prios.second

abbrev pub is_written_scrub : Scrub → Bool
is_written_scrub scrub = if_given is_byte scrub.min_ttl && if_given is_port scrub.max_mss

pub record IsWrittenTarget (target : Target) : Type 0 where
  pub addr : IsAddr target.addr
  pub port : if_given is_port target.port ≡ true

pub record AreWrittenParams (params : Params) : Type 0 where
  pub queue : if_given are_written_queues params.queue ≡ true
  pub prio : if_given are_written_prios params.prio ≡ true
  pub tos : if_given is_byte params.tos ≡ true
  pub scrub : is_written_scrub params.scrub ≡ true
  pub log : IsWrittenLog params.log
  pub nat : IfGiven IsWrittenTarget params.nat
  pub rdr : IfGiven IsWrittenTarget params.rdr

abbrev pub is_written_kind : BlockKind → Bool
is_written_kind blocks.Drop = true
is_written_kind blocks.Return = true
is_written_kind (blocks.Rst ttl) = is_byte ttl
is_written_kind (blocks.Icmp code code6) = is_byte code && is_byte code6

-- nothing is done but what an anchor rule may do
abbrev pub sets_nothing : Params → Bool
sets_nothing params =
    not params.log.on && is_none params.queue && is_none params.prio && is_none params.tos && not params.scrub.no_df && not params.scrub.random_id
    && not params.scrub.reassemble_tcp && is_none params.scrub.min_ttl && is_none params.scrub.max_mss && not params.allow_opts
    && is_none params.nat && is_none params.rdr

-- an anchor rule has a call whose text is a name, and no effect of its own
pub record IsWrittenAnchor (effect : Effect) (text : List ℕ) : Type 0 where
  pub name : is_file_name text ≡ true
  pub nothing : (sets_nothing effect.params && is_none effect.tag && is_none effect.label) ≡ true

abbrev pub translates_nothing : Params → Bool
translates_nothing params = is_none params.nat && is_none params.rdr

abbrev pub IsWrittenAction : Effect → Action → Type 0
IsWrittenAction effect actions.Pass = Unit {0}
IsWrittenAction effect actions.Match = Unit {0}
IsWrittenAction effect (actions.Block kind) = (is_written_kind kind && translates_nothing effect.params) ≡ true
IsWrittenAction effect (actions.Anchor call) = IsWrittenAnchor effect (call_text call)

-- what a rule does, each by itself; only pass rules make a state
pub record IsWrittenEffect (effect : Effect) : Type 0 where
  pub action : IsWrittenAction effect effect.action
  pub tag : if_given is_file_name effect.tag ≡ true
  pub stateless : is_pass effect.action ≡ false → effect.state ≡ states.None
  pub optionless : effect.state ≡ states.None → effect.options ≡ no_options
  pub options : AreWrittenOptions effect.options
  pub params : AreWrittenParams effect.params
  pub label : if_given is_file_name effect.label ≡ true

abbrev pub has_port : Option Target → Bool
has_port None = false
has_port (Some target) = is_some target.port

-- a port is tested or set
abbrev pub has_ports : Rule → Bool
has_ports rule =
    is_some rule.criteria.source_port || is_some rule.criteria.target_port || has_port rule.effect.params.nat || has_port rule.effect.params.rdr

-- the rule is for this protocol
abbrev pub is_for : (ℕ → Bool) → Option ℕ → Bool
is_for test None = false
is_for test (Some proto) = test proto

abbrev pub resets : Action → Bool
resets (actions.Block (blocks.Rst ttl)) = true
resets (actions.Block blocks.Drop) = false
resets (actions.Block blocks.Return) = false
resets (actions.Block (blocks.Icmp code code6)) = false
resets actions.Pass = false
resets actions.Match = false
resets (actions.Anchor call) = false

abbrev pub is_icmp_for : Option ℕ → IcmpType → Bool
is_icmp_for proto icmp = is_for (λ number. number == icmp_proto icmp.family) proto

-- the rule is of each family that a part of it names
abbrev pub IsOfFamily : Option Family → Option Family → Type 0
IsOfFamily family None = Unit {0}
IsOfFamily family (Some named) = family ≡ Some named

-- what its parts ask of the protocol, and that they name no two families
pub record Agree (rule : Rule) : Type 0 where
  pub ports : has_ports rule ≡ true → is_for is_tcp_or_udp rule.criteria.proto ≡ true
  pub icmp : if_given (is_icmp_for rule.criteria.proto) rule.criteria.icmp ≡ true
  pub flags : is_some rule.criteria.flags ≡ true → is_tcp_or_any rule.criteria.proto ≡ true
  pub reset : resets rule.effect.action ≡ true → is_for is_tcp rule.criteria.proto ≡ true
  pub nat : IsOfFamily rule.criteria.family (option_map (λ (target : Target). family_of target.addr) rule.effect.params.nat)
  pub rdr : IsOfFamily rule.criteria.family (option_map (λ (target : Target). family_of target.addr) rule.effect.params.rdr)
  pub types : IsOfFamily rule.criteria.family (option_map (λ (icmp : IcmpType). icmp.family) rule.criteria.icmp)
  pub source : IsOfFamily rule.criteria.family (family_of_test rule.criteria.source)
  pub target : IsOfFamily rule.criteria.family (family_of_test rule.criteria.target)

-- a rule that a statement of a file can come to
pub record IsWritten (rule : Rule) : Type 0 where
  pub tests : AreWrittenTests rule.criteria
  pub does : IsWrittenEffect rule.effect
  pub agree : Agree rule
