-- When two rules, or two of their parts, are one: a value is told by the values that it is made of.
use Rattle.std.specs.Prelude.{◌≡◌, ℕ, Bool, true, false, ◌⊎◌, List, Option, Some, None, refl}
use Rattle.std.proofs.Common.{inl, inr}
use Rattle.pf_addr.specs.AddrOrder.{addrs}
use Rattle.pf_addr.specs.Dynamic.{dynamics}
use Rattle.pf_addr.specs.PrefixOrder.{prefixes}
use Rattle.pf_addr.specs.RangeOrder.{ranges}
use Rattle.pf_addr.specs.declared.ifaces.DynIf.{DynIf}
use Rattle.pf_addr.specs.declared.prefix.Prefix.{Prefix}
use Rattle.pf_addr.specs.declared.range.Range.{Range}
use Rattle.pf_base.specs.Equality.{Equality, made_of, numbers, options, pairs, sums, truths}
use Rattle.pf_base.specs.Kinds.{families}
use Rattle.pf_base.specs.declared.kind.Family.{Family}
use Rattle.pf_ops.specs.Equal.{icmp_types, sets, tcp_flags}
use Rattle.pf_ops.specs.declared.numbers.Numbers.{Numbers}
use Rattle.pf_parts.specs.Equal.{block_kinds, calls, directions, interface_tests, logs, names, options_of_states, prio_pairs, queue_pairs, scrubs, states, tag_tests}
use Rattle.pf_parts.specs.declared.block.BlockKind.{BlockKind}
use Rattle.pf_parts.specs.declared.call.Call.{Call}
use Rattle.pf_parts.specs.declared.direction.Direction.{Direction}
use Rattle.pf_parts.specs.declared.matching.IfTest.{IfTest}
use Rattle.pf_rule.specs.declared.criteria.AddrSet.{AddrSet}
use Rattle.pf_rule.specs.declared.criteria.AddrSet.TheVariants as set
use Rattle.pf_rule.specs.declared.criteria.AddrTest.{AddrTest}
use Rattle.pf_rule.specs.declared.criteria.AddrTest.TheVariants as address
use Rattle.pf_rule.specs.declared.criteria.Criteria.{Criteria}
use Rattle.pf_rule.specs.declared.effect.Action.{Action}
use Rattle.pf_rule.specs.declared.effect.Action.TheVariants.{Pass, Block, Match, Anchor}
use Rattle.pf_rule.specs.declared.effect.Effect.{Effect}
use Rattle.pf_rule.specs.declared.field.FieldValue.{FieldValue}
use Rattle.pf_rule.specs.declared.field.FieldValue.TheVariants as field
use Rattle.pf_rule.specs.declared.params.Params.{Params}
use Rattle.pf_rule.specs.declared.rule.Rule.{Rule}
use Rattle.pf_rule.specs.declared.translation.Target.{Target}

-- a set of addresses: by its kind, and what it is made of
abbrev pub set_parts : AddrSet → (Prefix ⊎ Range) ⊎ (List ℕ ⊎ (DynIf ⊎ ℕ))
set_parts (set.Prefix prefix) = inl (inl prefix)
set_parts (set.Range range) = inl (inr range)
set_parts (set.Table name) = inr (inl name)
set_parts (set.Dynamic what) = inr (inr (inl what))
set_parts (set.Auto number) = inr (inr (inr number))

abbrev pub set_of : (Prefix ⊎ Range) ⊎ (List ℕ ⊎ (DynIf ⊎ ℕ)) → AddrSet
set_of (inl (inl prefix)) = set.Prefix prefix
set_of (inl (inr range)) = set.Range range
set_of (inr (inl name)) = set.Table name
set_of (inr (inr (inl what))) = set.Dynamic what
set_of (inr (inr (inr number))) = set.Auto number

pub set_back : (what : AddrSet) → set_of (set_parts what) ≡ what
set_back (set.Prefix prefix) = refl
set_back (set.Range range) = refl
set_back (set.Table name) = refl
set_back (set.Dynamic what) = refl
set_back (set.Auto number) = refl

abbrev pub address_sets : Equality AddrSet
address_sets = made_of set_parts set_of set_back (sums (sums prefixes ranges) (sums names (sums dynamics numbers)))

-- a test of an address: none, or a set and whether it is negated
abbrev pub address_parts : AddrTest → Option (Bool × AddrSet)
address_parts address.Any = None
address_parts (address.Test negated what) = Some (negated, what)

abbrev pub address_of : Option (Bool × AddrSet) → AddrTest
address_of None = address.Any
address_of (Some parts) = address.Test parts.0 parts.1

pub address_back : (test : AddrTest) → address_of (address_parts test) ≡ test
address_back address.Any = refl
address_back (address.Test negated what) = refl

abbrev pub address_tests : Equality AddrTest
address_tests = made_of address_parts address_of address_back (options (pairs truths address_sets))

-- the value of a skip field: by its kind, and what it is made of
abbrev pub field_parts : FieldValue → (IfTest ⊎ Option Direction) ⊎ ((Option Family ⊎ Option ℕ) ⊎ (AddrTest ⊎ Option Numbers))
field_parts (field.Interface test) = inl (inl test)
field_parts (field.Direction direction) = inl (inr direction)
field_parts (field.Family family) = inr (inl (inl family))
field_parts (field.Protocol proto) = inr (inl (inr proto))
field_parts (field.Address test) = inr (inr (inl test))
field_parts (field.Port set) = inr (inr (inr set))

abbrev pub field_of : (IfTest ⊎ Option Direction) ⊎ ((Option Family ⊎ Option ℕ) ⊎ (AddrTest ⊎ Option Numbers)) → FieldValue
field_of (inl (inl test)) = field.Interface test
field_of (inl (inr direction)) = field.Direction direction
field_of (inr (inl (inl family))) = field.Family family
field_of (inr (inl (inr proto))) = field.Protocol proto
field_of (inr (inr (inl test))) = field.Address test
field_of (inr (inr (inr set))) = field.Port set

pub field_back : (value : FieldValue) → field_of (field_parts value) ≡ value
field_back (field.Interface test) = refl
field_back (field.Direction direction) = refl
field_back (field.Family family) = refl
field_back (field.Protocol proto) = refl
field_back (field.Address test) = refl
field_back (field.Port set) = refl

abbrev pub skip_values : Equality FieldValue
skip_values =
    made_of field_parts field_of field_back
    (sums (sums interface_tests (options directions)) (sums (sums (options families) (options numbers)) (sums address_tests (options sets))))

-- criteria: those of the skip fields, and the others
unfoldable pub criteria_of_rules : Equality Criteria
criteria_of_rules =
    made_of
    (λ c. ((c.iface, (c.direction, (c.family, (c.proto, (c.source, (c.source_port, (c.target, c.target_port))))))), (c.user, (c.group, (c.flags, (c.icmp, (c.tos, (c.prio, c.tagged))))))))
    (λ p. record {
      iface = p.0.0;
      direction = p.0.1.0;
      family = p.0.1.1.0;
      proto = p.0.1.1.1.0;
      source = p.0.1.1.1.1.0;
      source_port = p.0.1.1.1.1.1.0;
      target = p.0.1.1.1.1.1.1.0;
      target_port = p.0.1.1.1.1.1.1.1;
      user = p.1.0;
      group = p.1.1.0;
      flags = p.1.1.1.0;
      icmp = p.1.1.1.1.0;
      tos = p.1.1.1.1.1.0;
      prio = p.1.1.1.1.1.1.0;
      tagged = p.1.1.1.1.1.1.1;
    })
    (λ _. refl)
    (pairs
    (pairs interface_tests (pairs (options directions) (pairs (options families) (pairs (options numbers) (pairs address_tests (pairs (options sets) (pairs address_tests (options sets))))))))
    (pairs (options sets) (pairs (options sets) (pairs (options tcp_flags) (pairs (options icmp_types) (pairs (options numbers) (pairs (options numbers) tag_tests)))))))

abbrev pub targets : Equality Target
targets = made_of (λ target. (target.addr, target.port)) (λ parts. record { addr = parts.0; port = parts.1 }) (λ _. refl) (pairs addrs (options numbers))

-- parameters
unfoldable pub params_of_rules : Equality Params
params_of_rules =
    made_of
    (λ s. (s.queue, (s.prio, (s.tos, (s.scrub, (s.log, (s.allow_opts, (s.nat, s.rdr))))))))
    (λ p. record { queue = p.0; prio = p.1.0; tos = p.1.1.0; scrub = p.1.1.1.0; log = p.1.1.1.1.0; allow_opts = p.1.1.1.1.1.0; nat = p.1.1.1.1.1.1.0; rdr = p.1.1.1.1.1.1.1 })
    (λ _. refl)
    (pairs (options queue_pairs) (pairs (options prio_pairs) (pairs (options numbers) (pairs scrubs (pairs logs (pairs truths (pairs (options targets) (options targets))))))))

-- actions: those without a value, a block and an anchor
abbrev pub action_parts : Action → Bool ⊎ (BlockKind ⊎ Call)
action_parts Pass = inl true
action_parts Match = inl false
action_parts (Block kind) = inr (inl kind)
action_parts (Anchor call) = inr (inr call)

abbrev pub action_of : Bool ⊎ (BlockKind ⊎ Call) → Action
action_of (inl true) = Pass
action_of (inl false) = Match
action_of (inr (inl kind)) = Block kind
action_of (inr (inr call)) = Anchor call

pub action_back : (action : Action) → action_of (action_parts action) ≡ action
action_back Pass = refl
action_back Match = refl
action_back (Block kind) = refl
action_back (Anchor call) = refl

abbrev pub actions : Equality Action
actions = made_of action_parts action_of action_back (sums truths (sums block_kinds calls))

unfoldable pub effects : Equality Effect
effects =
    made_of
    (λ e. (e.action, (e.quick, (e.tag, (e.state, (e.options, (e.params, e.label)))))))
    (λ p. record { action = p.0; quick = p.1.0; tag = p.1.1.0; state = p.1.1.1.0; options = p.1.1.1.1.0; params = p.1.1.1.1.1.0; label = p.1.1.1.1.1.1 })
    (λ _. refl)
    (pairs actions (pairs truths (pairs (options names) (pairs states (pairs options_of_states (pairs params_of_rules (options names)))))))

unfoldable pub rules : Equality Rule
rules = made_of (λ rule. (rule.criteria, rule.effect)) (λ p. record { criteria = p.0; effect = p.1 }) (λ _. refl) (pairs criteria_of_rules effects)
