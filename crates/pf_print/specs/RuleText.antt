-- How a rule is printed (pf.conf(5), GRAMMAR, `pf-rule`): its action, and then each part that it has, with a space before it.
use Rattle.std.specs.Prelude.{ℕ, Bool, true, false, ◌&&◌, ◌==◌, List, [], ◌∷◌, ◌++◌, Option, Some, None, codes, decimal, if◌then◌else◌}
use Rattle.std.specs.List.{flat_map}
use Rattle.std.specs.Option.{option_map, unwrap_or}
use Rattle.pf_base.specs.declared.kind.Family.{Family}
use Rattle.pf_base.specs.declared.kind.Family.TheVariants.{Inet, Inet6}
use Rattle.pf_ops.specs.declared.flags.IcmpType.{IcmpType}
use Rattle.pf_ops.specs.declared.flags.TcpFlags.{TcpFlags}
use Rattle.pf_ops.specs.declared.numbers.Numbers.{Numbers}
use Rattle.pf_ops.specs.Words.{letters_of, protocols, word_of}
use Rattle.pf_parts.specs.BlockText.{block_text}
use Rattle.pf_parts.specs.CallText.{call_text}
use Rattle.pf_parts.specs.NameText.{name_text, quoted}
use Rattle.pf_parts.specs.ParamText.{label_text, log_text, prio_text, queue_text, scrub_text, tag_text}
use Rattle.pf_parts.specs.Parts.{spaced, with_number, word_if}
use Rattle.pf_parts.specs.StateText.{state_text}
use Rattle.pf_parts.specs.declared.direction.Direction.{Direction}
use Rattle.pf_parts.specs.declared.direction.Direction.TheVariants.{In, Out}
use Rattle.pf_parts.specs.declared.matching.IfTest.{IfTest}
use Rattle.pf_parts.specs.declared.matching.IfTest.TheVariants as ifaces
use Rattle.pf_parts.specs.declared.matching.TagTest.{TagTest}
use Rattle.pf_parts.specs.declared.matching.TagTest.TheVariants as tags
use Rattle.pf_parts.specs.declared.state.StateKind.{StateKind}
use Rattle.pf_parts.specs.declared.state.StateKind.TheVariants as states
use Rattle.pf_record.specs.TranslationText.{nat_text, rdr_text}
use Rattle.pf_rule.specs.Criteria.{tcp}
use Rattle.pf_rule.specs.declared.criteria.Criteria.{Criteria}
use Rattle.pf_rule.specs.declared.effect.Action.{Action}
use Rattle.pf_rule.specs.declared.effect.Action.TheVariants as actions
use Rattle.pf_rule.specs.declared.effect.Effect.{Effect}
use Rattle.pf_rule.specs.declared.rule.Rule.{Rule}
use Rattle.pf_print.specs.HostText.{hosts_text, text_if}
use Rattle.pf_print.specs.SetText.{set_text, top_id}

-- the name of an anchor is its call's text, always in quotes
unfoldable pub action_text : Action → List ℕ
action_text actions.Pass = codes "pass"
action_text actions.Match = codes "match"
action_text (actions.Block kind) = codes "block " ++ block_text kind
action_text (actions.Anchor call) = codes "anchor " ++ quoted (call_text call)

abbrev pub direction_text : Direction → List ℕ
direction_text In = codes "in"
direction_text Out = codes "out"

abbrev pub iface_text : IfTest → Option (List ℕ)
iface_text ifaces.Any = None
iface_text (ifaces.On name negated) = Some (codes "on " ++ text_if negated (codes "! ") ++ name_text name)

abbrev pub family_text : Family → List ℕ
family_text Inet = codes "inet"
family_text Inet6 = codes "inet6"

-- its name, or its number where it has none
unfoldable pub proto_text : ℕ → List ℕ
proto_text number = codes "proto " ++ unwrap_or (word_of protocols number) (decimal number)

-- a word and a set of users or groups
abbrev pub ids_text : List ℕ → Numbers → List ℕ
ids_text word ids = word ++ set_text top_id ids

abbrev pub tested_flags_text : TcpFlags → List ℕ
tested_flags_text flags = codes "flags " ++ letters_of flags.set ++ codes "/" ++ letters_of flags.mask

abbrev pub is_pass : Action → Bool
is_pass actions.Pass = true
is_pass actions.Match = false
is_pass (actions.Block kind) = false
is_pass (actions.Anchor call) = false

abbrev pub makes_state : StateKind → Bool
makes_state states.None = false
makes_state states.Keep = true
makes_state states.Modulate = true
makes_state states.Synproxy = true

abbrev pub is_tcp_or_any : Option ℕ → Bool
is_tcp_or_any None = true
is_tcp_or_any (Some proto) = proto == tcp

-- a rule that passes, makes a state and is for TCP or any protocol: without `flags` it would be read with `flags S/SA`
abbrev pub needs_flags : Criteria → Effect → Bool
needs_flags criteria effect = is_pass effect.action && makes_state effect.state && is_tcp_or_any criteria.proto

abbrev pub flags_or_any : Option TcpFlags → Bool → Option (List ℕ)
flags_or_any (Some flags) needs = Some (tested_flags_text flags)
flags_or_any None needs = word_if needs (codes "flags any")

abbrev pub flags_text : Criteria → Effect → Option (List ℕ)
flags_text criteria effect = flags_or_any criteria.flags (needs_flags criteria effect)

abbrev pub icmp_word : Family → List ℕ
icmp_word Inet = codes "icmp-type "
icmp_word Inet6 = codes "icmp6-type "

abbrev pub code_text : Option ℕ → List ℕ
code_text None = []
code_text (Some code) = codes " code " ++ decimal code

unfoldable pub icmp_text : IcmpType → List ℕ
icmp_text icmp = icmp_word icmp.family ++ decimal icmp.kind ++ code_text icmp.code

abbrev pub tagged_text : TagTest → Option (List ℕ)
tagged_text tags.Any = None
tagged_text (tags.Is name negated) = Some (text_if negated (codes "! ") ++ codes "tagged " ++ name_text name)

-- the state that a rule makes which passes packets
abbrev pub state_part : Effect → Option (List ℕ)
state_part effect = if is_pass effect.action then Some (state_text effect.state effect.options) else None

-- a part of `set`
abbrev pub setting_text : List ℕ → List ℕ
setting_text part = codes "set " ++ part

-- what stands before the hosts
abbrev pub front_parts : Rule → List (Option (List ℕ))
front_parts rule =
    option_map direction_text rule.criteria.direction
    ∷ log_text rule.effect.params.log
    ∷ word_if rule.effect.quick (codes "quick")
    ∷ iface_text rule.criteria.iface
    ∷ option_map family_text rule.criteria.family
    ∷ option_map proto_text rule.criteria.proto
    ∷ []

-- the hosts, and the users and groups of the sockets
abbrev pub end_parts : Criteria → List (Option (List ℕ))
end_parts criteria =
    Some (hosts_text criteria)
    ∷ option_map (ids_text (codes "user ")) criteria.user
    ∷ option_map (ids_text (codes "group ")) criteria.group
    ∷ []

-- what else is tested
abbrev pub mark_parts : Criteria → Effect → List (Option (List ℕ))
mark_parts criteria effect =
    flags_text criteria effect
    ∷ option_map icmp_text criteria.icmp
    ∷ with_number (codes "tos") criteria.tos
    ∷ with_number (codes "prio") criteria.prio
    ∷ tagged_text criteria.tagged
    ∷ []

-- the tag, the state and what the rule sets
abbrev pub set_parts : Effect → List (Option (List ℕ))
set_parts effect =
    option_map tag_text effect.tag
    ∷ state_part effect
    ∷ option_map (λ queues. setting_text (queue_text queues)) effect.params.queue
    ∷ option_map (λ prios. setting_text (prio_text prios)) effect.params.prio
    ∷ with_number (codes "set tos") effect.params.tos
    ∷ []

-- what else the rule does
abbrev pub change_parts : Effect → List (Option (List ℕ))
change_parts effect =
    scrub_text effect.params.scrub
    ∷ option_map nat_text effect.params.nat
    ∷ option_map rdr_text effect.params.rdr
    ∷ word_if effect.params.allow_opts (codes "allow-opts")
    ∷ option_map label_text effect.label
    ∷ []

-- parts, those that stand with a space before each
abbrev pub parts_text : List (Option (List ℕ)) → List ℕ
parts_text [] = []
parts_text (part ∷ parts) = spaced part ++ parts_text parts

-- what the rule tests, and what it does
abbrev pub tests_text : Rule → List ℕ
tests_text rule = parts_text (front_parts rule) ++ parts_text (end_parts rule.criteria) ++ parts_text (mark_parts rule.criteria rule.effect)

abbrev pub effect_text : Effect → List ℕ
effect_text effect = parts_text (set_parts effect) ++ parts_text (change_parts effect)

unfoldable pub rule_text : Rule → List ℕ
rule_text rule = action_text rule.effect.action ++ tests_text rule ++ effect_text rule.effect
