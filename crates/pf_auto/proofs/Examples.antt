-- Rows of the definition, computed: six addresses become one table, five stay as they are.
use Rattle.std.proofs.Common.{◌≡◌, ℕ, true, false, List, [], ◌∷◌, map, Some, None, refl}
use Rattle.std.specs.List.{zip}
use Rattle.pf_addr.specs.Prefix.{whole}
use Rattle.pf_addr.specs.declared.addr.Addr.TheVariants.{V4}
use Rattle.pf_auto.specs.Merged.{are_mates, merged_from, merged_rule}
use Rattle.pf_auto.specs.declared.place.End.TheVariants.{Source}
use Rattle.pf_base.specs.declared.kind.Family.TheVariants.{Inet}
use Rattle.pf_parts.specs.Defaults.{no_options}
use Rattle.pf_parts.specs.Equal as parts
use Rattle.pf_parts.specs.declared.matching.IfTest.TheVariants as interface
use Rattle.pf_parts.specs.declared.matching.TagTest.TheVariants as tag
use Rattle.pf_parts.specs.declared.state.StateKind.TheVariants as state
use Rattle.pf_rule.specs.Equal as equal
use Rattle.pf_rule.specs.Opening.{no_params}
use Rattle.pf_rule.specs.declared.criteria.AddrSet.TheVariants.{Prefix}
use Rattle.pf_rule.specs.declared.criteria.AddrTest.TheVariants.{Any, Test}
use Rattle.pf_rule.specs.declared.effect.Action.TheVariants.{Pass}
use Rattle.pf_rule.specs.declared.rule.Rule.{Rule}

-- `pass quick inet from 10.0.0.n no state`, by the address's number
pass_from : ℕ → Rule
pass_from n = record {
  criteria = record {
    iface = interface.Any;
    direction = None;
    family = Some Inet;
    proto = None;
    source = Test false (Prefix (whole (V4 n)));
    source_port = None;
    target = Any;
    target_port = None;
    user = None;
    group = None;
    flags = None;
    icmp = None;
    tos = None;
    prio = None;
    tagged = tag.Any;
  };
  effect = record { action = Pass; quick = true; tag = None; state = state.None; options = no_options; params = no_params; label = None };
}

five : List Rule
five = map pass_from (3 ∷ 1 ∷ 4 ∷ 2 ∷ 5 ∷ [])

six : List Rule
six = map pass_from (3 ∷ 1 ∷ 4 ∷ 2 ∷ 5 ∷ 1 ∷ [])

five_stay : (merged_from 0 (zip five (1 ∷ 1 ∷ 1 ∷ 1 ∷ 1 ∷ []))).items ≡ zip five (1 ∷ 1 ∷ 1 ∷ 1 ∷ 1 ∷ [])
unfolding merged_from are_mates five pass_from equal.rules equal.criteria_of_rules equal.effects equal.params_of_rules parts.options_of_states parts.scrubs parts.logs
five_stay = refl

six_are_one : (merged_from 0 (zip six (1 ∷ 2 ∷ 3 ∷ 4 ∷ 5 ∷ 6 ∷ []))).items ≡ (merged_rule Source 0 (pass_from 3), 21) ∷ []
unfolding merged_from are_mates six pass_from equal.rules equal.criteria_of_rules equal.effects equal.params_of_rules parts.options_of_states parts.scrubs parts.logs
six_are_one = refl
