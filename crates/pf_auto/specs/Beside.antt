-- What a rule is beside the test at one end, as a key: two keys are equal where the rules are. What is hashed of it are its
-- skip fields, its users, groups and tag.
use Rattle.std.specs.Prelude.{◌≡◌, ◌++◌, IsTrue, Option, None, Some, refl}
use Rattle.std.proofs.Common.{ap}
use Rattle.std.specs.Hash.{HashWrites, bool, slice, u32, u8}
use Rattle.pf_auto.specs.declared.beside.Beside.{Beside}
use Rattle.pf_base.specs.Equality.{Equality, made_of}
use Rattle.pf_ops.specs.declared.numbers.Numbers.{Numbers}
use Rattle.pf_ops.specs.declared.numbers.Numbers.TheVariants.{Empty, One, Two}
use Rattle.pf_parts.specs.declared.matching.TagTest.{TagTest}
use Rattle.pf_parts.specs.declared.matching.TagTest.TheVariants as tag
use Rattle.pf_rule.specs.Equal.{rules}
use Rattle.pf_rule.specs.FieldHash.{field_input}
use Rattle.pf_rule.specs.declared.criteria.Criteria.{Criteria}
use Rattle.pf_rule.specs.declared.field.FieldValue.TheVariants as field
use Rattle.pf_rule.specs.declared.rule.Rule.{Rule}

abbrev pub keyed : Rule → Beside
keyed rule = record { rule = rule }

abbrev pub besides : Equality Beside
besides = made_of (λ one. one.rule) keyed (λ _. refl) rules

abbrev pub owners_input : Option Numbers → HashWrites
owners_input None = u8 0
owners_input (Some Empty) = u8 1
owners_input (Some (One all)) = u8 2 ++ u32 all.low ++ u32 all.high
owners_input (Some (Two first last)) = u8 3 ++ u32 first.high ++ u32 last.low

abbrev pub tag_input : TagTest → HashWrites
tag_input tag.Any = u8 0
tag_input (tag.Is name negated) = u8 1 ++ slice u8 name ++ bool negated

unfoldable pub criteria_input : Criteria → HashWrites
criteria_input criteria =
    field_input (field.Interface criteria.iface)
    ++ field_input (field.Direction criteria.direction)
    ++ field_input (field.Family criteria.family)
    ++ field_input (field.Protocol criteria.proto)
    ++ field_input (field.Address criteria.source)
    ++ field_input (field.Port criteria.source_port)
    ++ field_input (field.Address criteria.target)
    ++ field_input (field.Port criteria.target_port)
    ++ owners_input criteria.user
    ++ owners_input criteria.group
    ++ tag_input criteria.tagged

abbrev pub beside_input : Beside → HashWrites
beside_input one = criteria_input one.rule.criteria

pub inputs_alike : (one other : Beside) → IsTrue (besides.same one other) → beside_input one ≡ beside_input other
inputs_alike one other same = ap beside_input ((besides.decides one other).0 same)
