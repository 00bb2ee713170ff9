-- What is hashed of the value of a skip field: a number of its kind, and what it is made of. Equal values are hashed alike.
use Rattle.std.specs.Prelude.{◌≡◌, ◌++◌, None, Some, IsTrue}
use Rattle.std.proofs.Common.{ap, sym}
use Rattle.std.specs.Cmp.{IsEquivalence, both_ways}
use Rattle.std.specs.Hash.{HashWrites, bool, slice, u32, u8}
use Rattle.pf_addr.specs.PrefixOrder.{prefix_input}
use Rattle.pf_addr.specs.RangeOrder.{range_input}
use Rattle.pf_base.specs.Equality.{Equality}
use Rattle.pf_base.specs.declared.kind.Family.TheVariants.{Inet, Inet6}
use Rattle.pf_ops.specs.declared.numbers.Numbers.{Numbers}
use Rattle.pf_ops.specs.declared.numbers.Numbers.TheVariants.{Empty, One, Two}
use Rattle.pf_parts.specs.declared.direction.Direction.TheVariants.{In, Out}
use Rattle.pf_parts.specs.declared.matching.IfTest.TheVariants as interface
use Rattle.pf_rule.specs.Equal.{skip_values}
use Rattle.pf_rule.specs.declared.criteria.AddrSet.{AddrSet}
use Rattle.pf_rule.specs.declared.criteria.AddrSet.TheVariants as set
use Rattle.pf_rule.specs.declared.criteria.AddrTest.TheVariants as address
use Rattle.pf_rule.specs.declared.field.FieldValue.{FieldValue}
use Rattle.pf_rule.specs.declared.field.FieldValue.TheVariants as field

abbrev pub set_input : AddrSet → HashWrites
set_input (set.Prefix prefix) = u8 0 ++ prefix_input prefix
set_input (set.Range range) = u8 1 ++ range_input range
set_input (set.Table name) = u8 2 ++ slice u8 name
set_input (set.Dynamic what) = u8 3 ++ slice u8 what.name ++ bool what.network ++ bool what.first
set_input (set.Auto number) = u8 4 ++ u32 number

abbrev pub numbers_input : Numbers → HashWrites
numbers_input Empty = u8 0
numbers_input (One all) = u8 1 ++ u32 all.low ++ u32 all.high
numbers_input (Two first last) = u8 2 ++ u32 first.high ++ u32 last.low

abbrev pub field_input : FieldValue → HashWrites
field_input (field.Interface interface.Any) = u8 0
field_input (field.Interface (interface.On name negated)) = u8 1 ++ slice u8 name ++ bool negated
field_input (field.Direction None) = u8 2
field_input (field.Direction (Some In)) = u8 3
field_input (field.Direction (Some Out)) = u8 4
field_input (field.Family None) = u8 5
field_input (field.Family (Some Inet)) = u8 6
field_input (field.Family (Some Inet6)) = u8 7
field_input (field.Protocol None) = u8 8
field_input (field.Protocol (Some proto)) = u8 9 ++ u8 proto
field_input (field.Address address.Any) = u8 10
field_input (field.Address (address.Test negated what)) = u8 11 ++ bool negated ++ set_input what
field_input (field.Port None) = u8 12
field_input (field.Port (Some numbers)) = u8 13 ++ numbers_input numbers

pub field_alike : (one other : FieldValue) → IsTrue (skip_values.same one other) → field_input one ≡ field_input other
field_alike one other same = ap field_input ((skip_values.decides one other).0 same)

-- a decided equality is an equivalence
pub equality_laws : {A : Type 0} (equal : Equality A) → IsEquivalence equal.same
equality_laws equal = record {
  refl = λ x. (equal.decides x x).1 (λ i. x);
  symm = λ x y. both_ways (equal.same x y) (equal.same y x) (λ h. (equal.decides y x).1 (sym ((equal.decides x y).0 h))) (λ h. (equal.decides x y).1 (sym ((equal.decides y x).0 h)));
  congr = λ x y z h. ap (λ t. equal.same t z) ((equal.decides x y).0 h);
}
