-- The eight skip fields of a rule, in the order of their numbers: 0 interface, 1 direction, 2 family, 3 protocol,
-- 4 source address, 5 source port, 6 target address, 7 target port.
use Rattle.std.specs.Prelude.{◌≡◌, ℕ, List, [], ◌∷◌, slice_get}
use Rattle.pf_rule.specs.declared.criteria.Criteria.{Criteria}
use Rattle.pf_rule.specs.declared.field.FieldValue.{FieldValue}
use Rattle.pf_rule.specs.declared.field.FieldValue.TheVariants.{Interface, Direction, Family, Protocol, Address, Port}

-- the value of each
abbrev pub field_values : Criteria → List FieldValue
field_values criteria =
    Interface criteria.iface
    ∷ Direction criteria.direction
    ∷ Family criteria.family
    ∷ Protocol criteria.proto
    ∷ Address criteria.source
    ∷ Port criteria.source_port
    ∷ Address criteria.target
    ∷ Port criteria.target_port
    ∷ []

-- the criteria are equal in the field with this number
abbrev pub AgreeIn : ℕ → Criteria → Criteria → Type 0
AgreeIn field one other = slice_get (field_values one) field ≡ slice_get (field_values other) field
