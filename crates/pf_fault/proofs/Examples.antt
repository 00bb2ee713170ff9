-- Rows of the definitions, computed.
use Rattle.std.proofs.Common.{◌≡◌, [], ◌∷◌, Some, refl}
use Rattle.std.specs.Prelude.{codes}
use Rattle.pf_base.specs.declared.fault.FaultKind.TheVariants as kinds
use Rattle.pf_base.specs.declared.fault.Place.{Place}
use Rattle.pf_fault.specs.Order.{decided, fault_at, rank}

-- a bad byte in a file goes before a word of the statement that is no address
bad_byte_first : (p q : Place) → decided (fault_at (kinds.NotAnAddress (codes "x")) p ∷ fault_at kinds.BadByte q ∷ []) ≡ Some (fault_at kinds.BadByte q)
unfolding rank
bad_byte_first p q = refl

-- of two of one kind the first stands
first_stands : (p q : Place) → decided (fault_at (kinds.NotAnAddress (codes "x")) p ∷ fault_at (kinds.NotAnAddress (codes "y")) q ∷ []) ≡ Some (fault_at (kinds.NotAnAddress (codes "x")) p)
unfolding rank
first_stands p q = refl

-- flags that are none go before flags without TCP, and behind a bad ICMP type
late_between : (p : Place) → decided (fault_at kinds.FlagsNeedTcp p ∷ fault_at kinds.BadFlags p ∷ []) ≡ Some (fault_at kinds.BadFlags p)
unfolding rank
late_between p = refl
