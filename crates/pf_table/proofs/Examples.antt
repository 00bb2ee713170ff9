-- A table computed by its definition.
use Rattle.std.proofs.Common.{◌≡◌, true, false, [], ◌∷◌, refl, lit≤}
use Rattle.pf_addr.specs.declared.addr.Addr.TheVariants.{V4, V6}
use Rattle.pf_table.specs.declared.entry.Entry.{Entry}
use Rattle.pf_table.specs.Table.{member}

-- 10/8, !10.1/16 and 10.1.2/24
wide : Entry
wide = record { prefix = record { addr = V4 167772160; len = 8; fits = lit≤ tt; no_host_bits = refl }; negated = false }

middle : Entry
middle = record { prefix = record { addr = V4 167837696; len = 16; fits = lit≤ tt; no_host_bits = refl }; negated = true }

narrow : Entry
narrow = record { prefix = record { addr = V4 167838208; len = 24; fits = lit≤ tt; no_host_bits = refl }; negated = false }

-- 10.1.2.3 is in the table, 10.1.3.1 and 11.0.0.1 are not, in whatever order the entries stand
in_narrow : member (wide ∷ middle ∷ narrow ∷ []) (V4 167838211) ≡ true
unfolding wide middle narrow
in_narrow = refl

in_narrow_turned : member (narrow ∷ middle ∷ wide ∷ []) (V4 167838211) ≡ true
unfolding wide middle narrow
in_narrow_turned = refl

in_middle : member (wide ∷ middle ∷ narrow ∷ []) (V4 167838465) ≡ false
unfolding wide middle narrow
in_middle = refl

in_none : member (wide ∷ middle ∷ narrow ∷ []) (V4 184549377) ≡ false
unfolding wide middle narrow
in_none = refl

other_family : member (wide ∷ middle ∷ narrow ∷ []) (V6 167838211) ≡ false
unfolding wide middle narrow
other_family = refl
