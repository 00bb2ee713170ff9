-- Stretches of the addresses of a family, and those of prefixes and ranges.
use Rattle.std.specs.Prelude.{◌+◌, ◌-◌, ◌^◌, ◌<◌, ◌≤◌, Bool, ◌&&◌, ◌==◌, nat_le, IsTrue}
use Rattle.pf_addr.specs.declared.addr.Addr.{Addr}
use Rattle.pf_addr.specs.declared.prefix.Prefix.{Prefix}
use Rattle.pf_addr.specs.declared.range.Range.{Range}
use Rattle.pf_addr.specs.declared.stretch.Stretch.{Stretch}
use Rattle.pf_addr.specs.Addr.{IsAddr, bits_of, family_of, is_of_family, number, width}

-- the address is in the stretch
abbrev pub contains : Stretch → Addr → Bool
contains s a = is_of_family s.family a && (nat_le s.low (number a) && nat_le (number a) s.high)

-- the numbers are in order, and are those of addresses of the family
pub record IsStretch (s : Stretch) : Type 0 where
  pub in_order : s.low ≤ s.high
  pub fits : s.high < 2 ^ bits_of s.family

-- each address of the other stretch is in this one
abbrev pub EnclosesAll : Stretch → Stretch → Type 0
EnclosesAll s t = (a : Addr) → IsAddr a → IsTrue (contains t a) → IsTrue (contains s a)

-- one family, and both ends of the other between the ends of this one
abbrev pub encloses : Stretch → Stretch → Bool
encloses s t = (bits_of s.family == bits_of t.family) && (nat_le s.low t.low && nat_le t.high s.high)

-- the addresses of a prefix: from its own to that with ones in place of the host bits
abbrev pub prefix_stretch : Prefix → Stretch
prefix_stretch p = record { family = family_of p.addr; low = number p.addr; high = number p.addr + (2 ^ (width p.addr - p.len) - 1) }

-- the addresses of a range
abbrev pub range_stretch : Range → Stretch
range_stretch r = record { family = family_of r.low; low = number r.low; high = number r.high }
