-- A range as a set of addresses.
use Rattle.std.specs.Prelude.{◌≡◌, ◌<◌, Bool, ◌&&◌, nat_le}
use Rattle.pf_addr.specs.declared.addr.Addr.{Addr}
use Rattle.pf_addr.specs.declared.range.Range.{Range}
use Rattle.pf_addr.specs.Addr.{SameFamily, number, same_family}

-- the address is in the range
abbrev pub contains : Range → Addr → Bool
contains r a = same_family r.low a && (nat_le (number r.low) (number a) && nat_le (number a) (number r.high))

-- the range from the one address to the other
pub record HasEnds (low high : Addr) (r : Range) : Type 0 where
  pub low_end : r.low ≡ low
  pub high_end : r.high ≡ high

-- two addresses of one family, the first above the second
pub record OutOfOrder (low high : Addr) : Type 0 where
  pub one_family : SameFamily low high
  pub above : number high < number low
