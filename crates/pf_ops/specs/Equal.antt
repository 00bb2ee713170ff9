-- When two sets of numbers, flags or types are one.
use Rattle.std.specs.Prelude.{◌≡◌, Option, Some, None, refl}
use Rattle.pf_base.specs.Equality.{Equality, made_of, numbers, options, pairs}
use Rattle.pf_base.specs.Kinds.{families}
use Rattle.pf_ops.specs.declared.flags.IcmpType.{IcmpType}
use Rattle.pf_ops.specs.declared.flags.TcpFlags.{TcpFlags}
use Rattle.pf_ops.specs.declared.numbers.Interval.{Interval}
use Rattle.pf_ops.specs.declared.numbers.Numbers.{Numbers}
use Rattle.pf_ops.specs.declared.numbers.Numbers.TheVariants.{Empty, One, Two}

-- the same ends
abbrev pub intervals : Equality Interval
intervals = made_of (λ part. (part.low, part.high)) (λ parts. record { low = parts.0; high = parts.1 }) (λ _. refl) (pairs numbers numbers)

-- the first interval of a set, where there is one, and the second
abbrev pub parts_of : Numbers → Option (Interval × Option Interval)
parts_of Empty = None
parts_of (One all) = Some (all, None)
parts_of (Two first last) = Some (first, Some last)

abbrev pub set_with : Option (Interval × Option Interval) → Numbers
set_with None = Empty
set_with (Some parts) = with_last parts.0 parts.1
  where
    with_last : Interval → Option Interval → Numbers
    with_last first None = One first
    with_last first (Some last) = Two first last

pub set_back : (set : Numbers) → set_with (parts_of set) ≡ set
set_back Empty = refl
set_back (One all) = refl
set_back (Two first last) = refl

-- as many intervals, and the same ones
abbrev pub sets : Equality Numbers
sets = made_of parts_of set_with set_back (options (pairs intervals (options intervals)))

-- the same set and the same mask
abbrev pub tcp_flags : Equality TcpFlags
tcp_flags = made_of (λ flags. (flags.set, flags.mask)) (λ parts. record { set = parts.0; mask = parts.1 }) (λ _. refl) (pairs numbers numbers)

-- the same family, type and code
abbrev pub icmp_types : Equality IcmpType
icmp_types =
    made_of (λ icmp. (icmp.family, (icmp.kind, icmp.code))) (λ parts. record { family = parts.0; kind = parts.1.0; code = parts.1.1 }) (λ _. refl)
    (pairs families (pairs numbers (options numbers)))
