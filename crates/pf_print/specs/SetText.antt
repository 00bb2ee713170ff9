-- How a test of ports, users or groups is printed (pf.conf(5), PARAMETERS, `port`, `user`, `group`).
use Rattle.std.specs.Prelude.{ℕ, ◌+◌, ◌-◌, ◌==◌, List, ◌++◌, codes, decimal, if◌then◌else◌}
use Rattle.pf_ops.specs.declared.numbers.Interval.{Interval}
use Rattle.pf_ops.specs.declared.numbers.Numbers.{Numbers}
use Rattle.pf_ops.specs.declared.numbers.Numbers.TheVariants.{Empty, One, Two}

-- `= a` for one number, else `a:b`
abbrev pub interval_text : Interval → List ℕ
interval_text all = if all.low == all.high then codes "= " ++ decimal all.low else decimal all.low ++ codes ":" ++ decimal all.high

-- what lies between two numbers: `!= a` where it is one number, else `a<>b`, which are the numbers below a and those above b
abbrev pub gap_text : ℕ → ℕ → List ℕ
gap_text low high = if low == high then codes "!= " ++ decimal low else decimal low ++ codes "<>" ++ decimal high

-- of the numbers up to `top`
unfoldable pub set_text : ℕ → Numbers → List ℕ
set_text top Empty = codes "0<>" ++ decimal top
set_text top (One all) = interval_text all
set_text top (Two first last) = gap_text (first.high + 1) (last.low - 1)

-- the greatest port
abbrev pub top_port : ℕ
top_port = 65535

-- the greatest number of a user or a group
abbrev pub top_id : ℕ
top_id = 4294967295
