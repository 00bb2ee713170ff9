-- What the operators on numbers mean.
use Rattle.std.specs.Prelude.{◌≡◌, ℕ, ◌+◌, ◌-◌, ◌≤◌, Bool, ◌&&◌, ◌||◌, not, nat_le, nat_lt, ◌==◌, if◌then◌else◌}
use Rattle.pf_ops.specs.declared.numbers.Numbers.{Numbers}
use Rattle.pf_ops.specs.declared.numbers.Numbers.TheVariants.{Empty, One, Two}
use Rattle.pf_ops.specs.declared.operator.OpKind.{OpKind}
use Rattle.pf_ops.specs.declared.operator.OpKind.TheVariants.{Equal, Other, Below, UpTo, Above, From, Within, Between, Outside}
use Rattle.pf_ops.specs.Numbers.{in_numbers}

-- whether a number is one that the operator with the numbers a and b names (pf.conf(5), Parameters, port)
abbrev pub in_op : OpKind → ℕ → ℕ → ℕ → Bool
in_op Equal a b n = n == a
in_op Other a b n = not (n == a)
in_op Below a b n = nat_lt n a
in_op UpTo a b n = nat_le n a
in_op Above a b n = nat_lt a n
in_op From a b n = nat_le a n
in_op Within a b n = nat_le a n && nat_le n b
in_op Between a b n = nat_lt a n && nat_lt n b
in_op Outside a b n = nat_lt n a || nat_lt b n

-- of the numbers up to `top` the set has those that the operator names
abbrev pub IsOperator : ℕ → OpKind → ℕ → ℕ → Numbers → Type 0
IsOperator top kind a b set = (n : ℕ) → n ≤ top → in_numbers set n ≡ in_op kind a b n

-- the numbers from `low` on that are below `end`
abbrev pub numbers_below : ℕ → ℕ → Numbers
numbers_below low end = if nat_lt low end then One (record { low = low; high = end - 1 }) else Empty

-- two sets of at most one interval as one set
abbrev pub joined : Numbers → Numbers → Numbers
joined (One first) (One last) = Two first last
joined Empty set = set
joined set other = set

-- the set that an operator names, of the numbers up to `top`
unfoldable pub set_of : ℕ → OpKind → ℕ → ℕ → Numbers
set_of top Equal a b = numbers_below a (a + 1)
set_of top Other a b = joined (numbers_below 0 a) (numbers_below (a + 1) (top + 1))
set_of top Below a b = numbers_below 0 a
set_of top UpTo a b = numbers_below 0 (a + 1)
set_of top Above a b = numbers_below (a + 1) (top + 1)
set_of top From a b = numbers_below a (top + 1)
set_of top Within a b = numbers_below a (b + 1)
set_of top Between a b = numbers_below (a + 1) b
set_of top Outside a b =
    if nat_lt b a then numbers_below 0 (top + 1) else joined (numbers_below 0 a) (numbers_below (b + 1) (top + 1))
