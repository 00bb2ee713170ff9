-- The numbers that the generator draws: a linear congruence, of which the upper bits count.
use Rattle.std.specs.Prelude.{ℕ, zero, suc, ◌+◌, ◌*◌, ◌/◌, ◌%◌}

-- the number behind another
abbrev pub following : ℕ → ℕ
following x = (x * 1103515245 + 12345) % 2147483648

-- the number that many draws later
unfoldable pub after : ℕ → ℕ → ℕ
after x zero = x
after x (suc n) = following (after x n)

-- what a number says where one of so many values is drawn
abbrev pub value_of : ℕ → ℕ → ℕ
value_of x values = x / 65536 % values

-- the n-th draw from here on, from 1, of one of so many values
abbrev pub draw : ℕ → ℕ → ℕ → ℕ
draw x n values = value_of (after x n) values
