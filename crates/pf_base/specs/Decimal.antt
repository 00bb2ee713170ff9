-- Numbers in decimal digits. Leading zeros may stand.
use Rattle.std.specs.Prelude.{ℕ, ◌+◌, ◌*◌, ◌-◌, Bool, ◌&&◌, not, List, [], ◌∷◌, Option, Some, None, nat_le, if◌then◌else◌}
use Rattle.std.specs.List.{list_all}
use Rattle.std.specs.Char.{is_ascii_digit}
use Rattle.pf_base.specs.Text.{is_nothing}

-- the number that goes on from n with these digits
abbrev pub digits_after : ℕ → List ℕ → ℕ
digits_after n [] = n
digits_after n (digit ∷ digits) = digits_after (10 * n + (digit - 48)) digits

-- one or more digits
abbrev pub is_decimal : List ℕ → Bool
is_decimal text = not (is_nothing text) && list_all is_ascii_digit text

-- the number of a decimal text, where it is at most `most`
unfoldable pub decimal_of : ℕ → List ℕ → Option ℕ
decimal_of most text = if is_decimal text && nat_le (digits_after 0 text) most then Some (digits_after 0 text) else None
