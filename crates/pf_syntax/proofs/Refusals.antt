-- The first word of a part that isn't supported.
use Rattle.std.proofs.Common.{◌≡◌, ℕ, suc, ◌≤◌, length, Bool, true, List, [], ◌∷◌, Option, ap, sym, ◌∙◌, arith}
use Rattle.std.specs.Prelude.{find, if◌then◌else◌}
use Rattle.std.specs.List.{filter_map}
use Rattle.pf_syntax.specs.Fault.{is_left_out, words_left_out, timeouts, tos_left_out}

-- such a word has a byte
pub left_out_some : (word : List ℕ) → is_left_out word ≡ true → 1 ≤ length word
unfolding is_left_out words_left_out timeouts tos_left_out
left_out_some [] is = absurd (cc)
left_out_some (byte ∷ bytes) is = omega arith
