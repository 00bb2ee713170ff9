-- What a name is.
use Rattle.std.specs.Prelude.{ℕ, ◌≤◌, Bool, ◌&&◌, ◌||◌, ◌==◌, nat_le, List, length, Option, Some, None, codes, if◌then◌else◌}
use Rattle.std.specs.Char.{is_ascii_alphanumeric}
use Rattle.std.specs.List.{list_all, list_any}

-- the bytes that a name may be: 1 to 63 of them
pub record IsNameText (text : List ℕ) : Type 0 where
  pub some : 1 ≤ length text
  pub few : length text ≤ 63

-- a byte of the names of anchors, interfaces and tags: a letter, a digit or one of _ - . : + @
unfoldable pub is_plain_byte : ℕ → Bool
is_plain_byte byte = is_ascii_alphanumeric byte || list_any (λ sign. byte == sign) (codes "_-.:+@")

-- a name of such bytes alone, 1 to 63 of them
unfoldable pub is_plain_name : List ℕ → Bool
is_plain_name text = nat_le 1 (length text) && nat_le (length text) 63 && list_all is_plain_byte text

-- the name of this text, where it is one
abbrev pub plain_name : List ℕ → Option (List ℕ)
plain_name text = if is_plain_name text then Some text else None
