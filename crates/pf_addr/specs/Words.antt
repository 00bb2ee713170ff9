-- Printed addresses and prefixes as words of a text.
use Rattle.std.specs.Prelude.{◌≡◌, ℕ, Bool, false, ◌&&◌, ◌||◌, ◌==◌, nat_le, List, [], ◌∷◌}
use Rattle.std.specs.Char.{is_ascii_digit}
use Rattle.pf_base.specs.Text.{fields_of, is_nothing, words_of}
use Rattle.pf_addr.specs.Grammar.{slash}

-- a digit, a letter from a to f, a dot or a colon
abbrev pub is_addr_byte : ℕ → Bool
is_addr_byte byte = is_ascii_digit byte || (nat_le 97 byte && nat_le byte 102) || byte == 46 || byte == 58

-- one of these, or the slash before a mask
abbrev pub is_prefix_byte : ℕ → Bool
is_prefix_byte byte = is_addr_byte byte || byte == slash

-- the text isn't empty, and no blank cuts it
pub record IsOneWord (text : List ℕ) : Type 0 where
  pub some : is_nothing text ≡ false
  pub word : words_of text ≡ text ∷ []
  pub field : fields_of text ≡ text ∷ []
