-- Which names a table may have (pf.conf(5), TABLES): at most 31 bytes, letters, digits and `_ - .`, and none that begins as the
-- names of the tables that the optimiser makes.
use Rattle.std.specs.Prelude.{ℕ, Bool, ◌&&◌, ◌||◌, ◌==◌, not, nat_le, nat_eq, List, length, codes}
use Rattle.std.specs.Char.{is_ascii_alphanumeric}
use Rattle.std.specs.List.{list_all, list_any, starts_with}

abbrev pub is_table_byte : ℕ → Bool
is_table_byte byte = is_ascii_alphanumeric byte || list_any (λ sign. byte == sign) (codes "_-.")

unfoldable pub is_table_name : List ℕ → Bool
is_table_name name = nat_le (length name) 31 && list_all is_table_byte name && not (starts_with nat_eq name (codes "__automatic_"))
