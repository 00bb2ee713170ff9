-- The lines of settings as they are shown, read as statements.
use Rattle.std.specs.Prelude.{ℕ, Bool, true, false, ◌&&◌, ◌==◌, not, nat_le, List, map, Option}
use Rattle.std.specs.List.{list_all}
use Rattle.pf_base.specs.declared.fault.Place.{Place}
use Rattle.pf_parts.specs.declared.block.BlockKind.{BlockKind}
use Rattle.pf_parts.specs.declared.block.BlockKind.TheVariants.{Drop, Return, Rst, Icmp}
use Rattle.pf_syntax.specs.Fault.{is_one_of, timeouts}
use Rattle.pf_syntax.specs.Words.{is_name}
use Rattle.pf_token.specs.Bytes.{class_of, is_known}
use Rattle.pf_token.specs.Cells.{cells_from}
use Rattle.pf_token.specs.Pieces.{Reads}
use Rattle.pf_token.specs.declared.token.Lexeme.TheVariants as lexemes
use Rattle.pf_token.specs.declared.token.Token.{Token}
use Rattle.pf_decl.specs.declared.form.Decl.{Decl}
use Rattle.pf_decl.specs.declared.form.SetForm.{SetForm}
use Rattle.pf_decl.specs.declared.form.SetForm.TheVariants.{Skip, BlockPolicy, StatePolicy, RulesetOptimization, Timeout, Limit, Optimization, Debug, Reassemble, LogInterface, Fingerprints}
use Rattle.pf_decl.specs.Decls.{IsDecl}
use Rattle.pf_decl.specs.Settings.{limits, optimizations, debug_levels}

-- a byte that a string of a file can stand for
abbrev pub is_string_byte : ℕ → Bool
is_string_byte byte = is_known (class_of byte) && not (byte == 10)

-- a name that a file can have
abbrev pub is_file_name : List ℕ → Bool
is_file_name name = is_name name && list_all is_string_byte name

abbrev pub is_policy : BlockKind → Bool
is_policy Drop = true
is_policy Return = true
is_policy (Rst ttl) = false
is_policy (Icmp code code6) = false

-- a number that a setting can have
abbrev pub is_number : ℕ → Bool
is_number n = nat_le n 4294967295

-- a setting that a statement of a file can make
unfoldable pub is_made : SetForm → Bool
is_made (Skip name) = is_file_name name
is_made (BlockPolicy kind) = is_policy kind
is_made (StatePolicy bound) = true
is_made (RulesetOptimization level) = true
is_made (Timeout name value) = is_one_of timeouts name && is_number value
is_made (Limit name most) = is_one_of limits name && is_number most
is_made (Optimization word) = is_one_of optimizations word
is_made (Debug word) = is_one_of debug_levels word
is_made (Reassemble fragments no_df) = true
is_made (LogInterface name) = is_file_name name
is_made (Fingerprints name) = is_file_name name

-- a token that a file can have
abbrev pub is_file_token : Token → Bool
is_file_token token = list_all is_string_byte token.text

abbrev pub are_file_tokens : List Token → Bool
are_file_tokens = list_all is_file_token

-- the text, at this place of a file, has these tokens, and they declare this
pub record ReadsAs (values : List ℕ → Option (List ℕ)) (place : Place) (text : List ℕ) (decl : Decl) : Type 0 where
  pub tokens : List Token
  pub spelled : Reads values (cells_from place text) (map lexemes.Token tokens)
  pub declares : IsDecl tokens false decl
