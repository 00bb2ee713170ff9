-- Macro definitions, includes, and the faults of a statement. pf.conf(5), its introduction and MACROS
use Rattle.std.specs.Prelude.{ℕ, Bool, true, false, ◌&&◌, not, List, [], ◌∷◌, ◌++◌, Option, Some, None, length, map, slice_get, ◌-◌, nat_le, nat_lt, codes, if◌then◌else◌}
use Rattle.std.specs.List.{list_all, list_any, join_with_byte}
use Rattle.pf_base.specs.declared.fault.Place.{Place}
use Rattle.pf_lexer.specs.declared.statement.Close.{Close}
use Rattle.pf_token.specs.declared.token.Token.{Token as TokenOf}
use Rattle.pf_token.specs.declared.token.Cause.{Cause}
use Rattle.pf_token.specs.declared.token.Cause.TheVariants.{MacroName, IncludeDepth, TooLarge, Syntax}
use Rattle.pf_token.specs.declared.token.Fault.{Fault as FaultOf}
use Rattle.pf_token.specs.declared.token.Lexeme.{Lexeme}
use Rattle.pf_token.specs.declared.token.Lexeme.TheVariants.{Token, Fault}
use Rattle.pf_token.specs.Bytes.{is_name_byte}
use Rattle.pf_lexer.specs.Closes.{is_body, is_long}
use Rattle.pf_token.specs.Kinds.{is_bare, is_fault, is_sign, is_text, is_text_kind, is_word_kind, place_of, rank, text_of}

-- a definition: its name, and what follows the `=`
pub record Parts : Type 0 where
  pub name : TokenOf
  pub values : List Lexeme

-- a statement that begins with a word and `=` is a definition
abbrev pub definition_of : List Lexeme → Option Parts
definition_of [] = None
definition_of (first ∷ []) = None
definition_of (Fault fault ∷ sign ∷ rest) = None
definition_of (Token name ∷ sign ∷ rest) =
    if is_word_kind name.kind && is_sign 61 sign then Some (record { name = name; values = rest }) else None

-- letters, digits and `_`, 1 to 63 of them
abbrev pub is_macro_name : List ℕ → Bool
is_macro_name text = nat_le 1 (length text) && nat_le (length text) 63 && list_all is_name_byte text

abbrev pub is_nothing : List Lexeme → Bool
is_nothing [] = true
is_nothing (first ∷ rest) = false

-- the form of a definition: one or more words and strings, and no body
abbrev pub has_form : List Lexeme → Close → Bool
has_form values close = not (is_nothing values) && list_all is_text values && not (is_body close)

-- the value of a definition: the texts of its words and strings with one space between them
abbrev pub joined : List Lexeme → List ℕ
joined values = join_with_byte 32 (map text_of values)

-- the most bytes of a value
abbrev pub most_bytes : ℕ
most_bytes = 8192

-- A value exists where the definition has its form and no token of it is a fault. It may be too large.
abbrev pub is_large : List Lexeme → Close → Bool
is_large values close = has_form values close && not (list_any is_fault values) && nat_lt most_bytes (length (joined values))

-- a fault where the test fails
abbrev pub unless : Bool → Cause → Place → List FaultOf
unless true cause place = []
unless false cause place = record { cause = cause; place = place } ∷ []

-- the faults of a definition, which stand at its name
abbrev pub definition_faults : Option Parts → Close → List FaultOf
definition_faults None close = []
definition_faults (Some parts) close =
    unless (is_macro_name parts.name.text) MacroName parts.name.place
    ++ unless (not (is_large parts.values close)) TooLarge parts.name.place
    ++ unless (has_form parts.values close) Syntax parts.name.place

-- a statement that begins with the word `include` and isn't a definition: where it stands, and what follows the word
pub record IncludeParts : Type 0 where
  pub place : Place
  pub names : List Lexeme

abbrev pub include_among : List Lexeme → Option IncludeParts
include_among [] = None
include_among (first ∷ rest) = if is_bare (codes "include") first then Some (record { place = place_of first; names = rest }) else None

-- no include where the statement is a definition
abbrev pub unless_defines : Option Parts → Option IncludeParts → Option IncludeParts
unless_defines None parts = parts
unless_defines (Some defined) parts = None

abbrev pub include_of : List Lexeme → Option IncludeParts
include_of lexemes = unless_defines (definition_of lexemes) (include_among lexemes)

-- A file's name: a word or a string of 1 to 255 bytes. A token with a fault counts as one.
abbrev pub is_file_name : Lexeme → Bool
is_file_name (Token token) = is_text_kind token.kind && nat_le 1 (length token.text) && nat_le (length token.text) 255
is_file_name (Fault fault) = true

-- the form of an include: one file's name
abbrev pub names_file : List Lexeme → Bool
names_file [] = false
names_file (name ∷ []) = is_file_name name
names_file (name ∷ other ∷ rest) = false

-- the name of the file to be included
abbrev pub first_text : List Lexeme → List ℕ
first_text [] = []
first_text (name ∷ rest) = text_of name

abbrev pub file_named : IncludeParts → List ℕ
file_named parts = first_text parts.names

-- the most includes that are open, one inside the other
abbrev pub most_includes : ℕ
most_includes = 16

-- The faults of an include, which stand at its first word: it stands inside as many includes as may be open, or it
-- is outside its form.
abbrev pub include_faults : ℕ → Option IncludeParts → List FaultOf
include_faults includes None = []
include_faults includes (Some parts) =
    unless (nat_lt includes most_includes) IncludeDepth parts.place
    ++ unless (names_file parts.names) Syntax parts.place

-- the faults that stand in the place of tokens
abbrev pub token_faults : List Lexeme → List FaultOf
token_faults [] = []
token_faults (Token token ∷ rest) = token_faults rest
token_faults (Fault fault ∷ rest) = fault ∷ token_faults rest

abbrev pub too_large_at : Option Lexeme → List FaultOf
too_large_at None = []
too_large_at (Some lexeme) = record { cause = TooLarge; place = place_of lexeme } ∷ []

-- a statement is too long at the last of its tokens that are looked at
abbrev pub length_fault : List Lexeme → List FaultOf
length_fault lexemes = too_large_at (slice_get lexemes (length lexemes - 1))

-- the lexical faults of a statement inside so many includes, in the order of the tokens at which they stand
abbrev pub faults_of : ℕ → List Lexeme → Close → List FaultOf
faults_of includes lexemes close =
    definition_faults (definition_of lexemes) close ++ include_faults includes (include_of lexemes) ++ token_faults lexemes ++ (if is_long close then length_fault lexemes else [])

-- of two faults the one that is tried first, and of one kind the earlier
abbrev pub earlier : FaultOf → Option FaultOf → FaultOf
earlier fault None = fault
earlier fault (Some later) = if nat_le (rank fault.cause) (rank later.cause) then fault else later

-- of what two lists of faults have, the fault that decides
abbrev pub or_earlier : Option FaultOf → Option FaultOf → Option FaultOf
or_earlier None later = later
or_earlier (Some fault) later = Some (earlier fault later)

-- the fault that decides
abbrev pub decided : List FaultOf → Option FaultOf
decided [] = None
decided (fault ∷ faults) = or_earlier (Some fault) (decided faults)
