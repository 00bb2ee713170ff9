-- The options of a line that loads a file, and the file behind them (pfctl(8), -o, -a, -P, -D).
use Rattle.std.specs.Prelude.{ℕ, Bool, true, false, not, ◌&&◌, List, [], ◌∷◌, length, Option, Some, None, codes, nat_le, unwrap_or, if◌then◌else◌}
use Rattle.std.specs.List.{filter_map, list_any}
use Rattle.std.specs.Option.{option_map}
use Rattle.std.specs.Str.{bytes_eq}
use Rattle.pf_base.specs.declared.kind.Level.{Level}
use Rattle.pf_token.specs.declared.macros.Define.{Define}
use Rattle.pf_script.specs.Word.{define_of, file_of, level_of, path_of}
use Rattle.pf_script.specs.declared.command.LoadLine.{LoadLine}
use Rattle.pf_script.specs.declared.given.Given.{Given}
use Rattle.pf_script.specs.declared.keyword.Flag.{Flag}
use Rattle.pf_script.specs.declared.keyword.Flag.TheVariants as flags

-- what one option says
pub data LineOption : Type 0 where
  -- `-o none|basic|profile`: how far rulesets are optimised
  Optimises : Level → LineOption
  -- `-a PATH`: the ruleset that the file fills
  Fills : List (List ℕ) → LineOption
  -- `-P FILE`: the file with the counts by which rules are ordered
  Weighs : List ℕ → LineOption
  -- `-D NAME=VALUE`: a macro
  Defines : Define → LineOption

-- the first word of an option
unfoldable pub flag_of : List ℕ → Option Flag
flag_of word =
    if bytes_eq word (codes "-o") then Some flags.Level
    else if bytes_eq word (codes "-a") then Some flags.Path
    else if bytes_eq word (codes "-P") then Some flags.Profile
    else if bytes_eq word (codes "-D") then Some flags.Define
    else None

-- what the word behind a flag says
abbrev pub option_with : Option Flag → List ℕ → Option LineOption
option_with None value = None
option_with (Some flags.Level) value = option_map (λ level. Optimises level) (level_of value)
option_with (Some flags.Path) value = option_map (λ path. Fills path) (path_of false value)
option_with (Some flags.Profile) value = option_map (λ file. Weighs file) (file_of value)
option_with (Some flags.Define) value = option_map (λ define. Defines define) (define_of value)

-- an option is two words: a flag, and its value
abbrev pub option_of : List ℕ → List ℕ → Option LineOption
option_of word value = option_with (flag_of word) value

-- options in their order, and the file behind them
pub record OptionsAndFile : Type 0 where
  pub options : List LineOption
  pub file : List ℕ

abbrev pub file_alone : Option (List ℕ) → Option OptionsAndFile
file_alone None = None
file_alone (Some file) = Some (record { options = []; file = file })

abbrev pub with_option_first : Option LineOption → Option OptionsAndFile → Option OptionsAndFile
with_option_first (Some option) (Some others) = Some (record { options = option ∷ others.options; file = others.file })
with_option_first option others = None

-- OPTS FILE
abbrev pub options_and_file : List (List ℕ) → Option OptionsAndFile
options_and_file [] = None
options_and_file (file ∷ []) = file_alone (file_of file)
options_and_file (flag ∷ value ∷ words) = with_option_first (option_of flag value) (options_and_file words)

abbrev pub level_in : LineOption → Option Level
level_in (Optimises level) = Some level
level_in option = None

abbrev pub path_in : LineOption → Option (List (List ℕ))
path_in (Fills path) = Some path
path_in option = None

abbrev pub profile_in : LineOption → Option (List ℕ)
profile_in (Weighs file) = Some file
profile_in option = None

abbrev pub define_in : LineOption → Option Define
define_in (Defines define) = Some define
define_in option = None

-- the one, where there is at most one
abbrev pub at_most_one : {A : Type 0} → List A → Option (Option A)
at_most_one [] = Some None
at_most_one (a ∷ []) = Some (Some a)
at_most_one (a ∷ b ∷ others) = None

-- whether a macro of this name is among them
abbrev pub has_name : List ℕ → List Define → Bool
has_name name defines = list_any (λ other. bytes_eq name other.name) defines

-- no name stands twice
abbrev pub are_different : List Define → Bool
are_different [] = true
are_different (define ∷ defines) = not (has_name define.name defines) && are_different defines

-- a line may define this many macros
abbrev pub most_defines : ℕ
most_defines = 32

abbrev pub fitting : List Define → Option (List Define)
fitting defines = if nat_le (length defines) most_defines && are_different defines then Some defines else None

abbrev pub given_together : Option (Option Level) → Option (Option (List (List ℕ))) → Option (Option (List ℕ)) → Option (List Define) → Option Given
given_together (Some level) (Some path) (Some profile) (Some defines) =
    Some (record { level = level; path = path; profile = profile; defines = defines })
given_together level path profile defines = None

-- What options say together: each but `-D` stands at most once, and up to 32 macros of different names are defined
unfoldable pub given_by : List LineOption → Option Given
given_by options =
    given_together (at_most_one (filter_map level_in options)) (at_most_one (filter_map path_in options)) (at_most_one (filter_map profile_in options))
    (fitting (filter_map define_in options))

-- without `-a` the file fills the main ruleset
abbrev pub line_with : List ℕ → Given → LoadLine
line_with file given = record {
  level = given.level;
  path = unwrap_or given.path [];
  profile = given.profile;
  defines = given.defines;
  file = file;
}

abbrev pub load_line_by : Option OptionsAndFile → Option LoadLine
load_line_by None = None
load_line_by (Some words) = option_map (line_with words.file) (given_by words.options)

-- the line that these words say
unfoldable pub load_line_of : List (List ℕ) → Option LoadLine
load_line_of words = load_line_by (options_and_file words)
