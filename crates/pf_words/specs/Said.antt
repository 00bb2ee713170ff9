-- What the words of the program say (pfctl(8)): one of -f, -S and -g; all else belongs to -f.
use Rattle.std.specs.Prelude.{ℕ, Bool, true, false, not, ◌&&◌, List, [], ◌∷◌, Option, Some, None, is_some, option_map, codes, nat_le, if◌then◌else◌}
use Rattle.std.specs.List.{list_all}
use Rattle.std.specs.Option.{option_map_or}
use Rattle.std.specs.Str.{bytes_eq}
use Rattle.pf_base.specs.Decimal.{decimal_of}
use Rattle.pf_base.specs.Text.{is_nothing}
use Rattle.std.specs.Borrow.{Bor}
use Rattle.clap.specs.Kinds.{Kinds}
use Rattle.pf_words.specs.declared.reading.Values.{Values}
use Rattle.pf_words.specs.declared.said.LoadWords.{LoadWords as LoadWords-in}
use Rattle.pf_words.specs.declared.said.Said.{Said}
use Rattle.pf_words.specs.declared.said.Said.TheVariants as said
use Rattle.pf_words.specs.Program.{refusals_of, value_in}

-- a visible byte: 33 to 126
abbrev pub is_visible : ℕ → Bool
is_visible byte = nat_le 33 byte && nat_le byte 126

-- one or more visible bytes
abbrev pub is_word : List ℕ → Bool
is_word word = not (is_nothing word) && list_all is_visible word

-- the words of a load: its file, and what its options say
pub record LoadWords : Type 0 where
  pub file : List ℕ
  pub hosts : Option (List ℕ)
  pub level : Option (List ℕ)
  pub path : Option (List ℕ)
  pub profile : Option (List ℕ)
  pub define : Option (List ℕ)

pub data Task : Type 0 where
  loads : LoadWords → Task
  runs_script : Task
  generates : ℕ → Task

-- a flag that was given has the value `true`
abbrev pub is_true : Option (List ℕ) → Bool
is_true value = option_map_or (λ text. bytes_eq text (codes "true")) value false

-- the values as they were given
pub record Given : Type 0 where
  pub file : Option (List ℕ)
  pub script : Bool
  pub generate : Option (List ℕ)
  pub hosts : Option (List ℕ)
  pub level : Option (List ℕ)
  pub path : Option (List ℕ)
  pub profile : Option (List ℕ)
  pub define : Option (List ℕ)

-- the same, by what tells each value
abbrev pub given_by : (List ℕ → Option (List ℕ)) → Given
given_by value = record {
  file = value (codes "file");
  script = is_true (value (codes "script"));
  generate = value (codes "generate");
  hosts = value (codes "hosts");
  level = value (codes "level");
  path = value (codes "path");
  profile = value (codes "profile");
  define = value (codes "define");
}

abbrev pub given_in : List (List ℕ) → Given
given_in words = given_by (value_in words)

-- where a value is given, it is a word
abbrev pub is_word_if_given : Option (List ℕ) → Bool
is_word_if_given value = option_map_or is_word value true

abbrev pub are_words : Given → Bool
are_words given = is_word_if_given given.file && is_word_if_given given.generate && is_word_if_given given.hosts
    && is_word_if_given given.level && is_word_if_given given.path && is_word_if_given given.profile && is_word_if_given given.define

-- no option of a load is given
abbrev pub is_bare : Given → Bool
is_bare given = not (is_some given.hosts) && not (is_some given.level) && not (is_some given.path)
    && not (is_some given.profile) && not (is_some given.define)

-- a decimal number begins with a zero
abbrev pub begins_with_zero : List ℕ → Bool
begins_with_zero [] = false
begins_with_zero (byte ∷ bytes) = bytes_eq (byte ∷ []) (codes "0")

-- 1 to 1000 without a leading zero
abbrev pub number_of : List ℕ → Option ℕ
number_of text = if begins_with_zero text then None else decimal_of 1000 text

abbrev pub load_words : Given → List ℕ → LoadWords
load_words given file = record { file = file; hosts = given.hosts; level = given.level; path = given.path; profile = given.profile; define = given.define }

-- exactly one of -f, -S and -g is given; with -S and -g nothing else is
abbrev pub chosen : Given → Option (List ℕ) → Bool → Option (List ℕ) → Option Task
chosen given (Some file) false None = Some (loads (load_words given file))
chosen given None true None = if is_bare given then Some runs_script else None
chosen given None false (Some text) = if is_bare given then option_map generates (number_of text) else None
chosen given _ _ _ = None

abbrev pub said_by : Given → Option Task
said_by given = if are_words given then chosen given given.file given.script given.generate else None

abbrev pub read_unless : Kinds → Option Task → Option Task
read_unless [] said = said
read_unless (kind ∷ kinds) said = None

-- what the words say; None where they aren't read
abbrev pub words_read : List (List ℕ) → Option Task
words_read words = read_unless (refusals_of words) (said_by (given_in words))

-- the text behind a reference, where there is one
abbrev pub text_if : Option (Bor (List ℕ)) → Option (List ℕ)
text_if = option_map (λ text. text.now)

-- what the code's values are
abbrev pub given_of : Values → Given
given_of values = record {
  file = text_if values.file;
  script = values.script;
  generate = text_if values.generate;
  hosts = text_if values.hosts;
  level = text_if values.level;
  path = text_if values.path;
  profile = text_if values.profile;
  define = text_if values.define;
}

abbrev pub load_of : LoadWords-in → LoadWords
load_of words = record {
  file = words.file.now;
  hosts = text_if words.hosts;
  level = text_if words.level;
  path = text_if words.path;
  profile = text_if words.profile;
  define = text_if words.define;
}

-- what the code's answer says
abbrev pub task_of : Said → Task
task_of (said.Load words) = loads (load_of words)
task_of said.Script = runs_script
task_of (said.Generate number) = generates number
