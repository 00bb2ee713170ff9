-- Script lines by what they say: the words that spell each command (pfctl(8)).
use Rattle.std.specs.Prelude.{◌≡◌, ℕ, ◌≤◌, Bool, true, false, List, [], ◌∷◌, ◌++◌, length, Some, codes}
use Rattle.std.specs.List.{filter_map, list_all}
use Rattle.std.specs.Option.{option_to_list}
use Rattle.pf_base.specs.Text.{is_blank, is_nothing, words_of}
use Rattle.pf_base.specs.declared.kind.Level.{Level}
use Rattle.pf_base.specs.declared.kind.Level.TheVariants as level
use Rattle.pf_token.specs.Bytes.{is_name_byte}
use Rattle.pf_token.specs.declared.macros.Define.{Define}
use Rattle.pf_script.specs.Command.{Words}
use Rattle.pf_script.specs.Options.{Defines, Fills, LineOption, Optimises, Weighs, are_different, define_in, level_in, most_defines, path_in, profile_in}
use Rattle.pf_script.specs.Word.{begins_with_dash, is_plain, is_session_byte, is_short, most_value, path_of}
use Rattle.pf_script.specs.declared.command.Command.{Command}
use Rattle.pf_script.specs.declared.command.Command.TheVariants as command
use Rattle.pf_script.specs.declared.command.LoadLine.{LoadLine}
use Rattle.pf_script.specs.declared.command.Show.{Show}
use Rattle.pf_script.specs.declared.command.Show.TheVariants as shows
use Rattle.pf_script.specs.declared.command.TableAction.{TableAction}
use Rattle.pf_script.specs.declared.command.TableAction.TheVariants as acts

-- FILE: it doesn't begin with `-`
abbrev pub IsFileWord : List ℕ → Type 0
IsFileWord word = begins_with_dash word ≡ false

-- PATH: what a path's text is, pf_base says; `any` name may stand, also one that begins with `_`, or no such name
abbrev pub IsPathWord : Bool → List (List ℕ) → List ℕ → Type 0
IsPathWord any path word = path_of any word ≡ Some path

-- SESSION: 1 to 63 letters, digits, `_` and `-`
pub record IsSessionWord (word : List ℕ) : Type 0 where
  pub bytes : list_all is_session_byte word ≡ true
  pub short : is_short word ≡ true

-- NAME=VALUE: 1 to 63 letters, digits and `_`, and behind the `=` up to 8,192 bytes
pub record IsDefineWord (word : List ℕ) (define : Define) : Type 0 where
  pub spelled : word ≡ define.name ++ 61 ∷ define.value
  pub bytes : list_all is_name_byte define.name ≡ true
  pub short : is_short define.name ≡ true
  pub fits : length define.value ≤ most_value

-- LEVEL
abbrev pub level_word : Level → List ℕ
level_word level.None = codes "none"
level_word level.Basic = codes "basic"
level_word level.Profile = codes "profile"

-- one option in two words
pub data SpellsOption : LineOption → List ℕ → List ℕ → Type 0 where
  optimises : (level : Level) → SpellsOption (Optimises level) (codes "-o") (level_word level)
  fills : (path : List (List ℕ)) (word : List ℕ) → IsPathWord false path word → SpellsOption (Fills path) (codes "-a") word
  weighs : (file : List ℕ) → IsFileWord file → SpellsOption (Weighs file) (codes "-P") file
  defines : (define : Define) (word : List ℕ) → IsDefineWord word define → SpellsOption (Defines define) (codes "-D") word

-- options in any order, and the file behind them
pub data SpellsOptions : List LineOption → List ℕ → Words → Type 0 where
  file_behind : (file : List ℕ) → IsFileWord file → SpellsOptions [] file (file ∷ [])
  option_first : (option : LineOption) (options : List LineOption) (file flag value : List ℕ) (words : Words) →
      SpellsOption option flag value → SpellsOptions options file words → SpellsOptions (option ∷ options) file (flag ∷ value ∷ words)

-- where no path is given, it is that of the main ruleset
pub data FillsPath (path : List (List ℕ)) : List (List (List ℕ)) → Type 0 where
  main : path ≡ [] → FillsPath path []
  given : FillsPath path (path ∷ [])

-- OPTS FILE: each option at most once, and up to 32 macros of different names
pub record SpellsLoad (line : LoadLine) (words : Words) : Type 0 where
  pub options : List LineOption
  pub spelled : SpellsOptions options line.file words
  pub level : filter_map level_in options ≡ option_to_list line.level
  pub path : FillsPath line.path (filter_map path_in options)
  pub profile : filter_map profile_in options ≡ option_to_list line.profile
  pub defines : filter_map define_in options ≡ line.defines
  pub few : length line.defines ≤ most_defines
  pub different : are_different line.defines ≡ true

-- one word or more
pub data SpellsAction : TableAction → Words → Type 0 where
  add : (word : List ℕ) (words : Words) → SpellsAction (acts.Add (word ∷ words)) (codes "add" ∷ word ∷ words)
  delete : (word : List ℕ) (words : Words) → SpellsAction (acts.Delete (word ∷ words)) (codes "delete" ∷ word ∷ words)
  replace : (word : List ℕ) (words : Words) → SpellsAction (acts.Replace (word ∷ words)) (codes "replace" ∷ word ∷ words)
  flush_table : SpellsAction acts.Flush (codes "flush" ∷ [])
  show_table : SpellsAction acts.Show (codes "show" ∷ [])
  test_table : (word : List ℕ) (words : Words) → SpellsAction (acts.Test (word ∷ words)) (codes "test" ∷ word ∷ words)

-- the names of these paths may begin with `_`
pub data SpellsShow : Show → Words → Type 0 where
  rules : (path : List (List ℕ)) (word : List ℕ) → IsPathWord true path word → SpellsShow (shows.Rules path) (codes "rules" ∷ word ∷ [])
  written : (path : List (List ℕ)) (word : List ℕ) → IsPathWord true path word → SpellsShow (shows.Written path) (codes "written" ∷ word ∷ [])
  tables : (path : List (List ℕ)) (word : List ℕ) → IsPathWord true path word → SpellsShow (shows.Tables path) (codes "tables" ∷ word ∷ [])
  anchors : (path : List (List ℕ)) (word : List ℕ) → IsPathWord true path word → SpellsShow (shows.Anchors path) (codes "anchors" ∷ word ∷ [])
  skips : (path : List (List ℕ)) (word : List ℕ) → IsPathWord true path word → SpellsShow (shows.Skips path) (codes "skips" ∷ word ∷ [])
  queues : SpellsShow shows.Queues (codes "queues" ∷ [])
  options : SpellsShow shows.Options (codes "options" ∷ [])

-- the words of a command; those of `test` aren't told by its words, since its record has all blanks of the line
pub data SpellsCommand : Command → Words → Type 0 where
  load : (line : LoadLine) (words : Words) → SpellsLoad line words → SpellsCommand (command.Load line) (codes "load" ∷ words)
  check : (line : LoadLine) (words : Words) → SpellsLoad line words → SpellsCommand (command.Check line) (codes "check" ∷ words)
  open_session : (name : List ℕ) (line : LoadLine) (words : Words) → IsSessionWord name → SpellsLoad line words → SpellsCommand (command.Open name line) (codes "open" ∷ name ∷ words)
  commit : (name : List ℕ) → IsSessionWord name → SpellsCommand (command.Commit name) (codes "commit" ∷ name ∷ [])
  rollback : (name : List ℕ) → IsSessionWord name → SpellsCommand (command.Rollback name) (codes "rollback" ∷ name ∷ [])
  flush_rules : (path : List (List ℕ)) (word : List ℕ) → IsPathWord false path word → SpellsCommand (command.Flush path) (codes "flush" ∷ codes "rules" ∷ word ∷ [])
  table : (path : List (List ℕ)) (word name : List ℕ) (act : TableAction) (words : Words) → IsPathWord false path word → is_short name ≡ true → SpellsAction act words →
      SpellsCommand (command.Table path name act) (codes "table" ∷ word ∷ name ∷ words)
  shows_what : (what : Show) (words : Words) → SpellsShow what words → SpellsCommand (command.Show what) (codes "show" ∷ words)
  hosts : (file : List ℕ) → IsFileWord file → SpellsCommand (command.Hosts file) (codes "hosts" ∷ file ∷ [])

-- blanks alone
abbrev pub AreBlanks : List ℕ → Type 0
AreBlanks text = list_all is_blank text ≡ true

-- the record is all behind `test` and the blanks that follow it: one byte or more, of which the first is no blank
pub record IsTestLine (line text : List ℕ) : Type 0 where
  pub before : List ℕ
  pub between : List ℕ
  pub first : ℕ
  pub others : List ℕ
  pub spelled : line ≡ before ++ (codes "test" ++ (between ++ text))
  pub begins : text ≡ first ∷ others
  pub in_front : AreBlanks before
  pub parted : AreBlanks between
  pub some : is_nothing between ≡ false
  pub no_blank : is_blank first ≡ false

pub data Says (line : List ℕ) : Command → Type 0 where
  by_words : (said : Command) → SpellsCommand said (words_of line) → Says line said
  by_record : (text : List ℕ) → IsTestLine line text → Says line (command.Test text)

-- the line says this command
pub record IsLine (line : List ℕ) (said : Command) : Type 0 where
  pub plain : list_all is_plain line ≡ true
  pub says : Says line said
