-- The commands of a script, one a line (pfctl(8)). Words stand between blanks, which are spaces and tabs:
--   load OPTS FILE · check OPTS FILE · open SESSION OPTS FILE · commit SESSION · rollback SESSION
--   flush rules PATH
--   table PATH NAME add ENTRY .. · delete ENTRY .. · replace ENTRY .. · flush · show · test ADDRESS ..
--   show rules PATH · written PATH · tables PATH · anchors PATH · skips PATH · queues · options
--   hosts FILE
--   test RECORD
use Rattle.std.specs.Prelude.{ℕ, Bool, true, false, List, [], ◌∷◌, Option, Some, None, codes, if◌then◌else◌}
use Rattle.std.specs.List.{list_all}
use Rattle.std.specs.Option.{option_and_then, option_map}
use Rattle.std.specs.Str.{bytes_eq}
use Rattle.pf_base.specs.Text.{words_of}
use Rattle.pf_script.specs.Options.{load_line_of}
use Rattle.pf_script.specs.Word.{behind_blanks, behind_word, file_of, is_plain, path_of, session_of, table_of}
use Rattle.pf_script.specs.declared.command.Command.{Command}
use Rattle.pf_script.specs.declared.command.Command.TheVariants as command
use Rattle.pf_script.specs.declared.command.LoadLine.{LoadLine}
use Rattle.pf_script.specs.declared.command.Show.{Show}
use Rattle.pf_script.specs.declared.command.Show.TheVariants as shows
use Rattle.pf_script.specs.declared.command.TableAction.{TableAction}
use Rattle.pf_script.specs.declared.command.TableAction.TheVariants as acts
use Rattle.pf_script.specs.declared.keyword.ActionWord.{ActionWord}
use Rattle.pf_script.specs.declared.keyword.ActionWord.TheVariants as action
use Rattle.pf_script.specs.declared.keyword.Keyword.{Keyword}
use Rattle.pf_script.specs.declared.keyword.Keyword.TheVariants as keyword
use Rattle.pf_script.specs.declared.keyword.ShowWord.{ShowWord}
use Rattle.pf_script.specs.declared.keyword.ShowWord.TheVariants as shown

abbrev pub Words : Type 0
Words = List (List ℕ)

-- the first words of lines
unfoldable pub keyword_of : List ℕ → Option Keyword
keyword_of word =
    if bytes_eq word (codes "load") then Some keyword.Load
    else if bytes_eq word (codes "check") then Some keyword.Check
    else if bytes_eq word (codes "open") then Some keyword.Open
    else if bytes_eq word (codes "commit") then Some keyword.Commit
    else if bytes_eq word (codes "rollback") then Some keyword.Rollback
    else if bytes_eq word (codes "flush") then Some keyword.Flush
    else if bytes_eq word (codes "table") then Some keyword.Table
    else if bytes_eq word (codes "show") then Some keyword.Show
    else if bytes_eq word (codes "hosts") then Some keyword.Hosts
    else if bytes_eq word (codes "test") then Some keyword.Test
    else None

-- what is done with a table (pfctl(8), Tables)
unfoldable pub action_word_of : List ℕ → Option ActionWord
action_word_of word =
    if bytes_eq word (codes "add") then Some action.Add
    else if bytes_eq word (codes "delete") then Some action.Delete
    else if bytes_eq word (codes "replace") then Some action.Replace
    else if bytes_eq word (codes "flush") then Some action.Flush
    else if bytes_eq word (codes "show") then Some action.Show
    else if bytes_eq word (codes "test") then Some action.Test
    else None

-- what is shown (pfctl(8), Shows)
unfoldable pub show_word_of : List ℕ → Option ShowWord
show_word_of word =
    if bytes_eq word (codes "rules") then Some shown.Rules
    else if bytes_eq word (codes "written") then Some shown.Written
    else if bytes_eq word (codes "tables") then Some shown.Tables
    else if bytes_eq word (codes "anchors") then Some shown.Anchors
    else if bytes_eq word (codes "skips") then Some shown.Skips
    else if bytes_eq word (codes "queues") then Some shown.Queues
    else if bytes_eq word (codes "options") then Some shown.Options
    else None

abbrev pub opened_by : Option (List ℕ) → Option LoadLine → Option Command
opened_by (Some name) (Some line) = Some (command.Open name line)
opened_by name line = None

-- a session's name, and then what a load has
abbrev pub open_of : Words → Option Command
open_of [] = None
open_of (name ∷ words) = opened_by (session_of name) (load_line_of words)

-- the word that stands alone
abbrev pub one_word : Words → Option (List ℕ)
one_word (word ∷ []) = Some word
one_word words = None

-- `rules`, and a path
abbrev pub flushed : Words → Option (List (List ℕ))
flushed [] = None
flushed (what ∷ words) = if bytes_eq what (codes "rules") then option_and_then (path_of false) (one_word words) else None

-- one word or more
abbrev pub some_words : Words → Option Words
some_words [] = None
some_words (word ∷ words) = Some (word ∷ words)

abbrev pub is_end : Words → Bool
is_end [] = true
is_end (word ∷ words) = false

-- no word more
abbrev pub at_end : {A : Type 0} → A → Words → Option A
at_end said words = if is_end words then Some said else None

abbrev pub action_with : Option ActionWord → Words → Option TableAction
action_with None words = None
action_with (Some action.Add) words = option_map (λ entries. acts.Add entries) (some_words words)
action_with (Some action.Delete) words = option_map (λ entries. acts.Delete entries) (some_words words)
action_with (Some action.Replace) words = option_map (λ entries. acts.Replace entries) (some_words words)
action_with (Some action.Flush) words = at_end acts.Flush words
action_with (Some action.Show) words = at_end acts.Show words
action_with (Some action.Test) words = option_map (λ addresses. acts.Test addresses) (some_words words)

abbrev pub action_of : Words → Option TableAction
action_of [] = None
action_of (word ∷ words) = action_with (action_word_of word) words

abbrev pub table_line : Option (List (List ℕ)) → Option (List ℕ) → Option TableAction → Option Command
table_line (Some path) (Some name) (Some act) = Some (command.Table path name act)
table_line path name act = None

-- a path, a table's name, and what is done with it
abbrev pub table_line_of : Words → Option Command
table_line_of [] = None
table_line_of (path ∷ []) = None
table_line_of (path ∷ name ∷ words) = table_line (path_of false path) (table_of name) (action_of words)

-- the path of the ruleset that is shown, where names that begin with `_` may stand
abbrev pub path_alone : Words → Option (List (List ℕ))
path_alone words = option_and_then (path_of true) (one_word words)

abbrev pub show_with : Option ShowWord → Words → Option Show
show_with None words = None
show_with (Some shown.Rules) words = option_map (λ path. shows.Rules path) (path_alone words)
show_with (Some shown.Written) words = option_map (λ path. shows.Written path) (path_alone words)
show_with (Some shown.Tables) words = option_map (λ path. shows.Tables path) (path_alone words)
show_with (Some shown.Anchors) words = option_map (λ path. shows.Anchors path) (path_alone words)
show_with (Some shown.Skips) words = option_map (λ path. shows.Skips path) (path_alone words)
show_with (Some shown.Queues) words = at_end shows.Queues words
show_with (Some shown.Options) words = at_end shows.Options words

abbrev pub show_of : Words → Option Show
show_of [] = None
show_of (word ∷ words) = show_with (show_word_of word) words

-- one byte or more
abbrev pub test_of : List ℕ → Option Command
test_of [] = None
test_of (byte ∷ bytes) = Some (command.Test (byte ∷ bytes))

-- the command of a first word with the words behind it; of `test` the rest of the line counts, with all its blanks
abbrev pub command_with : Option Keyword → Words → List ℕ → Option Command
command_with None words text = None
command_with (Some keyword.Load) words text = option_map (λ line. command.Load line) (load_line_of words)
command_with (Some keyword.Check) words text = option_map (λ line. command.Check line) (load_line_of words)
command_with (Some keyword.Open) words text = open_of words
command_with (Some keyword.Commit) words text = option_map (λ name. command.Commit name) (option_and_then session_of (one_word words))
command_with (Some keyword.Rollback) words text = option_map (λ name. command.Rollback name) (option_and_then session_of (one_word words))
command_with (Some keyword.Flush) words text = option_map (λ path. command.Flush path) (flushed words)
command_with (Some keyword.Table) words text = table_line_of words
command_with (Some keyword.Show) words text = option_map (λ what. command.Show what) (show_of words)
command_with (Some keyword.Hosts) words text = option_map (λ file. command.Hosts file) (option_and_then file_of (one_word words))
command_with (Some keyword.Test) words text = test_of text

-- the text behind the first word of a line and the blanks that follow it
abbrev pub behind_first_word : List ℕ → List ℕ
behind_first_word line = behind_blanks (behind_word (behind_blanks line))

abbrev pub command_said : Words → List ℕ → Option Command
command_said [] text = None
command_said (word ∷ words) text = command_with (keyword_of word) words text

-- The command that a line says; None for a line of any other words, or with a byte that is neither one of 32 to 126 nor a tab.
unfoldable pub command_of : List ℕ → Option Command
command_of line = if list_all is_plain line then command_said (words_of line) (behind_first_word line) else None
