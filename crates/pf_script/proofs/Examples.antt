-- Lines, with the commands that they say computed from the definition.
use Rattle.std.specs.Prelude.{◌≡◌, ℕ, Bool, true, List, [], ◌∷◌, ◌++◌, Some, None, is_none, codes, refl}
use Rattle.std.specs.List.{list_all}
use Rattle.pf_base.specs.Name.{is_plain_byte}
use Rattle.pf_base.specs.Path.{bad_byte, is_dots, is_path_name, is_reserved, name_fault, path_of_names, read_path}
use Rattle.pf_base.specs.Text.{words_of}
use Rattle.pf_base.specs.declared.kind.Level.TheVariants as level
use Rattle.pf_token.specs.Bytes.{is_name_byte}
use Rattle.pf_token.specs.declared.macros.Define.{Define}
use Rattle.pf_script.specs.Command.{action_word_of, command_of, keyword_of, show_word_of}
use Rattle.pf_script.specs.Options.{flag_of, given_by, load_line_of}
use Rattle.pf_script.specs.Word.{level_of}
use Rattle.pf_script.specs.declared.command.Command.TheVariants as command
use Rattle.pf_script.specs.declared.command.LoadLine.{LoadLine}
use Rattle.pf_script.specs.declared.command.Show.TheVariants as shows
use Rattle.pf_script.specs.declared.command.TableAction.TheVariants as acts

abbrev plain_load : List ℕ → LoadLine
plain_load file = record { level = None; path = []; profile = None; defines = []; file = file }

abbrev define : List ℕ → List ℕ → Define
define name value = record { name = name; value = value }

loads : (command_of (codes "load f.conf") ≡ Some (command.Load (plain_load (codes "f.conf"))))
    × (command_of (codes " check  -a / f.conf ") ≡ Some (command.Check (plain_load (codes "f.conf"))))
    × (command_of (codes "open s-1 -D a= -o basic -a x/y -P prof -D b=1=2 f")
    ≡ Some (command.Open (codes "s-1") (record { level = Some level.Basic; path = codes "x" ∷ codes "y" ∷ []; profile = Some (codes "prof"); defines = define (codes "a") [] ∷ define (codes "b") (codes "1=2") ∷ []; file = codes "f" })))
unfolding command_of words_of keyword_of load_line_of given_by flag_of level_of read_path bad_byte name_fault path_of_names is_path_name is_dots is_reserved is_plain_byte is_name_byte
loads = (refl, refl, refl)

sessions : (command_of (codes "commit -s_") ≡ Some (command.Commit (codes "-s_"))) × (command_of (codes "rollback 9") ≡ Some (command.Rollback (codes "9")))
unfolding command_of words_of keyword_of is_name_byte
sessions = (refl, refl)

others : (command_of (codes "flush rules /") ≡ Some (command.Flush []))
    × (command_of (codes "table / <t> add 10/8 !10.1/16 x") ≡ Some (command.Table [] (codes "<t>") (acts.Add (codes "10/8" ∷ codes "!10.1/16" ∷ codes "x" ∷ []))))
    × (command_of (codes "table a t flush") ≡ Some (command.Table (codes "a" ∷ []) (codes "t") acts.Flush))
    × (command_of (codes "table a t show") ≡ Some (command.Table (codes "a" ∷ []) (codes "t") acts.Show))
    × (command_of (codes "table a t test 10.0.0.1") ≡ Some (command.Table (codes "a" ∷ []) (codes "t") (acts.Test (codes "10.0.0.1" ∷ []))))
    × (command_of (codes "show rules _1/x") ≡ Some (command.Show (shows.Rules (codes "_1" ∷ codes "x" ∷ []))))
    × (command_of (codes "show queues") ≡ Some (command.Show shows.Queues))
    × (command_of (codes "hosts f1") ≡ Some (command.Hosts (codes "f1")))
    × (command_of (9 ∷ codes "test  in em0 ") ≡ Some (command.Test (codes "in em0 ")))
unfolding command_of words_of keyword_of action_word_of show_word_of read_path bad_byte name_fault path_of_names is_path_name is_dots is_reserved is_plain_byte
others = (refl, refl, refl, refl, refl, refl, refl, refl, refl)

abbrev is_no_command : List ℕ → Bool
is_no_command line = is_none (command_of line)

-- none of these lines says a command
abbrev no_commands : List (List ℕ)
no_commands =
    [] ∷ codes "   " ∷ codes "load" ∷ codes "load -f" ∷ codes "load a b" ∷ codes "load -o none" ∷ codes "load -o fast f" ∷ codes "load -o none -o none f" ∷ codes "load -a x -a x f"
    ∷ codes "load -a _x f" ∷ codes "load -a x// f" ∷ codes "load -P -x f" ∷ codes "load -P x -P y f" ∷ codes "load -D a f" ∷ codes "load -D =1 f" ∷ codes "load -D a=1 -D a=2 f"
    ∷ codes "load f -o none" ∷ codes "load -x y f" ∷ codes "loads f" ∷ codes "Load f" ∷ codes "check" ∷ codes "open f" ∷ codes "open s! f" ∷ codes "commit" ∷ codes "commit s t" ∷ codes "commit s.t"
    ∷ codes "rollback" ∷ codes "flush /" ∷ codes "flush rules" ∷ codes "flush rules _1" ∷ codes "flush rules / x" ∷ codes "table /" ∷ codes "table / t" ∷ codes "table / t add"
    ∷ codes "table / t flush x" ∷ codes "table / t show x" ∷ codes "table / t kill" ∷ codes "table _1 t show" ∷ codes "show" ∷ codes "show rules" ∷ codes "show rules / x"
    ∷ codes "show queues /" ∷ codes "show cert /" ∷ codes "verify / c" ∷ codes "lint /" ∷ codes "compact / t" ∷ codes "hosts" ∷ codes "hosts -f" ∷ codes "hosts a b" ∷ codes "test"
    ∷ codes "test  " ∷ codes "tests in" ∷ (codes "load f" ++ 13 ∷ []) ∷ (codes "test in" ++ 127 ∷ []) ∷ (codes "load f" ++ 195 ∷ 164 ∷ []) ∷ []

none_says : list_all is_no_command no_commands ≡ true
unfolding command_of words_of keyword_of action_word_of show_word_of load_line_of given_by flag_of level_of read_path bad_byte name_fault path_of_names is_path_name is_dots is_reserved is_plain_byte is_name_byte
none_says = refl
