-- The program as one simple command (pfctl(8), SYNOPSIS): the flag -S, and options that take one value each. It has no long
-- names, no positions, no subcommands and no help flag, and its words begin behind its name.
use Rattle.std.specs.Prelude.{ℕ, List, [], Option, Some, true, codes}
use Rattle.clap.specs.Words.{App, Rule, Text, fault_of, first_of, matches_of, new_rule, with_rule}
use Rattle.clap.specs.Simple.{new_shape}
use Rattle.clap.specs.Kinds.{Kinds}
use Rattle.clap.specs.declared.builder.ArgAction.TheVariants.{Set, SetTrue}

-- an option of one letter
abbrev pub option_rule : Text → ℕ → Rule
option_rule id letter = record (new_rule id) { short = Some letter; action = Some Set }

abbrev pub flag_rule : Text → ℕ → Rule
flag_rule id letter = record (new_rule id) { short = Some letter; action = Some SetTrue }

abbrev pub bare_program : App
bare_program = record { top = record (new_shape (codes "pfctl")) { no_binary_name = true; disable_help_flag = true }; subs = [] }

-- what is to be done: -S, -f, -g; and -H
abbrev pub with_tasks : App → App
with_tasks app = with_rule (with_rule (with_rule (with_rule app
    (flag_rule (codes "script") 83))
    (option_rule (codes "file") 102))
    (option_rule (codes "generate") 103))
    (option_rule (codes "hosts") 72)

-- the other options of a load: -o, -a, -P, -D
abbrev pub with_options : App → App
with_options app = with_rule (with_rule (with_rule (with_rule app
    (option_rule (codes "level") 111))
    (option_rule (codes "path") 97))
    (option_rule (codes "profile") 80))
    (option_rule (codes "define") 68)

abbrev pub program : App
program = with_options (with_tasks bare_program)

-- why clap refuses the words; nothing where it takes them
unfoldable pub refusals_of : List Text → Kinds
refusals_of words = fault_of program words

-- the value that clap finds for an option or a flag
unfoldable pub value_in : List Text → Text → Option Text
value_in words id = first_of id (matches_of program words)
