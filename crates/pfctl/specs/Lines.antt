-- The lines that the program executes (pfctl(8)): those that its words give, and those of the input.
use Rattle.std.specs.Prelude.{ℕ, Bool, false, not, ◌==◌, List, [], ◌∷◌, ◌++◌, map, Option, Some, None, codes}
use Rattle.std.specs.List.{filter}
use Rattle.pf_words.specs.Said.{LoadWords}

-- an empty line, and one that begins with `#`, says nothing
abbrev pub says_something : List ℕ → Bool
says_something [] = false
says_something (byte ∷ bytes) = not (byte == 35)

-- the lines that say something, each behind this lead
abbrev pub said_lines : List ℕ → List (List ℕ) → List (List ℕ)
said_lines lead lines = map (λ line. lead ++ line) (filter says_something lines)

-- -H: the line `hosts FACTS`, where a file of facts is given
abbrev pub hosts_lines : Option (List ℕ) → List (List ℕ)
hosts_lines None = []
hosts_lines (Some facts) = (codes "hosts " ++ facts) ∷ []

-- an option of the load with its value and a space, where one is given
abbrev pub option_text : List ℕ → Option (List ℕ) → List ℕ
option_text flag None = []
option_text flag (Some value) = flag ++ value ++ codes " "

-- the line `load OPTS FILE`, with the options -o, -a, -P and -D that are given
unfoldable pub load_line : LoadWords → List ℕ
load_line words = codes "load " ++ option_text (codes "-o ") words.level ++ option_text (codes "-a ") words.path
    ++ option_text (codes "-P ") words.profile ++ option_text (codes "-D ") words.define ++ words.file

-- the facts first, and then the load
abbrev pub first_lines : LoadWords → List (List ℕ)
first_lines words = hosts_lines words.hosts ++ load_line words ∷ []

-- What is executed before the input, and what each line of the input that says something is executed behind
pub record Reading : Type 0 where
  pub first : List (List ℕ)
  pub lead : List ℕ

-- -f: the load, and then each line of the input is the record of a `test` line
abbrev pub load_and_test : LoadWords → Reading
load_and_test words = record { first = first_lines words; lead = codes "test " }

-- -S: each line of the input is a script line
abbrev pub script : Reading
script = record { first = []; lead = [] }

-- all that is executed, where the input has these lines
abbrev pub program_lines : Reading → List (List ℕ) → List (List ℕ)
program_lines reading lines = reading.first ++ said_lines reading.lead lines
