-- What a step over tokens answers.
use Rattle.std.specs.Prelude.{◌≡◌, Option, Some, None, Result, Ok, Err}
use Rattle.pf_syntax.specs.Symbols.{Symbols}
use Rattle.pf_syntax.specs.Grammar.{Grammar}
use Rattle.pf_syntax.specs.declared.fault.Stop.{Stop}
use Rattle.pf_syntax.specs.declared.fault.Stop.TheVariants.{Outside, NoMemory}

-- the reading is outside the grammar, or memory ran out
abbrev pub StopsWith : {A : Type 0} → Option (A × Symbols) → Stop → Type 0
StopsWith said Outside = said ≡ None
StopsWith said NoMemory = Unit {0}

-- what the symbols say is taken, and the rest is left; outside the grammar nothing is said of what is left
abbrev pub Takes : {A : Type 0} → Grammar A → Symbols → Result A Stop → Symbols → Type 0
Takes grammar start (Ok value) rest = grammar.reads start ≡ Some (value, rest)
Takes grammar start (Err stop) rest = StopsWith (grammar.reads start) stop
