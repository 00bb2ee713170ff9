-- What came of reading words.
use Rattle.std.specs.Prelude.{ℕ, List, Result, Ok, Err}
use Rattle.pf_engine.specs.declared.tables.Items.{Items}
use Rattle.pf_engine.specs.declared.tables.Items.TheVariants.{All, Not}

-- the items, or the first word that is none
abbrev pub read_of : {T : Type 0} → Items T → Result (List T) (List ℕ)
read_of (All items) = Ok items
read_of (Not word) = Err word
