-- The tables of words as the code has them.
use Rattle.std.specs.Prelude.{List, map}
use Rattle.pf_ops.specs.declared.words.Row.{Row}
use Rattle.pf_ops.specs.Words.{Entry}

-- the entries of a table
abbrev pub entries_of : List Row → List Entry
entries_of = map (λ (r : Row). record { word = r.0.now; number = r.1 })
