-- The lists of words as the code has them.
use Rattle.std.specs.Prelude.{ℕ, List, map}
use Rattle.pf_syntax.specs.declared.listed.Listed.{Listed}

abbrev pub texts_of : List Listed → List (List ℕ)
texts_of = map (λ (row : Listed). row.0.now)
