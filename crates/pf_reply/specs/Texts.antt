-- Texts that end in a number.
use Rattle.std.specs.Prelude.{ℕ, List, ◌++◌}
use Rattle.std.specs.Fmt.{decimal}

abbrev pub numbered : List ℕ → ℕ → List ℕ
numbered word number = word ++ decimal number
