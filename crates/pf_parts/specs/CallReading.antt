-- Faults of names inside a longer text.
use Rattle.std.specs.Prelude.{ℕ, ◌+◌, ◌<◌, ◌^◌}
use Rattle.pf_base.specs.declared.path_fault.PathFault.{PathFault}
use Rattle.pf_base.specs.declared.path_fault.PathFault.TheVariants.{Empty, BadByte, Reserved, TooLong, TooDeep}

-- a fault of names, of which the first begins at a position of the text
abbrev pub shifted : ℕ → PathFault → PathFault
shifted start (BadByte place) = BadByte (start + place)
shifted start Empty = Empty
shifted start Reserved = Reserved
shifted start (TooLong n) = TooLong n
shifted start (TooDeep n) = TooDeep n

-- its place is one that a text can have
abbrev pub Fits : ℕ → PathFault → Type 0
Fits start (BadByte place) = start + place < 2 ^ 64
Fits start Empty = Unit
Fits start Reserved = Unit
Fits start (TooLong n) = Unit
Fits start (TooDeep n) = Unit
