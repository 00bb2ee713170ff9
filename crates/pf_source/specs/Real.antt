-- What the loops over the real objects do with bytes, where the reader or the writer tells them.
use Rattle.std.specs.Prelude.{ℕ, ◌<◌, List, length, Option, Result, Ok, Err}
use Rattle.std.specs.Io.KnownBytes.{Appends}
use Rattle.pf_source.specs.declared.real.Unread.{Unread}
use Rattle.pf_source.specs.declared.real.Unread.TheVariants as unread
use Rattle.pf_source.specs.Streams.{WritesFront}
use Rattle.pf_source.specs.Told.{Told}

-- the whole piece was written, or a front of it at a failure
abbrev pub WritesWhole : {X E : Type 0} → Option (List ℕ) → Option (List ℕ) → List ℕ → Result X E → Type 0
WritesWhole old new piece (Ok x) = Appends old new piece
WritesWhole old new piece (Err e) = WritesFront old new piece

-- too large is only what has more bytes than the limit
abbrev pub IfLarger : Option (List ℕ) → ℕ → Unread → Type 0
IfLarger old limit unread.Failed = Unit {0}
IfLarger old limit unread.TooLarge = Told old (λ bytes. limit < length bytes)
IfLarger old limit unread.NoMemory = Unit {0}
