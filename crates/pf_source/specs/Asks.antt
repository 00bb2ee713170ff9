-- What a call asks of files, and which of its reads failed.
use Rattle.std.specs.Prelude.{◌≡◌, ℕ, true, List, ◌++◌, length, Option, option_map}
use Rattle.pf_source.specs.Causes.{RoseBy}
use Rattle.pf_source.specs.Disk.{AreAbsent}
use Rattle.pf_source.specs.Told.{FilesTold, Told, file_of}

-- what is held doesn't change, nor whether the object is steady
pub record StaysHeld (old new : FilesTold) : Type 0 where
  pub held : new.held ≡ old.held
  pub steady : new.steady ≡ old.steady

-- where the list of failed reads is told, it grew by these names at its end
abbrev pub AddsNames : List (List ℕ) → Option (List (List ℕ)) → Option (List (List ℕ)) → Type 0
AddsNames added old new = new ≡ option_map (λ names. names ++ added) old

-- over steady files a read fails only for an absent name
abbrev pub FailOnlyAbsent : FilesTold → List (List ℕ) → Type 0
FailOnlyAbsent old names = old.steady ≡ true → Told old.held (λ held. AreAbsent (file_of held) names)

-- The reads of these names failed, and, where the names of failed reads are told, no others.
pub record Asks (names : List (List ℕ)) (old new : FilesTold) : Type 0 where
  pub held : StaysHeld old new
  pub counted : RoseBy (length names) old.faults new.faults
  pub named : AddsNames names old.failed new.failed
  pub steady : FailOnlyAbsent old names
