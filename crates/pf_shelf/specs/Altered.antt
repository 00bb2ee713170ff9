-- What the change of one table leaves, for each of its answers.
use Rattle.std.specs.Prelude.{◌≡◌, ℕ, ◌<◌, ◌≤◌, None, Result, Ok, Err, ◌⊎◌}
use Rattle.std.specs.FinMap as finite
use Rattle.pf_addr.specs.declared.prefix.Prefix.{Prefix}
use Rattle.pf_table.specs.Table.{Signs}
use Rattle.pf_shelf.specs.declared.change.Counts.{Counts}
use Rattle.pf_shelf.specs.declared.change.TableFault.{TableFault}
use Rattle.pf_shelf.specs.declared.change.TableFault.TheVariants.{Missing, Const, Full, NoMemory}
use Rattle.pf_shelf.specs.Change.{counts}

-- no prefix stands in both
pub record IsApart (one other : Signs) : Type 0 where
  pub apart : (p : Prefix) → (finite.get one p ≡ None) ⊎ (finite.get other p ≡ None)

-- the faults of a table of so many entries
abbrev pub IsUnfit : ℕ → ℕ → TableFault → Type 0
IsUnfit count room Missing = ⊥
IsUnfit count room Const = ⊥
IsUnfit count room (Full n) = (n ≡ count) × (room < count)
IsUnfit count room NoMemory = Unit {0}

-- the table is the one that is wanted
pub record IsDone (old wanted : Signs) (room most : ℕ) (new : Signs) (told : Counts) : Type 0 where
  pub same : new ≡ wanted
  pub told_is : told ≡ counts old wanted
  pub fits : finite.len wanted ≤ room
  pub counted : finite.len wanted ≤ most

-- the table is as it was
pub record IsRefused (old wanted : Signs) (room : ℕ) (new : Signs) (fault : TableFault) : Type 0 where
  pub same : new ≡ old
  pub cause : IsUnfit (finite.len wanted) room fault

abbrev pub Altered : Signs → Signs → ℕ → ℕ → Signs → Result Counts TableFault → Type 0
Altered old wanted room most new (Ok told) = IsDone old wanted room most new told
Altered old wanted room most new (Err fault) = IsRefused old wanted room new fault
