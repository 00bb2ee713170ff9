-- What files hold, by their names, and the same without one file.
use Rattle.std.specs.Prelude.{◌≡◌, ℕ, List, [], ◌∷◌, Option, Some, None, nat_eq, if◌then◌else◌}
use Rattle.std.specs.Cmp.Lexicographic.{pointwise}

-- the bytes under each name, or None where a read fails
abbrev pub Disk : Type 0
Disk = List ℕ → Option (List ℕ)

-- an outage: the file of this name is as if absent
abbrev pub without : Option (List ℕ) → Disk → Disk
without None disk = disk
without (Some absent) disk = λ name. if pointwise nat_eq name absent then None else disk name

-- none of these files is there
abbrev pub AreAbsent : Disk → List (List ℕ) → Type 0
AreAbsent disk [] = Unit {0}
AreAbsent disk (name ∷ names) = (disk name ≡ None) × AreAbsent disk names
