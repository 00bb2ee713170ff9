-- What the objects of the outside tell of themselves.
use Rattle.std.specs.Prelude.{◌≡◌, ℕ, Bool, true, false, List, [], ◌∷◌, Option, Some, None, nat_eq, if◌then◌else◌}
use Rattle.std.specs.Cmp.Lexicographic.{pointwise}
use Rattle.pf_source.specs.declared.files.HeldFile.{HeldFile}
use Rattle.pf_source.specs.declared.source.LastRead.{LastRead}

-- the files that an object holds; a sure object gives the empty file for each other name
pub record Held : Type 0 where
  pub files : List HeldFile
  pub sure : Bool

-- the first of the files with this name
abbrev pub file_among : List HeldFile → List ℕ → Option (List ℕ)
file_among [] name = None
file_among (file ∷ files) name = if pointwise nat_eq file.name name then Some file.bytes else file_among files name

abbrev pub or_empty : Bool → Option (List ℕ) → Option (List ℕ)
or_empty sure (Some bytes) = Some bytes
or_empty true None = Some []
or_empty false None = None

-- the bytes of the file with this name; None where it is absent, so that a read fails
abbrev pub file_of : Held → List ℕ → Option (List ℕ)
file_of held name = or_empty held.sure (file_among held.files name)

-- where something is told, a fact about it
pub record Told {A : Type 0} (told : Option A) (P : A → Type 0) : Type 0 where
  pub at : (x : A) → told ≡ Some x → P x

-- is the list empty?
abbrev pub is_none_at_all : {A : Type 0} → List A → Bool
is_none_at_all [] = true
is_none_at_all (x ∷ xs) = false

-- what files tell: what they hold, that a read fails only for an absent name, how many reads failed, and their names
pub record FilesTold : Type 0 where
  pub held : Option Held
  pub steady : Bool
  pub faults : ℕ
  pub failed : Option (List (List ℕ))

-- what a source tells: the bytes left, how many were given, how many reads failed, and what the last ones gave
pub record SourceTold : Type 0 where
  pub left : Option (List ℕ)
  pub given : ℕ
  pub faults : ℕ
  pub last : LastRead

-- what a sink tells: the bytes written, how many writes were made, and how many failed
pub record SinkTold : Type 0 where
  pub written : Option (List ℕ)
  pub calls : ℕ
  pub faults : ℕ
